-- Pieces in a window (this project's own). Times of pieces are in units of 1/90000 s, those of windows in milliseconds.
use Rattle.std.specs.Prelude.{◌≡◌, ℕ, ◌+◌, min, List, map, filter, Bool, true, Option, Some, None, option_map, ℤ, pos, ◌-ℤ◌, ◌*ℤ◌, int_lt}
use Rattle.std.specs.Int.{int_min, int_max}
use Rattle.vod_types.specs.declared.paths.Window.{Window}
use Rattle.clip_model.specs.declared.Piece.{Piece}

-- 90 units are a millisecond
abbrev pub units : ℤ → ℤ
units ms = pos 90 *ℤ ms

-- the lesser of two ends; an absent end is above all numbers
abbrev pub lesser_end : Option ℤ → Option ℤ → Option ℤ
lesser_end None end = end
lesser_end (Some a) None = Some a
lesser_end (Some a) (Some b) = Some (int_min a b)

-- a piece cut to a window, in the window's times
abbrev pub windowed : Window → Piece → Piece
windowed w p = record p {
  base = p.base -ℤ units (pos w.from);
  lo = int_max p.lo (units (pos w.from) -ℤ p.base);
  hi = lesser_end p.hi (option_map (λ t. units (pos t) -ℤ p.base) w.to);
}

-- something is left between lo and hi
abbrev pub is_above : ℤ → Option ℤ → Bool
is_above lo None = true
is_above lo (Some hi) = int_lt lo hi

abbrev pub is_left : Piece → Bool
is_left p = is_above p.lo p.hi

-- the pieces of which the window leaves something
abbrev pub trimmed : Window → List Piece → List Piece
trimmed w ps = filter is_left (map (windowed w) ps)

-- ---- a window of a window

-- the lesser of two ends of windows; an absent end is above all numbers
abbrev pub lesser_to : Option ℕ → Option ℕ → Option ℕ
lesser_to None to = to
lesser_to (Some a) None = Some a
lesser_to (Some a) (Some b) = Some (min a b)

-- the window that is the second one of the times in the first
abbrev pub within_window : Window → Window → Window
within_window first second = record { from = first.from + second.from; to = lesser_to first.to (option_map (λ t. first.from + t) second.to) }

-- trimming twice is trimming once
abbrev pub TrimTwice : Type 0
TrimTwice = (ps : List Piece) (first second : Window) → trimmed second (trimmed first ps) ≡ trimmed (within_window first second) ps
