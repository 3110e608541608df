-- The timeline of two clips of the movie: each of its pieces is of the movie, and its parts have few cells.
use Rattle.std.proofs.Common.{◌≡◌, ℕ, ◌+◌, ◌-◌, ◌<◌, Bool, true, false, cond, ltb, eqb, List, [], ◌∷◌, ◌++◌, length, map, Some, None, Ok, pos, refl, ap, arith, length-append}
use Rattle.std.specs.Prelude.{codes, max, flat_map}
use Rattle.std.specs.List.{enumerate_from, AllByRecursion}
use Rattle.std.proofs.lemmas.Bool.{lt-ltb, ne_eqb}
use Rattle.std.proofs.lemmas.Int.{ints}
use Rattle.vod_types.specs.declared.paths.Window.{Window}
use Rattle.vod_types.specs.Tracks.{default_tracks}
use Rattle.clip_model.specs.declared.Part.{Part}
use Rattle.clip_model.specs.declared.Piece.{Piece}
use Rattle.clip_model.specs.Timeline.{Placed, Span, Timeline, kept_spans, placed_clips, placed_pieces, sequence_timeline, source_piece, spans, timeline_of, timeline_of_spans, windowed_span, with_pieces}
use Rattle.clip_model.specs.Trim.{units, is_left, trimmed, windowed}
use Rattle.clip_model.proofs.ClipChains.{each-append}
use Rattle.rehearsal_laws.proofs.MappingText.{clip_at, two_clip_mapping, two_clips}

abbrev pub whole : Window
whole = record { from = 0; to = None }

-- a piece of the movie
abbrev pub IsOfMovie : Piece → Type 0
IsOfMovie p = (p.name ≡ codes "/r/m.mp4") × (p.tracks ≡ default_tracks)

-- a clip of the movie in its place
abbrev placed_clip : ℕ → ℕ → ℕ → Placed
placed_clip start n f = record { clip = clip_at f; start = start; length = Some n }

abbrev lone_span : Placed → Span
lone_span p = windowed_span whole (record { start = p.start; length = p.length; clips = p ∷ [] })

-- ---- its pieces

abbrev clip_piece : ℕ → ℕ → ℕ → ℕ → Piece
clip_piece start n f k = windowed whole (source_piece (codes "/r") default_tracks k start (Some n) (record { path = codes "m.mp4"; tracks = None; clip_from = f }))

abbrev pieces_of : ℕ → Placed → List Piece
pieces_of k p = trimmed whole (flat_map (placed_pieces (codes "/r") default_tracks k) (p ∷ []))

of_movie : (start n f k : ℕ) → AllByRecursion IsOfMovie (pieces_of k (placed_clip start n f))
of_movie start n f k = go (clip_piece start n f k) (is_left (clip_piece start n f k)) (refl, refl)
  where
    go : (q : Piece) (b : Bool) → IsOfMovie q → AllByRecursion IsOfMovie (cond b (q ∷ []) [])
    go q true is = (is, tt)
    go q false is = tt

-- the first clip has one
first_left : (n : ℕ) → 0 < n → is_left (clip_piece 0 n 0 0) ≡ true
first_left n some = grind (arith, ints)

first_there : (n : ℕ) → 0 < n → 0 < length (pieces_of 0 (placed_clip 0 n 0))
first_there n some = go (is_left (clip_piece 0 n 0 0)) (first_left n some)
  where
    go : (b : Bool) → b ≡ true → 0 < length (cond b (clip_piece 0 n 0 0 ∷ []) [])
    go true e = omega arith
    go false e = absurd cc

-- ---- the parts

module _ (a b f : ℕ) (some-a : 0 < a) (some-b : 0 < b) where
  abbrev first : Placed
  first = placed_clip 0 a 0

  abbrev second : Placed
  second = placed_clip (0 + a) b f

  both_kept : kept_spans whole (spans true (placed_clips (two_clip_mapping a b f) (two_clips f))) ≡ lone_span first ∷ lone_span second ∷ []
  both_kept =
      let one : ltb 0 ((0 + a) - max 0 0) ≡ true = lt-ltb _ _ (omega arith) in
      let two : ltb 0 (((0 + a) + b) - max (0 + a) 0) ≡ true = lt-ltb _ _ (omega arith) in
      rw (one, two) refl

  abbrev pub found_timeline : Timeline
  found_timeline = timeline_of_spans ((lone_span first, pieces_of 0 first) ∷ (lone_span second, pieces_of 1 second) ∷ [])

  abbrev pub first_part : Part
  first_part = record { start = units (pos (lone_span first).start); length_ms = (lone_span first).length; first = 0; count = length (pieces_of 0 first) }

  abbrev pub second_part : Part
  second_part = record { start = units (pos (lone_span second).start); length_ms = (lone_span second).length; first = 0 + length (pieces_of 0 first); count = length (pieces_of 1 second) }

  timeline_is : sequence_timeline (codes "/r") default_tracks (two_clip_mapping a b f) whole (two_clips f) ≡ found_timeline
  unfolding sequence_timeline
  timeline_is = ap (λ ss. timeline_of_spans (map (λ e. with_pieces (codes "/r") default_tracks whole e.0 e.1) (enumerate_from 0 ss))) both_kept

  pub all_of_movie : AllByRecursion IsOfMovie found_timeline.pieces
  all_of_movie = each-append IsOfMovie (pieces_of 0 first) (pieces_of 1 second ++ []) (of_movie 0 a 0 0) (each-append IsOfMovie (pieces_of 1 second) [] (of_movie (0 + a) b f 1) tt)

  some_selected : eqb (length found_timeline.pieces) 0 ≡ false
  some_selected =
      ne_eqb _ _ (λ e. absurd (omega (arith, e, first_there a some-a, length-append (pieces_of 0 first) (pieces_of 1 second ++ []))))

  pub timeline_found : timeline_of (codes "/r") (two_clip_mapping a b f) 1 whole None ≡ Ok found_timeline
  unfolding timeline_of
  timeline_found = rw (timeline_is, some_selected) refl
