-- Pieces as code makes them.
use Rattle.std.proofs.Common.{◌≡◌, ℕ, suc, ◌+◌, ◌≤◌, ◌<◌, List, [], ◌∷◌, ◌++◌, append_assoc, append-nil, length, map, get_or, drop, drop-cons, add-one, Option, Some, None, ap, sym, ◌∙◌, arith, ℤ, pos, ◌+ℤ◌, ◌-ℤ◌}
use Rattle.std.specs.Prelude.{option_map, IfSome}
use Rattle.std.specs.Int.{int_max}
use Rattle.std.proofs.lemmas.Int.{ints, clamps}
use Rattle.vod_types.specs.declared.tracks.TrackName.{TrackName}
use Rattle.vod_types.specs.declared.paths.Window.{Window}
use Rattle.vod_types.specs.Files.{store_name}
use Rattle.clip_map.specs.declared.clips.ConcatFile.{ConcatFile}
use Rattle.clip_map.specs.Views.{file_view}
use Rattle.clip_model.specs.declared.Piece.{Piece}
use Rattle.clip_model.specs.Mapping.{SourceClip}
use Rattle.clip_model.specs.Mapping as model
use Rattle.clip_model.specs.Trim.{units, lesser_end, windowed, trimmed}
use Rattle.clip_model.specs.Timeline.{source_piece, file_piece, files_from}
use Rattle.clip_model.proofs.ClipChains.{trimmed-append}
use Rattle.seq_timeline.specs.Bounds.{longest, IsFileStart, AreUnits}

pub file_by_fields : (root : List ℕ) (tracks : List TrackName) (part start : ℕ) (length : Option ℕ) (f : model.ConcatFile) (at : ℤ) (name : List ℕ) (base lo : ℤ) (hi : Option ℤ)
    → name ≡ store_name root f.path → base ≡ units at → lo ≡ int_max (pos 0) (units (pos start) -ℤ units at) → hi ≡ lesser_end (Some (units (pos f.duration))) (option_map (λ n. units (pos (start + n)) -ℤ units at) length)
    → record { name = name; tracks = tracks; base = base; lo = lo; hi = hi; part = part } ≡ file_piece root tracks part start length f at
file_by_fields root tracks part start length f at name base lo hi name_is base_is lo_is hi_is i = record { name = name_is i; tracks = tracks; base = base_is i; lo = lo_is i; hi = hi_is i; part = part }

pub windowed_by_fields : (w : Window) (p : Piece) (base lo : ℤ) (hi : Option ℤ) → base ≡ p.base -ℤ units (pos w.from) → lo ≡ int_max p.lo (units (pos w.from) -ℤ p.base) → hi ≡ lesser_end p.hi (option_map (λ t. units (pos t) -ℤ p.base) w.to)
    → record p { base = base; lo = lo; hi = hi } ≡ windowed w p
windowed_by_fields w p base lo hi base_is lo_is hi_is i = record p { base = base_is i; lo = lo_is i; hi = hi_is i }

-- ---- how far pieces reach

pub source_reach : (root : List ℕ) (tracks : List TrackName) (part start : ℕ) (length : Option ℕ) (c : SourceClip) → start ≤ longest → IfSome length (λ n. n ≤ longest) → c.clip_from ≤ 864000000 → AreUnits (source_piece root tracks part start length c)
source_reach root tracks part start None c begins short within = record {
  base = record { low = omega (arith, ints); high = omega (arith, ints) };
  lo = record { low = omega (arith, ints); high = omega (arith, ints) };
  hi = tt;
}
source_reach root tracks part start (Some n) c begins short within = record {
  base = record { low = omega (arith, ints); high = omega (arith, ints) };
  lo = record { low = omega (arith, ints); high = omega (arith, ints) };
  hi = record { low = omega (arith, ints); high = omega (arith, ints) };
}

pub file_reach : (root : List ℕ) (tracks : List TrackName) (part start : ℕ) (length : Option ℕ) (f : model.ConcatFile) (at : ℤ) → start ≤ longest → IfSome length (λ n. n ≤ longest) → f.duration ≤ 86400000 → IsFileStart at → AreUnits (file_piece root tracks part start length f at)
file_reach root tracks part start None f at begins short lasts placed = record {
  base = record { low = omega (arith, ints); high = omega (arith, ints) };
  lo = record { low = omega (arith, ints, clamps); high = omega (arith, ints, clamps) };
  hi = record { low = omega (arith, ints); high = omega (arith, ints) };
}
file_reach root tracks part start (Some n) f at begins short lasts placed = record {
  base = record { low = omega (arith, ints); high = omega (arith, ints) };
  lo = record { low = omega (arith, ints, clamps); high = omega (arith, ints, clamps) };
  hi = record { low = omega (arith, ints, clamps); high = omega (arith, ints, clamps) };
}

-- ---- the files of a concat clip, as far as a loop has come

pub drop_item : {X : Type 0} (xs : List X) (i : ℕ) (x : X) → i < length xs → x ≡ get_or xs i x → drop i xs ≡ x ∷ drop (i + 1) xs
drop_item xs i x lt is = rw (add-one) (drop-cons xs i x lt ∙ ap (λ y. y ∷ drop (suc i) xs) (sym is))

abbrev pub pieces_of_files : List ℕ → List TrackName → ℕ → ℕ → Option ℕ → ℤ → List ConcatFile → List Piece
pieces_of_files root tracks part start length at files = map (λ f. file_piece root tracks part start length f.0 f.1) (files_from at (map file_view files))

pub files_next : (w : Window) (root : List ℕ) (tracks : List TrackName) (part start : ℕ) (length : Option ℕ) (at next : ℤ) (files rest : List ConcatFile) (x : ConcatFile) (p : Piece) (all old now : List Piece)
    → files ≡ x ∷ rest → next ≡ at +ℤ pos x.duration → p ≡ file_piece root tracks part start length (file_view x) at → now ≡ old ++ trimmed w (p ∷ [])
    → old ++ trimmed w (pieces_of_files root tracks part start length at files) ≡ all
    → now ++ trimmed w (pieces_of_files root tracks part start length next rest) ≡ all
files_next w root tracks part start length at next files rest x p all old now files_are next_is p_is now_is so_far =
    let more = pieces_of_files root tracks part start length (at +ℤ pos x.duration) rest in
    let q = file_piece root tracks part start length (file_view x) at in
    ap (λ z. now ++ trimmed w (pieces_of_files root tracks part start length z rest)) next_is
    ∙ ap (λ ps. ps ++ trimmed w more) (now_is ∙ ap (λ r. old ++ trimmed w (r ∷ [])) p_is)
    ∙ append_assoc old (trimmed w (q ∷ [])) (trimmed w more)
    ∙ ap (λ ps. old ++ ps) (sym (trimmed-append w (q ∷ []) more))
    ∙ ap (λ fs. old ++ trimmed w (pieces_of_files root tracks part start length at fs)) (sym files_are)
    ∙ so_far

pub files_all : (w : Window) (root : List ℕ) (known tracks : List TrackName) (part start : ℕ) (length : Option ℕ) (at begin first : ℤ) (rest files all : List ConcatFile) (old now : List Piece)
    → rest ≡ [] → known ≡ tracks → begin ≡ first → files ≡ all
    → now ++ trimmed w (pieces_of_files root known part start length at rest) ≡ old ++ trimmed w (pieces_of_files root known part start length begin files)
    → now ≡ old ++ trimmed w (pieces_of_files root tracks part start length first all)
files_all w root known tracks part start length at begin first rest files all old now none tracks_are first_is all_are so_far =
    sym (ap (λ fs. now ++ trimmed w (pieces_of_files root known part start length at fs)) none ∙ append-nil now)
    ∙ so_far
    ∙ λ i. old ++ trimmed w (pieces_of_files root (tracks_are i) part start length (first_is i) (all_are i))
