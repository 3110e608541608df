-- The one piece of a clip, and its selected samples.
use Rattle.std.proofs.Common.{◌≡◌, ℕ, ◌<◌, ◌≤◌, List, [], ◌∷◌, ◌++◌, length, get_or, map, All, Some, None, Ok, Err, refl, sym, ap, ap₂, ◌∙◌, subst, append-nil, arith}
use Rattle.std.specs.Prelude.{slice_get}
use Rattle.std.proofs.lemmas.Bool.{lt-ltb, le-ltb}
use Rattle.std.proofs.lemmas.List.{get_or-map, length-map}
use Rattle.std.proofs.lemmas.List.Elements.{All-map}
use Rattle.vod_types.specs.declared.refusal.Refusal.TheVariants.{ManyPieces, NothingSelected}
use Rattle.vod_types.specs.declared.tracks.Kind.{Kind}
use Rattle.vod_types.specs.declared.tracks.Kind.TheVariants.{Video, Audio}
use Rattle.clip_model.specs.declared.Piece.{Piece}
use Rattle.clip_model.specs.Timeline.{Timeline}
use Rattle.segment_model.specs.Rows.{TimedRow}
use Rattle.segment_model.specs.Timeline.{SourcePiece, TrackRows, placed, placed_lead, placed_other, rows_of, selected_lead, selected_other, timeline}
use Rattle.origin_model.specs.Clips.{one_piece}
use Rattle.flat_samples.specs.Rows.{rows_with}
use Rattle.flat_clip.specs.Rows.{AreFirst}

-- ---- the piece

module _ (sequence : ℕ) (t : Timeline) where
  pub piece-many : 1 < length t.pieces → one_piece sequence t ≡ Err (ManyPieces (length t.pieces))
  unfolding one_piece
  piece-many many = rw (lt-ltb 1 (length t.pieces) many) refl

  pub piece-found : (piece : Piece) → length t.pieces ≤ 1 → slice_get t.pieces 0 ≡ Some piece → one_piece sequence t ≡ Ok piece
  unfolding one_piece
  piece-found piece one found = rw (le-ltb 1 (length t.pieces) one, found) refl

  pub piece-none : length t.pieces ≤ 1 → slice_get t.pieces 0 ≡ None → one_piece sequence t ≡ Err (NothingSelected sequence)
  unfolding one_piece
  piece-none one none = rw (le-ltb 1 (length t.pieces) one, none) refl

-- ---- its rows

abbrev two_lists : List TimedRow → List TimedRow → TrackRows
two_lists lead other = record { lead = lead; other = other }

-- those of a piece alone
pub rows-alone : (rows now : TrackRows) (p : SourcePiece) → rows ≡ two_lists [] [] → now ≡ rows_with rows 0 p → now ≡ timeline (p ∷ [])
rows-alone rows now p none is =
    is ∙ ap (λ (rows : TrackRows). rows_with rows 0 p) none
    ∙ ap₂ two_lists (sym (append-nil (placed_lead 0 p))) (sym (append-nil (placed_other 0 p)))

first-placed : (p : SourcePiece) (rows : List TimedRow) → AreFirst (map (placed 0 p.base) rows ++ [])
first-placed p rows = subst AreFirst (sym (append-nil (map (placed 0 p.base) rows))) (All-map (λ (r : TimedRow). r.file ≡ 0) (placed 0 p.base) rows (λ i d within. refl))

first-kind : (lead kind : Kind) (rows : TrackRows) → AreFirst rows.lead → AreFirst rows.other → AreFirst (rows_of lead kind rows)
first-kind Video Video rows l o = l
first-kind Audio Audio rows l o = l
first-kind Video Audio rows l o = o
first-kind Audio Video rows l o = o

-- they are all of the first file
pub rows-first : (lead kind : Kind) (rows : TrackRows) (p : SourcePiece) (samples : List TimedRow) → rows ≡ timeline (p ∷ []) → samples ≡ rows_of lead kind rows → AreFirst samples
rows-first lead kind rows p samples is of =
    subst AreFirst (sym of) (subst (λ (rows : TrackRows). AreFirst (rows_of lead kind rows)) (sym is)
    (first-kind lead kind (timeline (p ∷ [])) (first-placed p (selected_lead p)) (first-placed p (selected_other p))))

-- how many there are of a kind
pub rows-few : (lead kind : Kind) (rows : TrackRows) (most : ℕ) → length rows.lead ≤ most → length rows.other ≤ most → length (rows_of lead kind rows) ≤ most
rows-few Video Video rows most l o = l
rows-few Audio Audio rows most l o = l
rows-few Video Audio rows most l o = o
rows-few Audio Video rows most l o = o

-- ---- what holds of each of those that are shown

pub shown-at : {X Y : Type 0} (P : Y → Type 0) (f : X → Y) (xs : List X) (i : ℕ) (d : X) → i < length xs → All P (map f xs) → P (f (get_or xs i d))
shown-at P f xs i d within all =
    subst P (get_or-map f xs i d (f d) within) (all i (f d) (let many = length-map xs f in omega (arith, many, within)))
