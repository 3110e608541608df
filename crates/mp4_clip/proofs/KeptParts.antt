-- The rows of a clip over the metadata that are kept.
use Rattle.std.proofs.Common.{◌≡◌, ℕ, Bool, List, [], ◌∷◌, length, map, Option, Some, None, Result, Ok, Err, IfOk, IfSome, refl, sym, ap, ◌∙◌}
use Rattle.vod_types.specs.declared.refusal.Refusal.{Refusal}
use Rattle.vod_types.specs.declared.tracks.Asked.{Asked}
use Rattle.vod_types.specs.Results.{◌>>=◌}
use Rattle.mp4_model.specs.Movie.{Movie}
use Rattle.mp4_model.proofs.ResultsLemmas.{bind_ok}
use Rattle.clip_model.specs.declared.Piece.{Piece}
use Rattle.clip_model.specs.Timeline.{Timeline}
use Rattle.segment_model.specs.Grid.{SegmentGrid}
use Rattle.vod_source.specs.Calls.{AnswersUnlessFailed}
use Rattle.vod_source.specs.Stored.{Files, bytes_of}
use Rattle.origin_model.specs.Clips.{checked_clip, one_piece, planned_clip}
use Rattle.origin_model.specs.Loaded.{CheckedPiece, checked, checked_in, loaded}
use Rattle.origin_model.specs.Plans.{pieces_or_none}
use Rattle.vod_plan.specs.Tracks as kept
use Rattle.vod_plan.proofs.LookWalks.{not_loaded, was_loaded}
use Rattle.vod_plan.proofs.WritableCalls.{checked_long}
use Rattle.flat_clip.specs.declared.rows.ClipRows.{ClipRows}
use Rattle.flat_clip.specs.Rows.{ClipFacts, as_facts, clip_looks, cutting_of, facts_of}
use Rattle.flat_clip.proofs.WholeCalls.{facts-ok}
use Rattle.mp4_clip.proofs.References.{clip-piece}

-- ---- the piece

module _ (sequence : ℕ) (t : Timeline) where
  abbrev names_by : Result Piece Refusal → List (List ℕ)
  names_by r = map (λ (piece : Piece). piece.name) (pieces_or_none (r >>= λ piece. Ok (piece ∷ [])))

  pub looks-none : (e : Refusal) → one_piece sequence t ≡ Err e → clip_looks sequence t ≡ []
  looks-none e is = ap names_by is

  pub looks-piece : (piece : Piece) → one_piece sequence t ≡ Ok piece → clip_looks sequence t ≡ piece.name ∷ []
  looks-piece piece is = ap names_by is

  module _ (files : Files) (edits : Bool) (asked : Asked) (grid : SegmentGrid) (align : Bool) where
    abbrev due : Result ClipFacts Refusal
    due = as_facts (planned_clip (cutting_of files edits grid align) asked t sequence)

    pub due-none : (e : Refusal) → one_piece sequence t ≡ Err e → due ≡ Err e
    unfolding planned_clip
    due-none e is = rw is refl

    pub due-piece : (piece : Piece) → one_piece sequence t ≡ Ok piece → due ≡ as_facts (checked files edits asked piece >>= checked_clip sequence asked)
    unfolding planned_clip
    due-piece piece is = rw is refl

-- ---- its movie

module _ (files : Files) (edits : Bool) (asked : Asked) (piece : Piece) (sequence : ℕ) where
  abbrev facts_by : Result CheckedPiece Refusal → Result ClipFacts Refusal
  facts_by r = as_facts (r >>= checked_clip sequence asked)

  pub rows-loaded : (m : Movie) → loaded files piece.name ≡ Ok m → facts_by (checked files edits asked piece) ≡ facts_by (checked_in edits asked piece m)
  unfolding kept.checked_in
  rows-loaded m e = ap facts_by (was_loaded files edits asked piece m e)

  pub rows-unloaded : (e : Refusal) → loaded files piece.name ≡ Err e → facts_by (checked files edits asked piece) ≡ Err e
  rows-unloaded e is = ap facts_by (not_loaded files edits asked piece e is)

  -- the rows are of a file as long as they say
  rows-sized : (f : ClipFacts) → facts_by (checked files edits asked piece) ≡ Ok f → length (bytes_of files f.name) ≡ f.size
  rows-sized f h =
      let found = facts-ok (checked files edits asked piece >>= checked_clip sequence asked) f h in
      let of = bind_ok (checked files edits asked piece) (checked_clip sequence asked) found.0 found.1 in
      let is = clip-piece sequence asked of.0 found.0 of.2 in
      sym (ap (λ (f : ClipFacts). length (bytes_of files f.name)) found.2)
      ∙ sym (ap (λ (c : CheckedPiece). length (bytes_of files c.piece.name)) is)
      ∙ checked_long files edits asked piece of.0 of.1
      ∙ ap (λ (c : CheckedPiece). c.file_size) is
      ∙ ap (λ (f : ClipFacts). f.size) found.2

pub sized : (told : Option Files) (edits : Bool) (asked : Asked) (piece : Piece) (sequence : ℕ) (r : Result ClipRows Refusal)
    → IfSome told (λ files. AnswersUnlessFailed facts_of r (as_facts (checked files edits asked piece >>= checked_clip sequence asked)))
    → IfOk r (λ rows. IfSome told (λ files. length (bytes_of files rows.name) ≡ rows.file_size))
sized told edits asked piece sequence (Err e) h = tt
sized None edits asked piece sequence (Ok rows) h = tt
sized (Some files) edits asked piece sequence (Ok rows) h = rows-sized files edits asked piece sequence (facts_of rows) h
