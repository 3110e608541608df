-- Master playlists and descriptions are refused as a path may be.
use Rattle.std.proofs.Common.{ℕ, List, [], ◌∷◌, Option, Some, None}
use Rattle.clip_model.specs.declared.Part.{Part}
use Rattle.clip_model.specs.declared.Piece.{Piece}
use Rattle.origin_model.specs.Lists.{asked_first, checked_first, checked_part_of, checked_sequence, first_asked, periods, shown_sequence, shown_sequences}
use Rattle.origin_model.specs.Requests.{Setup, Asking, honours_edits}
use Rattle.answer_laws.proofs.Mappings.{asked_timeline_may}
use Rattle.answer_laws.proofs.Segments.{checked_may, few_may, loaded_may}
use Rattle.answer_laws.proofs.Steps.{May, then_may, after_may, ok_or_may, each_may}

pub asked_first_may : (name : List ℕ) (video audio : Option ℕ) → May (asked_first name video audio)
asked_first_may name None None = tt
asked_first_may name (Some v) audio = tt
asked_first_may name None (Some a) = tt

module _ (o : Setup) (a : Asking) where
  first_may : (piece : Piece) → May (first_asked o a piece)
  unfolding first_asked
  first_may piece = then_may _ _ (loaded_may o.files piece.name) (λ m. asked_first_may piece.name _ _)

  checked_first_may : (piece : Piece) → May (checked_first o a piece)
  unfolding checked_first
  checked_first_may piece = then_may _ _ (first_may piece) (λ asked. then_may _ _ (checked_may o.files (honours_edits o) asked piece) (λ c. tt))

  -- ---- master playlists

  sequence_may : (sequence : ℕ) → May (shown_sequence o a sequence)
  unfolding shown_sequence
  sequence_may sequence = then_may _ _ (asked_timeline_may o a sequence) (λ t. then_may _ _ (ok_or_may _ _ tt) (λ piece. then_may _ _ (checked_first_may piece) (λ first. tt)))

  pub shown_may : May (shown_sequences o a)
  unfolding shown_sequences
  shown_may = each_may _ sequence_may _

  -- ---- descriptions

  part_may : (part : Part) (pieces : List Piece) → May (checked_part_of o a part pieces)
  unfolding checked_part_of
  part_may part [] = tt
  part_may part (piece ∷ pieces) = then_may _ _ (checked_first_may piece) (λ first. after_may _ _ (each_may _ (checked_may o.files (honours_edits o) first.0) pieces) tt)

  parts_may : (sequence : ℕ) → May (checked_sequence o a sequence)
  unfolding checked_sequence
  parts_may sequence = then_may _ _ (asked_timeline_may o a sequence) (λ t. then_may _ _ (each_may _ (λ part. part_may part _) t.parts) (λ parts. tt))

  pub periods_may : May (periods o a)
  unfolding periods
  periods_may = then_may _ _ (each_may _ parts_may _) (λ ss. after_may _ _ (few_may _) tt)
