-- The periods of a media presentation description: what is due, from what is found.
use Rattle.std.proofs.Common.{◌≡◌, ◌≢◌, ◌≤◌, ◌<◌, ℕ, List, map, Result, Ok, Err, IfOk, IfErr, refl, sym, ap, ◌∙◌, subst, arith, Option}
use Rattle.std.specs.Prelude.{sum_by}
use Rattle.std.specs.List.{enumerate_from}
use Rattle.vod_types.specs.declared.refusal.Refusal.{Refusal}
use Rattle.vod_types.specs.declared.refusal.Refusal.TheVariants.{NoMemory, StoreFailed, TooManySegments}
use Rattle.vod_types.specs.Results.{◌>>=◌, ◌>>◌, Answers, each_in_turn}
use Rattle.list_model.specs.declared.Period.{Period}
use Rattle.vod_source.specs.Calls.{AnswersUnlessFailed}
use Rattle.vod_source.specs.Stored.{Read}
use Rattle.vod_source.proofs.CallLemmas.{answers_unless}
use Rattle.origin_model.specs.Lists.{CheckedSequence, checked_sequence, first_parts, period_of, periods, sequence_cells, sequence_numbers}
use Rattle.origin_model.specs.Plans.{few_cells}
use Rattle.origin_model.specs.Requests.{Setup, Asking, grid_in_use}
use Rattle.flat_lists.specs.CountedCells.{all_cells}
use Rattle.flat_lists.specs.Described.{AreFound, few_periods, periods_due, sequence_view}
use Rattle.flat_lists.specs.LookedSequences.{AreSequences, SequenceFound, sequences_found}
use Rattle.flat_lists.specs.declared.looked_sequences.LookedSequence.{LookedSequence}
use Rattle.flat_lists.proofs.CellsFound.{cells_found, few_enough}
use Rattle.flat_lists.proofs.FoundLemmas.{sequences_are}
use Rattle.flat_lists.proofs.ListedTimelines.{cells_many}

module _ (o : Setup) (a : Asking) where
  abbrev by_sequences : Result (List CheckedSequence) Refusal → Result (List Period) Refusal
  by_sequences r = r >>= λ ss. few_cells (sum_by (sequence_cells o a) ss) >> Ok (map (period_of o a ss) (enumerate_from 0 (first_parts o a ss)))

  periods_by : periods o a ≡ by_sequences (each_in_turn (checked_sequence o a) (sequence_numbers o a))
  unfolding periods
  periods_by = refl

  periods_found : periods o a ≡ (sequences_found o a >>= λ fs. few_periods o a (map sequence_view fs))
  periods_found = periods_by ∙ ap by_sequences (sequences_are o a) ∙ by (sequences_found o a)
    where
      by : (r : Result (List SequenceFound) Refusal) → by_sequences (r >>= λ fs. Ok (map sequence_view fs)) ≡ (r >>= λ fs. few_periods o a (map sequence_view fs))
      by (Ok fs) = refl
      by (Err e) = refl

  module _ {R : Type 0} (items : R → List LookedSequence) (log log_now : Option (List Read)) where
    -- a piece was refused
    pub periods_refused : (e : Refusal) → AreSequences items o a (Err e) log log_now → e ≢ NoMemory → e ≢ StoreFailed → periods o a ≡ Err e
    periods_refused e looked = λ known_memory known_store.
        periods_found ∙ ap (λ (r : Result (List SequenceFound) Refusal). r >>= λ fs. few_periods o a (map sequence_view fs)) (looked.answered known_memory known_store)

    -- none was
    pub periods_taken : {X : Type 0} (view : X → List Period) (ss : R) (result : Result X Refusal) → AreSequences items o a (Ok ss) log log_now → ((fs : List SequenceFound) → AreFound o a fs (items ss) → Answers view result (few_periods o a (map sequence_view fs)))
        → AnswersUnlessFailed view result (periods o a)
    periods_taken view ss result looked described =
        let fs = looked.answered.0 in
        answers_unless view result (periods o a)
        (subst (Answers view result) (sym (periods_found ∙ ap (λ (r : Result (List SequenceFound) Refusal). r >>= λ fs. few_periods o a (map sequence_view fs)) looked.answered.1))
        (described fs (record { found = looked.answered.1; kept = looked.answered.2 })))

-- ---- few cells, or too many

module _ (o : Setup) (a : Asking) (fs : List SequenceFound) (ss : List LookedSequence) (of : AreFound o a fs ss) where
  pub periods_many : (cells : ℕ) → cells ≡ all_cells (grid_in_use o a) ss → 100000 < cells → few_periods o a (map sequence_view fs) ≡ Err (TooManySegments cells)
  periods_many cells is many =
      ap (λ (r : Result (Unit {0}) Refusal). r >> Ok (periods_due o a (map sequence_view fs)))
      (cells_many cells (sum_by (sequence_cells o a) (map sequence_view fs)) (is ∙ sym (cells_found o a fs ss of)) many)

  pub periods_few : {X : Type 0} (view : X → List Period) (cells : ℕ) (result : Result X Refusal) → cells ≡ all_cells (grid_in_use o a) ss → cells ≤ 100000
      → IfOk result (λ found. view found ≡ periods_due o a (map sequence_view fs)) → IfErr result (λ refusal. refusal ≡ NoMemory)
      → Answers view result (few_periods o a (map sequence_view fs))
  periods_few view cells (Ok found) is few found_is only =
      ap (λ (r : Result (Unit {0}) Refusal). r >> Ok (periods_due o a (map sequence_view fs)))
      (few_enough (sum_by (sequence_cells o a) (map sequence_view fs)) (let same = cells_found o a fs ss of in omega (arith, is, few, same)))
      ∙ ap (λ (ps : List Period). Ok ps) (sym found_is)
  periods_few view cells (Err e) is few found_is only = λ other. absurd (other only)
