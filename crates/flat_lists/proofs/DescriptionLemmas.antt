-- Media presentation descriptions: what is due and read, from what is found.
use Rattle.std.proofs.Common.{◌≡◌, ℕ, List, [], map, Option, Result, Ok, Err, refl, sym, ap, ◌∙◌, subst}
use Rattle.std.specs.Prelude.{sum_by}
use Rattle.std.specs.List.{enumerate_from}
use Rattle.vod_types.specs.declared.paths.Leaf.TheVariants.{Mpd}
use Rattle.vod_types.specs.declared.refusal.Refusal.{Refusal}
use Rattle.vod_types.specs.Results.{◌>>=◌, ◌>>◌, Answers, each_in_turn}
use Rattle.list_model.specs.declared.Period.{Period}
use Rattle.list_model.specs.Manifest.{manifest}
use Rattle.vod_source.specs.Calls.{Came}
use Rattle.vod_source.specs.Stored.{Read}
use Rattle.vod_source.specs.Told.{told_with}
use Rattle.vod_source.proofs.CallLemmas.{LogsErr, came-read}
use Rattle.origin_model.specs.Lists.{CheckedSequence, checked_sequence, first_parts, period_of, periods, sequence_cells, sequence_numbers}
use Rattle.origin_model.specs.Plans.{few_cells}
use Rattle.origin_model.specs.Reads.{turns}
use Rattle.origin_model.specs.Requests.{Setup, Asking, grid_in_use}
use Rattle.flat_lists.specs.declared.looked_sequences.LookedSequence.{LookedSequence}
use Rattle.flat_lists.specs.Described.{AreFound, described_due, sequence_view}
use Rattle.flat_lists.specs.Listings.{description_due, leaf_turns}
use Rattle.flat_lists.specs.LookedSequences.{AreSequences, SequenceFound, numbers, sequence_found, sequence_names, sequences_found}
use Rattle.flat_lists.specs.Tours.{names_of_steps}
use Rattle.flat_lists.proofs.FoundLemmas.{names_are, sequences_are}

module _ (o : Setup) (a : Asking) where
  periods-are : periods o a ≡ (each_in_turn (checked_sequence o a) (sequence_numbers o a) >>= λ ss. few_cells (sum_by (sequence_cells o a) ss) >> Ok (map (period_of o a ss) (enumerate_from 0 (first_parts o a ss))))
  unfolding periods
  periods-are = refl

  few_then : (r : Result (Unit {0}) Refusal) (ps : List Period) → ((r >> Ok ps) >>= λ found. Ok (manifest (grid_in_use o a).step found)) ≡ (r >> Ok (manifest (grid_in_use o a).step ps))
  few_then (Ok x) ps = refl
  few_then (Err e) ps = refl

  pub due_is : description_due o a ≡ (sequences_found o a >>= λ fs. described_due o a (map sequence_view fs))
  due_is =
      ap (λ (r : Result (List Period) Refusal). r >>= λ found. Ok (manifest (grid_in_use o a).step found)) periods-are
      ∙ ap (λ (r : Result (List CheckedSequence) Refusal). (r >>= λ ss. few_cells (sum_by (sequence_cells o a) ss) >> Ok (map (period_of o a ss) (enumerate_from 0 (first_parts o a ss)))) >>= λ found. Ok (manifest (grid_in_use o a).step found)) (sequences_are o a)
      ∙ by (sequences_found o a)
    where
      by : (r : Result (List SequenceFound) Refusal)
          → (((r >>= λ fs. Ok (map sequence_view fs)) >>= λ ss. few_cells (sum_by (sequence_cells o a) ss) >> Ok (map (period_of o a ss) (enumerate_from 0 (first_parts o a ss)))) >>= λ found. Ok (manifest (grid_in_use o a).step found))
          ≡ (r >>= λ fs. described_due o a (map sequence_view fs))
      by (Ok fs) = few_then (few_cells (sum_by (sequence_cells o a) (map sequence_view fs))) (map (period_of o a (map sequence_view fs)) (enumerate_from 0 (first_parts o a (map sequence_view fs))))
      by (Err e) = refl

  reads_are : (turns o.files [] (names_of_steps (sequence_found o a) (sequence_names o a) (numbers o a))).reads ≡ leaf_turns o a Mpd
  reads_are = ap (λ (names : List (List ℕ)). (turns o.files [] names).reads) (sym (names_are o a))

  module _ {R X : Type 0} (items : R → List LookedSequence) (view : X → List ℕ) (log log_now : Option (List Read)) where
    -- a piece was refused
    pub description_refused : (e : Refusal) → AreSequences items o a (Err e) log log_now → Came view (Err e) (description_due o a) (leaf_turns o a Mpd) log log_now
    description_refused e looked = record {
      answered = λ known_memory known_store. due_is ∙ ap (λ (r : Result (List SequenceFound) Refusal). r >>= λ fs. described_due o a (map sequence_view fs)) (looked.answered known_memory known_store);
      logged = subst (λ (reads : List Read). LogsErr e reads log log_now) reads_are looked.logged;
    }

    -- none was
    pub description_taken : (ss : R) (result : Result X Refusal) → AreSequences items o a (Ok ss) log log_now → ((fs : List SequenceFound) → AreFound o a fs (items ss) → Answers view result (described_due o a (map sequence_view fs)))
        → Came view result (description_due o a) (leaf_turns o a Mpd) log log_now
    description_taken ss result looked described =
        let fs = looked.answered.0 in
        came-read view (description_due o a) (leaf_turns o a Mpd) log log_now result
        (subst (Answers view result) (sym (due_is ∙ ap (λ (r : Result (List SequenceFound) Refusal). r >>= λ fs. described_due o a (map sequence_view fs)) looked.answered.1))
        (described fs (record { found = looked.answered.1; kept = looked.answered.2 })))
        (looked.logged ∙ ap (told_with log) reads_are)
