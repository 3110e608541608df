-- The text of a media presentation description over sequences that were looked at.
use Rattle.std.proofs.Common.{◌≡◌, ℕ, ◌+◌, ◌<◌, ◌≤◌, ◌^◌, Bool, List, [], ◌∷◌, map, IfOk, IfErr, IfSome, Option, Result, Ok, Err, refl, sym, ap, ap₂, ◌∙◌, subst, arith}
use Rattle.std.specs.Prelude.{sum_by, unwrap_or}
use Rattle.std.proofs.lemmas.List.Sums.{sum_by-cons}
use Rattle.vod_types.specs.declared.paths.Leaf.TheVariants.{Mpd}
use Rattle.vod_types.specs.declared.refusal.Refusal.{Refusal}
use Rattle.vod_types.specs.declared.refusal.Refusal.TheVariants.{NoMemory, TooManySegments}
use Rattle.vod_types.specs.Results.{◌>>=◌, ◌>>◌, Answers}
use Rattle.vod_types.specs.Settled.{Settled}
use Rattle.clip_model.specs.Mapping.{IsMapping}
use Rattle.segment_model.specs.Grid.{SegmentGrid, grid_of}
use Rattle.list_model.specs.declared.Period.{Period}
use Rattle.list_model.specs.Manifest.{manifest}
use Rattle.vod_source.specs.Stored.{Read}
use Rattle.origin_model.specs.Lists as lists
use Rattle.origin_model.specs.Reads.{Cache, turn_names}
use Rattle.origin_model.specs.Requests.{Setup, Asking, grid_in_use}
use Rattle.flat_lists.specs.CountedCells.{part_cells}
use Rattle.flat_lists.specs.Described.{described_due, periods_due, sequence_view}
use Rattle.flat_lists.specs.Listings.{description_due}
use Rattle.flat_lists.specs.LookedSequences.{SequenceFound, numbers, sequence_names, sequence_found}
use Rattle.flat_lists.specs.Tours.{names_of_steps}
use Rattle.flat_lists.specs.Written.{periods_seen}
use Rattle.flat_lists.proofs.CellsFound as cells
use Rattle.flat_lists.proofs.CellsFound.{few_enough, mapped_sum, seen_cells}
use Rattle.flat_lists.proofs.DescriptionLemmas.{due_is}
use Rattle.flat_lists.proofs.FoundLemmas.{names_are}
use Rattle.flat_lists.proofs.ListedTimelines.{cells_many}
use Rattle.flat_lists.proofs.PeriodsFound.{periods_kept}
use Rattle.seek_lists.specs.declared.looked_sequences.LookedSequence.{LookedSequence}
use Rattle.seek_lists.specs.Looked.{AreFound, AreSequences, all_cells, looked_seen, sequence_cells, sequence_seen}
use Rattle.seek_lists.specs.Turned.{IsTurned}
use Rattle.seek_lists.proofs.Turns.{then_answered, then_refused}

module _ (o : Setup) (a : Asking) where
  abbrev g : SegmentGrid
  g = grid_in_use o a

  -- ---- cells

  looked_sum : (ss : List LookedSequence) → all_cells g ss ≡ sum_by (seen_cells o a) (map sequence_seen ss)
  looked_sum [] = refl
  looked_sum (s ∷ ss) =
      sum_by-cons (sequence_cells g) s ss ∙ ap₂ (λ (i j : ℕ). i + j) (sym (mapped_sum o a (part_cells g) looked_seen s.parts.items)) (looked_sum ss)
      ∙ sym (sum_by-cons (seen_cells o a) (sequence_seen s) (map sequence_seen ss))

  -- the cells that are counted are those of the sequences
  cells_found : (fs : List SequenceFound) (ss : List LookedSequence) → AreFound o a fs ss → sum_by (lists.sequence_cells o a) (map sequence_view fs) ≡ all_cells g ss
  cells_found fs ss of = cells.all_found o a a.mapping (numbers o a) fs of.found ∙ ap (sum_by (seen_cells o a)) (sym of.kept) ∙ sym (looked_sum ss)

  abbrev texts : Result (Unit {0}) Refusal → List SequenceFound → Result (List ℕ) Refusal
  texts r fs = r >> Ok (manifest g.step (periods_due o a (map sequence_view fs)))

  module _ (fs : List SequenceFound) (ss : List LookedSequence) (of : AreFound o a fs ss) where
    pub described_many : (n : ℕ) → n ≡ all_cells g ss → 100000 < n → described_due o a (map sequence_view fs) ≡ Err (TooManySegments n)
    described_many n is many = ap (λ (r : Result (Unit {0}) Refusal). texts r fs) (cells_many n (sum_by (lists.sequence_cells o a) (map sequence_view fs)) (is ∙ sym (cells_found fs ss of)) many)

    pub described_few : {X : Type 0} (view : X → List ℕ) (n : ℕ) (result : Result X Refusal) → n ≡ all_cells g ss → n ≤ 100000
        → IfOk result (λ text. view text ≡ manifest g.step (periods_due o a (map sequence_view fs))) → IfErr result (λ refusal. refusal ≡ NoMemory) → Answers view result (described_due o a (map sequence_view fs))
    described_few view n (Ok text) is few text_is only =
        ap (λ (r : Result (Unit {0}) Refusal). texts r fs) (few_enough (sum_by (lists.sequence_cells o a) (map sequence_view fs)) (let same = cells_found fs ss of in omega (arith, is, few, same)))
        ∙ ap (λ (t : List ℕ). Ok t) (sym text_is)
    described_few view n (Err e) is few text_is only = λ other. absurd (other only)

  -- ---- the text

  pub text_found : (fs : List SequenceFound) (ss : List LookedSequence) → IsMapping a.mapping → a.window.from < 2 ^ 32 → IfSome a.window.to (λ u. u < 2 ^ 32) → AreFound o a fs ss
      → (settings : Settled) (grid : SegmentGrid) (align : Bool) (buffer : ℕ) (periods : List Period) → o.settings ≡ settings → grid ≡ grid_of settings a.mapping.segment_ms → align ≡ settings.align
      → buffer ≡ unwrap_or a.mapping.segment_ms settings.segment_ms → periods ≡ periods_seen a.mapping grid align (map sequence_seen ss)
      → manifest buffer periods ≡ manifest g.step (periods_due o a (map sequence_view fs))
  text_found fs ss keeps from to of settings grid align buffer periods same grid_is align_is buffer_is are =
      ap₂ manifest
      (buffer_is ∙ ap (λ (s : Settled). unwrap_or a.mapping.segment_ms s.segment_ms) (sym same))
      (are
      ∙ ap₂ (λ (g : SegmentGrid) (align : Bool). periods_seen a.mapping g align (map sequence_seen ss)) (grid_is ∙ ap (λ (s : Settled). grid_of s a.mapping.segment_ms) (sym same)) (align_is ∙ ap (λ (s : Settled). s.align) (sym same))
      ∙ ap (periods_seen a.mapping g o.settings.align) of.kept
      ∙ sym (periods_kept o a fs keeps from to of.found))

  -- ---- what it came to

  abbrev by_found : Result (List SequenceFound) Refusal → Result (List ℕ) Refusal
  by_found r = r >>= λ fs. described_due o a (map sequence_view fs)

  module _ {R X : Type 0} (items : R → List LookedSequence) (view : X → List ℕ) (held now : Cache) (log log_now : Option (List Read)) where
    abbrev Told : Result X Refusal → Type 0
    Told r = IsTurned o.files view (description_due o a) (turn_names o a Mpd) r held now log log_now

    abbrev ToldBy : List (List ℕ) → Result X Refusal → Type 0
    ToldBy names r = IsTurned o.files view (description_due o a) names r held now log log_now

    abbrev looks : List (List ℕ)
    looks = names_of_steps (sequence_found o a) (sequence_names o a) (numbers o a)

    -- a piece was refused
    pub description_refused : (e : Refusal) → AreSequences items o a (Err e) held now log log_now → Told (Err e)
    description_refused e looked =
        subst (λ (names : List (List ℕ)). ToldBy names (Err e)) (sym (names_are o a))
        (then_refused o.files view (description_due o a) looks held now log log_now e looked.turned (λ memory store. due_is o a ∙ ap by_found (looked.answered memory store)))

    -- none was
    pub description_taken : (ss : R) (result : Result X Refusal) → AreSequences items o a (Ok ss) held now log log_now
        → ((fs : List SequenceFound) → AreFound o a fs (items ss) → Answers view result (described_due o a (map sequence_view fs))) → Told result
    description_taken ss result looked described =
        let fs = looked.answered.0 in
        subst (λ (names : List (List ℕ)). ToldBy names result) (sym (names_are o a))
        (then_answered o.files view (description_due o a) looks held now log log_now ss result looked.turned
        (subst (Answers view result) (sym (due_is o a ∙ ap by_found looked.answered.1)) (described fs (record { found = looked.answered.1; kept = looked.answered.2 }))))
