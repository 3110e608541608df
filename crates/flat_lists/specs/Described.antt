-- The text of a media presentation description over sequences that were looked at; this project's own.
use Rattle.std.specs.Prelude.{◌≡◌, ℕ, List, map, sum_by, Result, Ok}
use Rattle.std.specs.List.{enumerate_from}
use Rattle.vod_types.specs.declared.refusal.Refusal.{Refusal}
use Rattle.vod_types.specs.Results.{◌>>◌}
use Rattle.list_model.specs.declared.Period.{Period}
use Rattle.list_model.specs.Manifest.{manifest}
use Rattle.origin_model.specs.Lists.{CheckedPart, CheckedSequence, first_parts, period_of, sequence_cells}
use Rattle.origin_model.specs.Plans.{few_cells}
use Rattle.origin_model.specs.Requests.{Setup, Asking, grid_in_use}
use Rattle.flat_lists.specs.declared.looked_sequences.LookedSequence.{LookedSequence}
use Rattle.flat_lists.specs.LookedSequences.{FoundPart, SequenceFound, sequence_kept, sequence_seen, sequences_found}

-- what is found, as descriptions see it
abbrev pub part_view : FoundPart → CheckedPart
part_view f = record { part = f.0; first = f.1.first }

abbrev pub sequence_view : SequenceFound → CheckedSequence
sequence_view f = record { number = f.number; timeline = f.timeline; parts = map part_view f.parts }

-- the periods over checked sequences
abbrev pub periods_due : Setup → Asking → List CheckedSequence → List Period
periods_due o a ss = map (period_of o a ss) (enumerate_from 0 (first_parts o a ss))

-- the same of at most 100,000 cells together
abbrev pub few_periods : Setup → Asking → List CheckedSequence → Result (List Period) Refusal
few_periods o a ss = few_cells (sum_by (sequence_cells o a) ss) >> Ok (periods_due o a ss)

-- the text over checked sequences, at most 100,000 cells together
abbrev pub described_due : Setup → Asking → List CheckedSequence → Result (List ℕ) Refusal
described_due o a ss = few_cells (sum_by (sequence_cells o a) ss) >> Ok (manifest (grid_in_use o a).step (periods_due o a ss))

-- the sequences that were looked at are those that are found
pub record AreFound (o : Setup) (a : Asking) (fs : List SequenceFound) (ss : List LookedSequence) : Type 0 where
  pub found : sequences_found o a ≡ Ok fs
  pub kept : map sequence_seen ss ≡ map (sequence_kept a.mapping) fs
