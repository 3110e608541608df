-- The pieces of the parts of sequences, looked at one after another over metadata; this project's own.
use Rattle.std.specs.Prelude.{◌≡◌, ◌≤◌, ℕ, Bool, List, [], ◌∷◌, map, length, All, Option, Result, Ok, sum_by}
use Rattle.std.specs.Int.{IsInRange}
use Rattle.vod_types.specs.declared.refusal.Refusal.{Refusal}
use Rattle.vod_types.specs.declared.tracks.Asked.{Asked}
use Rattle.vod_types.specs.Results.{◌>>=◌, each_in_turn}
use Rattle.mp4_model.specs.Movie.{Movie}
use Rattle.clip_model.specs.declared.Part.{Part}
use Rattle.clip_model.specs.declared.Piece.{Piece}
use Rattle.clip_model.specs.IsTimeline.{IsPart}
use Rattle.clip_model.specs.Mapping.{Mapping}
use Rattle.clip_model.specs.Timeline.{Timeline}
use Rattle.segment_model.specs.Grid.{SegmentGrid}
use Rattle.vod_source.specs.Stored.{Files, Read}
use Rattle.origin_model.specs.Loaded.{CheckedPiece, checked}
use Rattle.origin_model.specs.Reads.{Cache}
use Rattle.origin_model.specs.Requests.{Setup, Asking}
use Rattle.flat_lists.specs.CountedCells.{part_cells}
use Rattle.flat_lists.specs.LookedParts.{PartFound, first_found, name_alone, part_found, part_names, pieces_added}
use Rattle.flat_lists.specs.LookedSequences.{FoundPart, SequenceFound, SequenceSeen, IsSeenPart, found_in, names_in, numbers, part_kept, sequence_found, sequence_kept, sequence_names, sequences_found}
use Rattle.flat_lists.specs.PartTracks.{PartSeen, first_in, part_due, part_with}
use Rattle.flat_lists.specs.Tours.{StandsFor, names_of_steps}
use Rattle.seek_lists.specs.declared.looked_sequences.LookedPart.{LookedPart}
use Rattle.seek_lists.specs.declared.looked_sequences.LookedSequence.{LookedSequence}
use Rattle.seek_lists.specs.declared.part_tracks.PartTracks.{PartTracks}
use Rattle.seek_lists.specs.PartTracks.{part_seen, AreFew}
use Rattle.seek_lists.specs.Tours.{IsTour}

-- ---- what is kept

abbrev pub looked_seen : LookedPart → Part × PartSeen
looked_seen p = (p.part, part_seen p.tracks)

abbrev pub sequence_seen : LookedSequence → SequenceSeen
sequence_seen s = record { number = s.number; parts = map looked_seen s.parts.items }

pub record IsLookedPart (p : LookedPart) : Type 0 where
  pub part : IsPart p.part
  pub placed : AreFew p.tracks
  pub seen : IsSeenPart (part_seen p.tracks)

pub record IsLookedSequence (s : LookedSequence) : Type 0 where
  pub number : s.number ≤ 9999
  pub parts : All IsLookedPart s.parts.items
  pub few : length s.parts.items ≤ 128

-- a sequence of a mapping that was looked at
pub record IsOfMapping (m : Mapping) (s : LookedSequence) : Type 0 where
  pub looked : IsLookedSequence s
  pub number : IsInRange 1 (length m.sequences) s.number

-- ---- its cells

abbrev pub sequence_cells : SegmentGrid → LookedSequence → ℕ
sequence_cells g s = sum_by (λ p. part_cells g (looked_seen p)) s.parts.items

abbrev pub all_cells : SegmentGrid → List LookedSequence → ℕ
all_cells g ss = sum_by (sequence_cells g) ss

-- ---- what it stands for

-- a first piece, with the tracks that it exposes
abbrev pub IsFirst : Mapping → ℕ → Asked × CheckedPiece → Asked × PartTracks → Type 0
IsFirst m sequence found r = (r.0 ≡ found.0) × (part_seen r.1 ≡ part_due m sequence (found.1 ∷ []))

abbrev pub FirstStands : Bool → Mapping → ℕ → Piece → Movie → Result (Asked × PartTracks) Refusal → Type 0
FirstStands edits m sequence piece movie result = StandsFor (IsFirst m sequence) result (first_in edits piece movie)

abbrev pub IsFoundPart : Mapping → ℕ → PartFound → PartTracks → Type 0
IsFoundPart m sequence found p = part_seen p ≡ part_due m sequence found.pieces

abbrev pub IsKept : Mapping → ℕ → Part → FoundPart → PartTracks → Type 0
IsKept m sequence part f p = (part, part_seen p) ≡ part_kept m sequence f

-- the sequences that were looked at are those that are found
pub record AreFound (o : Setup) (a : Asking) (fs : List SequenceFound) (ss : List LookedSequence) : Type 0 where
  pub found : sequences_found o a ≡ Ok fs
  pub kept : map sequence_seen ss ≡ map (sequence_kept a.mapping) fs

-- ---- calls

abbrev pub IsPieceTour : Files → Bool → Asked → ℕ → Piece → PartSeen → PartSeen → Result (Unit {0}) Refusal → Cache → Cache → Option (List Read) → Option (List Read) → Type 0
IsPieceTour files edits asked place piece old now result held held_now log log_now =
    IsTour files (λ c x. now ≡ part_with place c old) (checked files edits asked piece) (name_alone piece) result held held_now log log_now

abbrev pub IsLaterTour : Files → Bool → Asked → List Piece → PartSeen → Result PartTracks Refusal → Cache → Cache → Option (List Read) → Option (List Read) → Type 0
IsLaterTour files edits asked pieces first result held held_now log log_now =
    IsTour files (λ cs p. part_seen p ≡ pieces_added 1 cs first) (each_in_turn (checked files edits asked) pieces) (names_of_steps (checked files edits asked) name_alone pieces) result held held_now log log_now

abbrev pub IsFirstTour : Files → Bool → Mapping → ℕ → Piece → Result (Asked × PartTracks) Refusal → Cache → Cache → Option (List Read) → Option (List Read) → Type 0
IsFirstTour files edits m sequence piece result held held_now log log_now =
    IsTour files (IsFirst m sequence) (first_found files edits piece) (name_alone piece) result held held_now log log_now

abbrev pub IsPartTour : Files → Bool → Mapping → ℕ → List Piece → Result PartTracks Refusal → Cache → Cache → Option (List Read) → Option (List Read) → Type 0
IsPartTour files edits m sequence pieces result held held_now log log_now =
    IsTour files (IsFoundPart m sequence) (part_found files edits pieces) (part_names files edits pieces) result held held_now log log_now

abbrev pub IsPartsTour : {R : Type 0} → (R → List LookedPart) → Files → Bool → Mapping → ℕ → Timeline → Result R Refusal → Cache → Cache → Option (List Read) → Option (List Read) → Type 0
IsPartsTour items files edits m sequence t result held held_now log log_now =
    IsTour files (λ fs ps. map looked_seen (items ps) ≡ map (part_kept m sequence) fs) (each_in_turn (found_in files edits t) t.parts) (names_of_steps (found_in files edits t) (names_in files edits t) t.parts) result held held_now log log_now

abbrev pub IsSequenceTour : Setup → Asking → ℕ → Result LookedSequence Refusal → Cache → Cache → Option (List Read) → Option (List Read) → Type 0
IsSequenceTour o a sequence result held held_now log log_now =
    IsTour o.files (λ f s. sequence_seen s ≡ sequence_kept a.mapping f) (sequence_found o a sequence) (sequence_names o a sequence) result held held_now log log_now

abbrev pub IsTimelineTour : Files → Bool → Mapping → ℕ → Timeline → Result LookedSequence Refusal → Cache → Cache → Option (List Read) → Option (List Read) → Type 0
IsTimelineTour files edits m sequence t result held held_now log log_now =
    IsTour files (λ f s. sequence_seen s ≡ sequence_kept m f) (each_in_turn (found_in files edits t) t.parts >>= λ fs. Ok (record { number = sequence; timeline = t; parts = fs }))
    (names_of_steps (found_in files edits t) (names_in files edits t) t.parts) result held held_now log log_now

abbrev pub AreSequences : {R : Type 0} → (R → List LookedSequence) → Setup → Asking → Result R Refusal → Cache → Cache → Option (List Read) → Option (List Read) → Type 0
AreSequences items o a result held held_now log log_now =
    IsTour o.files (λ fs ss. map sequence_seen (items ss) ≡ map (sequence_kept a.mapping) fs) (sequences_found o a) (names_of_steps (sequence_found o a) (sequence_names o a) (numbers o a)) result held held_now log log_now
