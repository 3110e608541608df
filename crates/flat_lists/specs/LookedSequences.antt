-- The sequences of a request, looked at one after another; this project's own.
use Rattle.std.specs.Prelude.{◌≡◌, ◌≤◌, ℕ, Bool, List, [], map, pos, length, All, IfSome, Option, Result, Ok}
use Rattle.std.specs.List.{range_with_len}
use Rattle.std.specs.Result.{result_unwrap_or}
use Rattle.vod_types.specs.declared.refusal.Refusal.{Refusal}
use Rattle.vod_types.specs.declared.tracks.Kind.{Kind}
use Rattle.vod_types.specs.declared.tracks.Kind.TheVariants.{Video, Audio}
use Rattle.vod_types.specs.Results.{◌>>=◌, each_in_turn}
use Rattle.clip_model.specs.declared.Part.{Part}
use Rattle.clip_model.specs.IsTimeline.{IsPart}
use Rattle.clip_model.specs.Mapping.{Mapping}
use Rattle.clip_model.specs.Timeline.{Timeline}
use Rattle.segment_model.specs.Laws.{AreTimelineRows}
use Rattle.list_model.specs.Manifest.{HasCodecName}
use Rattle.vod_source.specs.Stored.{Files, Read}
use Rattle.origin_model.specs.Requests.{Setup, Asking, honours_edits, timeline_asked}
use Rattle.origin_model.specs.Sources.{part_pieces}
use Rattle.flat_samples.specs.Movies.{HeldMovie}
use Rattle.flat_lists.specs.declared.looked_sequences.LookedPart.{LookedPart}
use Rattle.flat_lists.specs.declared.looked_sequences.LookedSequence.{LookedSequence}
use Rattle.flat_lists.specs.LookedParts.{PartFound, part_found, part_names}
use Rattle.flat_lists.specs.PartTracks.{PartSeen, Seen, part_due, part_seen, ArePlaced}
use Rattle.flat_lists.specs.Tours.{IsTour, IsWholeTour, names_of_steps}

-- ---- what is kept

pub record SequenceSeen : Type 0 where
  pub number : ℕ
  pub parts : List (Part × PartSeen)

abbrev pub looked_seen : LookedPart → Part × PartSeen
looked_seen p = (p.part, part_seen p.tracks)

abbrev pub sequence_seen : LookedSequence → SequenceSeen
sequence_seen s = record { number = s.number; parts = map looked_seen s.parts.items }

-- whatever the store tells: a codec's name where there is one, and rows in order
pub record IsSeenTrack (kind : Kind) (s : Seen) : Type 0 where
  pub kind_is : s.0.kind ≡ kind
  pub codec : HasCodecName kind s.0.video
  pub rows : AreTimelineRows (pos 0) s.1

pub record IsSeenPart (s : PartSeen) : Type 0 where
  pub video : IfSome s.video (IsSeenTrack Video)
  pub audio : IfSome s.audio (IsSeenTrack Audio)

pub record IsLookedPart (p : LookedPart) : Type 0 where
  pub part : IsPart p.part
  pub placed : ArePlaced p.tracks
  pub seen : IsSeenPart (part_seen p.tracks)

pub record IsLookedSequence (s : LookedSequence) : Type 0 where
  pub number : s.number ≤ 9999
  pub parts : All IsLookedPart s.parts.items
  pub few : length s.parts.items ≤ 128

-- ---- what is found

-- a part with its pieces
abbrev pub FoundPart : Type 0
FoundPart = Part × PartFound

pub record SequenceFound : Type 0 where
  pub number : ℕ
  pub timeline : Timeline
  pub parts : List FoundPart

abbrev pub found_in : Files → Bool → Timeline → Part → Result FoundPart Refusal
found_in files edits t part = part_found files edits (part_pieces t part) >>= λ f. Ok (part, f)

abbrev pub names_in : Files → Bool → Timeline → Part → List (List ℕ)
names_in files edits t part = part_names files edits (part_pieces t part)

abbrev pub part_kept : Mapping → ℕ → FoundPart → Part × PartSeen
part_kept m sequence f = (f.0, part_due m sequence f.1.pieces)

abbrev pub sequence_kept : Mapping → SequenceFound → SequenceSeen
sequence_kept m f = record { number = f.number; parts = map (part_kept m f.number) f.parts }

abbrev pub ArePartsKept : Mapping → ℕ → List FoundPart → List LookedPart → Type 0
ArePartsKept m sequence fs ps = map looked_seen ps ≡ map (part_kept m sequence) fs

module _ (o : Setup) (a : Asking) where
  abbrev pub sequence_found : ℕ → Result SequenceFound Refusal
  sequence_found sequence = timeline_asked o a sequence >>= λ t. each_in_turn (found_in o.files (honours_edits o) t) t.parts >>= λ fs. Ok (record { number = sequence; timeline = t; parts = fs })

  abbrev pub sequence_names : ℕ → List (List ℕ)
  sequence_names sequence =
      result_unwrap_or (timeline_asked o a sequence >>= λ t. Ok (names_of_steps (found_in o.files (honours_edits o) t) (names_in o.files (honours_edits o) t) t.parts)) []

  abbrev pub numbers : List ℕ
  numbers = range_with_len 1 (length a.mapping.sequences)

  abbrev pub sequences_found : Result (List SequenceFound) Refusal
  sequences_found = each_in_turn sequence_found numbers

-- ---- calls

abbrev pub IsPartsTour : {R : Type 0} → (R → List LookedPart) → Files → Bool → Mapping → ℕ → Timeline → Result R Refusal → List HeldMovie → List HeldMovie → Option (List Read) → Option (List Read) → Type 0
IsPartsTour items files edits m sequence t result held held_now log log_now =
    IsTour files (λ fs ps. ArePartsKept m sequence fs (items ps)) (each_in_turn (found_in files edits t) t.parts) (names_of_steps (found_in files edits t) (names_in files edits t) t.parts) result held held_now log log_now

abbrev pub IsSequenceTour : Setup → Asking → ℕ → Result LookedSequence Refusal → List HeldMovie → List HeldMovie → Option (List Read) → Option (List Read) → Type 0
IsSequenceTour o a sequence result held held_now log log_now =
    IsTour o.files (λ f s. sequence_seen s ≡ sequence_kept a.mapping f) (sequence_found o a sequence) (sequence_names o a sequence) result held held_now log log_now

abbrev pub IsTimelineTour : Files → Bool → Mapping → ℕ → Timeline → Result LookedSequence Refusal → List HeldMovie → List HeldMovie → Option (List Read) → Option (List Read) → Type 0
IsTimelineTour files edits m sequence t result held held_now log log_now =
    IsTour files (λ f s. sequence_seen s ≡ sequence_kept m f) (each_in_turn (found_in files edits t) t.parts >>= λ fs. Ok (record { number = sequence; timeline = t; parts = fs }))
    (names_of_steps (found_in files edits t) (names_in files edits t) t.parts) result held held_now log log_now

-- the sequences, over no movie that is held
abbrev pub AreSequences : {R : Type 0} → (R → List LookedSequence) → Setup → Asking → Result R Refusal → Option (List Read) → Option (List Read) → Type 0
AreSequences items o a result log log_now =
    IsWholeTour o.files (λ fs ss. map sequence_seen (items ss) ≡ map (sequence_kept a.mapping) fs) (sequences_found o a) (names_of_steps (sequence_found o a) (sequence_names o a) (numbers o a)) result log log_now
