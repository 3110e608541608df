-- The parts of a sequence, looked at one after another.
use Rattle.std.proofs.Common.{◌≡◌, ◌≢◌, ℕ, Bool, List, [], map, Option, Some, Result, Ok, Err, sym, ap, ◌∙◌, subst, slice_get}
use Rattle.std.specs.Result.{result_unwrap_or}
use Rattle.vod_types.specs.declared.refusal.Refusal.{Refusal}
use Rattle.vod_types.specs.declared.refusal.Refusal.TheVariants.{NoMemory}
use Rattle.vod_types.specs.Results.{◌>>=◌, each_in_turn}
use Rattle.clip_model.specs.declared.Part.{Part}
use Rattle.clip_model.specs.declared.Piece.{Piece}
use Rattle.clip_model.specs.IsTimeline.{IsPart, IsTimeline}
use Rattle.clip_model.specs.Mapping.{Mapping}
use Rattle.clip_model.specs.Timeline.{Timeline}
use Rattle.vod_source.specs.Stored.{Files, Read}
use Rattle.origin_model.specs.Reads.{Cache}
use Rattle.origin_model.specs.Requests.{Setup, Asking, honours_edits, timeline_asked}
use Rattle.origin_model.specs.Sources.{part_pieces}
use Rattle.flat_lists.specs.LookedParts.{IsPartOf, part_found, part_names}
use Rattle.flat_lists.specs.LookedSequences.{FoundPart, SequenceFound, SequenceSeen, IsSeenPart, found_in, names_in, part_kept, sequence_found, sequence_kept, sequence_names}
use Rattle.flat_lists.specs.PartTracks.{PartSeen}
use Rattle.flat_lists.specs.Tours.{names_of_steps}
use Rattle.flat_lists.proofs.PeriodLemmas.{at_place}
use Rattle.flat_lists.proofs.SequenceLemmas.{due_seen}
use Rattle.seek_lists.specs.declared.looked_sequences.LookedPart.{LookedPart}
use Rattle.seek_lists.specs.declared.looked_sequences.LookedSequence.{LookedSequence}
use Rattle.seek_lists.specs.declared.part_tracks.PartTracks.{PartTracks}
use Rattle.seek_lists.specs.Looked.{IsFoundPart, IsKept, IsLookedPart, IsPartTour, IsPartsTour, IsSequenceTour, IsTimelineTour, looked_seen, sequence_seen}
use Rattle.seek_lists.specs.PartTracks.{part_seen, AreFew}
use Rattle.seek_lists.specs.Tours.{IsTour}
use Rattle.seek_lists.proofs.Tours.{tour_err, tour_ok, tour_unread}

pub looked_part : (t : Timeline) (h : IsTimeline t.pieces t.parts) (part : Part) (m : Mapping) (sequence place : ℕ) (pieces : List Piece) (tracks : PartTracks) → slice_get t.parts place ≡ Some part → pieces ≡ part_pieces t part → AreFew tracks
    → IsPartOf m sequence pieces (part_seen tracks) → IsLookedPart (record { part = part; tracks = tracks })
looked_part t h part m sequence place pieces tracks at are placed of = record {
  part = at_place IsPart t.parts place part at h.each_part;
  placed = placed;
  seen = subst IsSeenPart (sym of.seen) (due_seen t h part m sequence of.checked (of.of ∙ are));
}

-- ---- one part

module _ (files : Files) (edits : Bool) (m : Mapping) (sequence : ℕ) (t : Timeline) (part : Part) (pieces : List Piece) (are : pieces ≡ part_pieces t part) (held held_now : Cache) (log log_now : Option (List Read)) where
  abbrev IsKeptIn : FoundPart → PartTracks → Type 0
  IsKeptIn f p = IsKept m sequence part f p

  pub found_ok : (p : PartTracks) → IsPartTour files edits m sequence pieces (Ok p) held held_now log log_now → IsTour files IsKeptIn (found_in files edits t part) (names_in files edits t part) (Ok p) held held_now log log_now
  found_ok p tour =
      subst (λ (ps : List Piece). IsTour files IsKeptIn (part_found files edits ps >>= λ f. Ok (part, f)) (part_names files edits ps) (Ok p) held held_now log log_now) are
      (tour_ok files (IsFoundPart m sequence) IsKeptIn (part_found files edits pieces) (λ f. (part, f)) (part_names files edits pieces) held held_now log log_now p p (λ f is. ap (λ (s : PartSeen). (part, s)) is) tour)

  pub found_err : (e : Refusal) → IsPartTour files edits m sequence pieces (Err e) held held_now log log_now → IsTour files IsKeptIn (found_in files edits t part) (names_in files edits t part) (Err e) held held_now log log_now
  found_err e tour =
      subst (λ (ps : List Piece). IsTour files IsKeptIn (part_found files edits ps >>= λ f. Ok (part, f)) (part_names files edits ps) (Err e) held held_now log log_now) are
      (tour_err files (IsFoundPart m sequence) IsKeptIn (part_found files edits pieces) (λ f. (part, f)) (part_names files edits pieces) held held_now log log_now e tour)

-- ---- one sequence

module _ (o : Setup) (a : Asking) (sequence : ℕ) (held held_now : Cache) (log log_now : Option (List Read)) where
  abbrev IsKeptSequence : SequenceFound → LookedSequence → Type 0
  IsKeptSequence f s = sequence_seen s ≡ sequence_kept a.mapping f

  pub sequence_refused : (e : Refusal) → (e ≢ NoMemory → timeline_asked o a sequence ≡ Err e) → IsSequenceTour o a sequence (Err e) held held log log
  sequence_refused e refused =
      tour_unread o.files IsKeptSequence (sequence_found o a sequence) (sequence_names o a sequence) e held log
      (λ known_memory. (
        ap (λ (r : Result Timeline Refusal). r >>= λ t. each_in_turn (found_in o.files (honours_edits o) t) t.parts >>= λ fs. Ok (record { number = sequence; timeline = t; parts = fs })) (refused known_memory),
        ap (λ (r : Result Timeline Refusal). result_unwrap_or (r >>= λ t. Ok (names_of_steps (found_in o.files (honours_edits o) t) (names_in o.files (honours_edits o) t) t.parts)) []) (refused known_memory),
      ))

  pub sequence_found_by : (result : Result LookedSequence Refusal) (edits : Bool) (t : Timeline) → edits ≡ honours_edits o → timeline_asked o a sequence ≡ Ok t → IsTimelineTour o.files edits a.mapping sequence t result held held_now log log_now
      → IsSequenceTour o a sequence result held held_now log log_now
  sequence_found_by result edits t e is tour =
      subst (λ (r : Result Timeline Refusal). IsTour o.files IsKeptSequence (r >>= λ t. each_in_turn (found_in o.files (honours_edits o) t) t.parts >>= λ fs. Ok (record { number = sequence; timeline = t; parts = fs }))
      (result_unwrap_or (r >>= λ t. Ok (names_of_steps (found_in o.files (honours_edits o) t) (names_in o.files (honours_edits o) t) t.parts)) []) result held held_now log log_now) (sym is)
      (subst (λ (edits : Bool). IsTimelineTour o.files edits a.mapping sequence t result held held_now log log_now) e tour)

-- ---- one timeline

module _ {R : Type 0} (items : R → List LookedPart) (files : Files) (edits : Bool) (m : Mapping) (sequence : ℕ) (t : Timeline) (held held_now : Cache) (log log_now : Option (List Read)) where
  pub timeline_ok : (ps : R) (s : LookedSequence) → sequence_seen s ≡ record { number = sequence; parts = map looked_seen (items ps) } → IsPartsTour items files edits m sequence t (Ok ps) held held_now log log_now
      → IsTimelineTour files edits m sequence t (Ok s) held held_now log log_now
  timeline_ok ps s seen tour =
      tour_ok files (λ fs ps. map looked_seen (items ps) ≡ map (part_kept m sequence) fs) (λ f s. sequence_seen s ≡ sequence_kept m f) (each_in_turn (found_in files edits t) t.parts) (λ fs. record { number = sequence; timeline = t; parts = fs })
      (names_of_steps (found_in files edits t) (names_in files edits t) t.parts) held held_now log log_now ps s
      (λ fs kept. seen ∙ ap (λ (parts : List (Part × PartSeen)). let s : SequenceSeen = record { number = sequence; parts = parts } in s) kept) tour

  pub timeline_err : (e : Refusal) → IsPartsTour items files edits m sequence t (Err e) held held_now log log_now → IsTimelineTour files edits m sequence t (Err e) held held_now log log_now
  timeline_err e tour =
      tour_err files (λ fs ps. map looked_seen (items ps) ≡ map (part_kept m sequence) fs) (λ f s. sequence_seen s ≡ sequence_kept m f) (each_in_turn (found_in files edits t) t.parts) (λ fs. record { number = sequence; timeline = t; parts = fs })
      (names_of_steps (found_in files edits t) (names_in files edits t) t.parts) held held_now log log_now e tour
