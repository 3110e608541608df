-- The sequences of a request, looked at one after another.
use Rattle.std.proofs.Common.{◌≡◌, ◌≢◌, ◌<◌, ℕ, zero, suc, ◌+◌, Bool, List, [], ◌∷◌, ◌++◌, length, map, take, drop, pos, Option, Some, None, Result, Ok, Err, All, refl, sym, ap, ap₂, ◌∙◌, subst, arith, rules, slice_get}
use Rattle.std.specs.Prelude.{option_map, IfSome}
use Rattle.std.specs.List.{range_with_len}
use Rattle.std.specs.Result.{result_unwrap_or}
use Rattle.std.proofs.lemmas.List.{length-append, map-append, take_all}
use Rattle.std.proofs.lemmas.List.Elements.{All-append, All-cons, All-nil, All-head, All-tail}
use Rattle.vod_types.specs.declared.refusal.Refusal.{Refusal}
use Rattle.vod_types.specs.declared.refusal.Refusal.TheVariants.{NoMemory}
use Rattle.vod_types.specs.declared.tracks.Kind.{Kind}
use Rattle.vod_types.specs.declared.tracks.Kind.TheVariants.{Video, Audio}
use Rattle.vod_types.specs.Results.{◌>>=◌, each_in_turn}
use Rattle.mp4_model.specs.GoodTracks.{GoodTrack}
use Rattle.clip_model.specs.declared.Part.{Part}
use Rattle.clip_model.specs.declared.Piece.{Piece}
use Rattle.clip_model.specs.IsTimeline.{IsPart, IsTimeline}
use Rattle.clip_model.specs.Mapping.{Mapping}
use Rattle.clip_model.specs.Timeline.{Timeline}
use Rattle.segment_model.specs.Laws.{AreTimelineRows}
use Rattle.segment_model.specs.Timeline.{SourcePiece, timeline}
use Rattle.segment_model.proofs.Timelines.{timeline_is}
use Rattle.vod_source.specs.Stored.{Files, Read}
use Rattle.origin_model.specs.Loaded.{CheckedPiece}
use Rattle.origin_model.specs.Requests.{Setup, Asking, honours_edits, timeline_asked}
use Rattle.origin_model.specs.Samples.{checked_track}
use Rattle.origin_model.specs.Sources.{part_pieces, source_piece}
use Rattle.origin_model.proofs.WritablePlans.{pieces_from_zero}
use Rattle.flat_samples.specs.Movies.{HeldMovie, AreTrue}
use Rattle.flat_lists.specs.declared.looked_sequences.LookedPart.{LookedPart}
use Rattle.flat_lists.specs.declared.looked_sequences.LookedSequence.{LookedSequence}
use Rattle.flat_lists.specs.declared.part_tracks.PartTracks.{PartTracks}
use Rattle.flat_lists.specs.LookedParts.{IsFoundPart, IsPartOf, IsPartTour, part_found, part_names}
use Rattle.flat_lists.specs.LookedSequences.{FoundPart, SequenceFound, SequenceSeen, ArePartsKept, IsLookedPart, IsPartsTour, IsSeenPart, IsSeenTrack, IsSequenceTour, IsTimelineTour, found_in, looked_seen, names_in, part_kept, sequence_found, sequence_kept, sequence_names, sequence_seen}
use Rattle.flat_lists.specs.PartTracks.{PartSeen, alone, facts_due, part_due, part_seen, rows_alone, ArePlaced}
use Rattle.flat_lists.specs.Tours.{IsTour, names_of_steps}
use Rattle.flat_lists.proofs.Tours.{tour_err, tour_ok, tour_unread}

-- ---- what a part keeps whatever the store tells

alone-piece : (kind : Kind) (c : CheckedPiece) → (alone kind c).piece ≡ c.piece
alone-piece Video c = refl
alone-piece Audio c = refl

pieces-alone : (kind : Kind) (cs : List CheckedPiece) → map (λ (c : CheckedPiece). c.piece) (map (alone kind) cs) ≡ map (λ (c : CheckedPiece). c.piece) cs
pieces-alone kind [] = refl
pieces-alone kind (c ∷ cs) = ap₂ (λ (q : Piece) (qs : List Piece). q ∷ qs) (alone-piece kind c) (pieces-alone kind cs)

sources-alone : (kind : Kind) (cs : List CheckedPiece) → map source_piece (map (alone kind) cs) ≡ map (λ (c : CheckedPiece). source_piece (alone kind c)) cs
sources-alone kind [] = refl
sources-alone kind (c ∷ cs) = ap (λ (ps : List SourcePiece). source_piece (alone kind c) ∷ ps) (sources-alone kind cs)

module _ (t : Timeline) (h : IsTimeline t.pieces t.parts) (part : Part) (m : Mapping) (sequence : ℕ) where
  rows_rise : (kind : Kind) (cs : List CheckedPiece) → map (λ (c : CheckedPiece). c.piece) cs ≡ part_pieces t part → AreTimelineRows (pos 0) (rows_alone kind cs)
  rows_rise kind cs of =
      let pp = part_pieces t part in
      let are : map (λ (c : CheckedPiece). c.piece) (map (alone kind) cs) ≡ take (length pp) (drop 0 pp) =
      pieces-alone kind cs ∙ of ∙ sym (take_all (length pp) pp (omega arith)) in
      subst (λ (ps : List SourcePiece). AreTimelineRows (pos 0) (timeline ps)) (sources-alone kind cs)
      (timeline_is 0 (pos 0) (map source_piece (map (alone kind) cs)) (pieces_from_zero t part 0 (length pp) (map (alone kind) cs) h are))

  video_seen : (cs : List CheckedPiece) (track : Option GoodTrack) → AreTimelineRows (pos 0) (rows_alone Video cs)
      → IfSome (option_map (λ (t : GoodTrack). (facts_due m sequence Video t, rows_alone Video cs)) track) (IsSeenTrack Video)
  video_seen cs None rows = tt
  video_seen cs (Some t) rows = record { kind_is = refl; codec = search rules; rows = rows }

  audio_seen : (cs : List CheckedPiece) (track : Option GoodTrack) → AreTimelineRows (pos 0) (rows_alone Audio cs)
      → IfSome (option_map (λ (t : GoodTrack). (facts_due m sequence Audio t, rows_alone Audio cs)) track) (IsSeenTrack Audio)
  audio_seen cs None rows = tt
  audio_seen cs (Some t) rows = record { kind_is = refl; codec = search rules; rows = rows }

  pub due_seen : (cs : List CheckedPiece) → map (λ (c : CheckedPiece). c.piece) cs ≡ part_pieces t part → IsSeenPart (part_due m sequence cs)
  due_seen [] of = record { video = tt; audio = tt }
  due_seen (c ∷ cs) of = record {
    video = video_seen (c ∷ cs) (checked_track Video c) (rows_rise Video (c ∷ cs) of);
    audio = audio_seen (c ∷ cs) (checked_track Audio c) (rows_rise Audio (c ∷ cs) of);
  }

  pub looked_part : (place : ℕ) (pieces : List Piece) (tracks : PartTracks) → slice_get t.parts place ≡ Some part → pieces ≡ part_pieces t part → ArePlaced tracks → IsPartOf m sequence pieces (part_seen tracks)
      → IsLookedPart (record { part = part; tracks = tracks })
  looked_part place pieces tracks at are placed of = record {
    part = All-at IsPart t.parts place part at h.each_part;
    placed = placed;
    seen = subst IsSeenPart (sym of.seen) (due_seen of.checked (of.of ∙ are));
  }
    where
      All-at : {X : Type 0} (P : X → Type 0) (xs : List X) (i : ℕ) (x : X) → slice_get xs i ≡ Some x → All P xs → P x
      All-at P [] i x at all = absurd cc
      All-at P (y ∷ xs) zero x at all = let same : y ≡ x = cc in subst P same (All-head P y xs all)
      All-at P (y ∷ xs) (suc i) x at all = All-at P xs i x at (All-tail P y xs all)

pub all_more : {X : Type 0} (P : X → Type 0) (xs now : List X) (x : X) → now ≡ xs ++ x ∷ [] → All P xs → P x → All P now
all_more P xs now x e all one = subst (All P) (sym e) (All-append P xs (x ∷ []) all (All-cons P x [] one (All-nil P)))

pub one_more : {X : Type 0} (xs now : List X) (x : X) (n : ℕ) → now ≡ xs ++ x ∷ [] → length xs ≡ n → length now ≡ n + 1
one_more xs now x n e many = ap (λ (ys : List _). length ys) e ∙ length-append xs (x ∷ []) ∙ ap (λ (m : ℕ). m + 1) many

pub map_more : {X Y : Type 0} (f : X → Y) (xs now : List X) (x : X) → now ≡ xs ++ x ∷ [] → map f now ≡ map f xs ++ f x ∷ []
map_more f xs now x e = ap (map f) e ∙ map-append f xs (x ∷ [])

-- ---- lists by index

pub drop_at : {X : Type 0} (xs : List X) (i : ℕ) (x : X) → slice_get xs i ≡ Some x → drop i xs ≡ x ∷ drop (i + 1) xs
drop_at [] i x e = absurd cc
drop_at {X = X} (y ∷ xs) zero x e = let same : y ≡ x = cc in ap (λ (y : X). y ∷ xs) same
drop_at (y ∷ xs) (suc i) x e = let n : suc i + 1 ≡ suc (i + 1) = omega arith in drop_at xs i x e ∙ ap (λ (n : ℕ). x ∷ drop n (y ∷ xs)) (sym n)

pub drop_range : (from n i : ℕ) → i < n → drop i (range_with_len from n) ≡ (from + i) ∷ drop (i + 1) (range_with_len from n)
drop_range from zero i lt = absurd (omega (arith, lt))
drop_range from (suc n) zero lt = ap (λ (m : ℕ). m ∷ range_with_len (from + 1) n) (let same : from ≡ from + 0 = omega arith in same)
drop_range from (suc n) (suc i) lt =
    let m : suc i + 1 ≡ suc (i + 1) = omega arith in
    drop_range (from + 1) n i (omega (arith, lt)) ∙ ap₂ (λ (k : ℕ) (m : ℕ). k ∷ drop m (range_with_len from (suc n))) (let same : from + 1 + i ≡ from + suc i = omega arith in same) (sym m)

-- ---- one part

module _ (files : Files) (edits : Bool) (m : Mapping) (sequence : ℕ) (t : Timeline) (part : Part) (pieces : List Piece) (are : pieces ≡ part_pieces t part) (held held_now : List HeldMovie) (log log_now : Option (List Read)) where
  abbrev IsKept : FoundPart → PartTracks → Type 0
  IsKept f p = (part, part_seen p) ≡ part_kept m sequence f

  pub found_ok : (p : PartTracks) → IsPartTour files edits m sequence pieces (Ok p) held held_now log log_now → IsTour files IsKept (found_in files edits t part) (names_in files edits t part) (Ok p) held held_now log log_now
  found_ok p tour =
      subst (λ (ps : List Piece). IsTour files IsKept (part_found files edits ps >>= λ f. Ok (part, f)) (part_names files edits ps) (Ok p) held held_now log log_now) are
      (tour_ok files (IsFoundPart m sequence) IsKept (part_found files edits pieces) (λ f. (part, f)) (part_names files edits pieces) held held_now log log_now p p (λ f is. ap (λ (s : PartSeen). (part, s)) is) tour)

  pub found_err : (e : Refusal) → IsPartTour files edits m sequence pieces (Err e) held held_now log log_now → IsTour files IsKept (found_in files edits t part) (names_in files edits t part) (Err e) held held_now log log_now
  found_err e tour =
      subst (λ (ps : List Piece). IsTour files IsKept (part_found files edits ps >>= λ f. Ok (part, f)) (part_names files edits ps) (Err e) held held_now log log_now) are
      (tour_err files (IsFoundPart m sequence) IsKept (part_found files edits pieces) (λ f. (part, f)) (part_names files edits pieces) held held_now log log_now e tour)

-- ---- one sequence

module _ (o : Setup) (a : Asking) (sequence : ℕ) (held held_now : List HeldMovie) (log log_now : Option (List Read)) where
  abbrev IsKeptSequence : SequenceFound → LookedSequence → Type 0
  IsKeptSequence f s = sequence_seen s ≡ sequence_kept a.mapping f

  pub sequence_refused : (e : Refusal) → (e ≢ NoMemory → timeline_asked o a sequence ≡ Err e) → AreTrue o.files held → IsSequenceTour o a sequence (Err e) held held log log
  sequence_refused e refused known =
      tour_unread o.files IsKeptSequence (sequence_found o a sequence) (sequence_names o a sequence) e held log known
      (λ known_memory. (
        ap (λ (r : Result Timeline Refusal). r >>= λ t. each_in_turn (found_in o.files (honours_edits o) t) t.parts >>= λ fs. Ok (record { number = sequence; timeline = t; parts = fs })) (refused known_memory),
        ap (λ (r : Result Timeline Refusal). result_unwrap_or (r >>= λ t. Ok (names_of_steps (found_in o.files (honours_edits o) t) (names_in o.files (honours_edits o) t) t.parts)) []) (refused known_memory),
      ))

  pub sequence_found_by : (result : Result LookedSequence Refusal) (edits : Bool) (t : Timeline) → edits ≡ honours_edits o → timeline_asked o a sequence ≡ Ok t → IsTimelineTour o.files edits a.mapping sequence t result held held_now log log_now
      → IsSequenceTour o a sequence result held held_now log log_now
  sequence_found_by result edits t e is tour =
      subst (λ (r : Result Timeline Refusal). IsTour o.files IsKeptSequence (r >>= λ t. each_in_turn (found_in o.files (honours_edits o) t) t.parts >>= λ fs. Ok (record { number = sequence; timeline = t; parts = fs }))
      (result_unwrap_or (r >>= λ t. Ok (names_of_steps (found_in o.files (honours_edits o) t) (names_in o.files (honours_edits o) t) t.parts)) []) result held held_now log log_now) (sym is)
      (subst (λ (edits : Bool). IsTimelineTour o.files edits a.mapping sequence t result held held_now log log_now) e tour)

-- ---- one timeline

module _ {R : Type 0} (items : R → List LookedPart) (files : Files) (edits : Bool) (m : Mapping) (sequence : ℕ) (t : Timeline) (held held_now : List HeldMovie) (log log_now : Option (List Read)) where
  pub timeline_ok : (ps : R) (s : LookedSequence) → sequence_seen s ≡ record { number = sequence; parts = map looked_seen (items ps) } → IsPartsTour items files edits m sequence t (Ok ps) held held_now log log_now
      → IsTimelineTour files edits m sequence t (Ok s) held held_now log log_now
  timeline_ok ps s seen tour =
      tour_ok files (λ fs ps. ArePartsKept m sequence fs (items ps)) (λ f s. sequence_seen s ≡ sequence_kept m f) (each_in_turn (found_in files edits t) t.parts) (λ fs. record { number = sequence; timeline = t; parts = fs })
      (names_of_steps (found_in files edits t) (names_in files edits t) t.parts) held held_now log log_now ps s
      (λ fs kept. seen ∙ ap (λ (parts : List (Part × PartSeen)). let s : SequenceSeen = record { number = sequence; parts = parts } in s) kept) tour

  pub timeline_err : (e : Refusal) → IsPartsTour items files edits m sequence t (Err e) held held_now log log_now → IsTimelineTour files edits m sequence t (Err e) held held_now log log_now
  timeline_err e tour =
      tour_err files (λ fs ps. ArePartsKept m sequence fs (items ps)) (λ f s. sequence_seen s ≡ sequence_kept m f) (each_in_turn (found_in files edits t) t.parts) (λ fs. record { number = sequence; timeline = t; parts = fs })
      (names_of_steps (found_in files edits t) (names_in files edits t) t.parts) held held_now log log_now e tour
