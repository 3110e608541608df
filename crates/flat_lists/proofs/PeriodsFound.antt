-- The periods over sequences that were looked at are those of what is found.
use Rattle.std.proofs.Common.{◌≡◌, ℕ, ◌+◌, ◌<◌, ◌^◌, Bool, List, [], ◌∷◌, ◌++◌, map, fold, max, inl, inr, Option, Some, None, IfSome, Result, Ok, refl, sym, ap, ap₂, ◌∙◌, subst, arith}
use Rattle.std.specs.Prelude.{filter_map, flat_map, option_map, option_and_then, option_to_list, slice_get, unwrap_or}
use Rattle.std.specs.List.{cons_option, enumerate_from}
use Rattle.std.specs.Option.{option_map_or}
use Rattle.std.proofs.lemmas.List.Sums.{fold-append}
use Rattle.std.proofs.lemmas.Option.{slice_get-map}
use Rattle.vod_types.specs.declared.refusal.Refusal.{Refusal}
use Rattle.vod_types.specs.declared.tracks.Asked.{Asked}
use Rattle.vod_types.specs.declared.tracks.Kind.{Kind}
use Rattle.vod_types.specs.declared.tracks.Kind.TheVariants.{Video, Audio}
use Rattle.vod_types.specs.Results.{◌>>=◌, each_in_turn}
use Rattle.vod_types.specs.Settled.{Settled}
use Rattle.vod_types.proofs.StepLemmas.{bind_ok}
use Rattle.mp4_model.specs.GoodTracks.{GoodTrack}
use Rattle.clip_model.proofs.TimelineKept.{timeline_in}
use Rattle.clip_model.specs.declared.Part.{Part}
use Rattle.clip_model.specs.declared.Piece.{Piece}
use Rattle.clip_model.specs.IsTimeline.{IsTimeline}
use Rattle.clip_model.specs.Mapping.{IsMapping, Mapping}
use Rattle.clip_model.specs.Timeline.{Timeline}
use Rattle.segment_model.specs.Grid.{SegmentGrid, grid_of, length_of, milliseconds}
use Rattle.segment_model.specs.Timeline.{SourcePiece, lead_end, timeline}
use Rattle.list_model.specs.declared.Period.{Period}
use Rattle.list_model.specs.declared.Rep.{Rep}
use Rattle.list_model.specs.Manifest.{manifest}
use Rattle.list_model.specs.Names.{first_of_kind}
use Rattle.origin_model.specs.Lists.{CheckedPart, CheckedSequence, declared_length, first_parts, lengths_by, part_kinds, period_of, sequence_representations, undeclared_lengths}
use Rattle.origin_model.specs.Loaded.{CheckedPiece, checked}
use Rattle.origin_model.specs.Requests.{Setup, Asking, grid_in_use, honours_edits, timeline_asked}
use Rattle.origin_model.specs.Samples.{checked_track}
use Rattle.origin_model.specs.Sources.{part_pieces, source_of, source_part}
use Rattle.flat_lists.specs.Described.{AreFound, part_view, periods_due, sequence_view}
use Rattle.flat_lists.specs.LookedParts.{PartFound, first_found, part_found}
use Rattle.flat_lists.specs.LookedSequences.{FoundPart, SequenceFound, found_in, numbers, part_kept, sequence_found, sequence_kept, sequence_seen, sequences_found}
use Rattle.flat_lists.specs.PartTracks.{PartSeen, facts_due, rows_alone, seen_due}
use Rattle.flat_lists.specs.Written.{first_cell, first_seen, lead_length, part_length, period_seen, periods_seen, reps_seen, sequence_length, sequence_reps as reps_of_sequence}
use Rattle.flat_lists.specs.declared.looked_sequences.LookedSequence.{LookedSequence}
use Rattle.flat_lists.proofs.AloneLemmas.{number_of, sources_alone}
use Rattle.flat_lists.proofs.CellsFound.{Numbered, asked_of_first, length_is}
use Rattle.flat_lists.proofs.LookedLemmas as looked_lemmas
use Rattle.flat_lists.proofs.SequenceReps.{found_at, sequence_reps}

-- ---- the greatest of lengths

abbrev greatest : List ℕ → ℕ
greatest ns = fold max 0 ns

greatest_from : (n : ℕ) (ns : List ℕ) → fold max n ns ≡ max n (greatest ns)
greatest_from n [] = omega arith
greatest_from n (m ∷ ns) = let a = greatest_from (max n m) ns in let b = greatest_from (max 0 m) ns in omega (arith, a, b)

greatest_both : (xs ys : List ℕ) → greatest (xs ++ ys) ≡ max (greatest xs) (greatest ys)
greatest_both xs ys = fold-append max 0 xs ys ∙ greatest_from (greatest xs) ys

greatest_option : (x : Option ℕ) (ns : List ℕ) → greatest (cons_option x ns) ≡ max (unwrap_or x 0) (greatest ns)
greatest_option None ns = omega arith
greatest_option (Some n) ns = let a = greatest_from (max 0 n) ns in omega (arith, a)

-- ---- what is found

record IsFound (o : Setup) (f : SequenceFound) : Type 0 where
  timed : IsTimeline f.timeline.pieces f.timeline.parts
  found : each_in_turn (found_in o.files (honours_edits o) f.timeline) f.timeline.parts ≡ Ok f.parts

abbrev AllFound : Setup → List SequenceFound → Type 0
AllFound o [] = Unit {0}
AllFound o (f ∷ fs) = IsFound o f × AllFound o fs

-- ---- the length of a part

-- those of its kinds, where no length is declared
kinds_longest : (h : Kind → ℕ) (v u : Option ℕ) → greatest (map h (option_to_list (option_map (λ (n : ℕ). Video) v) ++ option_to_list (option_map (λ (n : ℕ). Audio) u))) ≡ max (option_map_or (λ (n : ℕ). h Video) v 0) (option_map_or (λ (n : ℕ). h Audio) u 0)
kinds_longest h None None = refl
kinds_longest h (Some v) None = omega arith
kinds_longest h None (Some u) = omega arith
kinds_longest h (Some v) (Some u) = omega arith

module _ (o : Setup) (a : Asking) where
  abbrev edits : Bool
  edits = honours_edits o

  module _ (sequence : ℕ) (part : Part) (asked : Asked) (first : CheckedPiece) (cs : List CheckedPiece) (pieces : List Piece) where
    kind_long : (kind : Kind) (n : ℕ) → n ≡ unwrap_or part.length_ms (milliseconds (lead_end part.start (timeline (map (source_of o.files edits (first_of_kind kind)) pieces)).lead))
        → each_in_turn (checked o.files edits asked) pieces ≡ Ok (first ∷ cs) → Numbered (number_of kind asked) (checked_track kind first)
        → option_map_or (λ (m : ℕ). n) (number_of kind asked) 0 ≡ lead_length part (seen_due a.mapping sequence kind first (rows_alone kind (first ∷ cs)))
    kind_long kind n n_is each (inl (none, absent)) =
        ap (λ (x : Option ℕ). option_map_or (λ (m : ℕ). n) x 0) none
        ∙ sym (ap (λ (track : Option GoodTrack). lead_length part (option_map (λ (t : GoodTrack). (facts_due a.mapping sequence kind t, rows_alone kind (first ∷ cs))) track)) absent)
    kind_long kind n n_is each (inr (one, (t, there))) =
        ap (λ (x : Option ℕ). option_map_or (λ (m : ℕ). n) x 0) one ∙ n_is
        ∙ ap (λ (ps : List SourcePiece). unwrap_or part.length_ms (milliseconds (lead_end part.start (timeline ps).lead))) (sources_alone o.files edits kind asked one pieces (first ∷ cs) each)
        ∙ sym (ap (λ (track : Option GoodTrack). lead_length part (option_map (λ (t : GoodTrack). (facts_due a.mapping sequence kind t, rows_alone kind (first ∷ cs))) track)) there)

  module _ (s : CheckedSequence) (part : Part) where
    abbrev kind_length : Kind → ℕ
    kind_length kind = length_of (source_part o.files edits (first_of_kind kind) s.timeline part)

    abbrev Is : PartFound → Type 0
    Is pf = greatest (map kind_length (part_kinds o a (part_view (part, pf)))) ≡ max (lead_length part (part_kept a.mapping s.number (part, pf)).1.video) (lead_length part (part_kept a.mapping s.number (part, pf)).1.audio)

    -- how long the representations of a part that is found last
    open_found : (pf : PartFound) → part_found o.files edits (part_pieces s.timeline part) ≡ Ok pf → Is pf
    open_found pf e = by (part_pieces s.timeline part) refl e
      where
        kind_by : (pieces : List Piece) (kind : Kind) → part_pieces s.timeline part ≡ pieces
            → kind_length kind ≡ unwrap_or part.length_ms (milliseconds (lead_end part.start (timeline (map (source_of o.files edits (first_of_kind kind)) pieces)).lead))
        kind_by pieces kind is =
            length_is o a s.timeline part kind
            ∙ ap (λ (ps : List Piece). unwrap_or part.length_ms (milliseconds (lead_end part.start (timeline (map (source_of o.files edits (first_of_kind kind)) ps)).lead))) is

        by : (pieces : List Piece) → part_pieces s.timeline part ≡ pieces → part_found o.files edits pieces ≡ Ok pf → Is pf
        by [] is e =
            let none : PartFound = record { first = None; pieces = [] } in
            let same : none ≡ pf = cc in
            subst Is same refl
        by (first ∷ later) is e =
            let f = bind_ok (first_found o.files edits first) _ pf e in
            let cs = bind_ok (each_in_turn (checked o.files edits f.0.0) later) _ pf f.2 in
            let made : PartFound = record { first = Some f.0; pieces = f.0.1 ∷ cs.0 } in
            let same : made ≡ pf = (let h = cs.2 in cc) in
            let of = asked_of_first o a first f.0 f.1 in
            let each : each_in_turn (checked o.files edits f.0.0) (first ∷ later) ≡ Ok (f.0.1 ∷ cs.0) =
            ap₂ (λ (r : Result CheckedPiece Refusal) (rs : Result (List CheckedPiece) Refusal). r >>= λ y. rs >>= λ ys. Ok (y ∷ ys)) (looked_lemmas.first_parts o.files edits first f.0 f.1).1 cs.1 in
            subst Is same
            (kinds_longest kind_length f.0.0.video f.0.0.audio
            ∙ ap₂ max
            (kind_long s.number part f.0.0 f.0.1 cs.0 (first ∷ later) Video (kind_length Video) (kind_by (first ∷ later) Video is) each (of.kinds Video))
            (kind_long s.number part f.0.0 f.0.1 cs.0 (first ∷ later) Audio (kind_length Audio) (kind_by (first ∷ later) Audio is) each (of.kinds Audio)))

  -- its declared length, or those
  by_declared : (declared : Option ℕ) (s : CheckedSequence) (p : CheckedPart) (n : ℕ) → greatest (map (kind_length s p.part) (part_kinds o a p)) ≡ n
      → max (unwrap_or declared 0) (greatest (lengths_by o a declared s p)) ≡ unwrap_or declared n
  by_declared None s p n e = omega (arith, e)
  by_declared (Some m) s p n e = omega arith

  module _ (f : SequenceFound) (found : each_in_turn (found_in o.files (honours_edits o) f.timeline) f.timeline.parts ≡ Ok f.parts) (k : ℕ) where
    at_part : (r : Option FoundPart) → slice_get f.parts k ≡ r
        → max (unwrap_or (option_and_then (λ (p : CheckedPart). p.part.length_ms) (option_map part_view r)) 0) (greatest (option_map_or (λ (p : CheckedPart). lengths_by o a p.part.length_ms (sequence_view f) p) (option_map part_view r) []))
        ≡ option_map_or part_length (option_map (part_kept a.mapping f.number) r) 0
    at_part None e = refl
    at_part (Some fp) e =
        let at = found_at o.files (honours_edits o) f.timeline f.timeline.parts f.parts k fp found e in
        by_declared fp.0.length_ms (sequence_view f) (part_view fp) _ (open_found (sequence_view f) fp.0 fp.1 at.1.1)

    sequence_long : max (unwrap_or (declared_length o a k (sequence_view f)) 0) (greatest (undeclared_lengths o a k (sequence_view f))) ≡ sequence_length k (sequence_kept a.mapping f)
    sequence_long =
        ap (λ (p : Option CheckedPart). max (unwrap_or (option_and_then (λ (p : CheckedPart). p.part.length_ms) p) 0) (greatest (option_map_or (λ (p : CheckedPart). lengths_by o a p.part.length_ms (sequence_view f) p) p []))) (slice_get-map part_view f.parts k)
        ∙ at_part (slice_get f.parts k) refl
        ∙ sym (ap (λ (p : Option (Part × PartSeen)). option_map_or part_length p 0) (slice_get-map (part_kept a.mapping f.number) f.parts k))

  -- ---- sequences

  -- the parts that are found are those of the timeline
  found_parts : (t : Timeline) (xs : List Part) (fs : List FoundPart) (m : Mapping) (n : ℕ) → each_in_turn (found_in o.files (honours_edits o) t) xs ≡ Ok fs → map (λ (p : Part × PartSeen). p.0) (map (part_kept m n) fs) ≡ xs
  found_parts t [] fs m n e = let none : [] ≡ fs = cc in subst (λ (fs : List FoundPart). map (λ (p : Part × PartSeen). p.0) (map (part_kept m n) fs) ≡ []) none refl
  found_parts t (x ∷ xs) fs m n e =
      let f = bind_ok (found_in o.files (honours_edits o) t x) _ fs e in
      let rest = bind_ok (each_in_turn (found_in o.files (honours_edits o) t) xs) _ fs f.2 in
      let same : f.0 ∷ rest.0 ≡ fs = (let h = rest.2 in cc) in
      let pf = bind_ok (part_found o.files (honours_edits o) (part_pieces t x)) _ f.0 f.1 in
      let is : (x, pf.0) ≡ f.0 = (let h = pf.2 in cc) in
      subst (λ (fs : List FoundPart). map (λ (p : Part × PartSeen). p.0) (map (part_kept m n) fs) ≡ x ∷ xs) same
      (ap₂ (λ (y : Part) (ys : List Part). y ∷ ys) (sym (ap (λ (p : FoundPart). p.0) is)) (found_parts t xs rest.0 m n rest.1))

  module _ (keeps : IsMapping a.mapping) (from : a.window.from < 2 ^ 32) (to : IfSome a.window.to (λ u. u < 2 ^ 32)) where
    one_found : (n : ℕ) (f : SequenceFound) → sequence_found o a n ≡ Ok f → IsFound o f
    one_found n f e =
        let t = bind_ok (timeline_asked o a n) _ f e in
        let fs = bind_ok (each_in_turn (found_in o.files (honours_edits o) t.0) t.0.parts) _ f t.2 in
        let made : SequenceFound = record { number = n; timeline = t.0; parts = fs.0 } in
        let same : made ≡ f = (let h = fs.2 in cc) in
        subst (IsFound o) same (record { timed = timeline_in o.root a.mapping n a.window a.tracks t.0 keeps from to t.1; found = fs.1 })

    all_found : (ns : List ℕ) (fs : List SequenceFound) → each_in_turn (sequence_found o a) ns ≡ Ok fs → AllFound o fs
    all_found [] fs e = let none : [] ≡ fs = cc in subst (AllFound o) none tt
    all_found (n ∷ ns) fs e =
        let f = bind_ok (sequence_found o a n) _ fs e in
        let rest = bind_ok (each_in_turn (sequence_found o a) ns) _ fs f.2 in
        let same : f.0 ∷ rest.0 ≡ fs = (let h = rest.2 in cc) in
        subst (AllFound o) same (one_found n f.0 f.1, all_found ns rest.0 rest.1)

  abbrev g : SegmentGrid
  g = grid_in_use o a

  module _ (k : ℕ) where
    one_reps : (f : SequenceFound) → IsFound o f → sequence_representations o a k (sequence_view f) ≡ reps_of_sequence a.mapping g o.settings.align k (sequence_kept a.mapping f)
    one_reps f h =
        sequence_reps o a k f h.timed h.found
        ∙ ap (λ (parts : List Part). option_map_or (reps_seen a.mapping g o.settings.align f.number (k + 1) (first_cell g parts k)) (slice_get (map (part_kept a.mapping f.number) f.parts) k) [])
        (sym (found_parts f.timeline f.timeline.parts f.parts a.mapping f.number h.found))

    all_reps : (fs : List SequenceFound) → AllFound o fs → flat_map (sequence_representations o a k) (map sequence_view fs) ≡ flat_map (reps_of_sequence a.mapping g o.settings.align k) (map (sequence_kept a.mapping) fs)
    all_reps [] h = refl
    all_reps (f ∷ fs) h = ap₂ (λ (xs ys : List Rep). xs ++ ys) (one_reps f h.0) (all_reps fs h.1)

    all_long : (fs : List SequenceFound) → AllFound o fs
        → max (greatest (filter_map (declared_length o a k) (map sequence_view fs))) (greatest (flat_map (undeclared_lengths o a k) (map sequence_view fs))) ≡ greatest (map (sequence_length k) (map (sequence_kept a.mapping) fs))
    all_long [] h = refl
    all_long (f ∷ fs) h =
        let declared = greatest_option (declared_length o a k (sequence_view f)) (filter_map (declared_length o a k) (map sequence_view fs)) in
        let undeclared = greatest_both (undeclared_lengths o a k (sequence_view f)) (flat_map (undeclared_lengths o a k) (map sequence_view fs)) in
        let own = sequence_long f h.0.found k in
        let later = all_long fs h.1 in
        let all = greatest_from (max 0 (sequence_length k (sequence_kept a.mapping f))) (map (sequence_length k) (map (sequence_kept a.mapping) fs)) in
        omega (arith, declared, undeclared, own, later, all)

    abbrev period_with : Part → ℕ → List Rep → Period
    period_with part long reps = record { part = k + 1; start = part.start; length_ms = long; reps = reps }

    period-is : (ss : List CheckedSequence) (part : Part) → period_of o a ss (k, part)
        ≡ period_with part (fold max (greatest (filter_map (declared_length o a k) ss)) (flat_map (undeclared_lengths o a k) ss)) (flat_map (sequence_representations o a k) ss)
    unfolding period_of
    period-is ss part = refl

    one_period : (fs : List SequenceFound) (part : Part) → AllFound o fs → period_of o a (map sequence_view fs) (k, part) ≡ period_seen a.mapping g o.settings.align (map (sequence_kept a.mapping) fs) (k, part)
    one_period fs part h =
        period-is (map sequence_view fs) part
        ∙ ap₂ (period_with part)
        (greatest_from (greatest (filter_map (declared_length o a k) (map sequence_view fs))) (flat_map (undeclared_lengths o a k) (map sequence_view fs)) ∙ all_long fs h)
        (all_reps fs h)

  each_period : (fs : List SequenceFound) → AllFound o fs → (k : ℕ) (parts : List Part)
      → map (period_of o a (map sequence_view fs)) (enumerate_from k parts) ≡ map (period_seen a.mapping g o.settings.align (map (sequence_kept a.mapping) fs)) (enumerate_from k parts)
  each_period fs h k [] = refl
  each_period fs h k (p ∷ ps) = ap₂ (λ (x : Period) (xs : List Period). x ∷ xs) (one_period k fs p h) (each_period fs h (k + 1) ps)

  first_are : (fs : List SequenceFound) → AllFound o fs → first_parts o a (map sequence_view fs) ≡ first_seen (map (sequence_kept a.mapping) fs)
  first_are [] h = refl
  first_are (f ∷ fs) h = sym (found_parts f.timeline f.timeline.parts f.parts a.mapping f.number h.0.found)

  -- the periods over the sequences that are found
  pub periods_kept : (fs : List SequenceFound) → IsMapping a.mapping → a.window.from < 2 ^ 32 → IfSome a.window.to (λ u. u < 2 ^ 32) → sequences_found o a ≡ Ok fs
      → periods_due o a (map sequence_view fs) ≡ periods_seen a.mapping g o.settings.align (map (sequence_kept a.mapping) fs)
  periods_kept fs keeps from to found =
      let h = all_found keeps from to (numbers o a) fs found in
      each_period fs h 0 (first_parts o a (map sequence_view fs))
      ∙ ap (λ (parts : List Part). map (period_seen a.mapping g o.settings.align (map (sequence_kept a.mapping) fs)) (enumerate_from 0 parts)) (first_are fs h)

  periods_found : (fs : List SequenceFound) (ss : List LookedSequence) → IsMapping a.mapping → a.window.from < 2 ^ 32 → IfSome a.window.to (λ u. u < 2 ^ 32) → AreFound o a fs ss
      → periods_due o a (map sequence_view fs) ≡ periods_seen a.mapping g o.settings.align (map sequence_seen ss)
  periods_found fs ss keeps from to of =
      periods_kept fs keeps from to of.found ∙ ap (periods_seen a.mapping g o.settings.align) (sym of.kept)

  -- as they are kept, with the settings and the grid of a request
  pub few_due : (fs : List SequenceFound) (ss : List LookedSequence) → IsMapping a.mapping → a.window.from < 2 ^ 32 → IfSome a.window.to (λ u. u < 2 ^ 32) → AreFound o a fs ss
      → (settings : Settled) (grid : SegmentGrid) (align : Bool) (periods : List Period) → o.settings ≡ settings → grid ≡ grid_of settings a.mapping.segment_ms → align ≡ settings.align
      → periods ≡ periods_seen a.mapping grid align (map sequence_seen ss) → periods ≡ periods_due o a (map sequence_view fs)
  few_due fs ss keeps from to of settings grid align periods same grid_is align_is are =
      are
      ∙ ap₂ (λ (g : SegmentGrid) (align : Bool). periods_seen a.mapping g align (map sequence_seen ss)) (grid_is ∙ ap (λ (s : Settled). grid_of s a.mapping.segment_ms) (sym same)) (align_is ∙ ap (λ (s : Settled). s.align) (sym same))
      ∙ sym (periods_found fs ss keeps from to of)

  -- the text over them
  pub text_found : (fs : List SequenceFound) (ss : List LookedSequence) → IsMapping a.mapping → a.window.from < 2 ^ 32 → IfSome a.window.to (λ u. u < 2 ^ 32) → AreFound o a fs ss
      → (settings : Settled) (grid : SegmentGrid) (align : Bool) (buffer : ℕ) (periods : List Period) → o.settings ≡ settings → grid ≡ grid_of settings a.mapping.segment_ms → align ≡ settings.align
      → buffer ≡ unwrap_or a.mapping.segment_ms settings.segment_ms → periods ≡ periods_seen a.mapping grid align (map sequence_seen ss)
      → manifest buffer periods ≡ manifest g.step (periods_due o a (map sequence_view fs))
  text_found fs ss keeps from to of settings grid align buffer periods same grid_is align_is buffer_is are =
      ap₂ manifest
      (buffer_is ∙ ap (λ (s : Settled). unwrap_or a.mapping.segment_ms s.segment_ms) (sym same))
      (few_due fs ss keeps from to of settings grid align periods same grid_is align_is are)
