-- The cells of the parts of sequences that were looked at are those of what is found.
use Rattle.std.proofs.Common.{◌≡◌, ◌≤◌, ◌<◌, ℕ, zero, suc, ◌+◌, Bool, List, [], ◌∷◌, ◌++◌, map, drop, ◌⊎◌, inl, inr, Option, Some, None, Result, Ok, Err, IfOk, IfErr, refl, sym, ap, ap₂, ◌∙◌, subst, arith, slice_get}
use Rattle.std.specs.Prelude.{option_map, option_to_list, sum_by, unwrap_or}
use Rattle.std.specs.List.{enumerate_from}
use Rattle.std.specs.Bool.{then_some}
use Rattle.std.specs.Option.{option_map_or}
use Rattle.std.proofs.lemmas.Bool.{le-ltb}
use Rattle.std.proofs.lemmas.List.{drop-drop}
use Rattle.std.proofs.lemmas.List.Sums.{sum_by-cons}
use Rattle.vod_types.specs.declared.refusal.Refusal.{Refusal}
use Rattle.vod_types.specs.declared.tracks.Asked.{Asked}
use Rattle.vod_types.specs.declared.tracks.Kind.{Kind}
use Rattle.vod_types.specs.declared.tracks.Kind.TheVariants.{Video, Audio}
use Rattle.vod_types.specs.declared.refusal.Refusal.TheVariants.{NoMemory, TooManySegments}
use Rattle.vod_types.specs.Results.{◌>>=◌, ◌>>◌, Answers, each_in_turn, unless}
use Rattle.vod_types.proofs.StepLemmas.{bind_ok}
use Rattle.mp4_model.specs.GoodTracks.{GoodTrack}
use Rattle.mp4_model.specs.Movie.{Movie}
use Rattle.clip_model.specs.declared.Part.{Part}
use Rattle.clip_model.specs.declared.Piece.{Piece}
use Rattle.clip_model.specs.Mapping.{Mapping}
use Rattle.clip_model.specs.Timeline.{Timeline}
use Rattle.segment_model.specs.Grid.{SegmentGrid, cells, length_of, milliseconds, part_grid}
use Rattle.segment_model.specs.Timeline.{SourcePiece, SourcePart, lead_end, timeline}
use Rattle.list_model.specs.Manifest.{manifest}
use Rattle.list_model.specs.Names.{first_of_kind}
use Rattle.origin_model.specs.Lists as lists
use Rattle.origin_model.specs.Lists.{CheckedSequence, asked_first, first_track, kind_cells, kinds_of}
use Rattle.origin_model.specs.Loaded.{CheckedPiece, checked, loaded}
use Rattle.origin_model.specs.Plans.{few_cells}
use Rattle.origin_model.specs.Requests.{Setup, Asking, grid_in_use, honours_edits, timeline_asked}
use Rattle.origin_model.specs.Samples.{checked_track}
use Rattle.origin_model.specs.Sources.{part_pieces, source_of, source_part}
use Rattle.origin_model.specs.Writable.{IsSoundIf}
use Rattle.flat_samples.specs.Checks.{checked_in}
use Rattle.flat_samples.proofs.CheckLemmas.{checked-whole}
use Rattle.flat_lists.specs.CountedCells.{all_cells, counted, length_seen, part_cells, sequence_cells, track_cells}
use Rattle.flat_lists.specs.Described.{AreFound, described_due, part_view, periods_due, sequence_view}
use Rattle.flat_lists.specs.LookedParts.{PartFound, first_found, part_found}
use Rattle.flat_lists.specs.LookedSequences.{FoundPart, SequenceFound, SequenceSeen, found_in, looked_seen, numbers, part_kept, sequence_found, sequence_kept, sequence_seen}
use Rattle.flat_lists.specs.PartTracks.{asked_in, facts_due, first_in, rows_alone, seen_due}
use Rattle.flat_lists.specs.declared.looked_sequences.LookedSequence.{LookedSequence}
use Rattle.flat_lists.proofs.AloneLemmas.{number_of, sources_alone}
use Rattle.flat_lists.proofs.ListedTimelines.{cells_many}
use Rattle.flat_lists.proofs.LookedLemmas.{first_parts}

-- ---- the asked tracks of a first piece

abbrev pub Numbered : {T : Type 0} → Option ℕ → Option T → Type 0
Numbered {T = T} number track = ((number ≡ None) × (track ≡ None)) ⊎ ((number ≡ Some 1) × ((t : T) × (track ≡ Some t)))

pub record IsAskedFirst (asked : Asked) (c : CheckedPiece) : Type 0 where
  pub kinds : (kind : Kind) → Numbered (number_of kind asked) (checked_track kind c)
  pub some : asked.video ≡ None → asked.audio ≡ None → ⊥

numbered : {X : Type 0} (kind : Kind) (x : Option X) (number : Option ℕ) (track : Option GoodTrack) → number ≡ option_map (λ (y : X). 1) x → IsSoundIf kind number track → Numbered number track
numbered kind None None None e h = inl (refl, refl)
numbered kind None None (Some t) e h = absurd h
numbered kind None (Some n) track e h = absurd cc
numbered kind (Some x) None track e h = absurd cc
numbered kind (Some x) (Some n) None e h = absurd h
numbered kind (Some x) (Some n) (Some t) e h = inr (e, (t, refl))

asked_numbers : (name : List ℕ) (v u : Option ℕ) (asked : Asked) → asked_first name v u ≡ Ok asked → (asked.video ≡ v) × (asked.audio ≡ u) × (v ≡ None → u ≡ None → ⊥)
asked_numbers name None None asked e = absurd cc
asked_numbers name (Some v) u asked e =
    let made : Asked = record { video = Some v; audio = u } in
    let same : made ≡ asked = cc in
    (sym (ap (λ (a : Asked). a.video) same), sym (ap (λ (a : Asked). a.audio) same), λ n. absurd cc)
asked_numbers name None (Some u) asked e =
    let made : Asked = record { video = None; audio = Some u } in
    let same : made ≡ asked = cc in
    (sym (ap (λ (a : Asked). a.video) same), sym (ap (λ (a : Asked). a.audio) same), λ n m. absurd cc)

module _ (o : Setup) (a : Asking) where
  abbrev edits : Bool
  edits = honours_edits o

  abbrev g : SegmentGrid
  g = grid_in_use o a

  pub asked_of_first : (piece : Piece) (f : Asked × CheckedPiece) → first_found o.files edits piece ≡ Ok f → IsAskedFirst f.0 f.1
  asked_of_first piece f e =
      let movie = bind_ok (loaded o.files piece.name) (first_in edits piece) f e in
      let asked = bind_ok (asked_in piece movie.0) _ f movie.2 in
      let c = bind_ok (checked_in edits asked.0 piece movie.0) _ f asked.2 in
      let same : (asked.0, c.0) ≡ f = (let h = c.2 in cc) in
      let numbers = asked_numbers piece.name (first_track piece movie.0 Video) (first_track piece movie.0 Audio) asked.0 asked.1 in
      let sound = checked-whole piece movie.0 edits asked.0 c.0 c.1 in
      subst (λ (f : Asked × CheckedPiece). IsAskedFirst f.0 f.1) same
      (record { kinds = by_kind asked.0 c.0 movie.0 numbers.0 numbers.1 sound.video sound.audio; some = λ v u. numbers.2 (sym numbers.0 ∙ v) (sym numbers.1 ∙ u) })
    where
      by_kind : (asked : Asked) (c : CheckedPiece) (m : Movie) → asked.video ≡ first_track piece m Video → asked.audio ≡ first_track piece m Audio → IsSoundIf Video asked.video c.video → IsSoundIf Audio asked.audio c.audio
          → (kind : Kind) → Numbered (number_of kind asked) (checked_track kind c)
      by_kind asked c m v u sv su Video = numbered Video _ asked.video c.video v sv
      by_kind asked c m v u sv su Audio = numbered Audio _ asked.audio c.audio u su

  -- ---- the cells of a kind in a part

  abbrev length_alone : Timeline → Part → Kind → ℕ
  length_alone t part kind = unwrap_or part.length_ms (milliseconds (lead_end part.start (timeline (map (source_of o.files edits (first_of_kind kind)) (part_pieces t part))).lead))

  pub length_is : (t : Timeline) (part : Part) (kind : Kind) → length_of (source_part o.files edits (first_of_kind kind) t part) ≡ length_alone t part kind
  unfolding length_of source_part
  length_is t part kind = refl

  slice_mapped : {A B C : Type 0} (h : B → C) (f : A → B) (xs : List A) (k : ℕ) (x : A) (rest : List A) → drop k xs ≡ x ∷ rest → slice_get (map h (map f xs)) k ≡ Some (h (f x))
  slice_mapped h f [] zero x rest e = absurd cc
  slice_mapped h f [] (suc k) x rest e = absurd cc
  slice_mapped {A = A} h f (y ∷ xs) zero x rest e = let same : y ≡ x = cc in ap (λ (y : A). Some (h (f y))) same
  slice_mapped h f (y ∷ xs) (suc k) x rest e = slice_mapped h f xs k x rest e

  pub kind_is : (s : CheckedSequence) (k : ℕ) (part : Part) (rest : List Part) (kind : Kind) → drop k s.timeline.parts ≡ part ∷ rest → kind_cells o a s k kind ≡ cells g (length_alone s.timeline part kind)
  kind_is s k part rest kind at =
      ap (λ (n : Option ℕ). option_map_or (λ n. n) n 0)
      (slice_mapped (λ (p : SourcePart). (part_grid g o.settings.align p).cells) (source_part o.files edits (first_of_kind kind) s.timeline) s.timeline.parts k part rest at)
      ∙ ap (cells g) (length_is s.timeline part kind)

  -- ---- a part

  abbrev if_some : Option ℕ → ℕ → ℕ
  if_some None n = 0
  if_some (Some x) n = n

  kinds_sum : (h : Kind → ℕ) (v u : Option ℕ) → sum_by h (option_to_list (option_map (λ (n : ℕ). Video) v) ++ option_to_list (option_map (λ (n : ℕ). Audio) u)) ≡ if_some v (h Video) + if_some u (h Audio)
  kinds_sum h None None = omega arith
  kinds_sum h (Some v) None = omega (arith, sum_by-cons h Video [])
  kinds_sum h None (Some u) = omega (arith, sum_by-cons h Audio [])
  kinds_sum h (Some v) (Some u) = omega (arith, sum_by-cons h Video (Audio ∷ []), sum_by-cons h Audio [])

  counted_sum : (once : ℕ) (x y : Option ℕ) → (x ≡ None → y ≡ None → ⊥) → counted once x y ≡ unwrap_or x 0 + unwrap_or y 0
  counted_sum once None None h = absurd (h refl refl)
  counted_sum once None (Some y) h = omega arith
  counted_sum once (Some x) y h = refl

  module _ (m : Mapping) (sequence : ℕ) (part : Part) (asked : Asked) (first : CheckedPiece) (cs : List CheckedPiece) (pieces : List Piece) where
    kind_counted : (kind : Kind) (n : ℕ) → n ≡ cells g (unwrap_or part.length_ms (milliseconds (lead_end part.start (timeline (map (source_of o.files edits (first_of_kind kind)) pieces)).lead)))
        → each_in_turn (checked o.files edits asked) pieces ≡ Ok (first ∷ cs) → Numbered (number_of kind asked) (checked_track kind first)
        → if_some (number_of kind asked) n ≡ unwrap_or (option_map (track_cells g part) (seen_due m sequence kind first (rows_alone kind (first ∷ cs)))) 0
    kind_counted kind n n_is each (inl (none, absent)) =
        ap (λ (x : Option ℕ). if_some x n) none
        ∙ sym (ap (λ (track : Option GoodTrack). unwrap_or (option_map (track_cells g part) (option_map (λ (t : GoodTrack). (facts_due m sequence kind t, rows_alone kind (first ∷ cs))) track)) 0) absent)
    kind_counted kind n n_is each (inr (one, (t, there))) =
        ap (λ (x : Option ℕ). if_some x n) one ∙ n_is
        ∙ ap (λ (ps : List SourcePiece). cells g (unwrap_or part.length_ms (milliseconds (lead_end part.start (timeline ps).lead)))) (sources_alone o.files edits kind asked one pieces (first ∷ cs) each)
        ∙ sym (ap (λ (track : Option GoodTrack). unwrap_or (option_map (track_cells g part) (option_map (λ (t : GoodTrack). (facts_due m sequence kind t, rows_alone kind (first ∷ cs))) track)) 0) there)

    none_seen : (kind : Kind) → Numbered (number_of kind asked) (checked_track kind first) → option_map (track_cells g part) (seen_due m sequence kind first (rows_alone kind (first ∷ cs))) ≡ None → number_of kind asked ≡ None
    none_seen kind (inl (none, absent)) e = none
    none_seen kind (inr (one, (t, there))) e = absurd (
        let is : option_map (track_cells g part) (seen_due m sequence kind first (rows_alone kind (first ∷ cs))) ≡ Some (track_cells g part (facts_due m sequence kind t, rows_alone kind (first ∷ cs))) =
        ap (λ (track : Option GoodTrack). option_map (track_cells g part) (option_map (λ (t : GoodTrack). (facts_due m sequence kind t, rows_alone kind (first ∷ cs))) track)) there in
        let both : ◌≡◌ {A = Option ℕ} (Some (track_cells g part (facts_due m sequence kind t, rows_alone kind (first ∷ cs)))) None = sym is ∙ e in cc)

  -- ---- a part that is found

  found_cells : (m : Mapping) (sequence : ℕ) (s : CheckedSequence) (k : ℕ) (part : Part) (rest : List Part) (pf : PartFound) → drop k s.timeline.parts ≡ part ∷ rest → part_found o.files edits (part_pieces s.timeline part) ≡ Ok pf
      → lists.part_cells o a s (k, part_view (part, pf)) ≡ part_cells g (part_kept m sequence (part, pf))
  found_cells m sequence s k part rest pf at e = by (part_pieces s.timeline part) refl e
    where
      kind_by : (pieces : List Piece) (kind : Kind) → part_pieces s.timeline part ≡ pieces
          → kind_cells o a s k kind ≡ cells g (unwrap_or part.length_ms (milliseconds (lead_end part.start (timeline (map (source_of o.files edits (first_of_kind kind)) pieces)).lead)))
      kind_by pieces kind is =
          kind_is s k part rest kind at
          ∙ ap (λ (ps : List Piece). cells g (unwrap_or part.length_ms (milliseconds (lead_end part.start (timeline (map (source_of o.files edits (first_of_kind kind)) ps)).lead)))) is

      by : (pieces : List Piece) → part_pieces s.timeline part ≡ pieces → part_found o.files edits pieces ≡ Ok pf → lists.part_cells o a s (k, part_view (part, pf)) ≡ part_cells g (part_kept m sequence (part, pf))
      by [] is e =
          let none : PartFound = record { first = None; pieces = [] } in
          let same : none ≡ pf = cc in
          subst (λ (pf : PartFound). lists.part_cells o a s (k, part_view (part, pf)) ≡ part_cells g (part_kept m sequence (part, pf))) same (kind_by [] Video is)
      by (first ∷ later) is e =
          let f = bind_ok (first_found o.files edits first) _ pf e in
          let cs = bind_ok (each_in_turn (checked o.files edits f.0.0) later) _ pf f.2 in
          let made : PartFound = record { first = Some f.0; pieces = f.0.1 ∷ cs.0 } in
          let same : made ≡ pf = (let h = cs.2 in cc) in
          let of = asked_of_first first f.0 f.1 in
          let each : each_in_turn (checked o.files edits f.0.0) (first ∷ later) ≡ Ok (f.0.1 ∷ cs.0) =
          ap₂ (λ (r : Result CheckedPiece Refusal) (rs : Result (List CheckedPiece) Refusal). r >>= λ y. rs >>= λ ys. Ok (y ∷ ys)) (first_parts o.files edits first f.0 f.1).1 cs.1 in
          subst (λ (pf : PartFound). lists.part_cells o a s (k, part_view (part, pf)) ≡ part_cells g (part_kept m sequence (part, pf))) same
          (kinds_sum (kind_cells o a s k) f.0.0.video f.0.0.audio
          ∙ ap₂ (λ (x y : ℕ). x + y)
          (kind_counted m sequence part f.0.0 f.0.1 cs.0 (first ∷ later) Video (kind_cells o a s k Video) (kind_by (first ∷ later) Video is) each (of.kinds Video))
          (kind_counted m sequence part f.0.0 f.0.1 cs.0 (first ∷ later) Audio (kind_cells o a s k Audio) (kind_by (first ∷ later) Audio is) each (of.kinds Audio))
          ∙ sym (counted_sum (cells g (length_seen part [])) (option_map (track_cells g part) (seen_due m sequence Video f.0.1 (rows_alone Video (f.0.1 ∷ cs.0)))) (option_map (track_cells g part) (seen_due m sequence Audio f.0.1 (rows_alone Audio (f.0.1 ∷ cs.0))))
          (λ v u. of.some (none_seen m sequence part f.0.0 f.0.1 cs.0 (first ∷ later) Video (of.kinds Video) v) (none_seen m sequence part f.0.0 f.0.1 cs.0 (first ∷ later) Audio (of.kinds Audio) u))))

  -- ---- all parts, and all sequences

  drop_next : (k : ℕ) (ps : List Part) (p : Part) (rest : List Part) → drop k ps ≡ p ∷ rest → drop (k + 1) ps ≡ rest
  drop_next k ps p rest e = sym (drop-drop 1 k ps) ∙ ap (drop 1) e

  parts_cells : (m : Mapping) (sequence : ℕ) (s : CheckedSequence) (k : ℕ) (xs : List Part) (fs : List FoundPart) → drop k s.timeline.parts ≡ xs → each_in_turn (found_in o.files edits s.timeline) xs ≡ Ok fs
      → sum_by (lists.part_cells o a s) (enumerate_from k (map part_view fs)) ≡ sum_by (part_cells g) (map (part_kept m sequence) fs)
  parts_cells m sequence s k [] fs at e =
      let none : [] ≡ fs = cc in
      subst (λ (fs : List FoundPart). sum_by (lists.part_cells o a s) (enumerate_from k (map part_view fs)) ≡ sum_by (part_cells g) (map (part_kept m sequence) fs)) none refl
  parts_cells m sequence s k (x ∷ xs) fs at e =
      let f = bind_ok (found_in o.files edits s.timeline x) _ fs e in
      let rest = bind_ok (each_in_turn (found_in o.files edits s.timeline) xs) _ fs f.2 in
      let same : f.0 ∷ rest.0 ≡ fs = (let h = rest.2 in cc) in
      let pf = bind_ok (part_found o.files edits (part_pieces s.timeline x)) _ f.0 f.1 in
      let is : (x, pf.0) ≡ f.0 = (let h = pf.2 in cc) in
      let one : lists.part_cells o a s (k, part_view f.0) ≡ part_cells g (part_kept m sequence f.0) =
      subst (λ (f : FoundPart). lists.part_cells o a s (k, part_view f) ≡ part_cells g (part_kept m sequence f)) is (found_cells m sequence s k x xs pf.0 at pf.1) in
      let later = parts_cells m sequence s (k + 1) xs rest.0 (drop_next k s.timeline.parts x xs at) rest.1 in
      subst (λ (fs : List FoundPart). sum_by (lists.part_cells o a s) (enumerate_from k (map part_view fs)) ≡ sum_by (part_cells g) (map (part_kept m sequence) fs)) same
      (sum_by-cons (lists.part_cells o a s) (k, part_view f.0) (enumerate_from (k + 1) (map part_view rest.0)) ∙ ap₂ (λ (i j : ℕ). i + j) one later
      ∙ sym (sum_by-cons (part_cells g) (part_kept m sequence f.0) (map (part_kept m sequence) rest.0)))

  abbrev pub seen_cells : SequenceSeen → ℕ
  seen_cells s = sum_by (part_cells g) s.parts

  one_found : (m : Mapping) (sequence : ℕ) (f : SequenceFound) → sequence_found o a sequence ≡ Ok f → lists.sequence_cells o a (sequence_view f) ≡ seen_cells (sequence_kept m f)
  one_found m sequence f e =
      let t = bind_ok (timeline_asked o a sequence) _ f e in
      let fs = bind_ok (each_in_turn (found_in o.files edits t.0) t.0.parts) _ f t.2 in
      let made : SequenceFound = record { number = sequence; timeline = t.0; parts = fs.0 } in
      let same : made ≡ f = (let h = fs.2 in cc) in
      subst (λ (f : SequenceFound). lists.sequence_cells o a (sequence_view f) ≡ seen_cells (sequence_kept m f)) same
      (parts_cells m sequence (sequence_view made) 0 t.0.parts fs.0 refl fs.1)

  pub all_found : (m : Mapping) (ns : List ℕ) (fs : List SequenceFound) → each_in_turn (sequence_found o a) ns ≡ Ok fs → sum_by (lists.sequence_cells o a) (map sequence_view fs) ≡ sum_by seen_cells (map (sequence_kept m) fs)
  all_found m [] fs e =
      let none : [] ≡ fs = cc in
      subst (λ (fs : List SequenceFound). sum_by (lists.sequence_cells o a) (map sequence_view fs) ≡ sum_by seen_cells (map (sequence_kept m) fs)) none refl
  all_found m (n ∷ ns) fs e =
      let f = bind_ok (sequence_found o a n) _ fs e in
      let rest = bind_ok (each_in_turn (sequence_found o a) ns) _ fs f.2 in
      let same : f.0 ∷ rest.0 ≡ fs = (let h = rest.2 in cc) in
      subst (λ (fs : List SequenceFound). sum_by (lists.sequence_cells o a) (map sequence_view fs) ≡ sum_by seen_cells (map (sequence_kept m) fs)) same
      (sum_by-cons (lists.sequence_cells o a) (sequence_view f.0) (map sequence_view rest.0) ∙ ap₂ (λ (i j : ℕ). i + j) (one_found m n f.0 f.1) (all_found m ns rest.0 rest.1)
      ∙ sym (sum_by-cons seen_cells (sequence_kept m f.0) (map (sequence_kept m) rest.0)))

  pub mapped_sum : {X Y : Type 0} (f : Y → ℕ) (h : X → Y) (xs : List X) → sum_by f (map h xs) ≡ sum_by (λ x. f (h x)) xs
  mapped_sum f h [] = refl
  mapped_sum f h (x ∷ xs) = sum_by-cons f (h x) (map h xs) ∙ ap (λ (n : ℕ). f (h x) + n) (mapped_sum f h xs) ∙ sym (sum_by-cons (λ x. f (h x)) x xs)

  looked_sum : (ss : List LookedSequence) → all_cells g ss ≡ sum_by seen_cells (map sequence_seen ss)
  looked_sum [] = refl
  looked_sum (s ∷ ss) =
      sum_by-cons (sequence_cells g) s ss ∙ ap₂ (λ (i j : ℕ). i + j) (sym (mapped_sum (part_cells g) looked_seen s.parts.items)) (looked_sum ss)
      ∙ sym (sum_by-cons seen_cells (sequence_seen s) (map sequence_seen ss))

  -- the cells that are counted are those of the sequences
  pub cells_found : (fs : List SequenceFound) (ss : List LookedSequence) → AreFound o a fs ss → sum_by (lists.sequence_cells o a) (map sequence_view fs) ≡ all_cells g ss
  cells_found fs ss of = all_found a.mapping (numbers o a) fs of.found ∙ ap (sum_by seen_cells) (sym of.kept) ∙ sym (looked_sum ss)

-- ---- few cells, or too many

pub few_enough : (cells : ℕ) → cells ≤ 100000 → few_cells cells ≡ Ok tt
unfolding few_cells
few_enough cells few = ap (λ b. unless (then_some b (TooManySegments cells))) (le-ltb 100000 cells few)

module _ (o : Setup) (a : Asking) (fs : List SequenceFound) (ss : List LookedSequence) (of : AreFound o a fs ss) where
  pub described_many : (cells : ℕ) → cells ≡ all_cells (grid_in_use o a) ss → 100000 < cells → described_due o a (map sequence_view fs) ≡ Err (TooManySegments cells)
  described_many cells is many =
      ap (λ (r : Result (Unit {0}) Refusal). r >> Ok (manifest (grid_in_use o a).step (periods_due o a (map sequence_view fs))))
      (cells_many cells (sum_by (lists.sequence_cells o a) (map sequence_view fs)) (is ∙ sym (cells_found o a fs ss of)) many)

  pub described_few : {X : Type 0} (view : X → List ℕ) (cells : ℕ) (result : Result X Refusal) → cells ≡ all_cells (grid_in_use o a) ss → cells ≤ 100000
      → IfOk result (λ text. view text ≡ manifest (grid_in_use o a).step (periods_due o a (map sequence_view fs))) → IfErr result (λ refusal. refusal ≡ NoMemory)
      → Answers view result (described_due o a (map sequence_view fs))
  described_few view cells (Ok text) is few text_is only =
      ap (λ (r : Result (Unit {0}) Refusal). r >> Ok (manifest (grid_in_use o a).step (periods_due o a (map sequence_view fs))))
      (few_enough (sum_by (lists.sequence_cells o a) (map sequence_view fs)) (let same = cells_found o a fs ss of in omega (arith, is, few, same)))
      ∙ ap (λ (t : List ℕ). Ok t) (sym text_is)
  described_few view cells (Err e) is few text_is only = λ other. absurd (other only)
