-- The timeline of a mapping that keeps the rules keeps the properties of timelines.
use Rattle.std.proofs.Common.{◌≡◌, ℕ, zero, suc, ◌+◌, ◌-◌, ◌*◌, ◌^◌, ◌≤◌, ◌<◌, List, [], ◌∷◌, ◌++◌, length, map, Bool, true, false, cond, Option, Some, None, Ok, Err, refl, ap, ◌∙◌, subst, arith, lit≤, ℤ, pos, negsuc, ◌+ℤ◌, ◌-ℤ◌, ◌≤ℤ◌, ◌<ℤ◌}
use Rattle.std.specs.Prelude.{option_map, unwrap_or, flat_map, sum, sum_by, max, slice_get, IfSome, IfNone, ◌==◌, Result}
use Rattle.std.specs.Int.{IsInRange}
use Rattle.std.specs.List.{AllByRecursion}
use Rattle.std.proofs.lemmas.Int.{ints, clamps}
use Rattle.std.proofs.lemmas.List.{length-map}
use Rattle.std.proofs.lemmas.List.Elements.{All-from_recursion}
use Rattle.std.proofs.lemmas.Option.{same_Some}
use Rattle.std.proofs.lemmas.List.Sums.{sum_by-cons, sum_by-le}
use Rattle.vod_types.specs.declared.tracks.TrackName.{TrackName}
use Rattle.vod_types.specs.declared.paths.Window.{Window}
use Rattle.vod_types.specs.declared.refusal.Refusal.{Refusal}
use Rattle.vod_types.specs.declared.refusal.Refusal.TheVariants.{NoSequence, NothingSelected}
use Rattle.clip_model.specs.declared.Piece.{Piece}
use Rattle.clip_model.specs.declared.Part.{Part}
use Rattle.vod_types.specs.Options.{each}
use Rattle.clip_model.specs.Mapping.{SourceClip, ConcatClip, Clip, source, concat, Sequence, Mapping, sequence_at, file_count, from_zero, concat_length, IsClip, IsConcatClip, IsSequence, IsDurations, IsMapping}
use Rattle.vod_types.specs.Tracks.{default_tracks}
use Rattle.clip_model.specs.Trim.{units, windowed, is_left, is_above}
use Rattle.clip_model.specs.Timeline.{clip_lengths, Placed, placed_from, Span, spans, kept_spans, source_piece, Timeline, parts_from, timeline_of_spans, sequence_timeline, timeline_of}
use Rattle.clip_model.specs.IsTimeline.{Follow, IsTimeline, IsTime, IsPiece, IsPart, InPart, OpenEnd, OpenLength}
use Rattle.vod_types.proofs.StepLemmas.{by_bool}
use Rattle.clip_model.proofs.Chains.{highest, pieces_in, ends_closed, time_in}
use Rattle.clip_model.proofs.TrimLemmas.{end_of}
use Rattle.vod_types.proofs.RuleLemmas.{after_rule, same_ok}
use Rattle.clip_model.proofs.MappingLemmas.{each_weaker}
use Rattle.clip_model.proofs.ClipChains.{shown_units, longest, Row}
use Rattle.clip_model.proofs.TimelineLemmas.{SpanRow, shares, span_files, shares_in, shares_count, shares_chain, parts_in, lengths_closed, parts_follow, parts_of, pieces_in_parts, in_order}

-- ---- clips in their places

pub placed_row : (start : ℕ) (ds : List ℕ) (clips : List Clip) → length clips ≡ length ds → AllByRecursion (IsInRange 1 86400000) ds → AllByRecursion IsClip clips → Row start (placed_from start (map Some ds) clips) (start + sum ds)
placed_row start [] [] e h g = omega arith
placed_row start [] (c ∷ cs) e h g = absurd (omega (arith, e))
placed_row start (d ∷ ds) [] e h g = absurd (omega (arith, e))
placed_row start (d ∷ ds) (c ∷ cs) e h g =
    let same : (start + d) + sum ds ≡ start + sum (d ∷ ds) = omega (arith, sum_by-cons (λ x. x) d ds) in
    let P : ℕ → Type 0 = λ n. Row (start + d) (placed_from (start + d) (map Some ds) cs) n in
    (d, (refl, refl, omega (arith, h.0.1), g.0, subst P same (placed_row (start + d) ds cs (omega (arith, e)) h.1 g.1)))

pub placed_files : (start : ℕ) (ns : List (Option ℕ)) (clips : List Clip) → (length (placed_from start ns clips) ≤ length clips) × (sum_by (λ p. file_count p.clip) (placed_from start ns clips) ≤ sum_by file_count clips)
placed_files start [] [] = (lit≤ tt, lit≤ tt)
placed_files start [] (c ∷ cs) = (omega arith, omega arith)
placed_files start (n ∷ ns) [] = (lit≤ tt, lit≤ tt)
placed_files start (n ∷ ns) (c ∷ cs) =
    let rest = placed_files (start + unwrap_or n 0) ns cs in
    let first : Placed = record { clip = c; start = start; length = n } in
    (omega (arith, rest.0), omega (arith, rest.1, sum_by-cons file_count c cs, sum_by-cons (λ p. file_count p.clip) first (placed_from (start + unwrap_or n 0) ns cs)))

-- ---- parts

pub row_lengths : (at end : ℕ) (ps : List Placed) → Row at ps end → (ns : List ℕ) × (each (λ p. p.length) ps ≡ Some ns) × (at + sum ns ≡ end)
row_lengths at end [] r = ([], refl, omega (arith, r))
row_lengths at end (p ∷ ps) r =
    let rest = row_lengths (at + r.0) end ps r.1.4 in
    (r.0 ∷ rest.0, rw (r.1.1, rest.1) refl, omega (arith, rest.2, sum_by-cons (λ x. x) r.0 rest.0))

abbrev pub single : Placed → Span
single p = record { start = p.start; length = p.length; clips = p ∷ [] }

pub singles_row : (at end : ℕ) (ps : List Placed) → Row at ps end → SpanRow at (map single ps) end
singles_row at end [] r = r
singles_row at end (p ∷ ps) r = (r.0, (r.1.0, r.1.1, (r.0, (r.1.0, r.1.1, r.1.2, r.1.3, refl)), singles_row (at + r.0) end ps r.1.4))

pub spans_row : (apart : Bool) (end : ℕ) (ps : List Placed) → Row 0 ps end → SpanRow 0 (spans apart ps) end
spans_row true end ps r = singles_row 0 end ps r
spans_row false end ps r =
    let ns = row_lengths 0 end ps r in
    let P : ℕ → Type 0 = λ n. Row 0 ps n in
    let total : end ≡ 0 + sum ns.0 = omega (arith, ns.2) in
    (sum ns.0, (refl, ap (option_map sum) ns.1, subst P total r, omega (arith, ns.2)))

pub singles_files : (ps : List Placed) → sum_by span_files (map single ps) ≡ sum_by (λ p. file_count p.clip) ps
singles_files [] = refl
singles_files (p ∷ ps) = sum_by-cons span_files (single p) (map single ps) ∙ ap (λ n. (0 + file_count p.clip) + n) (singles_files ps) ∙ (omega (arith, sum_by-cons (λ q. file_count q.clip) p ps))

pub spans_count : (apart : Bool) (ps : List Placed) → (length (spans apart ps) ≤ max 1 (length ps)) × (sum_by span_files (spans apart ps) ≡ sum_by (λ p. file_count p.clip) ps)
spans_count true ps = (let same : length (map single ps) ≡ length ps = length-map ps single in omega (arith, same), singles_files ps)
spans_count false ps = (omega arith, omega arith)

-- ---- clips with lengths

pub lasting_in : (w : Window) (root : List ℕ) (tracks : List TrackName) (apart : Bool) (end : ℕ) (ps : List Placed) → Row 0 ps end → end ≤ longest → length ps ≤ 128 → sum_by (λ p. file_count p.clip) ps ≤ 1024
    → let t = timeline_of_spans (shares w root tracks 0 (kept_spans w (spans apart ps))) in IsTimeline t.pieces t.parts
lasting_in w root tracks apart end ps r short few files =
    let xs = shares w root tracks 0 (kept_spans w (spans apart ps)) in
    let pieces = flat_map (λ s. s.1) xs in
    let parts = parts_from 0 xs in
    let at = shown_units w (units (pos 0)) in
    let last = shown_units w (units (pos end)) in
    let low : pos 0 ≤ℤ at = omega (arith, ints, clamps) in
    let high : last ≤ℤ pos highest = omega (arith, ints, clamps, short) in
    let order : at ≤ℤ last = omega (arith, ints, clamps) in
    let row = spans_row apart end ps r in
    let kept = shares_in w root tracks 0 0 end (spans apart ps) row short in
    let chain = shares_chain 0 at last xs order kept in
    let counted = shares_count w root tracks 0 (spans apart ps) in
    let counts = spans_count apart ps in
    record {
      piece_count = omega (arith, counted.1, counts.1, files);
      part_count = omega (arith, length-parts_from 0 xs, counted.0, counts.0, few);
      each_piece = All-from_recursion IsPiece pieces (pieces_in at last pieces low high chain);
      each_part = All-from_recursion IsPart parts (parts_in 0 0 at last xs low high kept);
      follow = let P : ℕ → Type 0 = λ n. Follow 0 parts n in let same : 0 + length pieces ≡ length pieces = omega arith in subst P same (parts_follow 0 xs);
      of_parts = parts_of 0 0 at last xs kept;
      in_parts = All-from_recursion (InPart parts) pieces (pieces_in_parts [] 0 0 at last xs refl kept);
      in_order = in_order at last pieces chain;
      open_ends = All-from_recursion (OpenEnd pieces) pieces (ends_closed at last pieces pieces chain);
      open_lengths = All-from_recursion (OpenLength parts) parts (lengths_closed 0 0 at last parts xs kept);
    }
  where
    length-parts_from : (first : ℕ) (xs : List (Span × List Piece)) → length (parts_from first xs) ≡ length xs
    length-parts_from first [] = refl
    length-parts_from first (x ∷ xs) = ap suc (length-parts_from (first + length x.1) xs)

-- ---- a source clip without a length

pub open_end_in : (lo b : ℤ) (to : Option ℕ) → pos 0 ≤ℤ (b +ℤ pos 800000000000) → b ≤ℤ pos 0 → pos 0 ≤ℤ lo → IfSome to (λ t. t < 2 ^ 32) → is_above lo (end_of b to) ≡ true → IfSome (end_of b to) IsTime × IfSome (end_of b to) (λ h. lo <ℤ h)
open_end_in lo b None low high begins short e = (tt, tt)
open_end_in lo b (Some t) low high begins short e =
    let above : lo <ℤ (units (pos t) -ℤ b) = grind (arith, ints) in
    (time_in (units (pos t) -ℤ b) (omega (arith, ints, begins, above)) (omega (arith, ints, low, short)), above)

abbrev pub open_clip : SourceClip → Placed
open_clip c = record { clip = source c; start = 0; length = None }

pub open_spans : (apart : Bool) (c : SourceClip) → spans apart (open_clip c ∷ []) ≡ record { start = 0; length = None; clips = open_clip c ∷ [] } ∷ []
open_spans true c = refl
open_spans false c = refl

abbrev pub open_part : Window → ℕ → Part
open_part w count = record { start = units (pos (max 0 w.from - w.from)); length_ms = None; first = 0; count = count }

pub open_piece_in : (w : Window) (root : List ℕ) (tracks : List TrackName) (c : SourceClip) → c.clip_from ≤ 864000000 → w.from < 2 ^ 32 → IfSome w.to (λ t. t < 2 ^ 32)
    → is_left (windowed w (source_piece root tracks 0 0 None c)) ≡ true → IsTimeline (windowed w (source_piece root tracks 0 0 None c) ∷ []) (open_part w 1 ∷ [])
open_piece_in w root tracks c within begins short e =
    let p = windowed w (source_piece root tracks 0 0 None c) in
    let q = open_part w 1 in
    let ends = open_end_in p.lo (units (pos 0 -ℤ pos c.clip_from)) w.to (omega (arith, ints, within, begins)) (omega (arith, ints)) (omega (arith, ints, clamps)) short e in
    record {
      piece_count = lit≤ tt;
      part_count = lit≤ tt;
      each_piece = All-from_recursion IsPiece (p ∷ []) (
        record {
          base = time_in p.base (omega (arith, ints, within, begins)) (omega (arith, ints));
          lo = time_in p.lo (omega (arith, ints, clamps)) (omega (arith, ints, clamps, within, begins));
          hi = ends.0;
          low = omega (arith, ints, clamps);
          above = ends.1;
        },
        tt,
      );
      each_part = All-from_recursion IsPart (q ∷ []) (record { start = time_in q.start (omega (arith, ints)) (omega (arith, ints)); low = omega (arith, ints); length = tt }, tt);
      follow = (refl, refl);
      of_parts = refl;
      in_parts = All-from_recursion (InPart (q ∷ [])) (p ∷ []) (omega (arith, ints, clamps), tt);
      in_order = λ k d h. absurd (omega (arith, h));
      open_ends = All-from_recursion (OpenEnd (p ∷ [])) (p ∷ []) (only_one p.hi, tt);
      open_lengths = All-from_recursion (OpenLength (q ∷ [])) (q ∷ []) ((refl, refl, omega (arith, ints)), tt);
    }
  where
    only_one : (o : Option ℤ) → IfNone o (◌≡◌ {A = ℕ} 1 1)
    only_one None = refl
    only_one (Some x) = tt

pub open_in : (w : Window) (root : List ℕ) (tracks : List TrackName) (apart : Bool) (c : SourceClip) → c.clip_from ≤ 864000000 → w.from < 2 ^ 32 → IfSome w.to (λ t. t < 2 ^ 32)
    → let t = timeline_of_spans (shares w root tracks 0 (kept_spans w (spans apart (open_clip c ∷ [])))) in (length t.pieces == 0) ≡ false → IsTimeline t.pieces t.parts
open_in w root tracks apart c within begins short =
    rw (open_spans apart c)
    (let p = windowed w (source_piece root tracks 0 0 None c) in
    by_bool (is_left p) (p ∷ []) [] (λ qs. (length (qs ++ []) == 0) ≡ false → IsTimeline (qs ++ []) (open_part w (length qs) ∷ []))
    (λ e some. open_piece_in w root tracks c within begins short e)
    (λ e some. absurd (cc)))

-- ---- every timeline

pub each_at : {X : Type 0} (P : X → Type 0) (xs : List X) (k : ℕ) (x : X) → AllByRecursion P xs → slice_get xs k ≡ Some x → P x
each_at P [] k x h e = absurd (cc)
each_at P (y ∷ ys) zero x h e = subst P (same_Some y x e) h.0
each_at P (y ∷ ys) (suc k) x h e = each_at P ys k x h.1 e

pub sequence_at_in : (m : Mapping) (number : ℕ) (s : Sequence) → IsMapping m → sequence_at m number ≡ Some s → IsSequence m.durations s
sequence_at_in m zero s h e = absurd (cc)
sequence_at_in m (suc k) s h e = each_at (IsSequence m.durations) m.sequences k s h.sequences e

abbrev pub clips_timeline : Window → List ℕ → List TrackName → Bool → Option (List ℕ) → List Clip → Timeline
clips_timeline w root tracks apart durations clips = timeline_of_spans (shares w root tracks 0 (kept_spans w (spans apart (placed_from 0 (clip_lengths durations clips) clips))))

pub concat_short : (c : ConcatClip) → IsConcatClip c → from_zero (concat_length c) ≤ longest
concat_short c h = bounded c.offset h.offset_high (sum_by-le (λ f. f.duration) 86400000 c.files (All-from_recursion (λ f. f.duration ≤ 86400000) c.files (each_weaker (λ f. IsInRange 1 86400000 f.duration) (λ f. f.duration ≤ 86400000) c.files (λ f p. p.1) h.durations)))
  where
    from_zero_le : (z : ℤ) (n : ℕ) → z ≤ℤ pos n → from_zero z ≤ n
    from_zero_le (pos m) n h = omega (arith, ints, h)
    from_zero_le (negsuc m) n h = omega arith

    bounded : (z : ℤ) → z ≤ℤ pos 86400000 → sum_by (λ f. f.duration) c.files ≤ length c.files * 86400000 → from_zero (pos (sum_by (λ f. f.duration) c.files) +ℤ z) ≤ longest
    bounded z g total = from_zero_le (pos (sum_by (λ f. f.duration) c.files) +ℤ z) longest (omega (arith, ints, g, total, h.file_count.1))

pub clips_in : (w : Window) (root : List ℕ) (tracks : List TrackName) (apart : Bool) (durations : Option (List ℕ)) (s : Sequence) → IfSome durations IsDurations → IsSequence durations s → w.from < 2 ^ 32 → IfSome w.to (λ t. t < 2 ^ 32)
    → let t = clips_timeline w root tracks apart durations s.clips in (length t.pieces == 0) ≡ false → IsTimeline t.pieces t.parts
clips_in w root tracks apart (Some ds) s lasting h begins short some =
    let ps = placed_from 0 (map Some ds) s.clips in
    let counted = placed_files 0 (map Some ds) s.clips in
    let P : ℕ → Type 0 = λ n. Row 0 ps n in
    let whole : 0 + sum ds ≡ sum ds = omega arith in
    lasting_in w root tracks apart (sum ds) ps (subst P whole (placed_row 0 ds s.clips h.fit lasting.each h.clips)) (omega (arith, lasting.total)) (omega (arith, counted.0, h.fit, lasting.count.1)) (omega (arith, counted.1, h.files))
clips_in w root tracks apart None s lasting h begins short some = one_clip s.clips h.fit.0 h.clips h.files some
  where
    one_clip : (clips : List Clip) → length clips ≡ 1 → AllByRecursion IsClip clips → sum_by file_count clips ≤ 1024
        → let t = clips_timeline w root tracks apart None clips in (length t.pieces == 0) ≡ false → IsTimeline t.pieces t.parts
    one_clip [] e g files some = absurd (omega (arith, e))
    one_clip (source c ∷ []) e g files some = open_in w root tracks apart c g.0 begins short some
    one_clip (concat c ∷ []) e g files some =
        let n = from_zero (concat_length c) in
        let ps = placed_from 0 (Some n ∷ []) (concat c ∷ []) in
        lasting_in w root tracks apart n ps (n, (refl, refl, concat_short c g.0, g.0, omega arith)) (concat_short c g.0) (lit≤ tt) (omega (arith, (placed_files 0 (Some n ∷ []) (concat c ∷ [])).1, files))
    one_clip (c ∷ d ∷ cs) e g files some = absurd (omega (arith, e))

pub timeline_in : (root : List ℕ) (m : Mapping) (number : ℕ) (w : Window) (tracks : Option (List TrackName)) (t : Timeline) → IsMapping m → w.from < 2 ^ 32 → IfSome w.to (λ u. u < 2 ^ 32) → timeline_of root m number w tracks ≡ Ok t → IsTimeline t.pieces t.parts
unfolding timeline_of sequence_timeline
timeline_in root m number w tracks t h begins short =
    let P : Timeline → Type 0 = λ u. IsTimeline u.pieces u.parts in
    after_rule P (sequence_at m number) (NoSequence number (length m.sequences)) _ (λ s at u e.
    let made = clips_timeline w root (unwrap_or tracks default_tracks) m.discontinuity m.durations s.clips in
    let p = chosen (length made.pieces == 0) number made u e in
    subst P p.1 (clips_in w root (unwrap_or tracks default_tracks) m.discontinuity m.durations s h.durations (sequence_at_in m number s h at) begins short p.0)) t
  where
    chosen : (b : Bool) (number : ℕ) (made u : Timeline) → ◌≡◌ {A = Result Timeline Refusal} (cond b (Err (NothingSelected number)) (Ok made)) (Ok u) → (b ≡ false) × (made ≡ u)
    chosen true number made u e = absurd (cc)
    chosen false number made u e = (refl, same_ok made u e)
