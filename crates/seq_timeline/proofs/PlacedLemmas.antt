-- The clips of a sequence of a mapping that keeps the rules, in their places.
use Rattle.std.proofs.Common.{◌≡◌, ℕ, zero, suc, ◌+◌, ◌≤◌, ◌<◌, ◌⊎◌, inl, inr, Bool, true, false, Ok, Err, ℤ, pos, negsuc, ◌≤ℤ◌, List, [], ◌∷◌, length, map, Option, Some, None, refl, ap, sym, ◌∙◌, subst, arith, lit≤}
use Rattle.std.specs.Prelude.{Result, IfOk, unwrap_or, slice_get, ◌==◌, unsigned_abs, option_map, sum, sum_by, IfSome}
use Rattle.std.specs.List.{AllByRecursion}
use Rattle.std.proofs.lemmas.Int.{ints}
use Rattle.vod_types.specs.declared.tracks.TrackName.{TrackName}
use Rattle.vod_types.specs.declared.paths.Window.{Window}
use Rattle.vod_types.specs.declared.refusal.Refusal.TheVariants.{NoSequence, NothingSelected}
use Rattle.vod_types.specs.Tracks.{default_tracks}
use Rattle.vod_types.proofs.StepLemmas.{option_mapped}
use Rattle.clip_model.specs.Mapping.{Clip, source, concat, IsClip, Sequence, IsSequence, Mapping, IsMapping, sequence_at, from_zero, concat_length, file_count, IsDurations}
use Rattle.clip_model.specs.Timeline.{clip_lengths, Placed, placed_from, Timeline, sequence_timeline, timeline_of}
use Rattle.seq_timeline.specs.Spans.{timeline_of_clips}
use Rattle.clip_model.proofs.ClipChains.{Row, row_order}
use Rattle.clip_model.proofs.TimelineKept.{placed_row, placed_files, sequence_at_in, concat_short}
use Rattle.seq_timeline.specs.Bounds.{longest, IsPlaced, ArePlaced}

pub record Fits (durations : Option (List ℕ)) (cs : List Clip) : Type 0 where
  pub durations_fit : IfSome durations (λ ds. length ds ≡ length cs)
  pub count : length cs ≤ 128
  pub each : AllByRecursion IsClip cs

row_placed : (at end : ℕ) (ps : List Placed) → Row at ps end → end ≤ longest → AllByRecursion IsPlaced ps
row_placed at end [] r short = tt
row_placed at end (p ∷ ps) r short =
    let P : Option ℕ → Type 0 = λ o. IfSome o (λ n. n ≤ longest) in
    let order = row_order (at + r.0) end ps r.1.4 in
    (record { start = omega (arith, r.1.0, order, short); length = subst P (sym r.1.1) r.1.2; clip = r.1.3 }, row_placed (at + r.0) end ps r.1.4 short)

clips_fit : (durations : Option (List ℕ)) (s : Sequence) → IfSome durations IsDurations → IsSequence durations s → Fits durations s.clips
clips_fit (Some ds) s lasting h = record { durations_fit = sym h.fit; count = omega (arith, h.fit, lasting.count.1); each = h.clips }
clips_fit None s lasting h = record { durations_fit = tt; count = omega (arith, h.fit.0); each = h.clips }

clips_placed : (durations : Option (List ℕ)) (s : Sequence) → IfSome durations IsDurations → IsSequence durations s → ArePlaced (placed_from 0 (clip_lengths durations s.clips) s.clips)
clips_placed (Some ds) s lasting h =
    let counted = placed_files 0 (map Some ds) s.clips in
    record {
      count = omega (arith, counted.0, h.fit, lasting.count.1);
      files = omega (arith, counted.1, h.files);
      each = row_placed 0 (0 + sum ds) (placed_from 0 (map Some ds) s.clips) (placed_row 0 ds s.clips h.fit lasting.each h.clips) (omega (arith, lasting.total));
    }
clips_placed None s lasting h = one_clip s.clips h.fit.0 h.clips h.files
  where
    one_clip : (cs : List Clip) → length cs ≡ 1 → AllByRecursion IsClip cs → sum_by file_count cs ≤ 1024 → ArePlaced (placed_from 0 (clip_lengths None cs) cs)
    one_clip [] e g files = absurd (omega (arith, e))
    one_clip (source c ∷ []) e g files = record {
      count = lit≤ tt;
      files = lit≤ tt;
      each = (record { start = lit≤ tt; length = tt; clip = g.0 }, tt);
    }
    one_clip (concat c ∷ []) e g files =
        let n = from_zero (concat_length c) in
        record {
          count = lit≤ tt;
          files = omega (arith, (placed_files 0 (Some n ∷ []) (concat c ∷ [])).1, files);
          each = (record { start = lit≤ tt; length = concat_short c g.0; clip = g.0 }, tt);
        }
    one_clip (c ∷ d ∷ cs) e g files = absurd (omega (arith, e))

-- the sequence of these clips
pub sequence_of_clips : (m : Mapping) (number : ℕ) (cs : List Clip) → Some cs ≡ option_map (λ s. s.clips) (sequence_at m number) → (s : Sequence) × (sequence_at m number ≡ Some s) × (s.clips ≡ cs)
sequence_of_clips m number cs e = option_mapped (λ s. s.clips) (sequence_at m number) cs (sym e)

pub mapped_fit : (m : Mapping) (number : ℕ) (cs : List Clip) → IsMapping m → Some cs ≡ option_map (λ s. s.clips) (sequence_at m number) → Fits m.durations cs
mapped_fit m number cs h e =
    let found = sequence_of_clips m number cs e in
    subst (Fits m.durations) found.2 (clips_fit m.durations found.0 h.durations (sequence_at_in m number found.0 h found.1))

pub mapped_placed : (m : Mapping) (number : ℕ) (cs : List Clip) → IsMapping m → Some cs ≡ option_map (λ s. s.clips) (sequence_at m number) → ArePlaced (placed_from 0 (clip_lengths m.durations cs) cs)
mapped_placed m number cs h e =
    let found = sequence_of_clips m number cs e in
    let P : List Clip → Type 0 = λ ds. ArePlaced (placed_from 0 (clip_lengths m.durations ds) ds) in
    subst P found.2 (clips_placed m.durations found.0 h.durations (sequence_at_in m number found.0 h found.1))

pub abs_within : (z : ℤ) (n : ℕ) → pos 0 ≤ℤ z → z ≤ℤ pos n → unsigned_abs z ≤ n
abs_within (pos m) n low high = omega (arith, ints, high)
abs_within (negsuc m) n low high = absurd (omega (arith, ints, low))

-- ---- the timeline of the sequence

pub timeline_found : (root : List ℕ) (tracks : List TrackName) (w : Window) (m : Mapping) (number : ℕ) (cs : List Clip) (apart : Bool) (ps : List Placed) (t : Timeline) → Some cs ≡ option_map (λ s. s.clips) (sequence_at m number)
    → ps ≡ placed_from 0 (clip_lengths m.durations cs) cs → apart ≡ m.discontinuity → t ≡ timeline_of_clips root tracks w apart ps → option_map (sequence_timeline root tracks m w) (sequence_at m number) ≡ Some t
unfolding sequence_timeline
timeline_found root tracks w m number cs apart ps t e ps_are apart_is t_is =
    let found = sequence_of_clips m number cs e in
    let made = λ (b : Bool) (qs : List Placed). timeline_of_clips root tracks w b qs in
    let placed = λ (ds : List Clip). placed_from 0 (clip_lengths m.durations ds) ds in
    rw found.1 (ap Some (sym (t_is ∙ ap (λ b. made b ps) apart_is ∙ ap (made m.discontinuity) ps_are ∙ ap (λ ds. made m.discontinuity (placed ds)) (sym found.2))))

pub if_ok_then : {A E : Type 0} (P Q : A → Type 0) (r : Result A E) → ((x : A) → P x → Q x) → IfOk r P → IfOk r Q
if_ok_then P Q (Ok x) f h = f x h
if_ok_then P Q (Err e) f h = tt

pub nothing_selected : (root : List ℕ) (m : Mapping) (number : ℕ) (w : Window) (tracks : Option (List TrackName)) (t : Timeline) → option_map (sequence_timeline root (unwrap_or tracks default_tracks) m w) (sequence_at m number) ≡ Some t
    → (length t.pieces == 0) ≡ true → timeline_of root m number w tracks ≡ Err (NothingSelected number)
unfolding timeline_of
nothing_selected root m number w tracks t made none =
    let found = option_mapped (sequence_timeline root (unwrap_or tracks default_tracks) m w) (sequence_at m number) t made in
    rw (found.1, found.2, none) refl

pub some_selected : (root : List ℕ) (m : Mapping) (number : ℕ) (w : Window) (tracks : Option (List TrackName)) (t : Timeline) → option_map (sequence_timeline root (unwrap_or tracks default_tracks) m w) (sequence_at m number) ≡ Some t
    → (length t.pieces == 0) ≡ false → timeline_of root m number w tracks ≡ Ok t
unfolding timeline_of
some_selected root m number w tracks t made some =
    let found = option_mapped (sequence_timeline root (unwrap_or tracks default_tracks) m w) (sequence_at m number) t made in
    rw (found.1, found.2, some) refl

-- no sequence has the number 0 or one above the last
pub no_sequence : (root : List ℕ) (m : Mapping) (number : ℕ) (w : Window) (tracks : Option (List TrackName)) (have : ℕ) → have ≡ length m.sequences → (number ≡ 0) ⊎ (have < number) → timeline_of root m number w tracks ≡ Err (NoSequence number have)
unfolding timeline_of
no_sequence root m zero w tracks have e h = ap (λ n. Err (NoSequence 0 n)) (sym e)
no_sequence root m (suc k) w tracks have e (inl h) = absurd (cc)
no_sequence root m (suc k) w tracks have e (inr h) =
    rw (past m.sequences k (omega (arith, e, h))) (ap (λ n. Err (NoSequence (suc k) n)) (sym e))
  where
    past : (xs : List Sequence) (i : ℕ) → length xs ≤ i → slice_get xs i ≡ None
    past [] i h = refl
    past (x ∷ xs) zero h = absurd (omega (arith, h))
    past (x ∷ xs) (suc i) h = past xs i (omega (arith, h))
