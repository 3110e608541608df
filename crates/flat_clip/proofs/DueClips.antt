-- The clip that is due, by its rows.
use Rattle.std.proofs.Common.{◌≡◌, ℕ, ◌+◌, ◌<◌, ◌≤◌, ◌^◌, List, [], ◌∷◌, length, map, All, Option, Some, None, IfSome, Result, Ok, Err, refl, sym, ap, ◌∙◌, subst, arith}
use Rattle.std.specs.Prelude.{find, nat_lt, option_map, ◌==◌}
use Rattle.std.specs.Bool.{then_some}
use Rattle.std.proofs.lemmas.Bool.{lt-ltb, le-ltb}
use Rattle.std.proofs.lemmas.List.{length-map}
use Rattle.std.proofs.lemmas.List.Elements.{All-nil}
use Rattle.vod_types.specs.declared.refusal.Refusal.{Refusal}
use Rattle.vod_types.specs.declared.refusal.Refusal.TheVariants.{SegmentTooLarge, EmptyClip, TooManySamples}
use Rattle.vod_types.specs.declared.segments.Form.TheVariants.{Fmp4}
use Rattle.vod_types.specs.declared.segments.Row.{Row}
use Rattle.vod_types.specs.declared.tracks.Asked.{Asked}
use Rattle.vod_types.specs.declared.tracks.Kind.{Kind}
use Rattle.vod_types.specs.declared.tracks.Kind.TheVariants.{Video, Audio}
use Rattle.vod_types.specs.Results.{◌>>◌, unless}
use Rattle.vod_types.specs.Tracks.{lead_of}
use Rattle.mp4_model.specs.GoodTracks.{GoodTrack}
use Rattle.segment_model.specs.Rows.{TimedRow, written_row}
use Rattle.segment_model.specs.Timeline.{TrackRows, rows_of, timeline, written_rows}
use Rattle.media_model.specs.Clip.{ClipTrack, IfRows}
use Rattle.media_model.specs.Fragment.{sizes}
use Rattle.origin_model.specs.Clips.{PlannedClip, checked_clip, clip_track}
use Rattle.origin_model.specs.Loaded.{CheckedPiece}
use Rattle.origin_model.specs.Sources.{source_piece}
use Rattle.flat_samples.specs.Checks.{AreSound, IsSound}
use Rattle.flat_clip.specs.Rows.{ClipFacts, as_facts, counts_checked, planned_facts, IsSmallClip}
use Rattle.flat_clip.specs.Tracks.{HasRoom, IsClipRow, IsSmallTrack}
use Rattle.flat_clip.proofs.EntryLemmas.{has_reference}
use Rattle.flat_clip.proofs.PieceLemmas.{rows-few}

-- ---- steps

stopped : {A : Type 0} (a b : Result (Unit {0}) Refusal) (r : Result A Refusal) (e : Refusal) → (a >> b) ≡ Err e → (a >> (b >> r)) ≡ Err e
stopped (Ok x) (Ok y) r e h = absurd cc
stopped (Ok x) (Err d) r e h = let same : d ≡ e = cc in ap Err same
stopped (Err d) b r e h = let same : d ≡ e = cc in ap Err same

passed : {A : Type 0} (a b : Result (Unit {0}) Refusal) (r : Result A Refusal) (x : Unit {0}) → (a >> b) ≡ Ok x → (a >> (b >> r)) ≡ r
passed (Ok y) (Ok z) r x h = refl
passed (Ok y) (Err d) r x h = absurd cc
passed (Err d) b r x h = absurd cc

-- ---- the clip of a piece

module _ (sequence : ℕ) (asked : Asked) (c : CheckedPiece) where
  abbrev all_rows : TrackRows
  all_rows = timeline (source_piece c ∷ [])

  abbrev written : Kind → List Row
  written kind = written_rows Fmp4 asked kind all_rows

  abbrev planned : PlannedClip
  planned = record { piece = c; video = written Video; audio = written Audio }

  abbrev bytes : ℕ
  bytes = sizes (written Video) + sizes (written Audio)

  pub due-counts : (found : TrackRows) (e : Refusal) → found ≡ all_rows → counts_checked sequence found ≡ Err e → as_facts (checked_clip sequence asked c) ≡ Err e
  unfolding checked_clip
  due-counts found e is h =
      ap as_facts
      (stopped (unless (then_some (length all_rows.lead == 0) (EmptyClip sequence)))
      (unless (option_map (λ count. TooManySamples count) (find (nat_lt 2000000) (length all_rows.lead ∷ length all_rows.other ∷ []))))
      (unless (then_some (nat_lt (2 ^ 40) bytes) (SegmentTooLarge bytes)) >> Ok planned) e (sym (ap (counts_checked sequence) is) ∙ h))

  after-counts : (found : TrackRows) (x : Unit {0}) → found ≡ all_rows → counts_checked sequence found ≡ Ok x
      → checked_clip sequence asked c ≡ (unless (then_some (nat_lt (2 ^ 40) bytes) (SegmentTooLarge bytes)) >> Ok planned)
  unfolding checked_clip
  after-counts found x is h =
      passed (unless (then_some (length all_rows.lead == 0) (EmptyClip sequence)))
      (unless (option_map (λ count. TooManySamples count) (find (nat_lt 2000000) (length all_rows.lead ∷ length all_rows.other ∷ []))))
      (unless (then_some (nat_lt (2 ^ 40) bytes) (SegmentTooLarge bytes)) >> Ok planned) x (sym (ap (counts_checked sequence) is) ∙ h)

  pub due-large : (found : TrackRows) (x : Unit {0}) (n : ℕ) → found ≡ all_rows → counts_checked sequence found ≡ Ok x → n ≡ bytes → 2 ^ 40 < n
      → as_facts (checked_clip sequence asked c) ≡ Err (SegmentTooLarge n)
  due-large found x n is h counted large =
      ap as_facts (after-counts found x is h)
      ∙ rw (lt-ltb (2 ^ 40) bytes (subst (λ (n : ℕ). 2 ^ 40 < n) counted large), counted) refl

  pub due-clip : (found : TrackRows) (x : Unit {0}) (n : ℕ) → found ≡ all_rows → counts_checked sequence found ≡ Ok x → n ≡ bytes → n ≤ 2 ^ 40
      → as_facts (checked_clip sequence asked c) ≡ Ok (planned_facts planned)
  due-clip found x n is h counted few =
      ap as_facts (after-counts found x is h)
      ∙ rw (le-ltb (2 ^ 40) bytes (subst (λ (n : ℕ). n ≤ 2 ^ 40) counted few)) refl

-- ---- the tracks are small

entry-short : (o : Option GoodTrack) (rows : List Row) → IfSome o IsSound → length (clip_track o rows).entry ≤ 33554432
entry-short None rows sound = omega arith
entry-short (Some t) rows sound = sound.entry.few

any_rows : (rows : List Row) (P : Type 0) → P → IfRows rows P
any_rows [] P h = tt
any_rows (row ∷ rows) P h = h

room : (o : Option GoodTrack) (rows : List Row) → IfSome o IsSound → IfRows (clip_track o rows).rows (HasRoom (clip_track o rows).entry)
room None rows sound = tt
room (Some t) rows sound = any_rows rows (HasRoom t.entry) (has_reference t.entry sound.entry)

few-rows : (o : Option GoodTrack) (rows : List Row) (most : ℕ) → length rows ≤ most → length (clip_track o rows).rows ≤ most
few-rows None rows most few = omega arith
few-rows (Some t) rows most few = few

few-bytes : (o : Option GoodTrack) (rows : List Row) → sizes (clip_track o rows).rows ≤ sizes rows
few-bytes None rows = omega arith
few-bytes (Some t) rows = omega arith

each-row : (o : Option GoodTrack) (rows : List Row) → All IsClipRow rows → All IsClipRow (clip_track o rows).rows
each-row None rows each = All-nil IsClipRow
each-row (Some t) rows each = each

small : (o : Option GoodTrack) (rows : List Row) (t : ClipTrack) → t ≡ clip_track o rows → length rows ≤ 2000000 → IfSome o IsSound → All IsClipRow rows → IsSmallTrack t
small o rows t is few sound each = subst IsSmallTrack (sym is) (record { few = few-rows o rows 2000000 few; short = entry-short o rows sound; room = room o rows sound; rows = each-row o rows each })

module _ (asked : Asked) (c : CheckedPiece) (found : TrackRows) (is : found ≡ timeline (source_piece c ∷ [])) where
  -- rows of samples of a kind are those of the clip
  pub written-is : (kind : Kind) (samples : List TimedRow) (rows : List Row) → samples ≡ rows_of (lead_of asked) kind found → rows ≡ map (written_row Fmp4) samples
      → rows ≡ written_rows Fmp4 asked kind (timeline (source_piece c ∷ []))
  written-is kind samples rows of shown =
      shown ∙ ap (map (written_row Fmp4)) of ∙ ap (λ (rows : TrackRows). map (written_row Fmp4) (rows_of (lead_of asked) kind rows)) is

  -- and there are few
  pub few-is : (kind : Kind) (samples : List TimedRow) (rows : List Row) → length found.lead ≤ 2000000 → length found.other ≤ 2000000
      → samples ≡ rows_of (lead_of asked) kind found → rows ≡ map (written_row Fmp4) samples → length rows ≤ 2000000
  few-is kind samples rows lead other of shown =
      let many = length-map samples (written_row Fmp4) in
      let few = rows-few (lead_of asked) kind found 2000000 lead other in
      let one = ap (λ (rows : List Row). length rows) shown in
      let two = ap (λ (rows : List TimedRow). length rows) of in
      omega (arith, many, few, one, two)

module _ (sequence : ℕ) (asked : Asked) (c : CheckedPiece) (video audio : List Row)
    (video_is : video ≡ written_rows Fmp4 asked Video (timeline (source_piece c ∷ [])))
    (audio_is : audio ≡ written_rows Fmp4 asked Audio (timeline (source_piece c ∷ []))) where
  -- how many bytes they have
  pub bytes-is : (v a : ℕ) → v ≡ sizes video → a ≡ sizes audio → v + a ≡ bytes sequence asked c
  bytes-is v a counted counted_audio = omega (arith, counted, counted_audio, ap sizes video_is, ap sizes audio_is)

  module _ (v a : ClipTrack) (v_is : v ≡ clip_track c.video video) (a_is : a ≡ clip_track c.audio audio) where
    -- the clip of them
    pub facts-are : (name : List ℕ) (size : ℕ) → name ≡ c.piece.name → size ≡ c.file_size
        → ◌≡◌ {A = Result ClipFacts Refusal} (Ok (planned_facts (planned sequence asked c))) (Ok (record { name = name; size = size; video = v; audio = a }))
    facts-are name size n s = rw (v_is, a_is, n, s, video_is, audio_is) refl

    pub small-clip : length video ≤ 2000000 → length audio ≤ 2000000 → AreSound c → All IsClipRow video → All IsClipRow audio → (name : List ℕ) (size n : ℕ)
        → n ≡ bytes sequence asked c → n ≤ 2 ^ 40 → IsSmallClip (record { name = name; size = size; video = v; audio = a })
    small-clip video_few audio_few sound video_each audio_each name size n counted few = record {
      video = small c.video video v v_is video_few sound.0 video_each;
      audio = small c.audio audio a a_is audio_few sound.1 audio_each;
      bytes = (
          let same = bytes-is (sizes video) (sizes audio) refl refl in
          omega (arith, same, counted, few, few-bytes c.video video, few-bytes c.audio audio, ap (λ (t : ClipTrack). sizes t.rows) v_is, ap (λ (t : ClipTrack). sizes t.rows) a_is)
          );
    }
