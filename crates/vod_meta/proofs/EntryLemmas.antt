-- The sample entry of a track without a fault.
use Rattle.std.proofs.Common.{◌≡◌, ℕ, ◌≤◌, Bool, true, false, cond, leb, ltb, codes, List, length, take, drop, Option, Some, None, Result, Ok, Err, refl, sym, ap, subst, ◌∙◌, arith, length-drop, length-take}
use Rattle.std.specs.Prelude.{option_map, ok_or, IsSomeAnd, bytes_eq}
use Rattle.std.specs.Bool.{then_some}
use Rattle.std.specs.Result.{result_ok}
use Rattle.std.proofs.lemmas.Bool.{leb-true}
use Rattle.vod_types.specs.declared.tracks.Kind.{Kind}
use Rattle.vod_types.specs.declared.tracks.Kind.TheVariants.{Video, Audio}
use Rattle.vod_types.specs.declared.tracks.TrackName.{TrackName}
use Rattle.vod_types.specs.declared.refusal.TableName.TheVariants.{Stsd}
use Rattle.vod_bytes.specs.Fields.{u32_at}
use Rattle.vod_types.proofs.StepLemmas.{ok_or_ok}
use Rattle.mp4_model.specs.declared.BoxHead.{BoxHead}
use Rattle.mp4_model.specs.declared.TrackFault.{TrackFault}
use Rattle.mp4_model.specs.declared.TrackFault.TheVariants as faults
use Rattle.mp4_model.specs.Boxes.{PlacedBox, header, boxes, whole_box}
use Rattle.mp4_model.specs.Entries.{SampleEntry, first_entry, entry_type, children_after, payload_of_type, is_hevc_type, visual_entry, avc_entry, hevc_entry, video_entry, audio_entry, sample_entry}
use Rattle.mp4_model.specs.Avc.{read_avcc}
use Rattle.mp4_model.specs.Hevc.{read_hvcc}
use Rattle.mp4_model.specs.Movie.{moov_tracks}
use Rattle.mp4_model.specs.Tracks.{Track}
use Rattle.mp4_model.specs.GoodTracks.{GoodTrack, track_view}
use Rattle.mp4_model.proofs.BoxesLemmas.{then_some_some}
use Rattle.mp4_model.proofs.ResultsLemmas.{bind_ok}
use Rattle.mp4_tracks.specs.declared.kept.Tracks.{Tracks}
use Rattle.mp4_tracks.specs.declared.views.TrackPlaces.{TrackPlaces}
use Rattle.mp4_tracks.specs.Made.{IsMadeOf, kept_outcome}
use Rattle.mp4_tracks.specs.Places.{part, tables_by}
use Rattle.mp4_tracks.specs.Views.{track_at, outcome_at}
use Rattle.mp4_tracks.proofs.MovieLemmas.{view-kept}
use Rattle.media_model.specs.InitSegment.{IsEntry}
use Rattle.vod_meta.proofs.FaultPlaces.{bind_some}

-- ---- the entry

first_entry-length : (body entry : List ℕ) → first_entry body ≡ Some entry → length entry ≤ length body
unfolding first_entry
first_entry-length body entry e = by_count (ltb 0 (u32_at body 4)) e
  where
    by_header : (o : Option BoxHead) → option_map (λ (h : BoxHead). take h.size (drop 8 body)) o ≡ Some entry → length entry ≤ length body
    by_header None e = absurd cc
    by_header (Some h) e =
        let same : take h.size (drop 8 body) ≡ entry = cc e in
        omega (arith, ap length same, length-take h.size (drop 8 body), length-drop 8 body)

    by_count : (t : Bool) → cond t (option_map (λ (h : BoxHead). take h.size (drop 8 body)) (header (drop 8 body) (length (drop 8 body)))) None ≡ Some entry → length entry ≤ length body
    by_count true e = by_header (header (drop 8 body) (length (drop 8 body))) e
    by_count false e = absurd cc

module _ (entry : List ℕ) where
  abbrev IsRoomy : Type 0
  IsRoomy = IsSomeAnd (whole_box entry) (λ (b : PlacedBox). 8 ≤ length b.body)

  roomy : (kind payload : List ℕ) → payload_of_type kind entry ≡ Some payload → 8 ≤ length payload → IsRoomy
  roomy kind payload e room =
      let found = bind_some (whole_box entry) (λ (b : PlacedBox). then_some (bytes_eq b.kind kind) b.body) payload e in
      let body = then_some_some (bytes_eq found.0.kind kind) found.0.body payload found.2 in
      let fits : 8 ≤ length found.0.body = omega (arith, room, ap length body.1) in
      subst (λ (o : Option PlacedBox). IsSomeAnd o (λ (b : PlacedBox). 8 ≤ length b.body)) (sym found.1) fits

  children-room : (fields : ℕ) (payload : List ℕ) (children : List PlacedBox) → children_after fields payload ≡ Some children → fields ≤ length payload
  children-room fields payload children e = go (leb fields (length payload)) (result_ok (boxes 0 (drop fields payload))) refl e
    where
      go : (t : Bool) (o : Option (List PlacedBox)) → leb fields (length payload) ≡ t → cond t o None ≡ Some children → fields ≤ length payload
      go true o is e = leb-true fields (length payload) is
      go false o is e = absurd cc

  visual-roomy : {C : Type 0} (kind record_kind : List ℕ) (read : List ℕ → Option C) (used : SampleEntry) → visual_entry kind record_kind read entry ≡ Some used → IsRoomy
  visual-roomy kind record_kind read used e =
      let payload = bind_some (payload_of_type kind entry) _ used e in
      let children = bind_some (children_after 78 payload.0) _ used payload.2 in
      let room = children-room 78 payload.0 children.0 children.1 in
      roomy kind payload.0 payload.1 (omega (arith, room))

  video-roomy : (used : SampleEntry) → video_entry entry ≡ Some used → IsRoomy
  unfolding video_entry
  video-roomy used e = by (is_hevc_type (entry_type entry)) e
    where
      by : (hevc : Bool) → cond hevc (hevc_entry (entry_type entry) entry) (avc_entry entry) ≡ Some used → IsRoomy
      by true e = visual-roomy (entry_type entry) (codes "hvcC") (λ body. read_hvcc body (entry_type entry)) used e
      by false e = visual-roomy (codes "avc1") (codes "avcC") read_avcc used e

  audio-roomy : (used : SampleEntry) → audio_entry entry ≡ Some used → IsRoomy
  unfolding audio_entry
  audio-roomy used e =
      let payload = bind_some (payload_of_type (codes "mp4a") entry) _ used e in
      let children = bind_some _ _ used payload.2 in
      let room = by_version payload.0 children.0 _ children.1 in
      roomy (codes "mp4a") payload.0 payload.1 (omega (arith, room))
    where
      by_version : (payload : List ℕ) (children : List PlacedBox) (t : Bool) → cond t (children_after 28 payload) None ≡ Some children → 28 ≤ length payload
      by_version payload children true e = children-room 28 payload children e
      by_version payload children false e = absurd cc

  entry-roomy : (kind : Kind) (used : SampleEntry) → sample_entry kind entry ≡ Some used → IsRoomy
  entry-roomy Video used e = video-roomy used e
  entry-roomy Audio used e = audio-roomy used e

module _ (moov : List ℕ) where
  part-entry : (kind : Kind) (p : TrackPlaces) (g : GoodTrack) → length moov ≤ 33554432 → track_at moov kind p ≡ Ok g → IsEntry g.entry
  unfolding track_at
  part-entry kind p g short e =
      let body : List ℕ = part moov p.stsd in
      let entry = bind_ok (ok_or (first_entry body) (faults.Table Stsd)) _ g e in
      let used = bind_ok (ok_or (sample_entry kind entry.0) (faults.Codec (entry_type entry.0))) _ g entry.2 in
      let made : ◌≡◌ {A = GoodTrack} (record { timescale = p.timescale; entry = entry.0; config = used.0.config; width = used.0.width; height = used.0.height; tables = tables_by moov p.tables }) g = cc used.2 in
      let same : entry.0 ≡ g.entry = ap (λ (t : GoodTrack). t.entry) made in
      let long = first_entry-length body entry.0 (ok_or_ok (first_entry body) (faults.Table Stsd) entry.0 entry.1) in
      subst IsEntry same (record {
        whole = entry-roomy entry.0 kind used.0 (ok_or_ok (sample_entry kind entry.0) (faults.Codec (entry_type entry.0)) used.0 used.1);
        few = omega (arith, long, short, length-take p.stsd.size (drop p.stsd.at moov), length-drop p.stsd.at moov);
      })

  outcome-entry : (kind : Kind) (r : Result TrackPlaces TrackFault) (g : GoodTrack) → length moov ≤ 33554432 → outcome_at moov kind r ≡ Ok g → IsEntry g.entry
  outcome-entry kind (Ok p) g short e = part-entry kind p g short e
  outcome-entry kind (Err fault) g short e = absurd cc

  -- the track of a name in a movie box
  pub view-entry : (tracks : Tracks) (ts : List Track) (name : TrackName) (g : GoodTrack) → IsMadeOf moov tracks → moov_tracks moov ≡ Ok ts → length moov ≤ 33554432 → track_view ts name ≡ Ok g → IsEntry g.entry
  view-entry tracks ts name g made e short is = outcome-entry name.kind (kept_outcome tracks name) g short (sym (view-kept moov tracks ts name made e) ∙ is)
