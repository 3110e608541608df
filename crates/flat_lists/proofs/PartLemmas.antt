-- The tracks of the parts of a sequence.
use Rattle.std.proofs.Common.{◌≡◌, ℕ, suc, ◌+◌, List, [], ◌∷◌, ◌++◌, length, map, Option, Some, None, Result, Ok, Err, OnOk, refl, sym, ap, ap₂, ◌∙◌, arith, append_assoc, append-nil}
use Rattle.std.specs.Prelude.{option_map}
use Rattle.std.proofs.lemmas.List.{length-map, map-append}
use Rattle.vod_types.specs.declared.refusal.Refusal.{Refusal}
use Rattle.vod_types.specs.declared.tracks.Kind.{Kind}
use Rattle.vod_types.specs.declared.tracks.Kind.TheVariants.{Video, Audio}
use Rattle.mp4_model.specs.GoodTracks.{GoodTrack}
use Rattle.clip_model.specs.Mapping.{Mapping}
use Rattle.segment_model.specs.Rows.{TimedRow}
use Rattle.segment_model.specs.Timeline.{SourcePiece, TrackRows, timeline, timeline_from, placed_lead, placed_other}
use Rattle.origin_model.specs.Loaded.{CheckedPiece}
use Rattle.origin_model.specs.Samples.{checked_track}
use Rattle.origin_model.specs.Sources.{source_piece}
use Rattle.flat_samples.specs.Rows.{rows_with}
use Rattle.flat_lists.specs.PartTracks.{Seen, PartSeen, alone, facts_due, no_rows, part_begun, part_due, part_seen, part_with, rows_alone, seen_of, seen_with}
use Rattle.flat_lists.specs.declared.part_tracks.PartTracks.{PartTracks}

-- ---- one more piece

abbrev two : Option Seen → Option Seen → PartSeen
two video audio = record { video = video; audio = audio }

pub part_added : (r : Result (Unit {0}) Refusal) (place : ℕ) (c video audio : CheckedPiece) (old now : PartTracks) → video ≡ alone Video c → audio ≡ alone Audio c
    → option_map seen_of now.video ≡ option_map (λ (s : Seen). (s.0, rows_with s.1 place (source_piece video))) (option_map seen_of old.video)
    → OnOk r (option_map seen_of now.audio ≡ option_map (λ (s : Seen). (s.0, rows_with s.1 place (source_piece audio))) (option_map seen_of old.audio))
    → OnOk r (part_seen now ≡ part_with place c (part_seen old))
part_added (Ok x) place c video audio old now v a seen heard =
    ap₂ two
    (seen ∙ ap (λ (p : CheckedPiece). option_map (λ (s : Seen). (s.0, rows_with s.1 place (source_piece p))) (option_map seen_of old.video)) v)
    (heard ∙ ap (λ (p : CheckedPiece). option_map (λ (s : Seen). (s.0, rows_with s.1 place (source_piece p))) (option_map seen_of old.audio)) a)
part_added (Err e) place c video audio old now v a seen heard = tt

abbrev two_lists : List TimedRow → List TimedRow → TrackRows
two_lists lead other = record { lead = lead; other = other }

timeline_one_more : (file : ℕ) (ps : List SourcePiece) (p : SourcePiece) → timeline_from file (ps ++ p ∷ []) ≡ rows_with (timeline_from file ps) (file + length ps) p
timeline_one_more file [] p =
    let at : file ≡ file + 0 = omega arith in
    ap₂ two_lists (append-nil (placed_lead file p) ∙ ap (λ (n : ℕ). placed_lead n p) at) (append-nil (placed_other file p) ∙ ap (λ (n : ℕ). placed_other n p) at)
timeline_one_more file (q ∷ ps) p =
    let ih = timeline_one_more (suc file) ps p in
    let at : suc file + length ps ≡ file + length (q ∷ ps) = omega arith in
    ap₂ two_lists
    (ap (λ (rows : TrackRows). placed_lead file q ++ rows.lead) ih
    ∙ sym (append_assoc (placed_lead file q) (timeline_from (suc file) ps).lead (placed_lead (suc file + length ps) p))
    ∙ ap (λ (n : ℕ). (placed_lead file q ++ (timeline_from (suc file) ps).lead) ++ placed_lead n p) at)
    (ap (λ (rows : TrackRows). placed_other file q ++ rows.other) ih
    ∙ sym (append_assoc (placed_other file q) (timeline_from (suc file) ps).other (placed_other (suc file + length ps) p))
    ∙ ap (λ (n : ℕ). (placed_other file q ++ (timeline_from (suc file) ps).other) ++ placed_other n p) at)

-- the rows of a kind with those of one more piece
rows_more : (kind : Kind) (cs : List CheckedPiece) (c : CheckedPiece) → rows_with (rows_alone kind cs) (length cs) (source_piece (alone kind c)) ≡ rows_alone kind (cs ++ c ∷ [])
rows_more kind cs c =
    let source : CheckedPiece → SourcePiece = λ c. source_piece (alone kind c) in
    let many : length cs ≡ 0 + length (map source cs) = omega (arith, length-map cs source) in
    ap (λ (n : ℕ). rows_with (rows_alone kind cs) n (source c)) many
    ∙ sym (timeline_one_more 0 (map source cs) (source c)) ∙ ap timeline (sym (map-append source cs (c ∷ [])))

seen_more : (m : Mapping) (sequence : ℕ) (kind : Kind) (first : CheckedPiece) (cs : List CheckedPiece) (c : CheckedPiece) (track : Option GoodTrack)
    → seen_with kind (length cs) c (option_map (λ (t : GoodTrack). (facts_due m sequence kind t, rows_alone kind cs)) track)
    ≡ option_map (λ (t : GoodTrack). (facts_due m sequence kind t, rows_alone kind (cs ++ c ∷ []))) track
seen_more m sequence kind first cs c None = refl
seen_more m sequence kind first cs c (Some t) = ap (λ (rows : TrackRows). Some (facts_due m sequence kind t, rows)) (rows_more kind cs c)

pub part_more : (m : Mapping) (sequence : ℕ) (first : CheckedPiece) (cs : List CheckedPiece) (c : CheckedPiece)
    → part_with (length (first ∷ cs)) c (part_due m sequence (first ∷ cs)) ≡ part_due m sequence (first ∷ (cs ++ c ∷ []))
part_more m sequence first cs c =
    ap₂ two (seen_more m sequence Video first (first ∷ cs) c (checked_track Video first)) (seen_more m sequence Audio first (first ∷ cs) c (checked_track Audio first))

-- the first piece
seen_first : (m : Mapping) (sequence : ℕ) (kind : Kind) (first : CheckedPiece) (track : Option GoodTrack)
    → seen_with kind 0 first (option_map (λ (t : GoodTrack). (facts_due m sequence kind t, no_rows)) track) ≡ option_map (λ (t : GoodTrack). (facts_due m sequence kind t, rows_alone kind (first ∷ []))) track
seen_first m sequence kind first None = refl
seen_first m sequence kind first (Some t) = ap (λ (rows : TrackRows). Some (facts_due m sequence kind t, rows)) (rows_more kind [] first)

pub part_first : (m : Mapping) (sequence : ℕ) (first : CheckedPiece) → part_with 0 first (part_begun m sequence first) ≡ part_due m sequence (first ∷ [])
part_first m sequence first = ap₂ two (seen_first m sequence Video first (checked_track Video first)) (seen_first m sequence Audio first (checked_track Audio first))
