-- The representations of the tracks of a part that is found.
use Rattle.std.proofs.Common.{◌≡◌, ℕ, ◌+◌, Bool, List, [], ◌∷◌, ◌++◌, drop, inl, inr, Option, Some, None, Result, Ok, refl, sym, ap, ap₂, ◌∙◌, subst}
use Rattle.std.specs.Prelude.{filter_map, option_map, option_to_list}
use Rattle.std.specs.Option.{option_map_or}
use Rattle.std.proofs.lemmas.List.Elements.{filter_map-append}
use Rattle.vod_types.specs.declared.refusal.Refusal.{Refusal}
use Rattle.vod_types.specs.declared.segments.SegmentRow.{SegmentRow}
use Rattle.vod_types.specs.declared.tracks.Asked.{Asked}
use Rattle.vod_types.specs.declared.tracks.Kind.{Kind}
use Rattle.vod_types.specs.declared.tracks.Kind.TheVariants.{Video, Audio}
use Rattle.vod_types.specs.Results.{◌>>=◌, each_in_turn}
use Rattle.vod_types.proofs.StepLemmas.{bind_ok}
use Rattle.mp4_model.specs.GoodTracks.{GoodTrack}
use Rattle.mp4_model.specs.Video.{video_codec_name}
use Rattle.clip_model.specs.declared.Part.{Part}
use Rattle.clip_model.specs.declared.Piece.{Piece}
use Rattle.clip_model.specs.IsTimeline.{IsTimeline}
use Rattle.list_model.specs.declared.Rep.{Rep}
use Rattle.origin_model.specs.Lists.{CheckedSequence, aac_of, bandwidth, language_of, rate_of, representation_by, representations_of}
use Rattle.origin_model.specs.Loaded.{CheckedPiece, checked}
use Rattle.origin_model.specs.Requests.{Setup, Asking, grid_in_use, honours_edits}
use Rattle.origin_model.specs.Samples.{checked_track}
use Rattle.origin_model.specs.Sources.{part_pieces}
use Rattle.flat_lists.specs.LookedParts.{PartFound, first_found, part_found}
use Rattle.flat_lists.specs.LookedSequences.{part_kept}
use Rattle.flat_lists.specs.PartTracks.{facts_due, rows_alone}
use Rattle.flat_lists.specs.Written.{first_cell, rep_seen, reps_seen}
use Rattle.flat_lists.proofs.AloneLemmas.{number_of}
use Rattle.flat_lists.proofs.CellsFound.{Numbered, asked_of_first}
use Rattle.flat_lists.proofs.LookedLemmas.{first_parts}
use Rattle.flat_lists.proofs.RowsFound.{rows_found}

module _ (o : Setup) (a : Asking) (s : CheckedSequence) (k : ℕ) (part : Part) (rest : List Part) (h : IsTimeline s.timeline.pieces s.timeline.parts) (at : drop k s.timeline.parts ≡ part ∷ rest) where
  abbrev edits : Bool
  edits = honours_edits o

  abbrev seen : Kind → GoodTrack → List CheckedPiece → Rep
  seen kind t cs = rep_seen a.mapping (grid_in_use o a) o.settings.align s.number (k + 1) (first_cell (grid_in_use o a) s.timeline.parts k) part (facts_due a.mapping s.number kind t, rows_alone kind cs)

  rep_found : (kind : Kind) (t : GoodTrack) (asked : Asked) (cs : List CheckedPiece) → number_of kind asked ≡ Some 1 → each_in_turn (checked o.files edits asked) (part_pieces s.timeline part) ≡ Ok cs
      → representation_by o a s (k + 1) kind t ≡ seen kind t cs
  rep_found Video t asked cs one each =
      ap (λ (rows : List SegmentRow). let r : Rep = record { sequence = s.number; kind = Video; bandwidth = bandwidth o a s.number Video t; size = (t.width, t.height); video = Some (video_codec_name t); aac = 0; rate = 0; language = language_of o a s.number; rows = rows } in r)
      (rows_found o a s k part rest Video asked cs (facts_due a.mapping s.number Video t) h at one each)
  rep_found Audio t asked cs one each =
      ap (λ (rows : List SegmentRow). let r : Rep = record { sequence = s.number; kind = Audio; bandwidth = bandwidth o a s.number Audio t; size = (0, 0); video = None; aac = aac_of t; rate = rate_of t; language = language_of o a s.number; rows = rows } in r)
      (rows_found o a s k part rest Audio asked cs (facts_due a.mapping s.number Audio t) h at one each)

  abbrev made : CheckedPiece → Kind → Option Rep
  made c kind = option_map (representation_by o a s (k + 1) kind) (checked_track kind c)

  kind_found : (kind : Kind) (asked : Asked) (first : CheckedPiece) (cs : List CheckedPiece) → each_in_turn (checked o.files edits asked) (part_pieces s.timeline part) ≡ Ok (first ∷ cs) → Numbered (number_of kind asked) (checked_track kind first)
      → filter_map (made first) (option_to_list (option_map (λ (n : ℕ). kind) (number_of kind asked)))
      ≡ option_to_list (option_map (λ (t : GoodTrack). seen kind t (first ∷ cs)) (checked_track kind first))
  kind_found kind asked first cs each (inl (none, absent)) =
      ap (λ (n : Option ℕ). filter_map (made first) (option_to_list (option_map (λ (n : ℕ). kind) n))) none
      ∙ sym (ap (λ (track : Option GoodTrack). option_to_list (option_map (λ (t : GoodTrack). seen kind t (first ∷ cs)) track)) absent)
  kind_found kind asked first cs each (inr (one, (t, there))) =
      ap (λ (n : Option ℕ). filter_map (made first) (option_to_list (option_map (λ (n : ℕ). kind) n))) one
      ∙ one_made (representation_by o a s (k + 1) kind t) (ap (option_map (representation_by o a s (k + 1) kind)) there)
      ∙ ap (λ (r : Rep). r ∷ []) (rep_found kind t asked (first ∷ cs) one each)
      ∙ sym (ap (λ (track : Option GoodTrack). option_to_list (option_map (λ (t : GoodTrack). seen kind t (first ∷ cs)) track)) there)
    where
      one_made : (rep : Rep) → made first kind ≡ Some rep → filter_map (made first) (kind ∷ []) ≡ rep ∷ []
      one_made rep is = rw is refl

  mapped : (kind : Kind) (first : CheckedPiece) (cs : List CheckedPiece) (track : Option GoodTrack)
      → option_map (λ (t : GoodTrack). seen kind t cs) track
      ≡ option_map (rep_seen a.mapping (grid_in_use o a) o.settings.align s.number (k + 1) (first_cell (grid_in_use o a) s.timeline.parts k) part) (option_map (λ (t : GoodTrack). (facts_due a.mapping s.number kind t, rows_alone kind cs)) track)
  mapped kind first cs None = refl
  mapped kind first cs (Some t) = refl

  pub reps_found : (pf : PartFound) → part_found o.files edits (part_pieces s.timeline part) ≡ Ok pf
      → option_map_or (representations_of o a s (k + 1)) pf.first [] ≡ reps_seen a.mapping (grid_in_use o a) o.settings.align s.number (k + 1) (first_cell (grid_in_use o a) s.timeline.parts k) (part_kept a.mapping s.number (part, pf))
  reps_found pf e = by (part_pieces s.timeline part) refl e
    where
      by : (pieces : List Piece) → part_pieces s.timeline part ≡ pieces → part_found o.files edits pieces ≡ Ok pf
          → option_map_or (representations_of o a s (k + 1)) pf.first [] ≡ reps_seen a.mapping (grid_in_use o a) o.settings.align s.number (k + 1) (first_cell (grid_in_use o a) s.timeline.parts k) (part_kept a.mapping s.number (part, pf))
      by [] is e =
          let none : PartFound = record { first = None; pieces = [] } in
          let same : none ≡ pf = cc in
          subst (λ (pf : PartFound). option_map_or (representations_of o a s (k + 1)) pf.first [] ≡ reps_seen a.mapping (grid_in_use o a) o.settings.align s.number (k + 1) (first_cell (grid_in_use o a) s.timeline.parts k) (part_kept a.mapping s.number (part, pf))) same refl
      by (first ∷ later) is e =
          let f = bind_ok (first_found o.files edits first) _ pf e in
          let cs = bind_ok (each_in_turn (checked o.files edits f.0.0) later) _ pf f.2 in
          let whole : PartFound = record { first = Some f.0; pieces = f.0.1 ∷ cs.0 } in
          let same : whole ≡ pf = (let h = cs.2 in cc) in
          let of = asked_of_first o a first f.0 f.1 in
          let each : each_in_turn (checked o.files edits f.0.0) (first ∷ later) ≡ Ok (f.0.1 ∷ cs.0) =
          ap₂ (λ (r : Result CheckedPiece Refusal) (rs : Result (List CheckedPiece) Refusal). r >>= λ y. rs >>= λ ys. Ok (y ∷ ys)) (first_parts o.files edits first f.0 f.1).1 cs.1 in
          let all = ap (each_in_turn (checked o.files edits f.0.0)) is ∙ each in
          subst (λ (pf : PartFound). option_map_or (representations_of o a s (k + 1)) pf.first [] ≡ reps_seen a.mapping (grid_in_use o a) o.settings.align s.number (k + 1) (first_cell (grid_in_use o a) s.timeline.parts k) (part_kept a.mapping s.number (part, pf))) same
          (filter_map-append (made f.0.1) (option_to_list (option_map (λ (n : ℕ). Video) f.0.0.video)) (option_to_list (option_map (λ (n : ℕ). Audio) f.0.0.audio))
          ∙ ap₂ (λ (xs ys : List Rep). xs ++ ys)
          (kind_found Video f.0.0 f.0.1 cs.0 all (of.kinds Video) ∙ ap (λ (r : Option Rep). option_to_list r) (mapped Video f.0.1 (f.0.1 ∷ cs.0) (checked_track Video f.0.1)))
          (kind_found Audio f.0.0 f.0.1 cs.0 all (of.kinds Audio) ∙ ap (λ (r : Option Rep). option_to_list r) (mapped Audio f.0.1 (f.0.1 ∷ cs.0) (checked_track Audio f.0.1))))
