-- The body of a segment by its form, in the words of the writers.
use Rattle.std.proofs.Common.{◌≡◌, ℕ, List, [], ◌∷◌, ◌++◌, map, Option, Some, None, Result, Ok, refl, sym, ap, ap₂, ◌∙◌, subst}
use Rattle.std.specs.Prelude.{IfSome, flat_map, option_map}
use Rattle.std.specs.Option.{option_map_or}
use Rattle.std.proofs.lemmas.Grind.{flat_map-append}
use Rattle.vod_types.specs.declared.refusal.Refusal.{Refusal}
use Rattle.vod_types.specs.declared.segments.Form.{Form}
use Rattle.vod_types.specs.declared.segments.Form.TheVariants.{Fmp4, Ts}
use Rattle.vod_types.specs.declared.segments.Row.{Row}
use Rattle.vod_types.specs.declared.tracks.Asked.{Asked}
use Rattle.vod_types.specs.declared.tracks.Kind.{Kind}
use Rattle.vod_types.specs.declared.tracks.Kind.TheVariants.{Video, Audio}
use Rattle.media_model.specs.WritingOrder.{TrackRow, of_track}
use Rattle.list_model.specs.Reply.{whole, bad_nal}
use Rattle.vod_source.specs.Calls.{Came}
use Rattle.vod_source.specs.Stored.{Files, Read}
use Rattle.fmp4_writer.specs.Samples.{row_reads}
use Rattle.ts_writer.specs.Progress.{all_samples, first_bad, segment_begun}
use Rattle.origin_model.specs.Bodies.{segment_body, rows_read}
use Rattle.flat_segments.specs.declared.body.FlatBody.{FlatBody}
use Rattle.flat_segments.specs.declared.rows.FlatRows.{FlatRows}
use Rattle.flat_segments.specs.Bodies.{body_reads, bytes_with_cut, cut_of, flat_shown, fragment_reads, fragment_shown, sample_ranges, stream_reads, stream_shown}
use Rattle.flat_segments.specs.Segments.{flat_plan, flat_rows_view}

-- ---- transport streams

cut_at : (o : Option TrackRow) → cut_of (option_map_or (λ (r : TrackRow). bad_nal r.row.file r.row.number) o whole) ≡ option_map (λ (r : TrackRow). (r.row.file, r.row.number)) o
cut_at None = refl
cut_at (Some r) = refl

pub stream_body : (files : Files) (number largest : ℕ) (asked : Asked) (rows : FlatRows)
    → stream_shown files (segment_begun largest asked rows.hevc).stream rows ≡ bytes_with_cut (segment_body files (flat_plan rows) number Ts asked)
unfolding segment_body
stream_body files number largest asked rows =
    let view = flat_rows_view rows in
    sym (ap (λ (o : Option (ℕ × ℕ)). ((stream_shown files (segment_begun largest asked rows.hevc).stream rows).0, o)) (cut_at (first_bad files view rows.hevc (all_samples view))))

pub stream_body_reads : (files : Files) (rows : FlatRows) → stream_reads files rows.hevc rows ≡ body_reads files (flat_plan rows) Ts
unfolding rows_read
stream_body_reads files rows = refl

-- ---- fragments

pub fragment_body : (files : Files) (number : ℕ) (asked : Asked) (rows : FlatRows) → fragment_shown files number rows ≡ bytes_with_cut (segment_body files (flat_plan rows) number Fmp4 asked)
unfolding segment_body
fragment_body files number asked rows = refl

pub fragment_body_reads : (files : Files) (rows : FlatRows) → fragment_reads rows ≡ body_reads files (flat_plan rows) Fmp4
unfolding rows_read
fragment_body_reads files rows =
    let view = flat_rows_view rows in
    flat_map-append (row_reads view) rows.video.items rows.audio.items
    ∙ ap₂ (λ xs ys. xs ++ ys) (sym (of_kind Video rows.video.items)) (sym (of_kind Audio rows.audio.items))
    ∙ sym (flat_map-append (sample_ranges view) (map (of_track Video) rows.video.items) (map (of_track Audio) rows.audio.items))
  where
    of_kind : (kind : Kind) (xs : List Row) → flat_map (sample_ranges (flat_rows_view rows)) (map (of_track kind) xs) ≡ flat_map (row_reads (flat_rows_view rows)) xs
    of_kind kind [] = refl
    of_kind kind (x ∷ xs) = ap (λ ys. row_reads (flat_rows_view rows) x ++ ys) (of_kind kind xs)

-- ---- either

module _ (result : Result FlatBody Refusal) (number : ℕ) (form : Form) (asked : Asked) (rows : FlatRows) (log log_now : Option (List Read)) where
  -- the call came to this body, with these reads
  abbrev came : (List ℕ × Option (ℕ × ℕ)) → List Read → Type 0
  came body reads = Came flat_shown result (Ok body) reads log log_now

  abbrev came_as : Files → Form → Type 0
  came_as known f = came (bytes_with_cut (segment_body known (flat_plan rows) number f asked)) (body_reads known (flat_plan rows) f)

  same : (known : Files) (f : Form) (body : List ℕ × Option (ℕ × ℕ)) (reads : List Read) → form ≡ f → body ≡ bytes_with_cut (segment_body known (flat_plan rows) number f asked)
      → reads ≡ body_reads known (flat_plan rows) f → came body reads → came_as known form
  same known f body reads is bytes read h =
      subst (came_as known) (sym is)
      (subst (λ (due : List Read). came (bytes_with_cut (segment_body known (flat_plan rows) number f asked)) due) read
      (subst (λ (due : List ℕ × Option (ℕ × ℕ)). came due reads) bytes h))

  pub as_stream : (content : Option Files) (largest : ℕ) → form ≡ Ts
      → IfSome content (λ known. came (stream_shown known (segment_begun largest asked rows.hevc).stream rows) (stream_reads known rows.hevc rows))
      → IfSome content (λ known. came_as known form)
  as_stream None largest is h = tt
  as_stream (Some known) largest is h = same known Ts _ _ is (stream_body known number largest asked rows) (stream_body_reads known rows) h

  pub as_fragment : (content : Option Files) → form ≡ Fmp4 → IfSome content (λ known. came (fragment_shown known number rows) (fragment_reads rows)) → IfSome content (λ known. came_as known form)
  as_fragment None is h = tt
  as_fragment (Some known) is h = same known Fmp4 _ _ is (fragment_body known number asked rows) (fragment_body_reads known rows) h
