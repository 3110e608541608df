-- The rows of a plan can be written.
use Rattle.std.proofs.Common.{◌≡◌, ℕ, zero, suc, ◌+◌, ◌≤◌, ◌<◌, max, List, [], ◌∷◌, ◌++◌, length, map, fold, get_or, All, Option, Some, None, IfSome, sym, ap, ◌∙◌, subst, arith, length-append}
use Rattle.std.proofs.lemmas.List.{get_or_append_left, get_or-append-add}
use Rattle.std.proofs.lemmas.List.Elements.{All-head, All-tail}
use Rattle.vod_types.specs.declared.tracks.Asked.{Asked}
use Rattle.vod_types.specs.declared.tracks.Kind.{Kind}
use Rattle.vod_types.specs.declared.tracks.Kind.TheVariants.{Video, Audio}
use Rattle.vod_types.specs.declared.segments.Form.{Form}
use Rattle.vod_types.specs.declared.segments.Form.TheVariants.{Ts, Fmp4}
use Rattle.vod_types.specs.declared.segments.Row.{Row}
use Rattle.vod_source.specs.Stored.{Files, InFile, bytes_of}
use Rattle.fmp4_writer.specs.Samples as fragments
use Rattle.ts_writer.specs.Conditions as streams
use Rattle.origin_model.specs.Loaded.{CheckedPiece}
use Rattle.origin_model.specs.Samples.{size_at}
use Rattle.origin_model.specs.Writable.{IsReadable, IsStreamed, IsWritable}
use Rattle.flat_segments.specs.declared.needed.NeededFile.{NeededFile}
use Rattle.flat_segments.specs.declared.rows.FlatRows.{FlatRows}
use Rattle.flat_segments.specs.RowFaults.{name_in, size_in, LiesInFile, EndsLow}
use Rattle.flat_segments.specs.Segments.{FileFacts, facts_of, file_of, flat_plan, flat_rows_view, largest_of, AreWritableBy, SizesAreTrue}
use Rattle.flat_segments.proofs.DueRows.{size_at-is}

-- ---- their ranges

-- what lies in a file by its size lies in it
in_file : (known : Files) (files : List NeededFile) → SizesAreTrue known files → (file end : ℕ) → end ≤ size_in (map facts_of files) file
    → end ≤ length (bytes_of known (name_in (map facts_of files) file))
in_file known [] true_sizes file end within = omega arith
in_file known (f ∷ files) true_sizes zero end within =
    omega (arith, All-head (λ (f : NeededFile). length (bytes_of known f.name) ≡ f.size) f files true_sizes)
in_file known (f ∷ files) true_sizes (suc file) end within =
    in_file known files (All-tail (λ (f : NeededFile). length (bytes_of known f.name) ≡ f.size) f files true_sizes) file end within

row_within : (files : List NeededFile) (content : Option Files) → IfSome content (λ known. SizesAreTrue known files) → (row : Row) → LiesInFile (map facts_of files) row
    → InFile content (name_in (map facts_of files) row.file) row.sample.at row.sample.size
row_within files None sizes_are row lies = tt
row_within files (Some known) sizes_are row lies = in_file known files sizes_are row.file (row.sample.at + row.sample.size) lies

-- ---- the greatest of their sizes

fold_keeps : (xs : List ℕ) (n : ℕ) → n ≤ fold max n xs
fold_keeps [] n = omega arith
fold_keeps (x ∷ xs) n = let rest = fold_keeps xs (max n x) in omega (arith, rest)

abbrev sizes_in : List Row → List ℕ
sizes_in rows = map (λ row. row.sample.size) rows

row_room : (rows : List Row) (n i : ℕ) (d : Row) → i < length rows → (get_or rows i d).sample.size ≤ fold max n (sizes_in rows)
row_room [] n i d lt = absurd (omega (arith, lt))
row_room (row ∷ rows) n zero d lt = let rest = fold_keeps (sizes_in rows) (max n row.sample.size) in omega (arith, rest)
row_room (row ∷ rows) n (suc i) d lt = row_room rows (max n row.sample.size) i d (omega (arith, lt))

-- ---- rows of a form

module _ (asked : Asked) (pieces : List CheckedPiece) (r : FlatRows) (content : Option Files) (kept : map facts_of r.files.items ≡ map file_of pieces) (sizes_are : IfSome content (λ known. SizesAreTrue known r.files.items)) where
  lies : (row : Row) → row.sample.at + row.sample.size ≤ size_at pieces row.file → LiesInFile (map facts_of r.files.items) row
  lies row within = subst (λ (size : ℕ). row.sample.at + row.sample.size ≤ size) (size_at-is pieces row.file ∙ ap (λ (facts : List FileFacts). size_in facts row.file) (sym kept)) within

  fragment_row : (kind : Kind) (row : Row) → IsReadable Fmp4 pieces kind row → EndsLow row → fragments.IsReadable content (flat_rows_view r) row
  fragment_row kind row readable ends = record { fits = ends; within = row_within r.files.items content sizes_are row (lies row readable.within) }

  is_short : (kind : Kind) (row : Row) → IsReadable Ts pieces kind row → streams.IsShort kind row.sample.size
  is_short Video row readable = tt
  is_short Audio row readable = readable.size

  is_configured : (kind : Kind) (row : Row) → IsStreamed pieces (flat_plan r) kind row → streams.IsConfigured r.hevc kind ((flat_rows_view r).config row.file kind)
  is_configured Video row streamed = streamed.config
  is_configured Audio row streamed = streamed.config

  stream_row : (kind : Kind) (row : Row) → row.sample.size ≤ largest_of r → IsStreamed pieces (flat_plan r) kind row → EndsLow row → streams.IsWritable content (flat_rows_view r) r.hevc (largest_of r) kind row
  stream_row kind row room streamed ends = record {
    fits = ends;
    within = row_within r.files.items content sizes_are row (lies row streamed.readable.within);
    room = room;
    short = is_short kind row streamed.readable;
    configured = is_configured kind row streamed;
  }

  video_room : (i : ℕ) (d : Row) → i < length r.video.items → (get_or r.video.items i d).sample.size ≤ largest_of r
  video_room i d lt =
      subst (λ (row : Row). row.sample.size ≤ largest_of r) (get_or_append_left r.video.items r.audio.items d i lt)
      (row_room (r.video.items ++ r.audio.items) 0 i d (let many = length-append r.video.items r.audio.items in omega (arith, many, lt)))

  audio_room : (i : ℕ) (d : Row) → i < length r.audio.items → (get_or r.audio.items i d).sample.size ≤ largest_of r
  audio_room i d lt =
      subst (λ (row : Row). row.sample.size ≤ largest_of r) (get_or-append-add r.video.items r.audio.items i d)
      (row_room (r.video.items ++ r.audio.items) 0 (length r.video.items + i) d (let many = length-append r.video.items r.audio.items in omega (arith, many, lt)))

  pub writable_by : (form : Form) → IsWritable form asked pieces (flat_plan r) → All EndsLow r.video.items → All EndsLow r.audio.items → AreWritableBy form asked content r
  writable_by Ts plan video audio = record {
    video = λ i d lt. stream_row Video (get_or r.video.items i d) (video_room i d lt) (plan.video i d lt) (video i d lt);
    audio = λ i d lt. stream_row Audio (get_or r.audio.items i d) (audio_room i d lt) (plan.audio i d lt) (audio i d lt);
  }
  writable_by Fmp4 plan video audio = record {
    tracks = plan.tracks;
    samples = record {
      video = λ i d lt. fragment_row Video (get_or r.video.items i d) (plan.video i d lt) (video i d lt);
      audio = λ i d lt. fragment_row Audio (get_or r.audio.items i d) (plan.audio i d lt) (audio i d lt);
    };
  }
