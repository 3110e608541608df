-- The rows of a plan can be written.
use Rattle.std.proofs.Common.{◌≡◌, ℕ, zero, suc, ◌+◌, ◌≤◌, ◌<◌, max, List, [], ◌∷◌, ◌++◌, length, map, fold, get_or, Option, Some, None, IfSome, sym, subst, arith, length-append}
use Rattle.std.specs.List.{AllByRecursion}
use Rattle.std.proofs.lemmas.List.{get_or_append_left, get_or-append-add}
use Rattle.vod_types.specs.declared.tracks.Asked.{Asked}
use Rattle.vod_types.specs.declared.tracks.Kind.{Kind}
use Rattle.vod_types.specs.declared.tracks.Kind.TheVariants.{Video, Audio}
use Rattle.vod_types.specs.declared.segments.Form.{Form}
use Rattle.vod_types.specs.declared.segments.Form.TheVariants.{Ts, Fmp4}
use Rattle.vod_types.specs.declared.segments.Row.{Row}
use Rattle.vod_types.specs.SegmentRows.{SegmentRows}
use Rattle.vod_source.specs.Stored.{Files, InFile, bytes_of}
use Rattle.fmp4_writer.specs.Samples as fragments
use Rattle.ts_writer.specs.Conditions as streams
use Rattle.origin_model.specs.Loaded.{CheckedPiece}
use Rattle.origin_model.specs.Samples.{name_at, size_at}
use Rattle.origin_model.specs.Writable.{IsReadable, IsStreamed, IsWritable}
use Rattle.vod_plan.specs.Planned.{Planned, plan_rows, plan_view}
use Rattle.vod_plan.specs.RowFaults.{largest_of, EndsLow}
use Rattle.vod_plan.specs.Writable.{IsCounted, IsWritableBy}

-- ---- their ranges

-- each is of a file that is as long as it says
abbrev pub AreAsLong : Files → List CheckedPiece → Type 0
AreAsLong known cs = AllByRecursion (λ c. length (bytes_of known c.piece.name) ≡ c.file_size) cs

-- what lies in a file by its size lies in it
in_file : (known : Files) (cs : List CheckedPiece) → AreAsLong known cs → (file end : ℕ) → end ≤ size_at cs file → end ≤ length (bytes_of known (name_at cs file))
in_file known [] long file end within = omega arith
in_file known (c ∷ cs) long zero end within = omega (arith, within, long.0)
in_file known (c ∷ cs) long (suc file) end within = in_file known cs long.1 file end within

row_within : (cs : List CheckedPiece) (content : Option Files) → IfSome content (λ known. AreAsLong known cs) → (row : Row) → row.sample.at + row.sample.size ≤ size_at cs row.file
    → InFile content (name_at cs row.file) row.sample.at row.sample.size
row_within cs None long row lies = tt
row_within cs (Some known) long row lies = in_file known cs long row.file (row.sample.at + row.sample.size) lies

-- ---- the greatest of their sizes

fold_keeps : (xs : List ℕ) (n : ℕ) → n ≤ fold max n xs
fold_keeps [] n = omega arith
fold_keeps (x ∷ xs) n = let rest = fold_keeps xs (max n x) in omega (arith, rest)

abbrev sizes_in : List Row → List ℕ
sizes_in rows = map (λ row. row.sample.size) rows

row_room : (rows : List Row) (n i : ℕ) (d : Row) → i < length rows → (get_or rows i d).sample.size ≤ fold max n (sizes_in rows)
row_room [] n i d lt = absurd (omega (arith, lt))
row_room (row ∷ rows) n zero d lt = let rest = fold_keeps (sizes_in rows) (max n row.sample.size) in omega (arith, rest)
row_room (row ∷ rows) n (suc i) d lt = row_room rows (max n row.sample.size) i d (omega (arith, lt))

-- ---- rows of a form

module _ (asked : Asked) (cs : List CheckedPiece) (p : Planned) (content : Option Files) (named : (plan_rows p).name ≡ name_at cs) (long : IfSome content (λ known. AreAsLong known cs)) (counted : IsCounted p) where
  abbrev rows : SegmentRows
  rows = plan_rows p

  within : (row : Row) → row.sample.at + row.sample.size ≤ size_at cs row.file → InFile content (rows.name row.file) row.sample.at row.sample.size
  within row lies = subst (λ (name : ℕ → List ℕ). InFile content (name row.file) row.sample.at row.sample.size) (sym named) (row_within cs content long row lies)

  fragment_row : (kind : Kind) (row : Row) → IsReadable Fmp4 cs kind row → EndsLow row → fragments.IsReadable content rows row
  fragment_row kind row readable ends = record { fits = ends; within = within row readable.within }

  is_short : (kind : Kind) (row : Row) → IsReadable Ts cs kind row → streams.IsShort kind row.sample.size
  is_short Video row readable = tt
  is_short Audio row readable = readable.size

  is_configured : (kind : Kind) (row : Row) → IsStreamed cs (plan_view p) kind row → streams.IsConfigured p.hevc kind (rows.config row.file kind)
  is_configured Video row streamed = streamed.config
  is_configured Audio row streamed = streamed.config

  stream_row : (kind : Kind) (row : Row) → row.sample.size ≤ p.largest → IsStreamed cs (plan_view p) kind row → EndsLow row → streams.IsWritable content rows p.hevc p.largest kind row
  stream_row kind row room streamed ends = record {
    fits = ends;
    within = within row streamed.readable.within;
    room = room;
    short = is_short kind row streamed.readable;
    configured = is_configured kind row streamed;
  }

  room_in : (row : Row) → row.sample.size ≤ largest_of (rows.video ++ rows.audio) → row.sample.size ≤ p.largest
  room_in row room = subst (λ (n : ℕ). row.sample.size ≤ n) (sym counted.largest) room

  video_room : (i : ℕ) (d : Row) → i < length rows.video → (get_or rows.video i d).sample.size ≤ p.largest
  video_room i d lt =
      room_in (get_or rows.video i d)
      (subst (λ (row : Row). row.sample.size ≤ largest_of (rows.video ++ rows.audio)) (get_or_append_left rows.video rows.audio d i lt)
      (row_room (rows.video ++ rows.audio) 0 i d (let many = length-append rows.video rows.audio in omega (arith, many, lt))))

  audio_room : (i : ℕ) (d : Row) → i < length rows.audio → (get_or rows.audio i d).sample.size ≤ p.largest
  audio_room i d lt =
      room_in (get_or rows.audio i d)
      (subst (λ (row : Row). row.sample.size ≤ largest_of (rows.video ++ rows.audio)) (get_or-append-add rows.video rows.audio i d)
      (row_room (rows.video ++ rows.audio) 0 (length rows.video + i) d (let many = length-append rows.video rows.audio in omega (arith, many, lt))))

  pub writable_by : (form : Form) → IsWritable form asked cs (plan_view p) → IsWritableBy form asked content p
  writable_by Ts plan = record {
    video = λ i d lt. stream_row Video (get_or rows.video i d) (video_room i d lt) (plan.video i d lt) (counted.video_ends i d lt);
    audio = λ i d lt. stream_row Audio (get_or rows.audio i d) (audio_room i d lt) (plan.audio i d lt) (counted.audio_ends i d lt);
  }
  writable_by Fmp4 plan = record {
    tracks = plan.tracks;
    samples = record {
      video = λ i d lt. fragment_row Video (get_or rows.video i d) (plan.video i d lt) (counted.video_ends i d lt);
      audio = λ i d lt. fragment_row Audio (get_or rows.audio i d) (plan.audio i d lt) (counted.audio_ends i d lt);
    };
  }
