-- The body of a segment, and where it ends; this project's own.
use Rattle.std.specs.Prelude.{◌≡◌, ℕ, ◌%◌, Bool, List, ◌++◌, length, flat_map, Option, Some, None, option_map}
use Rattle.vod_types.specs.declared.segments.Form.{Form}
use Rattle.vod_types.specs.SegmentRows.{SegmentRows, sample_bytes}
use Rattle.media_model.specs.Fragment.{fragment}
use Rattle.media_model.specs.TransportStream.{rows_bytes}
use Rattle.media_model.specs.WritingOrder.{TrackRow}
use Rattle.list_model.specs.Reply.{End, whole, bad_nal}
use Rattle.vod_source.specs.Ranges.{file_reads}
use Rattle.vod_source.specs.Stored.{Files, Read, bytes_of}
use Rattle.origin_model.specs.Bodies.{rows_read}
use Rattle.origin_model.specs.Samples.{SegmentPlan}
use Rattle.fmp4_writer.specs.Samples.{row_reads}
use Rattle.ts_packets.specs.Streams.{Stream}
use Rattle.ts_writer.specs.Progress.{all_samples, first_bad, good_rows, payload_of, rows_through_bad, sample_reads}
use Rattle.flat_segments.specs.declared.body.FlatBody.{FlatBody}
use Rattle.flat_segments.specs.declared.rows.FlatRows.{FlatRows}
use Rattle.flat_segments.specs.Segments.{flat_rows_view}

-- the file and the number of the bad sample before which a body ends
abbrev pub cut_of : End → Option (ℕ × ℕ)
cut_of whole = None
cut_of (bad_nal file sample) = Some (file, sample)

abbrev pub flat_shown : FlatBody → List ℕ × Option (ℕ × ℕ)
flat_shown body = (body.bytes.items, body.cut)

-- whole packets of 188 bytes, as a transport stream has them
abbrev pub IsInPackets : FlatBody → Type 0
IsInPackets body = length body.bytes.items % 188 ≡ 0

-- the bytes of a segment with its cut
abbrev pub bytes_with_cut : List ℕ × End → List ℕ × Option (ℕ × ℕ)
bytes_with_cut body = (body.0, cut_of body.1)

-- the reads of the samples of a plan
abbrev pub sample_ranges : SegmentRows → TrackRow → List Read
sample_ranges rows r = file_reads (rows.name r.row.file) r.row.sample.at r.row.sample.size

abbrev pub body_reads : Files → SegmentPlan → Form → List Read
body_reads files plan form = flat_map (sample_ranges plan.rows) (rows_read files plan form)

-- ---- the same by form, in the words of the writers

abbrev pub fragment_shown : Files → ℕ → FlatRows → List ℕ × Option (ℕ × ℕ)
fragment_shown files number rows = (fragment number (sample_bytes (bytes_of files) (flat_rows_view rows)) rows.video.items rows.audio.items, None)

abbrev pub fragment_reads : FlatRows → List Read
fragment_reads rows = flat_map (row_reads (flat_rows_view rows)) (rows.video.items ++ rows.audio.items)

abbrev pub stream_shown : Files → Stream → FlatRows → List ℕ × Option (ℕ × ℕ)
stream_shown files s rows =
    let view = flat_rows_view rows in (
      rows_bytes s.lead s.asked s.hevc (payload_of files view s.hevc) (good_rows files view s.hevc (all_samples view)),
      option_map (λ r. (r.row.file, r.row.number)) (first_bad files view s.hevc (all_samples view)),
    )

abbrev pub stream_reads : Files → Bool → FlatRows → List Read
stream_reads files hevc rows =
    let view = flat_rows_view rows in flat_map (sample_reads view) (rows_through_bad files view hevc (all_samples view))
