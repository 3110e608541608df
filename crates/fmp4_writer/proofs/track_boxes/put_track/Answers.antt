use Rattle.std.proofs.Common.{append_assoc}
use Rattle.fmp4_writer.proofs.EntryLemmas.{track-sized}
use Rattle.fmp4_writer.proofs.track_boxes.put_track.Goals as goal

pub returns : goal.returns
returns c =
    rw (c.in_ok-put_sample_table.ensures, c.in_ok-put_data_information.ensures, c.in_ok-put_kind_header.ensures, c.in_ok-bytes-3.ensures.ok, c.in_ok-u32-3.ensures.ok, c.in_ok-put_handler.ensures, c.in_ok-put_media_header.ensures, c.in_ok-bytes-2.ensures.ok, c.in_ok-u32-2.ensures.ok, c.in_ok-put_track_header.ensures, c.in_ok-bytes.ensures.ok, c.in_ok-u32.ensures.ok, track-sized c.args.kind c.args.size.0 c.args.size.1 c.args.entry.now _ c.requires c.track_size_of-size_of_track.ensures) (simp append_assoc)
