use Rattle.std.proofs.Common.{append_assoc}
use Rattle.fmp4_writer.proofs.EntryLemmas.{sample_table-sized}
use Rattle.fmp4_writer.proofs.track_boxes.put_sample_table.Goals as goal

pub returns : goal.returns
returns c =
    rw (c.in_ok-u32-5.ensures.ok, c.in_ok-put_full-5.ensures, c.in_ok-bytes-2.ensures.ok, c.in_ok-put_full-4.ensures, c.in_ok-u32-4.ensures.ok, c.in_ok-put_full-3.ensures, c.in_ok-u32-3.ensures.ok, c.in_ok-put_full-2.ensures, c.in_ok-put_entry.ensures, c.in_ok-u32-2.ensures.ok, c.in_ok-put_full.ensures, c.in_ok-bytes.ensures.ok, c.in_ok-u32.ensures.ok, sample_table-sized c.args.entry.now c.requires) (simp append_assoc)
