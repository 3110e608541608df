use Rattle.flat_clip.proofs.EntryLemmas.{with_data_reference-pieces}
use Rattle.flat_clip.proofs.tables.put_entry.Goals as goal

pub returns : goal.returns
returns c =
    rw (c.in_ok-bytes-2.ensures.ok, c.in_ok-u16.ensures.ok, c.in_ok-bytes.ensures.ok) (with_data_reference-pieces _ _ _ c.payload_at-payload.ensures.place)
