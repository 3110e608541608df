-- Timelines that are being made as the definitions see them.
use Rattle.clip_model.specs.Timeline.{Timeline}
use Rattle.seq_timeline.specs.declared.sequence.Draft.{Draft}

abbrev pub draft_view : Draft → Timeline
draft_view d = record { pieces = d.pieces.items; parts = d.parts.items }
