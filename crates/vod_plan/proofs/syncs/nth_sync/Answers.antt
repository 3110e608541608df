-- An index from 1 is one from 0; no row has the index 0.
use Rattle.std.proofs.Common.{◌-◌, map, arith}
use Rattle.segment_model.specs.Iframes.{sync_rows}
use Rattle.vod_plan.specs.Ranges.{planned_of}
use Rattle.vod_plan.specs.Spans.{piece_view}
use Rattle.vod_plan.proofs.SyncLemmas.{never_found, none_found}
use Rattle.vod_plan.proofs.syncs.nth_sync.Goals as goal

pub returns-then-index-eq0-clause-found : goal.returns-then-index-eq0-clause-found
returns-then-index-eq0-clause-found g c = never_found _ c.sync_at.result 18446744073709551615 (omega arith) c.sync_at.ensures.low

pub returns-clause-none : goal.returns-clause-none
returns-clause-none g c =
    none_found (sync_rows (planned_of c.args.kind (map piece_view c.args.pieces.now))) c.sync_at-2.result c.args.index (c.from.result - 1) (omega (arith, c.from.ensures)) c.sync_at-2.ensures.none
