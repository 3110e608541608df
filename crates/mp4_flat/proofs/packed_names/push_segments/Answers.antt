use Rattle.std.proofs.Common.{◌≤◌, List, length, take, map, refl, sym, ap, ◌∙◌, ◌++◌, append-nil, arith}
use Rattle.std.proofs.lemmas.List.{take_all}
use Rattle.vod_types.specs.declared.paths.Leaf.TheVariants.{Segment}
use Rattle.vod_types.specs.declared.segments.SegmentRow.{SegmentRow}
use Rattle.mp4_flat.proofs.NameLemmas.{mapped_more}
use Rattle.mp4_flat.proofs.packed_names.push_segments.Goals as goal

pub loop-row-init : goal.loop-row-init
loop-row-init c = record { put = sym (append-nil c.args.names.now.items); each = λ dash of all. all }

pub loop-row-preserved : goal.loop-row-preserved
loop-row-preserved c = record {
  put = mapped_more c.args.rows.now c.loop-row.row-index _ c.args.names.now.items _ _ c.loop-row-test.true (λ row. Segment row.number c.args.sequence c.args.asked c.args.form) c.loop-row.invariant.put c.in_ok-push_segment.ensures.names;
  each = λ dash of all. c.in_ok-push_segment.ensures.each dash of (c.loop-row.invariant.each dash of all);
}

pub returns-clause-names : goal.returns-clause-names
returns-clause-names c =
    let past : length c.args.rows.now ≤ c.loop-row.row-index = omega arith in
    c.loop-row.invariant.put
    ∙ ap (λ (rows : List SegmentRow). c.args.names.now.items ++ map (λ row. Segment row.number c.args.sequence c.args.asked c.args.form) rows) (take_all c.loop-row.row-index c.args.rows.now past)
