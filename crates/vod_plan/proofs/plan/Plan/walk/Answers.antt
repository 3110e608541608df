-- A walk has as many rows as its kind.
use Rattle.std.proofs.Common.{length, map, sym, ap, ◌∙◌}
use Rattle.std.proofs.lemmas.List.{length-map}
use Rattle.vod_types.specs.declared.tracks.Kind.{Kind}
use Rattle.vod_types.specs.declared.tracks.Kind.TheVariants.{Video, Audio}
use Rattle.vod_types.specs.SegmentRows.{rows_of}
use Rattle.segment_model.specs.Rows.{written_row}
use Rattle.vod_plan.specs.Planned.{Planned, plan_rows}
use Rattle.vod_plan.specs.Ranges.{planned_of}
use Rattle.vod_plan.specs.Spans.{piece_view}
use Rattle.vod_plan.proofs.PlanLemmas.{rows_are}
use Rattle.vod_plan.proofs.RangeLemmas.{planned-count}
use Rattle.vod_plan.proofs.plan.Plan.walk.Goals as goal

pub returns-in-Video-clause-count : goal.returns-in-Video-clause-count
returns-in-Video-clause-count c =
    let items = c.self.inside.pieces.items in
    c.self.invariant.video.count
    ∙ sym (planned-count Video items c.self.invariant.pieces)
    ∙ sym (length-map (planned_of Video (map piece_view items)) (written_row c.self.inside.form))
    ∙ ap (λ (p : Planned). length (map (written_row p.form) (planned_of Video p.pieces))) c.self.view_is
    ∙ ap length (sym (rows_are Video c.args.self.now))
    ∙ ap (λ (k : Kind). length (rows_of k (plan_rows c.args.self.now))) (sym c.in-Video.is)

pub returns-in-Audio-clause-count : goal.returns-in-Audio-clause-count
returns-in-Audio-clause-count c =
    let items = c.self.inside.pieces.items in
    c.self.invariant.audio.count
    ∙ sym (planned-count Audio items c.self.invariant.pieces)
    ∙ sym (length-map (planned_of Audio (map piece_view items)) (written_row c.self.inside.form))
    ∙ ap (λ (p : Planned). length (map (written_row p.form) (planned_of Audio p.pieces))) c.self.view_is
    ∙ ap length (sym (rows_are Audio c.args.self.now))
    ∙ ap (λ (k : Kind). length (rows_of k (plan_rows c.args.self.now))) (sym c.in-Audio.is)
