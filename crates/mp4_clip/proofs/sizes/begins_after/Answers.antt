-- From the first row of the lead to the first row of the track.
use Rattle.std.proofs.Common.{◌<◌, sym, subst, ◌∙◌, rules, FitsSigned, w64}
use Rattle.std.proofs.lemmas.Int.{to_z-of_z}
use Rattle.vod_types.specs.declared.tracks.Kind.{Kind}
use Rattle.vod_plan.specs.Spans.{piece_view, rows_in}
use Rattle.mp4_clip.specs.Kept.{kept_rows}
use Rattle.mp4_clip.proofs.FirstRows.{begins-is, first-kept, lead-some, First}
use Rattle.mp4_clip.proofs.sizes.begins_after.Goals as goal

pub returns-clause-after : goal.returns-clause-after
returns-clause-after g c =
    let p = c.args.rows.now in
    let some : 0 < rows_in c.lead_kind-lead.result (piece_view p) = subst (λ (k : Kind). 0 < rows_in k (piece_view p)) (sym c.lead_kind-lead.ensures) (lead-some c.args.kind p c.requires.some) in
    let lead = first-kept c.lead_kind-lead.result p c.time_at-begins.result c.requires.rows some c.time_at-begins.ensures.time in
    let first = first-kept c.args.kind p c.time_at-first.result c.requires.rows c.requires.some c.time_at-first.ensures.time in
    let fits : FitsSigned w64 c.time_at-begins.result = search rules in
    let fits_too : FitsSigned w64 c.time_at-first.result = search rules in
    (simp to_z-of_z at c.gap.ensures.gap)
    ∙ begins-is p c.args.kind c.time_at-begins.result c.time_at-first.result c.requires.rows (subst (λ (k : Kind). First (kept_rows k p) c.time_at-begins.result) c.lead_kind-lead.ensures lead) first
