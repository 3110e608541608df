-- A time of the file in the media.
use Rattle.std.proofs.Common.{◌≡◌, ap, ◌∙◌, arith}
use Rattle.std.proofs.lemmas.Int.{ints}
use Rattle.mp4_model.specs.Edits.{Edit}
use Rattle.segment_model.specs.Rows.{lead_in_of}
use Rattle.vod_plan.proofs.SeekLemmas.{kept_by, media_found}
use Rattle.vod_plan.proofs.seeks.found_at.Goals as goal

pub returns-clause-value : goal.returns-clause-value
returns-clause-value g c = λ r e.
    let kind = c.args.kind in
    let cut = c.new-cut.result in
    let edit = c.new-cut.ensures.edit ∙ c.range.ensures.edit r e in
    let lead_in = c.new-cut.ensures.lead_in ∙ ap (lead_in_of kind) (c.range.ensures.edit r e) in
    let kept = kept_by kind cut r edit lead_in in
    let delay : cut.delay ≡ r.edit.delay = ap (λ (e : Edit). e.delay) edit in
    media_found kind r _ _ c.args.time (c.first_from.ensures.value r e) (omega (arith, ints, kept, delay, cut.from_is, cut.delay_units, cut.skip_units, c.requires.time))
