use Rattle.std.proofs.Common.{sym, ap, ◌∙◌}
use Rattle.vod_types.specs.declared.tracks.Kind.TheVariants.{Audio}
use Rattle.vod_types.specs.SegmentRows.{moved}
use Rattle.fmp4_writer.proofs.SamplesLemmas.{first-video, first-audio, IsRow-video, IsRow-audio, next_kind-audio}
use Rattle.fmp4_writer.proofs.writing.next_row.Goals as goal

pub returns-in-Some-clause-next : goal.returns-in-Some-clause-next
returns-in-Some-clause-next g c = first-video (g.R.Rows.rows c.args.rows.now) (g.R.Rows.places c.args.rows.now) _ c.in-Some.ensures.row

pub returns-in-Some-clause-row : goal.returns-in-Some-clause-row
returns-in-Some-clause-row g c = IsRow-video (g.R.Rows.rows c.args.rows.now) (g.R.Rows.places c.args.rows.now) _ c.in-Some.ensures.row

pub returns-in-Some-next-clause-places : goal.returns-in-Some-next-clause-places
returns-in-Some-next-clause-places g c =
    c.in-Some-next.ensures.places ∙ ap (moved Audio) c.in-None.ensures.places
    ∙ ap (λ kind. moved kind (g.R.Rows.places c.args.rows.now)) (sym (next_kind-audio (g.R.Rows.rows c.args.rows.now) (g.R.Rows.places c.args.rows.now) c.in-None.ensures.row))

pub returns-in-Some-next-clause-next : goal.returns-in-Some-next-clause-next
returns-in-Some-next-clause-next g c =
    first-audio (g.R.Rows.rows c.args.rows.now) (g.R.Rows.places c.args.rows.now) _ (g.R.Rows.rows c.next.new.self) (g.R.Rows.places c.next.new.self) c.in-None.ensures.rows c.in-None.ensures.places c.in-None.ensures.row c.in-Some-next.ensures.row

pub returns-in-Some-next-clause-row : goal.returns-in-Some-next-clause-row
returns-in-Some-next-clause-row g c =
    IsRow-audio (g.R.Rows.rows c.args.rows.now) (g.R.Rows.places c.args.rows.now) _ (g.R.Rows.rows c.next.new.self) (g.R.Rows.places c.next.new.self) c.in-None.ensures.rows c.in-None.ensures.places c.in-Some-next.ensures.row
