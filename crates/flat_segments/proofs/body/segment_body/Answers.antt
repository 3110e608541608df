use Rattle.flat_segments.specs.Segments.{largest_of}
use Rattle.flat_segments.proofs.BodyLemmas.{as_fragment, as_stream}
use Rattle.flat_segments.proofs.body.segment_body.Goals as goal

pub returns-in-Ts-clause-told : goal.returns-in-Ts-clause-told
returns-in-Ts-clause-told g c =
    as_stream c.stream.result c.args.number c.args.form c.args.asked c.args.rows (g.S.Store.log c.args.files.now) (g.S.Store.log c.stream.new.files) (g.S.Store.content c.args.files.now) (largest_of c.args.rows) c.in-Ts.is c.stream.ensures.told

pub returns-in-Fmp4-clause-told : goal.returns-in-Fmp4-clause-told
returns-in-Fmp4-clause-told g c =
    as_fragment c.fragment.result c.args.number c.args.form c.args.asked c.args.rows (g.S.Store.log c.args.files.now) (g.S.Store.log c.fragment.new.files) (g.S.Store.content c.args.files.now) c.in-Fmp4.is c.fragment.ensures.told
