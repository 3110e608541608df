-- The views of the asked tracks are written.
use Rattle.seek_lists.proofs.InitLemmas.{views_written}
use Rattle.seek_lists.proofs.inits.init_of.Goals as goal

pub returns-clause-bytes : goal.returns-clause-bytes
returns-clause-bytes c =
    views_written (λ bytes. bytes.items) c.args.meta.now.movie c.args.video c.args.audio _ _ c.init_of_views.result c.view_of.ensures.view c.view_of-2.ensures.view c.init_of_views.ensures.bytes
