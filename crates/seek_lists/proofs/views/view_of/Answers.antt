-- The view of a track that is there, and none of a faulty one.
use Rattle.mp4_tracks.specs.Views.{good_of}
use Rattle.seek_lists.proofs.ViewLemmas.{seen_good, seen_faulty}
use Rattle.seek_lists.proofs.views.view_of.Goals as goal

pub returns-in-Ok-clause-view : goal.returns-in-Ok-clause-view
returns-in-Ok-clause-view c = seen_good c.args.meta.now.movie c.args.track c.in-Some.track c.in-Some.is (good_of c.in-Ok.view) c.in-Ok.ensures.view.0

pub returns-in-Err-clause-view : goal.returns-in-Err-clause-view
returns-in-Err-clause-view c = seen_faulty c.args.meta.now.movie c.args.track c.in-Some.track c.in-Some.is c.in-Err.field-0 c.in-Err.ensures.view
