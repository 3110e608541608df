use Rattle.mp4_flat.proofs.AnsweredPaths.{asked_of, none_failed, read_as, refused_of}
use Rattle.mp4_flat.proofs.requests.path_ask.Goals as goal

pub returns-clause-answers : goal.returns-clause-answers
returns-clause-answers c = read_as c.args.path.now c.read_path.result c.read_path.ensures

pub returns-clause-ask : goal.returns-clause-ask
returns-clause-ask c = asked_of c.args.path.now c.read_path.result c.read_path.ensures

pub returns-clause-none_failed : goal.returns-clause-none_failed
returns-clause-none_failed c = none_failed c.args.path.now c.read_path.result c.read_path.ensures

pub returns-clause-refused : goal.returns-clause-refused
returns-clause-refused c = refused_of c.args.path.now c.read_path.result c.read_path.ensures
