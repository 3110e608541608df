use Rattle.answer_laws.proofs.Answers.{path_answered}
use Rattle.answer_laws.proofs.answers_of_paths.Goals as goal

pub returns : goal.returns
returns c = path_answered
