use Rattle.rehearsal_laws.proofs.Listed.{every_number_is_listed}
use Rattle.rehearsal_laws.proofs.every_number_is_listed.Goals as goal

pub returns : goal.returns
returns c = every_number_is_listed
