use Rattle.vod_laws.proofs.EverySample.{asked_parts, every_sample_once}
use Rattle.vod_laws.proofs.every_sample_once.Goals as goal

pub returns-clause-parts : goal.returns-clause-parts
returns-clause-parts c = asked_parts

pub returns-clause-samples : goal.returns-clause-samples
returns-clause-samples c = every_sample_once c.partition.ensures c.one_cut.ensures
