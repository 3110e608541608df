use Rattle.mp4_model.specs.Avc.{read_avcc}
use Rattle.av_repack.specs.Records.{config_of}
use Rattle.flat_lists.proofs.CodecLemmas.{avc_name-is}
use Rattle.flat_lists.proofs.codecs.avc_name.Goals as goal

pub returns-in-Some : goal.returns-in-Some
returns-in-Some c = avc_name-is c.avc_name_of.result (config_of c.in-Some.record) (read_avcc c.args.config.now) c.in-Some.ensures c.avc_name_of.ensures
