use Rattle.mp4_tracks.specs.Views.{good_of}
use Rattle.flat_lists.proofs.CodecLemmas.{hevc-named, avc-named}
use Rattle.flat_lists.proofs.codecs.codec_name.Goals as goal

pub returns-then-is_hevc_type : goal.returns-then-is_hevc_type
returns-then-is_hevc_type c = hevc-named (good_of c.args.track.now) c.args.track.now.fourcc c.hevc_name.result c.requires c.if-is_hevc_type.ensures c.hevc_name.ensures

pub returns-else-is_hevc_type : goal.returns-else-is_hevc_type
returns-else-is_hevc_type c = avc-named (good_of c.args.track.now) c.args.track.now.fourcc c.avc_name.result c.requires c.if-is_hevc_type.ensures c.avc_name.ensures
