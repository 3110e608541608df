use Rattle.std.proofs.Common.{sym}
use Rattle.fmp4_writer.proofs.EntryLemmas.{init_segment-is}
use Rattle.fmp4_writer.proofs.movie.init.Goals as goal

pub returns : goal.returns
returns c = rw (c.into_vec.ensures, c.in_ok-put_movie.ensures, c.in_ok-put_file_type.ensures, c.new-buf.ensures) (sym (init_segment-is _ _ _ _))
