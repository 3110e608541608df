use Rattle.std.proofs.Common.{◌≡◌, ◌+◌, append_assoc}
use Rattle.std.specs.Option.{option_copied}
use Rattle.media_model.specs.InitSegment.{entry_size}
use Rattle.fmp4_writer.specs.Entry.{defaults_size}
use Rattle.fmp4_writer.proofs.EntryLemmas.{movie-sized, ForSome-copied}
use Rattle.fmp4_writer.proofs.movie.put_movie.Goals as goal

pub returns : goal.returns
returns c =
    let tracks : c.track_size.result + c.track_size-2.result ≡ entry_size 329 (option_copied c.args.video) + entry_size 325 (option_copied c.args.audio) = cc in
    let defaults : c.defaults_size.result + c.defaults_size-2.result ≡ defaults_size (option_copied c.args.video) + defaults_size (option_copied c.args.audio) = cc in
    rw (c.in_ok-put_given_defaults-2.ensures, c.in_ok-put_given_defaults.ensures, c.in_ok-bytes-2.ensures.ok, c.in_ok-u32-2.ensures.ok, c.in_ok-put_given_track-2.ensures, c.in_ok-put_given_track.ensures, c.in_ok-put_movie_header.ensures, c.in_ok-bytes.ensures.ok, c.in_ok-u32.ensures.ok, movie-sized _ c.args.size.0 c.args.size.1 _ _ _ (ForSome-copied _ c.requires.video) (ForSome-copied _ c.requires.audio) tracks defaults) (simp append_assoc)
