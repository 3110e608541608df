use Rattle.flat_samples.specs.Checks.{checked_view}
use Rattle.flat_lists.proofs.PartLemmas.{part_added}
use Rattle.flat_lists.proofs.part_tracks.PartTracks.add.Goals as goal

pub returns-clause-added : goal.returns-clause-added
returns-clause-added c =
    part_added c.add_rows-2.result c.args.place (checked_view c.args.piece.now c.args.tracks.now) _ _ c.args.self.now (record { video = c.add_rows.new.track; audio = c.add_rows-2.new.track })
    (c.video_alone.ensures.alone c.args.piece.now) (c.audio_alone.ensures.alone c.args.piece.now) c.in_ok-add_rows.ensures.added c.add_rows-2.ensures.added
