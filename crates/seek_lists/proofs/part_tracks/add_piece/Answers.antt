-- The selected rows of the piece stand behind the others.
use Rattle.std.proofs.Common.{refl}
use Rattle.vod_plan.specs.Tracks.{checked_view}
use Rattle.seek_lists.proofs.PartLemmas.{sound_more, track_more}
use Rattle.seek_lists.proofs.part_tracks.add_piece.Goals as goal

pub returns-clause-added : goal.returns-clause-added
returns-clause-added g c =
    track_more c.args.track.now.pieces.items c.selected.result (checked_view c.args.piece.now c.args.tracks.now) c.args.place c.requires.placed.count_is c.args.track.now.facts c.args.kind
    (checked_view c.args.piece.now c.in_ok-own.own) c.push.new.self.items c.requires.placed.kind_is c.in_ok-push.ensures.items (c.in_ok-own.ensures.seen c.args.piece.now) c.selected.ensures.selected

pub returns-clause-placed : goal.returns-clause-placed
returns-clause-placed g c =
    sound_more c.args.track.now (record { facts = c.args.track.now.facts; pieces = c.push.new.self }) c.selected.result (checked_view c.args.piece.now c.in_ok-own.own) c.args.kind c.args.place c.requires.placed refl
    c.in_ok-push.ensures.items c.selected.ensures.kept c.selected.ensures.selected
