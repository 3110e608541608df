-- The edit of a track, as the movie's invariant has it.
use Rattle.std.proofs.Common.{Ok, Err, subst}
use Rattle.mp4_tracks.specs.Edits.{IsEditOf}
use Rattle.vod_meta.specs.Held.{HeldMovie}
use Rattle.vod_meta.specs.Shown.{edit_in_file}
use Rattle.vod_meta.proofs.ShownLemmas.{edit-ok, edit-err, edit_fault-fits}
use Rattle.vod_meta.proofs.meta.Meta.edit.Goals as goal

pub in_file-requires : goal.in_file-requires
in_file-requires c =
    edit_fault-fits c.self.inside.place c.self.inside.moov.items c.self.inside.tracks c.self.invariant.made c.args.track (record { short = c.self.invariant.short; within = c.self.invariant.within })
    c.in-Err.fault (rw c.deref.ensures.value at c.in-Err.ensures)

pub returns-in-Ok : goal.returns-in-Ok
returns-in-Ok c =
    subst (λ (m : HeldMovie). IsEditOf (edit_in_file m.movie c.args.track) (Ok c.in-Ok.edit)) c.self.view_is
    (edit-ok c.self.inside.place c.self.inside.moov.items c.self.inside.tracks c.self.invariant.made c.args.track c.in-Ok.edit (rw c.deref.ensures.value at c.in-Ok.ensures))

pub returns-in-Err : goal.returns-in-Err
returns-in-Err c =
    subst (λ (m : HeldMovie). IsEditOf (edit_in_file m.movie c.args.track) (Err c.in_file.result)) c.self.view_is
    (edit-err c.self.inside.place c.self.inside.moov.items c.self.inside.tracks c.self.invariant.made c.args.track c.in-Err.fault c.in_file.result (rw c.deref.ensures.value at c.in-Err.ensures) c.in_file.ensures)
