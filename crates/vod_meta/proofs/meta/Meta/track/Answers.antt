-- The view of a track, as the movie's invariant has it.
use Rattle.std.proofs.Common.{◌≡◌, Ok, Err, subst, arith}
use Rattle.mp4_tracks.specs.Views.{good_of, IsViewOf}
use Rattle.vod_meta.specs.Held.{HeldMovie, tracks_in}
use Rattle.vod_meta.specs.Shown.{view_in_file}
use Rattle.vod_meta.proofs.EntryLemmas.{view-entry}
use Rattle.vod_meta.proofs.ShownLemmas.{tracks-known, view-ok, view-err, view-usable, fault-fits}
use Rattle.vod_meta.proofs.meta.Meta.track.Goals as goal

pub in_file-requires : goal.in_file-requires
in_file-requires c =
    fault-fits c.self.inside.place c.self.inside.moov.items c.self.inside.tracks c.self.invariant.made c.args.track (record { short = c.self.invariant.short; within = c.self.invariant.within })
    c.in-Err.fault (rw c.deref.ensures.value at c.in-Err.ensures)

pub returns-in-Ok-clause-view : goal.returns-in-Ok-clause-view
returns-in-Ok-clause-view c =
    subst (λ (m : HeldMovie). IsViewOf (view_in_file m.movie c.args.track) (Ok c.in-Ok.view)) c.self.view_is
    (view-ok c.self.inside.place c.self.inside.moov.items c.self.inside.tracks c.self.invariant.made c.args.track c.in-Ok.view (rw c.deref.ensures.value at c.in-Ok.ensures))

pub returns-in-Ok-clause-usable : goal.returns-in-Ok-clause-usable
returns-in-Ok-clause-usable c =
    view-usable c.self.inside.moov.items c.self.inside.tracks c.self.invariant.made c.args.track c.in-Ok.view (rw c.deref.ensures.value at c.in-Ok.ensures)
    (omega (arith, c.timescale_of-fits.ensures.value, c.timescale_of-fits.ensures.fits))

pub returns-in-Ok-clause-entry : goal.returns-in-Ok-clause-entry
returns-in-Ok-clause-entry c =
    let moov = c.self.inside.moov.items in
    let tracks = c.self.inside.tracks in
    let made = c.self.invariant.made in
    let known = tracks-known moov tracks made c.args.track in
    let view = (rw c.deref.ensures.value at c.in-Ok.ensures) (tracks_in moov) known in
    view-entry moov tracks (tracks_in moov) c.args.track (good_of c.in-Ok.view) made known c.self.invariant.short view.0

pub returns-in-Err-clause-view : goal.returns-in-Err-clause-view
returns-in-Err-clause-view c =
    subst (λ (m : HeldMovie). view_in_file m.movie c.args.track ≡ Err c.in_file.result) c.self.view_is
    (view-err c.self.inside.place c.self.inside.moov.items c.self.inside.tracks c.self.invariant.made c.args.track c.in-Err.fault c.in_file.result (rw c.deref.ensures.value at c.in-Err.ensures) c.in_file.ensures)
