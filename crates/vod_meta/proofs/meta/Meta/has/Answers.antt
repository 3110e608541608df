-- Whether the file has a track.
use Rattle.std.proofs.Common.{◌≡◌, true, sym, subst, ◌∙◌}
use Rattle.origin_model.specs.Loaded.{file_has}
use Rattle.vod_meta.specs.Held.{HeldMovie}
use Rattle.vod_meta.specs.Read.{is_there}
use Rattle.vod_meta.proofs.ShownLemmas.{has-good, has-faulty}
use Rattle.vod_meta.proofs.meta.Meta.has.Goals as goal

pub returns-in-Ok : goal.returns-in-Ok
returns-in-Ok c =
    sym (subst (λ (m : HeldMovie). file_has m.movie c.args.track ≡ true) c.self.view_is
    (has-good c.self.inside.place c.self.inside.moov.items c.self.inside.tracks c.self.invariant.made c.args.track c.in-Ok.field-0 (rw c.deref.ensures.value at c.in-Ok.ensures)))

pub returns-in-Err : goal.returns-in-Err
returns-in-Err c =
    c.is_there.ensures
    ∙ sym (subst (λ (m : HeldMovie). file_has m.movie c.args.track ≡ is_there c.in-Err.fault) c.self.view_is
    (has-faulty c.self.inside.place c.self.inside.moov.items c.self.inside.tracks c.self.invariant.made c.args.track c.in-Err.fault (rw c.deref.ensures.value at c.in-Err.ensures)))
