use Rattle.std.proofs.Common.{List, ℕ, subst}
use Rattle.origin_model.specs.Outcomes.{setup_with}
use Rattle.mp4_flat.specs.Packed.{IsPacked}
use Rattle.vod_app.specs.Commands.{requested}
use Rattle.vod_app.proofs.RunLemmas.{packed_gains}
use Rattle.vod_source.proofs.CallLemmas.{told_with_all}
use Rattle.vod_app.proofs.packs.pack_with.Goals as goal

pub returns-clause-packed : goal.returns-clause-packed
returns-clause-packed g c =
    told_with_all (g.S.Store.content c.args.store.now) _ _ c.pack.ensures.told
    (λ files put. packed_gains _ _ _ c.pack.result _ c.packed.ensures
    (subst (λ (path : List ℕ). IsPacked (setup_with files (requested c.args.request) c.args.settings.now) path c.pack.result (g.K.Sink.written c.args.out.now) (g.K.Sink.written c.pack.new.out)) c.as_bytes.ensures.value put))
