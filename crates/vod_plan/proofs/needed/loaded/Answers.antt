-- A turn on the file of a piece.
use Rattle.std.specs.Rc.{rc_value}
use Rattle.vod_meta.specs.Held.{HeldMovie}
use Rattle.vod_plan.proofs.CacheLemmas.{tells_turn}
use Rattle.vod_plan.proofs.needed.loaded.Goals as goal

pub returns-clause-turned : goal.returns-clause-turned
returns-clause-turned g c =
    tells_turn (λ v. (rc_value {X = HeldMovie} v).movie) (g.S.Store.content c.args.store.now) c.load.result c.as_str.result.now c.args.piece.now.name c.args.metas.now c.load.new.self _ _
    c.as_str.ensures c.requires.held c.load.ensures.told c.load.ensures.names c.load.ensures.same

pub returns-clause-named : goal.returns-clause-named
returns-clause-named g c = rw c.as_str.ensures at c.load.ensures.named
