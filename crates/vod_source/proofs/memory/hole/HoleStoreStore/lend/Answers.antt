use Rattle.std.proofs.Common.{rules, ◌≡◌, ◌∙◌, refl, ap, length}
use Rattle.vod_source.specs.Stored.{bytes_at}
use Rattle.vod_source.specs.Memory.{hole_file, zero_filled}
use Rattle.vod_source.proofs.RangeLemmas.{length-bytes_at}
use Rattle.vod_source.proofs.ZeroLemmas.{hole_bytes}
use Rattle.vod_source.proofs.memory.hole.HoleStoreStore.lend.Goals as goal

pub returns : goal.returns
returns c =
    let hole = c.args.self.now in
    let first : c.deref.result.now ≡ hole.first = search rules in
    let shown : c.deref-2.result.now ≡ bytes_at (hole_file hole) c.args._name.now c.args.at c.args.n =
    c.deref-2.ensures.value ∙ c.refill.ensures.bytes ∙ ap (λ l. zero_filled l c.args.at c.args.n) first
    ∙ hole_bytes hole c.args._name.now c.args.at c.args.n c.requires.some c.requires.within in (
      (refl, λ _. tt, record { content = search rules; log = refl; later = search rules; failed = tt; moved = tt }),
      (ap length shown ∙ length-bytes_at (hole_file hole) c.args._name.now c.args.at c.args.n c.requires.within, shown),
    )
