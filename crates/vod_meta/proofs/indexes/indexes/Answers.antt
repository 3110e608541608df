-- The next track has checkpoints, or there is none.
use Rattle.std.proofs.Common.{◌≡◌, ℕ, List, ◌++◌, ◌∷◌, [], take, arith, sym, ap, ◌∙◌}
use Rattle.std.specs.Prelude.{Option}
use Rattle.vod_meta.specs.Held.{tracks_in}
use Rattle.vod_meta.specs.Kept.{indexes_of}
use Rattle.vod_meta.specs.declared.indexes.TrackIndex.{TrackIndex}
use Rattle.vod_meta.proofs.IndexLemmas.{one_more, none_more, all_of_them}
use Rattle.vod_meta.proofs.indexes.indexes.Goals as goal

pub returns-in-None : goal.returns-in-None
returns-in-None c = c.loop-before.invariant ∙ none_more c.args.kind (tracks_in c.args.moov.now) c.loop-before.before (sym c.in-None.is ∙ c.in_ok-index.ensures)

pub loop-before-preserved : goal.loop-before-preserved
loop-before-preserved c =
    c.in_ok-push-in-Some.ensures.items
    ∙ ap (λ (list : List (Option TrackIndex)). list ++ c.in-Some.index ∷ []) c.loop-before.invariant
    ∙ sym (one_more c.args.kind (tracks_in c.args.moov.now) c.loop-before.before c.in-Some.index (sym c.in-Some.is ∙ c.in_ok-index.ensures))

pub returns : goal.returns
returns c =
    let last : c.loop-before.before ≡ 99 = omega (arith, c.loop-before-test.false, c.loop-before.auto.before-end) in
    c.loop-before.invariant
    ∙ ap (λ (n : ℕ). take n (indexes_of c.args.kind (tracks_in c.args.moov.now))) last
    ∙ all_of_them c.args.kind (tracks_in c.args.moov.now)
