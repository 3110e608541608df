use Rattle.std.proofs.Common.{◌≡◌, ◌<◌, ◌+◌, true, ℕ, List, [], ◌∷◌, length, map, drop, subst, ap, ◌∙◌, arith}
use Rattle.std.specs.Prelude.{sum_by}
use Rattle.std.specs.List.{AllByRecursion}
use Rattle.std.proofs.lemmas.List.Sums.{sum_by-cons}
use Rattle.clip_model.specs.Mapping.{file_count}
use Rattle.clip_model.specs.Timeline.{spans}
use Rattle.clip_model.specs.Timeline as model
use Rattle.seq_timeline.specs.declared.places.Placed.{Placed}
use Rattle.seq_timeline.specs.Bounds.{IsPlaced}
use Rattle.seq_timeline.specs.Spans.{timeline_of_clips, kept_shares, with_shares}
use Rattle.seq_timeline.specs.Views.{placed_view}
use Rattle.seq_timeline.specs.Drafts.{draft_view}
use Rattle.seq_timeline.proofs.PieceLemmas.{drop_item}
use Rattle.seq_timeline.proofs.ShareLemmas.{shares_next, counts_next}
use Rattle.seq_timeline.proofs.sequence.apart.Goals as goal

pub loop-placed-preserved : goal.loop-placed-preserved
loop-placed-preserved c =
    let s = c.args.selection.now in
    let xs = c.args.clips.now in
    let i = c.loop-placed.placed-index in
    let x = c.placed-item.result in
    let k = c.loop-placed.invariant in
    let lt : i < length xs = omega arith in
    let e = drop_item xs i x lt c.placed-item.is in
    let P : List Placed → Type 0 = λ ps. AllByRecursion IsPlaced (map placed_view ps) in
    let each = subst P e k.each in
    let f : model.Placed → ℕ = λ p. file_count p.clip in
    let files = ap (λ ps. sum_by f (map placed_view ps)) e ∙ sum_by-cons f (placed_view x) (map placed_view (drop (i + 1) xs)) in
    let t = draft_view c.loop-placed.draft in
    let now = draft_view c.push_part.new.draft in
    let all = timeline_of_clips s.root.now s.tracks s.window true (map placed_view xs) in
    let Q : List Placed → Type 0 = λ ps. with_shares t (kept_shares s.root.now s.tracks s.window (length t.parts) (spans true (map placed_view ps))) ≡ all in
    let p = placed_view x in
    let counted = counts_next s.root.now s.tracks s.window t now p c.in_ok-push_part.ensures.part in
    record {
      shares = shares_next s.root.now s.tracks s.window t now all (record { start = p.start; length = p.length; clips = p ∷ [] }) (spans true (map placed_view (drop (i + 1) xs))) c.in_ok-push_part.ensures.part (subst Q e k.shares);
      pieces = omega (arith, k.pieces, files, counted.0);
      parts = omega (arith, k.parts, counted.1);
      count = k.count;
      each = each.1;
    }
