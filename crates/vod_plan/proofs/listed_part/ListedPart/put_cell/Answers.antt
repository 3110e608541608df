-- The I-frames of a cell, one after another.
use Rattle.std.proofs.Common.{◌≡◌, ◌+◌, ◌-◌, ◌<◌, ◌∷◌, [], ℕ, ℤ, drop, refl, sym, ap, ◌∙◌, arith, rules, FitsSigned, w64}
use Rattle.std.proofs.lemmas.Int.{to_z-of_z}
use Rattle.vod_plan.specs.declared.iframe_marks.Mark.{Mark}
use Rattle.vod_plan.specs.IframeMarks.{first_sync}
use Rattle.vod_plan.specs.ListingCells.{part_rows}
use Rattle.vod_plan.specs.ListingReach.{place_of}
use Rattle.vod_plan.proofs.IframeCells.{behind_all, left_begin, left_more, left_none, left_same, marks_at, marks_ended, marks_next, marks_past, row_there, sync_at, sync_stays}
use Rattle.vod_plan.proofs.listed_part.ListedPart.put_cell.Goals as goal

pub place-requires : goal.place-requires
place-requires g c = omega (arith, c.requires.first.front.small, c.requires.first.front.piece, c.requires.few)

pub loop-init : goal.loop-init
loop-init g c =
    let lead = (part_rows c.args.self.now).lead in
    let one : 1 ≡ c.args.out.now.count - c.args.out.now.count + 1 = omega arith in
    record {
      reached = c.requires.first;
      sync = c.requires.sync;
      low = omega (arith, c.place-counter.ensures);
      begun = refl;
      others = omega arith;
      kept = c.requires.kept;
      left = left_same c.args.out.now c.args.out.now (marks_at lead c.args.of c.args.to 1 (place_of c.args.first)) _ _ (ap (λ (i : ℕ). marks_at lead c.args.of c.args.to i (place_of c.args.first)) one)
          (left_begin c.args.out.now c.args.out.now _ refl);
      since = λ s le is. (s, le, is);
      looks = omega arith;
    }

pub returns-then-place-to-clause-marks : goal.returns-then-place-to-clause-marks
returns-then-place-to-clause-marks g c =
    let lead = (part_rows c.args.self.now).lead in
    let was = c.loop.invariant in
    left_none c.args.out.now c.loop.out _
    (left_same c.args.out.now c.loop.out _ [] _ (marks_past lead c.args.of c.args.to (c.loop.out.count - c.args.out.now.count + 1) (place_of c.loop.at) (omega (arith, c.if-place-to.true, c.place.ensures))) was.left) was.kept

pub returns-then-place-to-clause-next : goal.returns-then-place-to-clause-next
returns-then-place-to-clause-next g c = λ s le within is.
    let lead = (part_rows c.args.self.now).lead in
    let found = c.loop.invariant.since s le is in
    sync_stays lead found.0 c.args.to (place_of c.loop.at) found.2 found.1 (omega (arith, c.if-place-to.true, c.place.ensures))

pub returns-then-at-self-clause-marks : goal.returns-then-at-self-clause-marks
returns-then-at-self-clause-marks g c =
    let lead = (part_rows c.args.self.now).lead in
    let was = c.loop.invariant in
    left_none c.args.out.now c.loop.out _
    (left_same c.args.out.now c.loop.out _ [] _
    (marks_ended lead c.args.of c.args.to (c.loop.out.count - c.args.out.now.count + 1) (place_of c.loop.at) (behind_all c.args.self.now.leads c.args.self.now.pieces.now c.loop.at was.reached.front (omega (arith, c.if-at-self.true)))) was.left)
    was.kept

pub returns-then-at-self-clause-next : goal.returns-then-at-self-clause-next
returns-then-at-self-clause-next g c = λ s le within is.
    let past = behind_all c.args.self.now.leads c.args.self.now.pieces.now c.loop.at c.loop.invariant.reached.front (omega (arith, c.if-at-self.true)) in
    absurd (omega (arith, past, within, c.if-place-to.false, c.place.ensures))

pub loop-preserved : goal.loop-preserved
loop-preserved g c =
    let lead = (part_rows c.args.self.now).lead in
    let end : FitsSigned w64 c.args.of.end = search rules in
    let start : FitsSigned w64 c.time_there-start.result = search rules in
    let was = c.loop.invariant in
    let p = place_of c.loop.at in
    let q = place_of c.next_sync-at.result in
    let i = c.loop.out.count - c.args.out.now.count + 1 in
    let below : p < c.args.to = omega (arith, c.if-place-to.false, c.place.ensures) in
    let there = row_there c.time_there-start.result _ c.time_there-start.ensures.time in
    let next : q ≡ p + 1 + first_sync (drop (p + 1) lead) = c.next_sync-at.ensures.place in
    let first = marks_next lead c.args.of c.args.to i p q there.0 below there.1 was.sync next in
    let same : record c.args.of { index = i; start = there.0.place } ∷ marks_at lead c.args.of c.args.to (i + 1) q ≡ record c.args.of { index = i; start = c.time_there-start.result } ∷ marks_at lead c.args.of c.args.to (i + 1) q =
    ap (λ (time : ℤ). let m : Mark = record c.args.of { index = i; start = time } in m ∷ marks_at lead c.args.of c.args.to (i + 1) q) (sym there.2) in
    let added = simp to_z-of_z at c.in_ok-put.ensures.put in
    let more : c.put.new.self.count ≡ c.loop.out.count + 1 = added.count in
    let index : i + 1 ≡ c.put.new.self.count - c.args.out.now.count + 1 = omega (arith, more, was.others, was.begun) in
    record {
      reached = c.next_sync-at.ensures.reached;
      sync = sync_at lead (p + 1) q next;
      low = omega (arith, next, was.low);
      begun = refl;
      others = omega (arith, more, was.others, was.begun);
      kept = c.in_ok-put.ensures.kept;
      left = left_same c.args.out.now c.put.new.self (marks_at lead c.args.of c.args.to (i + 1) q) _ _ (ap (λ (n : ℕ). marks_at lead c.args.of c.args.to n q) index)
          (left_more c.args.out.now c.loop.out c.put.new.self (record c.args.of { index = i; start = c.time_there-start.result } ∷ []) _ _ (left_same c.args.out.now c.loop.out _ _ _ (first ∙ same) was.left) added);
      since = λ s le is. (p + 1, omega (arith, below), next);
      looks = omega (arith, was.looks, c.time_there-start.ensures.looks, c.next_sync-at.ensures.looks, more);
    }

pub returns-clause-marks : goal.returns-clause-marks
returns-clause-marks g c =
    let lead = (part_rows c.args.self.now).lead in
    let was = c.loop.invariant in
    left_none c.args.out.now c.loop.out _
    (left_same c.args.out.now c.loop.out _ [] _ (marks_past lead c.args.of c.args.to (c.loop.out.count - c.args.out.now.count + 1) (place_of c.loop.at) (omega (arith, c.loop-test.false, was.low))) was.left) was.kept

pub returns-clause-next : goal.returns-clause-next
returns-clause-next g c = λ s le within is.
    let lead = (part_rows c.args.self.now).lead in
    let found = c.loop.invariant.since s le is in
    sync_stays lead found.0 c.args.to (place_of c.loop.at) found.2 found.1 (omega (arith, c.loop-test.false, c.loop.invariant.low))
