-- One more, or none.
use Rattle.std.proofs.Common.{◌≡◌, ℕ, ℤ, [], ◌∷◌, All, sym, subst, w64, of_z, to_z, ap, ap₂, ◌∙◌, arith}
use Rattle.std.specs.Prelude.{◌==◌, ◌+◌, length}
use Rattle.std.proofs.lemmas.Int.{ints}
use Rattle.std.proofs.lemmas.List.Elements.{All-append, All-cons, All-nil}
use Rattle.vod_plan.specs.ListingCells.{segment_between, HasPart}
use Rattle.vod_plan.specs.ListingReach.{place_of}
use Rattle.vod_plan.proofs.ListingSteps.{one_more, none_more}
use Rattle.vod_plan.proofs.listed_part.ListedPart.list_cell.Goals as goal
use Rattle.vod_plan.proofs.listed_part.ListedPart.list_cell.Goals.{then-place+in_ok-push, else-place}

pub returns-clause-row : goal.returns-clause-row
returns-clause-row c =
    let p = c.args.self.now in
    let out = c.args.out.now.items in
    let due = segment_between p.leads p.part (p.number + c.args.k) c.args.end c.args.from c.args.next (length out == c.args.others) in
    let same : to_z w64 (of_z w64 c.args.end) ≡ c.args.end = omega (arith, ints, c.requires.end) in
    elim c.if-place.branch [
      | then-place+in_ok-push w ↦ one_more (place_of c.args.from.lead) (place_of c.args.next.lead) out c.if-place.out.items w.segment.result due
          (omega (arith, w.if-place.true, c.place.ensures, c.place-2.ensures))
          (ap (λ v. v.items) w.out-is ∙ w.in_ok-push.ensures.items)
          (w.segment.ensures.row ∙ ap₂ (λ (t : ℤ) (n : ℕ). segment_between p.leads p.part (p.number + c.args.k) t c.args.from c.args.next (n == c.args.others)) same (let full : w.len.result ≡ length out = omega (arith, w.len.ensures, c.args.out.now.ok.0) in full))
      | else-place w ↦ none_more (place_of c.args.from.lead) (place_of c.args.next.lead) out c.if-place.out.items due
          (omega (arith, w.if-place.false, c.place.ensures, c.place-2.ensures))
          (ap (λ v. v.items) w.out-is)
    ]

pub returns-clause-parts : goal.returns-clause-parts
returns-clause-parts c = λ before.
    elim c.if-place.branch [
      | then-place+in_ok-push w ↦
          let part : HasPart w.segment.result = omega (arith, w.segment.ensures.part, c.requires.part) in
          subst (All HasPart) (sym (ap (λ v. v.items) w.out-is ∙ w.in_ok-push.ensures.items))
          (All-append HasPart c.args.out.now.items (w.segment.result ∷ []) before (All-cons HasPart w.segment.result [] part (All-nil HasPart)))
      | else-place w ↦ subst (All HasPart) (sym (ap (λ v. v.items) w.out-is)) before
    ]
