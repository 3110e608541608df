use Rattle.std.proofs.Common.{◌≡◌, ◌<◌, ◌^◌, ap, sym, ◌∙◌, ◌⊎◌, inl, inr, rules, arith, vec_len, length}
use Rattle.std.specs.Prelude.{option_map, unwrap_or, IfSome, ◌==◌}
use Rattle.std.specs.Option.{option_copied}
use Rattle.clip_model.specs.Mapping.{sequence_at}
use Rattle.clip_model.specs.Timeline.{sequence_timeline}
use Rattle.clip_model.proofs.TimelineKept.{timeline_in}
use Rattle.seq_timeline.specs.Drafts.{draft_view}
use Rattle.seq_timeline.proofs.PlacedLemmas.{no_sequence, nothing_selected, some_selected}
use Rattle.seq_timeline.proofs.sequence.timeline.Goals as goal

pub returns-then-sequence-eq0 : goal.returns-then-sequence-eq0
returns-then-sequence-eq0 c =
    let why : (c.args.sequence ≡ 0) ⊎ (c.sequences-have.result < c.args.sequence) = elim c.then-sequence-eq0.either [ inl h ↦ inl h | inr h ↦ inr h.1 ] in
    λ _. no_sequence c.args.root.now c.args.mapping.now c.args.sequence c.args.window (option_copied c.args.tracks) c.sequences-have.result c.sequences-have.ensures.count why

pub returns-then-is_empty : goal.returns-then-is_empty
returns-then-is_empty c =
    let w = c.args.window in
    let v = c.in_ok-draft.draft.pieces in
    let count : vec_len v ≡ length v.items = first_of (search rules, omega arith) in
    let m = c.args.mapping.now in
    let asked = option_copied c.args.tracks in
    let tracks = c.unwrap_or.ensures ∙ ap (λ o. unwrap_or o c.default_list.result) c.copied.ensures ∙ ap (unwrap_or asked) c.default_list.ensures in
    let made = sym (ap (λ ts. option_map (sequence_timeline c.args.root.now ts m w) (sequence_at m c.args.sequence)) tracks) ∙ c.in_ok-draft.ensures.draft in
    λ _. nothing_selected c.args.root.now m c.args.sequence w asked (draft_view c.in_ok-draft.draft) made (ap (λ n. n == 0) (sym count) ∙ sym c.is_empty.ensures ∙ c.if-is_empty.true)

pub returns : goal.returns
returns c =
    let w = c.args.window in
    let v = c.in_ok-draft.draft.pieces in
    let count : vec_len v ≡ length v.items = first_of (search rules, omega arith) in
    let m = c.args.mapping.now in
    let asked = option_copied c.args.tracks in
    let tracks = c.unwrap_or.ensures ∙ ap (λ o. unwrap_or o c.default_list.result) c.copied.ensures ∙ ap (unwrap_or asked) c.default_list.ensures in
    let made = sym (ap (λ ts. option_map (sequence_timeline c.args.root.now ts m w) (sequence_at m c.args.sequence)) tracks) ∙ c.in_ok-draft.ensures.draft in
    some_selected c.args.root.now m c.args.sequence w asked (draft_view c.in_ok-draft.draft) made (ap (λ n. n == 0) (sym count) ∙ sym c.is_empty.ensures ∙ c.if-is_empty.false)

pub invariant_of-result : goal.invariant_of-result
invariant_of-result c =
    let w = c.args.window in
    let v = c.in_ok-draft.draft.pieces in
    let count : vec_len v ≡ length v.items = first_of (search rules, omega arith) in
    let m = c.args.mapping.now in
    let asked = option_copied c.args.tracks in
    let tracks = c.unwrap_or.ensures ∙ ap (λ o. unwrap_or o c.default_list.result) c.copied.ensures ∙ ap (unwrap_or asked) c.default_list.ensures in
    let made = sym (ap (λ ts. option_map (sequence_timeline c.args.root.now ts m w) (sequence_at m c.args.sequence)) tracks) ∙ c.in_ok-draft.ensures.draft in
    let is = some_selected c.args.root.now m c.args.sequence w asked (draft_view c.in_ok-draft.draft) made (ap (λ n. n == 0) (sym count) ∙ sym c.is_empty.ensures ∙ c.if-is_empty.false) in
    let from : w.from < 2 ^ 32 = search rules in
    let to : IfSome w.to (λ t. t < 2 ^ 32) = search rules in
    timeline_in c.args.root.now m c.args.sequence w asked (draft_view c.in_ok-draft.draft) c.sequences-have.ensures.rules from to is
