use Rattle.std.proofs.Common.{◌≡◌, [], None, Some, length, map, vec_len, ap, sym, ◌∙◌, subst, arith}
use Rattle.std.proofs.lemmas.List.Elements.{All-cons, All-nil, All-filter}
use Rattle.vod_types.specs.declared.refusal.Refusal.TheVariants.{NoIframe}
use Rattle.vod_types.specs.Lists.{nth_from_one}
use Rattle.segment_model.specs.Iframes.{sync_rows}
use Rattle.segment_model.proofs.TrackRowsLemmas.{same_rows}
use Rattle.flat_samples.specs.Rows.{part_rows, timed_view, ArePlacedRows, IsPlacedRow}
use Rattle.flat_segments.specs.Planned.{lone_row}
use Rattle.flat_segments.proofs.LoneIframes.{nth_all, sync_count, sync_few, sync_nth}
use Rattle.flat_segments.proofs.lone_iframe.alone.Goals as goal

pub overflow_cast-result : goal.overflow_cast-result
overflow_cast-result c =
    let counted : vec_len c.in_ok-sync.sync ≡ length c.in_ok-sync.sync.items = omega arith in
    let few = sync_few c.args.lead.now c.in_ok-sync.sync.items c.in_ok-sync.ensures.samples in
    omega (arith, counted, few, c.requires.few, c.len.ensures)

pub returns-in_default-clause-none : goal.returns-in_default-clause-none
returns-in_default-clause-none c = λ other.
    let counted : vec_len c.in_ok-sync.sync ≡ length c.in_ok-sync.sync.items = omega arith in
    let are = c.in_ok-sync.ensures.samples in
    let none : None ≡ nth_from_one c.in_ok-sync.sync.items c.args.index = sym c.in_default.is ∙ c.from_one.ensures ∙ ap (λ ss. nth_from_one ss c.args.index) c.deref.ensures.value in (
      sync_nth c.args.lead.now c.in_ok-sync.sync.items are c.args.index None none,
      ap (NoIframe c.args.index) (c.len.ensures ∙ counted ∙ sym (sync_count c.args.lead.now c.in_ok-sync.sync.items are)),
    )

pub returns-clause-found : goal.returns-clause-found
returns-clause-found c =
    let some = sym c.in-Some.is ∙ c.from_one.ensures ∙ ap (λ ss. nth_from_one ss c.args.index) c.deref.ensures.value in (
      timed_view c.in-Some.sample,
      sync_nth c.args.lead.now c.in_ok-sync.sync.items c.in_ok-sync.ensures.samples c.args.index (Some c.in-Some.sample) some,
      same_rows (part_rows (record { lead = c.in-Ok.lead; other = c.new.result })) (lone_row (timed_view c.in-Some.sample)) (ap (map timed_view) c.in-Ok.ensures.items) (ap (map timed_view) c.new.ensures.items),
    )

pub returns-clause-placed : goal.returns-clause-placed
returns-clause-placed c =
    let found = returns-clause-found c in
    let placed = nth_all IsPlacedRow (sync_rows (map timed_view c.args.lead.now)) c.args.index found.0 found.1 (All-filter (λ r. r.sync) IsPlacedRow (map timed_view c.args.lead.now) c.requires.placed) in
    subst ArePlacedRows (sym found.2) (record { lead = All-cons IsPlacedRow found.0 [] placed (All-nil IsPlacedRow); other = All-nil IsPlacedRow })
