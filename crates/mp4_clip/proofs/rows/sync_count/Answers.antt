-- The sync rows of a range are those before its end, without those before its first row.
use Rattle.std.proofs.Common.{◌≡◌, sym, ap, ◌∙◌, arith}
use Rattle.mp4_model.specs.GoodTracks.{GoodTrack}
use Rattle.mp4_model.specs.Samples.{sample_count}
use Rattle.mp4_model.proofs.FittingLemmas.{usable_fits}
use Rattle.mp4_tracks.specs.Views.{good_of}
use Rattle.mp4_clip.specs.Syncs.{syncs_before}
use Rattle.mp4_clip.proofs.FirstRows.{has-range}
use Rattle.mp4_clip.proofs.KeptRows.{kept-syncs}
use Rattle.mp4_clip.proofs.TrackLemmas.{track-shown, track-there}
use Rattle.mp4_clip.proofs.rows.sync_count.Goals as goal

pub returns-in_default-clause-count : goal.returns-in_default-clause-count
returns-in_default-clause-count g c =
    let p = c.args.rows.now in
    let has = has-range c.args.kind p c.requires.rows (sym c.has.ensures ∙ cc) in
    absurd (track-there c.args.kind p c.range-span.result has.range c.deref.result.now c.range-span.ensures.span has.is c.deref.ensures c.in_default.field-0 c.in_default.ensures.view)

pub syncs_before-before-requires-clause-fit : goal.syncs_before-before-requires-clause-fit
syncs_before-before-requires-clause-fit g c = usable_fits (good_of c.in-Ok.view) c.in-Ok.ensures.usable

pub syncs_before-before-requires-clause-within : goal.syncs_before-before-requires-clause-within
syncs_before-before-requires-clause-within g c =
    let p = c.args.rows.now in
    let has = has-range c.args.kind p c.requires.rows (sym c.has.ensures ∙ cc) in
    let is = track-shown c.args.kind p c.range-span.result has.range c.deref.result.now c.range-span.ensures.span has.is c.deref.ensures (good_of c.in-Ok.view) c.in-Ok.ensures.view.0 in
    let count = ap (λ (t : GoodTrack). sample_count t.tables) is in
    omega (arith, count, c.range-span.ensures.from has.range has.is, has.good.from, has.good.to)

pub syncs_before-through-requires-clause-within : goal.syncs_before-through-requires-clause-within
syncs_before-through-requires-clause-within g c =
    let p = c.args.rows.now in
    let has = has-range c.args.kind p c.requires.rows (sym c.has.ensures ∙ cc) in
    let is = track-shown c.args.kind p c.range-span.result has.range c.deref.result.now c.range-span.ensures.span has.is c.deref.ensures (good_of c.in-Ok.view) c.in-Ok.ensures.view.0 in
    let count = ap (λ (t : GoodTrack). sample_count t.tables) is in
    omega (arith, count, c.range-span.ensures.to has.range has.is, has.good.to)

pub overflow_sub-result : goal.overflow_sub-result
overflow_sub-result g c =
    let p = c.args.rows.now in
    let has = has-range c.args.kind p c.requires.rows (sym c.has.ensures ∙ cc) in
    let is = track-shown c.args.kind p c.range-span.result has.range c.deref.result.now c.range-span.ensures.span has.is c.deref.ensures (good_of c.in-Ok.view) c.in-Ok.ensures.view.0 in
    let all = kept-syncs c.args.kind p has.range has.is has.good in
    let before : c.syncs_before-before.result ≡ syncs_before has.range.track.tables has.range.from =
    c.syncs_before-before.ensures.count ∙ ap (λ (t : GoodTrack). syncs_before t.tables c.range-span.result.from) is ∙ ap (syncs_before has.range.track.tables) (c.range-span.ensures.from has.range has.is) in
    let through : c.syncs_before-through.result ≡ syncs_before has.range.track.tables has.range.to =
    c.syncs_before-through.ensures.count ∙ ap (λ (t : GoodTrack). syncs_before t.tables c.range-span.result.to) is ∙ ap (syncs_before has.range.track.tables) (c.range-span.ensures.to has.range has.is) in
    omega (arith, all, before, through)

pub returns-clause-count : goal.returns-clause-count
returns-clause-count g c =
    let p = c.args.rows.now in
    let has = has-range c.args.kind p c.requires.rows (sym c.has.ensures ∙ cc) in
    let is = track-shown c.args.kind p c.range-span.result has.range c.deref.result.now c.range-span.ensures.span has.is c.deref.ensures (good_of c.in-Ok.view) c.in-Ok.ensures.view.0 in
    let all = kept-syncs c.args.kind p has.range has.is has.good in
    let before : c.syncs_before-before.result ≡ syncs_before has.range.track.tables has.range.from =
    c.syncs_before-before.ensures.count ∙ ap (λ (t : GoodTrack). syncs_before t.tables c.range-span.result.from) is ∙ ap (syncs_before has.range.track.tables) (c.range-span.ensures.from has.range has.is) in
    let through : c.syncs_before-through.result ≡ syncs_before has.range.track.tables has.range.to =
    c.syncs_before-through.ensures.count ∙ ap (λ (t : GoodTrack). syncs_before t.tables c.range-span.result.to) is ∙ ap (syncs_before has.range.track.tables) (c.range-span.ensures.to has.range has.is) in
    omega (arith, all, before, through)
