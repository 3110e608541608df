use Rattle.std.proofs.Common.{◌≡◌, Some, map, ap, sym, ◌∙◌, subst, true, false}
use Rattle.std.specs.Prelude.{option_map}
use Rattle.clip_map.specs.Views.{clip_view}
use Rattle.clip_model.specs.Mapping.{sequence_at}
use Rattle.clip_model.specs.Timeline.{clip_lengths, placed_from, sequence_timeline}
use Rattle.seq_timeline.specs.declared.sequence.Draft.{Draft}
use Rattle.seq_timeline.specs.Bounds.{ArePlaced}
use Rattle.seq_timeline.specs.Spans.{timeline_of_clips}
use Rattle.seq_timeline.specs.Views.{placed_view}
use Rattle.seq_timeline.specs.Drafts.{draft_view}
use Rattle.seq_timeline.proofs.PlacedLemmas.{mapped_placed, timeline_found, if_ok_then}
use Rattle.seq_timeline.proofs.sequence.drafted.Goals as goal

pub apart-requires : goal.apart-requires
apart-requires c =
    let cs = map clip_view c.clips.result.now in
    let placed = ap (map placed_view) c.deref.ensures.value ∙ c.in_ok-clips.ensures.placed ∙ ap (λ ds. placed_from 0 (clip_lengths ds cs) cs) c.durations.ensures in
    subst ArePlaced (sym placed) (mapped_placed c.args.mapping.now c.args.sequence cs c.requires.rules c.clips.ensures)

pub joined-requires : goal.joined-requires
joined-requires c =
    let cs = map clip_view c.clips.result.now in
    let placed = ap (map placed_view) c.deref-else-discontinuity.ensures.value ∙ c.in_ok-clips.ensures.placed ∙ ap (λ ds. placed_from 0 (clip_lengths ds cs) cs) c.durations.ensures in
    subst ArePlaced (sym placed) (mapped_placed c.args.mapping.now c.args.sequence cs c.requires.rules c.clips.ensures)

pub returns-then-discontinuity-clause-draft : goal.returns-then-discontinuity-clause-draft
returns-then-discontinuity-clause-draft c =
    let s = c.args.selection.now in
    let m = c.args.mapping.now in
    let cs = map clip_view c.clips.result.now in
    let ps = map placed_view c.deref.result.now in
    let placed = ap (map placed_view) c.deref.ensures.value ∙ c.in_ok-clips.ensures.placed ∙ ap (λ ds. placed_from 0 (clip_lengths ds cs) cs) c.durations.ensures in
    let P : Draft → Type 0 = λ d. draft_view d ≡ timeline_of_clips s.root.now s.tracks s.window true ps in
    let Q : Draft → Type 0 = λ d. option_map (sequence_timeline s.root.now s.tracks m s.window) (sequence_at m c.args.sequence) ≡ Some (draft_view d) in
    if_ok_then P Q c.apart.result (λ d is. timeline_found s.root.now s.tracks s.window m c.args.sequence cs true ps (draft_view d) c.clips.ensures placed (sym c.if-discontinuity.true ∙ c.discontinuity.ensures) is) c.apart.ensures.draft

pub returns-clause-draft : goal.returns-clause-draft
returns-clause-draft c =
    let s = c.args.selection.now in
    let m = c.args.mapping.now in
    let cs = map clip_view c.clips.result.now in
    let ps = map placed_view c.deref-else-discontinuity.result.now in
    let placed = ap (map placed_view) c.deref-else-discontinuity.ensures.value ∙ c.in_ok-clips.ensures.placed ∙ ap (λ ds. placed_from 0 (clip_lengths ds cs) cs) c.durations.ensures in
    let P : Draft → Type 0 = λ d. draft_view d ≡ timeline_of_clips s.root.now s.tracks s.window false ps in
    let Q : Draft → Type 0 = λ d. option_map (sequence_timeline s.root.now s.tracks m s.window) (sequence_at m c.args.sequence) ≡ Some (draft_view d) in
    if_ok_then P Q c.joined.result (λ d is. timeline_found s.root.now s.tracks s.window m c.args.sequence cs false ps (draft_view d) c.clips.ensures placed (sym c.if-discontinuity.false ∙ c.discontinuity.ensures) is) c.joined.ensures.draft
