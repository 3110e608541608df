use Rattle.std.proofs.Common.{map, option_map, ap, sym, ◌∙◌}
use Rattle.segment_model.specs.Rows.{timed_rows}
use Rattle.origin_model.specs.Sources.{source_track}
use Rattle.mp4_tracks.specs.Views.{good_of}
use Rattle.mp4_tracks.specs.Edits.{edit_of_view}
use Rattle.flat_samples.specs.Rows.{timed_view}
use Rattle.flat_samples.proofs.Selected.{no_rows}
use Rattle.flat_samples.proofs.selection.samples_of.Goals as goal

pub returns-in-None-clause-rows : goal.returns-in-None-clause-rows
returns-in-None-clause-rows c =
    let edit = edit_of_view c.args.edit in
    ap (map timed_view) c.new.ensures.items ∙ sym (no_rows c.args.kind edit) ∙ ap (λ o. timed_rows (source_track c.args.kind edit (option_map good_of o))) (sym c.in-None.is)
