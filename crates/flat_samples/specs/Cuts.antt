-- Tracks of which a cut keeps a part; this project's own.
use Rattle.std.specs.Prelude.{ℕ, List, []}
use Rattle.mp4_model.specs.Edits.{Edit}
use Rattle.mp4_model.specs.Samples.{FlatRow}
use Rattle.segment_model.specs.Rows.{SourceTrack}
use Rattle.flat_samples.specs.declared.cut.Cut.{Cut}

-- the edit whose cut it is
abbrev pub edit_of_cut : Cut → Edit
edit_of_cut cut = record { delay = cut.delay; skip = cut.skip }

-- rows of a timescale, of which it keeps a part
abbrev pub cut_track : Cut → ℕ → List FlatRow → SourceTrack
cut_track cut timescale rows = record { timescale = timescale; edit = edit_of_cut cut; lead_in = cut.lead_in; rows = rows }

-- the same where the rows don't count
abbrev pub cut_of : Cut → ℕ → SourceTrack
cut_of cut timescale = cut_track cut timescale []
