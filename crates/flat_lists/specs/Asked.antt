-- What a request is about; this project's own.
use Rattle.std.specs.Prelude.{ℕ, List}
use Rattle.vod_types.specs.Settled.{Settled}
use Rattle.vod_source.specs.Stored.{Files}
use Rattle.origin_model.specs.Requests as requests
use Rattle.origin_model.specs.Requests.{Setup}
use Rattle.flat_lists.specs.declared.subject.Asking.{Asking}

abbrev pub setup_of : Settled → List ℕ → Files → Setup
setup_of settings root files = record { settings = settings; root = root; files = files }

abbrev pub asking_view : Asking → requests.Asking
asking_view a = record { mapping = a.mapping; window = a.window; tracks = a.tracks }
