-- The movies that are kept over requests; this project's own.
use Rattle.std.specs.Prelude.{List, Option, IfSome}
use Rattle.vod_source.specs.Stored.{Files}
use Rattle.vod_meta.specs.Held.{HeldMovie, AreTrue}

-- each is the movie of its file, where files are told
abbrev pub AreHeld : Option Files → Option (List HeldMovie) → Type 0
AreHeld content metas = IfSome content (λ files. IfSome metas (AreTrue files))
