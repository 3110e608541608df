-- One step of a body; this project's own.
use Rattle.std.specs.Prelude.{◌≡◌, ◌↔◌, ℕ, ◌<◌, List, Option, IsTrue}
use Rattle.vod_source.specs.declared.step.Step.{Step}
use Rattle.vod_source.specs.declared.step.Step.TheVariants.{Again}
use Rattle.vod_source.specs.Stored.{Files}
use Rattle.vod_http.specs.Answered.{Advances, KeepsPackets}
use Rattle.vod_origin.specs.declared.cursor.Cursor.{Cursor}
use Rattle.vod_origin.specs.Bodies.{IsBodyOf, calls_left, is_in_packets, is_under_way, rest_in}

-- what it leaves of the body, and what of it was written
pub record Steps (content : Option Files) (c d : Cursor) (before now : Option (List ℕ)) (step : Step) : Type 0 where
  pub belongs : IsBodyOf content d
  pub under_way : IsTrue (is_under_way d) ↔ (step ≡ Again)
  pub fewer : step ≡ Again → calls_left d < calls_left c
  pub advances : Advances (rest_in content c) (rest_in content d) before now step
  pub in_packets : is_in_packets d ≡ is_in_packets c
  pub packets : KeepsPackets (is_in_packets c) before now step
