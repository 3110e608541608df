-- Whole packets of 188 bytes, whatever a store tells; this project's own.
use Rattle.std.specs.Prelude.{◌≡◌, ℕ, ◌%◌, List, length, Option, Result, Ok, Err, ⊤}
use Rattle.vod_source.specs.declared.step.Step.{Step}
use Rattle.vod_source.specs.declared.step.Step.TheVariants.{StoreFailed, SinkFailed}
use Rattle.vod_source.specs.Told.{told_with}
use Rattle.ts_writer.specs.declared.faults.SampleFault.{SampleFault}
use Rattle.ts_writer.specs.declared.faults.SampleFault.TheVariants.{Store, Sink}

-- the list grew by some of them
pub record GrewByPackets (before now : Option (List ℕ)) : Type 0 where
  pub more : List ℕ
  pub whole : length more % 188 ≡ 0
  pub grew : now ≡ told_with before more

-- unless a call failed
abbrev pub SamplePackets : Result (Unit {0}) SampleFault → Option (List ℕ) → Option (List ℕ) → Type 0
SamplePackets (Err Store) before now = ⊤
SamplePackets (Err Sink) before now = ⊤
SamplePackets result before now = GrewByPackets before now

abbrev pub StepPackets : Step → Option (List ℕ) → Option (List ℕ) → Type 0
StepPackets StoreFailed before now = ⊤
StepPackets SinkFailed before now = ⊤
StepPackets step before now = GrewByPackets before now
