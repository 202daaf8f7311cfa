-- What contracts see of a source.
use Rattle.std.specs.Prelude.{Option}
use Rattle.source_valid.specs.declared.phase.Phase.{Phase}
use Rattle.source_valid.specs.declared.timing.Timing.{Timing}
use Rattle.source_valid.specs.declared.heard.Heard.{Heard}

pub record Kept : Type 0 where
  pub phase : Phase
  pub timing : Timing
  pub heard : Option Heard
