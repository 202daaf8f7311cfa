use Rattle.std.proofs.Common.{◌+◌, ◌≤◌, ◌++◌, List, ℕ, take}
use Rattle.std.specs.Io.KnownBytes.{Appends}
use Rattle.script_text.specs.Bridge.{Bridge}
use Rattle.script_text.specs.inner.Steps.{Stands}
use Rattle.script_text.specs.inner.Steps.{IsMidLine, Goes, DecodesComing, place_of}
use Rattle.script_text.proofs.script.Script.feed.Given as goal

-- the octets so far led here, and what they gave is out
abbrev pub invariant-loop-octet : goal.invariant-loop-octet
invariant-loop-octet g l = record {
  midline : IsMidLine l.self;
  line : l.self.line ≤ l.fn.self.line + l.octet-index;
  step : (first : Bridge) (tail : List ℕ) → DecodesComing first.decoding l.fn.self (take l.octet-index l.octets ++ tail)
      → Stands l.fn.self.core first
      → (sent : List ℕ) × (bridge : Bridge) × Stands l.self.core bridge
      × Appends (g.T.TextSink.held l.fn.writer) (g.T.TextSink.held l.writer) sent
      × Goes (place_of l.fn.self first) (take l.octet-index l.octets) (place_of l.self bridge) sent
      × DecodesComing bridge.decoding l.self tail;
}
