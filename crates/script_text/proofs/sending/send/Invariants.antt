use Rattle.std.proofs.Common.{◌≡◌, ◌⊎◌, ◌≤◌, length, take}
use Rattle.std.specs.Io.KnownBytes.{Appends}
use Rattle.script_text.proofs.sending.send.Given as goal

-- a front of the octets is out; while some are left, each call left some; and some are out and some not only where the
-- sink may split
abbrev pub invariant-loop : goal.invariant-loop
invariant-loop g l = record {
  small : l.at ≤ length l.octets;
  sent : Appends (g.T.TextSink.held l.fn.writer) (g.T.TextSink.held l.writer) (take l.at l.octets);
  calls : (l.at ≡ length l.octets) ⊎ g.T.TextSink.goes_on l.counter l.fn.writer l.writer;
  split : g.T.TextSink.may_split ⊎ (l.at ≡ 0) ⊎ (l.at ≡ length l.octets);
}
