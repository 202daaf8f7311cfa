use Rattle.std.proofs.Common.{◌≡◌, ◌+◌, ◌*◌, ◌≤◌, List, ℕ, Some}
use Rattle.desk_text.specs.Lines.{lines_of}
use Rattle.script_text.proofs.RunLemmas.{SoFar}
use Rattle.script_text.specs.Decodings.{Decoding, DecodesLines}
use Rattle.script_text.specs.inner.Steps.{IsMidLine}
use Rattle.script_text.proofs.running.run_with.Given as goal

-- what was read led to the script's place, and what it gave is out
abbrev pub invariant-loop : goal.invariant-loop
invariant-loop g l = record {
  midline : IsMidLine l.script;
  calls : g.S.ScriptSource.goes_on l.counter l.fn.reader l.reader;
  line : l.script.line ≤ 1 + 4096 * l.counter;
  so_far : (decoding : Decoding) (input : List ℕ) → DecodesLines decoding (lines_of input)
      → g.S.ScriptSource.rest l.fn.reader ≡ Some input
      → SoFar decoding input (g.S.ScriptSource.rest l.reader) (g.T.TextSink.held l.fn.writer)
      (g.T.TextSink.held l.writer)
      l.script;
}
