use Rattle.std.proofs.Common.{List, ℕ, subst, sym, arith, append_assoc}
use Rattle.std.specs.Fmt.{HasWritten}
use Rattle.event_lines.specs.declared.cause.Cause.{Cause}
use Rattle.event_lines.specs.Told.{cause_text}
use Rattle.event_lines.proofs.cause.CauseDisplay.fmt.Goals as goal

pub returns-in-LaneMemory-clause-writes : goal.returns-in-LaneMemory-clause-writes
returns-in-LaneMemory-clause-writes g c plain ok =
    subst
    (λ (x : Cause). HasWritten g.W.Write.write_str_gives c.args.f.now (cause_text x) c.write-in-LaneMemory.new.self)
    (sym c.in-LaneMemory.is)
    (subst (λ (l : List ℕ). HasWritten g.W.Write.write_str_gives c.args.f.now l c.write-in-LaneMemory.new.self)
    (grind (arith, append_assoc)) (c.write-in-LaneMemory.ensures.writes plain ok))
