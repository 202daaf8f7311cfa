use Rattle.std.proofs.Common.{List, ℕ, subst, sym, refl, append_assoc}
use Rattle.std.specs.Fmt.{HasWritten}
use Rattle.event_lines.specs.declared.event.Event.{Event}
use Rattle.event_lines.specs.Told.{event_text}
use Rattle.event_lines.proofs.event.EventDisplay.fmt.Goals as goal

pub returns-in-Dropped-clause-writes : goal.returns-in-Dropped-clause-writes
returns-in-Dropped-clause-writes g c plain ok =
    subst (λ (x : Event). HasWritten g.W.Write.write_str_gives c.args.f.now (event_text x) c.write-in-Dropped.new.self)
    (sym c.in-Dropped.is)
    (subst (λ (l : List ℕ). HasWritten g.W.Write.write_str_gives c.args.f.now l c.write-in-Dropped.new.self)
    (simp (append_assoc) refl)
    (c.write-in-Dropped.ensures.writes plain ok))

pub returns-in-LeftOut-clause-writes : goal.returns-in-LeftOut-clause-writes
returns-in-LeftOut-clause-writes g c plain ok =
    subst (λ (x : Event). HasWritten g.W.Write.write_str_gives c.args.f.now (event_text x) c.write-in-LeftOut.new.self)
    (sym c.in-LeftOut.is)
    (subst (λ (l : List ℕ). HasWritten g.W.Write.write_str_gives c.args.f.now l c.write-in-LeftOut.new.self) refl
    (c.write-in-LeftOut.ensures.writes plain ok))
