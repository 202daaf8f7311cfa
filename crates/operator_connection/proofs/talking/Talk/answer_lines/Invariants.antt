use Rattle.std.proofs.Common.{◌≡◌, take}
use Rattle.operator_lines.specs.Fed.{texts}
use Rattle.operator_connection.specs.Talking.{AnswersLines}
use Rattle.operator_connection.specs.declared.talking.LinkState.TheVariants.{Open}
use Rattle.operator_connection.proofs.talking.Talk.answer_lines.Given as goal

-- the lines so far were answered one after another, and the connection is still open
abbrev pub invariant-loop-line : goal.invariant-loop-line
invariant-loop-line g l = record {
  stands : l.self.standing ≡ Open;
  kept : l.self.lines ≡ l.fn.self.lines;
  said : AnswersLines (g.D.LineDesk.replies l.moment) g.D.LineDesk.shows (take l.line-index (texts l.lines)) l.fn.desk
      l.desk
      l.fn.self.outgoing l.self.outgoing Open Open;
}
