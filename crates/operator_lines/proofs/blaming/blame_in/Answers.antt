use Rattle.std.proofs.Common.{◌≡◌, ◌∙◌, Option, sym, ap}
use Rattle.std.specs.List.{find}
use Rattle.desk_edit.specs.Told.{Told, told_of}
use Rattle.operator_lines.specs.Forms.{blames_of}
use Rattle.operator_lines.specs.Why.{has_number, blame_in}
use Rattle.operator_lines.specs.declared.topic.Topic.{Topic}
use Rattle.operator_lines.proofs.blaming.blame_in.Goals as goal

pub returns-in-Some : goal.returns-in-Some
returns-in-Some c =
    let refusal = c.args.refusal in
    c.first_of.ensures
    ∙ (ap (λ (t : Told). find (has_number t.number) c.blames.result.now) c.told.ensures
    ∙ (ap (find (has_number (told_of refusal).number)) c.blames.ensures
    ∙ ap (λ (t : Option Topic). blame_in t refusal) (sym c.in-Some.is)))
