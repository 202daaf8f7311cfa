use Rattle.std.proofs.Common.{◌∙◌, Bool, ap, sym}
use Rattle.media_front.proofs.ProbationLemmas.{ended, ended_of}
use Rattle.media_front.proofs.accepting.ended_by.Goals as goal

pub returns-then-ends_probation : goal.returns-then-ends_probation
returns-then-ends_probation c = λ arrival old new received.
    let r = c.args.received.now in
    ended arrival old new r _
    (c.video_in.ensures
    ∙ sym (ap (λ (b : Bool). ended_of r b) (sym c.ends_probation.ensures ∙ c.if-ends_probation.true))) received

pub returns-else-ends_probation : goal.returns-else-ends_probation
returns-else-ends_probation c = λ arrival old new received.
    let r = c.args.received.now in
    ended arrival old new r _
    (sym (ap (λ (b : Bool). ended_of r b) (sym c.ends_probation.ensures ∙ c.if-ends_probation.false))) received
