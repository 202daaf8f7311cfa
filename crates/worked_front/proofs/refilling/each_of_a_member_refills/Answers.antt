use Rattle.std.proofs.Common.{◌∙◌, ap}
use Rattle.ingress.specs.declared.outcome.Outcome.{Outcome}
use Rattle.ingress.specs.declared.outcome.Outcome.TheVariants.{BadPayload, Spent, Probation, Accepted, Duplicate, Jump}
use Rattle.ingress.specs.declared.outcome.Outcome.TheVariants.{Restarted, Rtcp}
use Rattle.rate_limiter.specs.Drafts.{DraftOf}
use Rattle.media_front.specs.Paid.{refilled_by}
use Rattle.worked_front.proofs.refilling.each_of_a_member_refills.Goals as goal

pub returns-clause-bad : goal.returns-clause-bad
returns-clause-bad c is =
    ap (λ (d : DraftOf). d.after) c.refill_for.ensures
    ∙ (ap (λ (o : Outcome). refilled_by o c.args.draft.now.address 100 c.args.draft.now.after) is
    ∙ ap (refilled_by BadPayload c.args.draft.now.address 100) c.requires)

pub returns-clause-spent : goal.returns-clause-spent
returns-clause-spent c is =
    ap (λ (d : DraftOf). d.after) c.refill_for.ensures
    ∙ (ap (λ (o : Outcome). refilled_by o c.args.draft.now.address 100 c.args.draft.now.after) is
    ∙ ap (refilled_by Spent c.args.draft.now.address 100) c.requires)

pub returns-clause-probation : goal.returns-clause-probation
returns-clause-probation c is =
    ap (λ (d : DraftOf). d.after) c.refill_for.ensures
    ∙ (ap (λ (o : Outcome). refilled_by o c.args.draft.now.address 100 c.args.draft.now.after) is
    ∙ ap (refilled_by Probation c.args.draft.now.address 100) c.requires)

pub returns-clause-accepted : goal.returns-clause-accepted
returns-clause-accepted c ext is =
    ap (λ (d : DraftOf). d.after) c.refill_for.ensures
    ∙ (ap (λ (o : Outcome). refilled_by o c.args.draft.now.address 100 c.args.draft.now.after) is
    ∙ ap (refilled_by (Accepted ext) c.args.draft.now.address 100) c.requires)

pub returns-clause-duplicate : goal.returns-clause-duplicate
returns-clause-duplicate c ext is =
    ap (λ (d : DraftOf). d.after) c.refill_for.ensures
    ∙ (ap (λ (o : Outcome). refilled_by o c.args.draft.now.address 100 c.args.draft.now.after) is
    ∙ ap (refilled_by (Duplicate ext) c.args.draft.now.address 100) c.requires)

pub returns-clause-jump : goal.returns-clause-jump
returns-clause-jump c is =
    ap (λ (d : DraftOf). d.after) c.refill_for.ensures
    ∙ (ap (λ (o : Outcome). refilled_by o c.args.draft.now.address 100 c.args.draft.now.after) is
    ∙ ap (refilled_by Jump c.args.draft.now.address 100) c.requires)

pub returns-clause-restarted : goal.returns-clause-restarted
returns-clause-restarted c ext is =
    ap (λ (d : DraftOf). d.after) c.refill_for.ensures
    ∙ (ap (λ (o : Outcome). refilled_by o c.args.draft.now.address 100 c.args.draft.now.after) is
    ∙ ap (refilled_by (Restarted ext) c.args.draft.now.address 100) c.requires)

pub returns-clause-rtcp : goal.returns-clause-rtcp
returns-clause-rtcp c packets is =
    ap (λ (d : DraftOf). d.after) c.refill_for.ensures
    ∙ (ap (λ (o : Outcome). refilled_by o c.args.draft.now.address 100 c.args.draft.now.after) is
    ∙ ap (refilled_by (Rtcp packets) c.args.draft.now.address 100) c.requires)
