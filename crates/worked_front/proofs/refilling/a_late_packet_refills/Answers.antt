use Rattle.std.proofs.Common.{◌≡◌, ◌∙◌, List, pos, ap}
use Rattle.rtp_codec.specs.declared.address.Address.{Address}
use Rattle.ingress.specs.declared.outcome.Outcome.TheVariants.{Late}
use Rattle.rate_limiter.specs.declared.bucket.Bucket.{Bucket}
use Rattle.rate_limiter.specs.Drafts.{DraftOf}
use Rattle.rate_limiter.specs.Steps.{spend, buckets_after, may_spend}
use Rattle.media_front.specs.Paid.{refilled_by}
use Rattle.worked_front.specs.Refilled.{with_406}
use Rattle.worked_front.proofs.Others.{none_left}
use Rattle.worked_front.proofs.refilling.a_late_packet_refills.Goals as goal

pub returns-clause-second : goal.returns-clause-second
returns-clause-second c =
    let a : Address = c.args.draft.now.address in
    let refilled : refilled_by (Late (pos 7)) a 100 c.args.draft.now.after ≡ with_406 a =
    ap (refilled_by (Late (pos 7)) a 100) c.requires in
    c.spend-second.ensures.answer ∙ ap (λ (d : DraftOf). may_spend d.address 1 d.after) c.spend-first.ensures.after
    ∙ ap (λ (d : DraftOf). may_spend d.address 1 (buckets_after (spend d.address 406) d.after)) c.refill_for.ensures
    ∙ ap (λ (buckets : List Bucket). may_spend a 1 (buckets_after (spend a 406) buckets)) refilled
    ∙ none_left a
