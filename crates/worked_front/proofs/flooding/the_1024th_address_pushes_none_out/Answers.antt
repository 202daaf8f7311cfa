use Rattle.std.proofs.Common.{◌∙◌, arith}
use Rattle.rate_limiter.specs.Buckets.{refilled, opened}
use Rattle.worked_front.proofs.Others.{entered, all_stay, when_good}
use Rattle.worked_front.proofs.flooding.the_1024th_address_pushes_none_out.Goals as goal

pub returns : goal.returns
returns c =
    let from = c.args.member.now in
    let before = c.args.limiter.now in
    when_good c.refill.result c.refill.ensures.after (λ is.
    is
    ∙ (entered 100 from before c.requires.new
    ∙ all_stay (refilled 100 (opened from)) before (omega (arith, c.requires.many))))
