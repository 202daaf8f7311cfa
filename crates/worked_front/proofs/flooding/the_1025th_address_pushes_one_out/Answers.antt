use Rattle.std.proofs.Common.{◌∙◌}
use Rattle.worked_front.proofs.Others.{entered, when_good}
use Rattle.worked_front.proofs.flooding.the_1025th_address_pushes_one_out.Goals as goal

pub returns : goal.returns
returns c =
    when_good c.refill.result c.refill.ensures.after
    (λ is. is ∙ entered 100 c.args.member.now c.args.limiter.now c.requires.new)
