use Rattle.std.proofs.Common.{subst, refl}
use Rattle.rtcp_codec.specs.Compound.{IsWholeReason}
use Rattle.rtcp_codec.proofs.ReasonLemmas.{bye_body, bye_fits}
use Rattle.rtcp_codec.proofs.Lists.{behind_numbers}
use Rattle.rtcp_codec.proofs.bodies.bye_from.Goals as goal

pub reason_from-requires : goal.reason_from-requires
reason_from-requires g c =
    subst IsWholeReason
    (behind_numbers c.in_ok-ssrcs.ssrcs.items c.args.body.now c.in_ok-ssrcs.rest.now c.args.count
    c.in_ok-ssrcs.ensures.count c.in_ok-ssrcs.ensures.parts)
    c.requires.1

pub returns : goal.returns
returns g c = record {
  its_type = refl;
  its_count = c.in_ok-ssrcs.ensures.count;
  fits = (c.in_ok-ssrcs.ensures.fits, bye_fits (λ v. v.items) c.in_ok-reason.reason c.in_ok-reason.ensures.fits);
  is_body =
      bye_body (λ v. v.items) c.in_ok-reason.reason c.in_ok-ssrcs.ssrcs.items c.args.body.now c.in_ok-ssrcs.rest.now
      c.in_ok-ssrcs.ensures.parts c.in_ok-reason.ensures.none c.in_ok-reason.ensures.some;
}
