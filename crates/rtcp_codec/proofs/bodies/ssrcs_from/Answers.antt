use Rattle.std.proofs.Common.{[], ◌∷◌, arith, length-append}
use Rattle.std.proofs.Common.{ℕ, ◌^◌, ◌<◌}
use Rattle.std.specs.Int.{w32, to_be_bytes}
use Rattle.rtcp_codec.proofs.Lists.{AllByRecursion-push, text_more}
use Rattle.rtcp_codec.proofs.bodies.ssrcs_from.Goals as goal

pub loop-preserved : goal.loop-preserved
loop-preserved g c =
    let ssrc = c.u32_from-ssrc.result.0 in
    let e = c.in_ok-push.ensures.items in
    record {
      count = rw e (omega (arith, length-append c.loop.ssrcs.items (ssrc ∷ [])));
      fits =
          rw e
          (AllByRecursion-push (λ (ssrc : ℕ). ssrc < 2 ^ 32) c.loop.ssrcs.items ssrc c.loop.invariant.fits
          (omega arith));
      parts =
          rw e (text_more (λ (n : ℕ). to_be_bytes w32 n) c.args.octets.now c.loop.ssrcs.items ssrc c.loop.rest.now _
          c.loop.invariant.parts c.u32_from-ssrc.ensures.parts);
      enough = omega arith;
    }
