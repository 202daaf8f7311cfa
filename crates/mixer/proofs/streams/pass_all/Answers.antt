use Rattle.std.proofs.Common.{◌≡◌, ℕ, ◌<◌, length, [], ap, sym, subst, ◌∙◌, arith, slice_index_or}
use Rattle.std.specs.Option.{option_copied_mut}
use Rattle.forward_rewrite.specs.Mixes.{MixOf, GivesTick, silent}
use Rattle.mixer.specs.inner.Ready.{HasPassed}
use Rattle.mixer.proofs.StreamSteps.{partly_more, value-at, long_as_ever, all_passed}
use Rattle.mixer.proofs.streams.pass_all.Goals as goal

pub loop-i-preserved : goal.loop-i-preserved
loop-i-preserved g c =
    let d = c.args.rows.now in
    let i = c.loop-i.i in
    let es = c.loop-i.streams.entries in
    let s = c.in-Some.stream.now in
    let e : ℕ × MixOf = (0, s) in
    let w = c.pass.new.self in
    let within : i < length es = omega (arith, c.loop-i-test.true, c.len-i-end.ensures.len, c.loop-i.invariant.long) in
    let here : (slice_index_or es i e).1 ≡ s =
    value-at es i e s within (sym c.get_index_mut.ensures.value ∙ ap option_copied_mut c.in-Some.is) in
    let passed : HasPassed d c.args.moment (slice_index_or es i e).0 (slice_index_or es i e).1 w = record {
      gives =
          subst (λ (r : ℕ). GivesTick (slice_index_or es i e).1 w (silent r c.args.moment) [])
          (c.pass_rate_at-rate.ensures.rate e)
          (subst (λ (x : MixOf). GivesTick x w (silent c.pass_rate_at-rate.result c.args.moment) []) (sym here)
          c.pass.ensures.gives);
      ssrc = c.pass.ensures.ssrc ∙ ap (λ (x : MixOf). x.ssrc) (sym here);
    } in
    record {
      partly = partly_more d c.args.moment i c.args.streams.now.entries es w e c.loop-i.invariant.partly within passed;
      long = long_as_ever es i w ∙ c.loop-i.invariant.long;
      spare = c.loop-i.invariant.spare;
      last = c.pass_rate_at-rate.ensures.last;
    }

pub returns-clause-streams : goal.returns-clause-streams
returns-clause-streams g c ssrc =
    all_passed c.args.rows.now c.args.moment c.loop-i.i ssrc c.args.streams.now.entries c.loop-i.streams.entries
    (omega (arith, c.loop-i-test.false, c.len-i-end.ensures.len)) c.loop-i.invariant.partly
