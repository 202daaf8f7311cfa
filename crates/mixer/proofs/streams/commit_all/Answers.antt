use Rattle.std.proofs.Common.{◌≡◌, [], ◌++◌, ◌∷◌, length, map, sym, ap, ◌∙◌, arith, append_assoc}
use Rattle.std.specs.Vec.Iter.{into_iter_items}
use Rattle.std.proofs.lemmas.List.{nil_from_length}
use Rattle.mixer.specs.Mixers.{mix_at}
use Rattle.mixer.specs.inner.Ready.{kept_after, sent_of}
use Rattle.mixer.proofs.streams.commit_all.Goals as goal

pub loop-one-preserved : goal.loop-one-preserved
loop-one-preserved g c =
    let steps = c.in-Some.ensures.steps.0 in
    let left = into_iter_items c.next.new.self in
    let inv = c.loop-one.invariant in
    let old = c.loop-one.out.items in
    let rest = map sent_of left in
    record {
      streams = λ k.
          ap (kept_after k left) (c.commit_one.ensures.streams k)
          ∙ ap (λ rs. kept_after k rs (mix_at k c.loop-one.streams.entries)) (sym steps)
          ∙ inv.streams k;
      out = ap (λ es. es ++ rest) (c.push_reserved.ensures.items ∙ ap (λ p. old ++ p ∷ []) c.commit_one.ensures.packet)
          ∙ append_assoc old _ rest ∙ ap (λ rs. old ++ map sent_of rs) (sym steps) ∙ inv.out;
      capacity = omega (arith, ap length steps, c.commit_one.ensures.spare);
      out_capacity = omega (arith, ap length steps, c.push_reserved.ensures.len, c.push_reserved.ensures.capacity);
    }

pub returns-clause-streams : goal.returns-clause-streams
returns-clause-streams g c k =
    let none : into_iter_items c.loop-one.one-iterator ≡ [] =
    nil_from_length _ (let e = c.in-None.ensures.steps.0 in let ok = c.loop-one.one-iterator.rest.ok in omega arith) in
    sym (ap (λ rs. kept_after k rs (mix_at k c.loop-one.streams.entries)) none) ∙ c.loop-one.invariant.streams k
