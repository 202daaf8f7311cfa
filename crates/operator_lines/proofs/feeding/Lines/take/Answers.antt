use Rattle.std.proofs.lemmas.Bool.Decides.{nat_tests}
use Rattle.std.proofs.Common.{sym, ap, ◌∙◌, arith}
use Rattle.operator_lines.specs.Fed.{Kept}
use Rattle.operator_lines.specs.inner.Holds.{in_place}
use Rattle.operator_lines.proofs.CutLemmas.{long_step, lf_step, texts_push}
use Rattle.operator_lines.proofs.feeding.Lines.take.Goals as goal

pub returns-then-self : goal.returns-then-self
returns-then-self g c = λ before k h.
    long_step before k _ _ _ (let v = c.self.view_is in let t = c.if-self.true in cc) h

pub returns-then-octet-eq10 : goal.returns-then-octet-eq10
returns-then-octet-eq10 g c = λ before k h.
    lf_step before k (in_place c.args.carried.now c.args.self.now) _ _ _ c.args.octet
    (sym (ap (λ (q : Kept). q.too_long) c.self.view_is) ∙ c.if-self.false)
    (let e = c.if-octet-eq10.true in grind (arith, nat_tests))
    c.clear.ensures.items
    (ap (λ (q : Kept). q.too_long) c.self.view_is)
    (texts_push c.args.lines.now.items _ c.in_ok-line.line c.push.result _ c.push.ensures.items c.in_ok-push.was
    (let a = c.in_ok-line.ensures in
    let d = c.deref.ensures.value in let v = ap (λ (q : Kept). q.pending) c.self.view_is in cc))
    h
