use Rattle.std.proofs.Common.{not, [], sym, ap, ◌∙◌, arith, reverse}
use Rattle.std.proofs.lemmas.Bool.{and_parts}
use Rattle.std.proofs.lemmas.Bool.Decides.{nat_tests}
use Rattle.std.proofs.lemmas.List.{nil_from_length}
use Rattle.std.specs.Prelude.{nat_lt}
use Rattle.std.specs.List.{list_all}
use Rattle.desk_edit.specs.InForce.{falls, from_newest}
use Rattle.desk_edit.specs.Reverts.{is_made}
use Rattle.desk_calls.proofs.RevertLemmas.{newest, made_turned, own_told, others_told}
use Rattle.desk_calls.proofs.striking.is_in_force.Goals as goal

pub loop-entry-init : goal.loop-entry-init
loop-entry-init g c = record {
  fall = c.requires;
  same =
      ap (λ s. is_made c.args.number (from_newest s (reverse c.args.entries.now))) c.new-struck.ensures.items
      ∙ sym (made_turned c.args.number (from_newest [] (reverse c.args.entries.now)));
}

pub returns-then-number : goal.returns-then-number
returns-then-number g c =
    let l = c.loop-entry in
    let e = c.in-Some.entry.now in
    let turned = newest l.rest.now c.in-Some.earlier.now e c.in-Some.ensures.cases.0 in
    ap not c.in_ok-is_out.ensures.out
    ∙ sym (own_told c.args.number l.struck.items e (reverse c.in-Some.earlier.now)
    (ap falls (sym turned) ∙ l.invariant.fall) (grind (arith, nat_tests, c.number.ensures, c.if-number.true)))
    ∙ ap (λ es. is_made c.args.number (from_newest l.struck.items es)) (sym turned)
    ∙ l.invariant.same

pub loop-entry-preserved : goal.loop-entry-preserved
loop-entry-preserved g c =
    let l = c.loop-entry in
    let e = c.in-Some.entry.now in
    let turned = newest l.rest.now c.in-Some.earlier.now e c.in-Some.ensures.cases.0 in
    record {
      fall =
          (and_parts (list_all (λ x. nat_lt x.number e.number) (reverse c.in-Some.earlier.now))
          (falls (reverse c.in-Some.earlier.now)) (ap falls (sym turned) ∙ l.invariant.fall)).1;
      same =
          others_told c.args.number l.struck.items c.pass.new.struck.items e (reverse c.in-Some.earlier.now)
          (grind (arith, nat_tests, c.number.ensures, c.if-number.false)) c.in_ok-is_out.ensures.next
          ∙ ap (λ es. is_made c.args.number (from_newest l.struck.items es)) (sym turned)
          ∙ l.invariant.same;
    }

pub returns : goal.returns
returns g c =
    let l = c.loop-entry in
    sym (ap (λ es. is_made c.args.number (from_newest l.struck.items (reverse es)))
    (nil_from_length l.rest.now c.in_default.ensures.cases))
    ∙ l.invariant.same
