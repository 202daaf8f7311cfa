use Rattle.std.proofs.Common.{length, sym, arith}
use Rattle.std.proofs.lemmas.Bool.{eqb-true, eqb-false}
use Rattle.std.proofs.lemmas.List.{nil_from_length}
use Rattle.std.proofs.lemmas.Result.{err_from_is_err_and}
use Rattle.rtcp_codec.proofs.Compounds.{goes_on_first, goes_on, first_fault, later_fault, is_compound}
use Rattle.rtcp_codec.proofs.judging.judge.Goals as goal

pub returns-in_err-rest-clause-err : goal.returns-in_err-rest-clause-err
returns-in_err-rest-clause-err c =
    let p = err_from_is_err_and c.from_residual.result c.from_residual.ensures.1 in
    rw (p.1, p.2) (first_fault c.in_err-rest.field-0.0 c.args.octets.now c.in_err-rest.ensures.err)

pub loop-rest-init : goal.loop-rest-init
loop-rest-init c = goes_on_first c.args.octets.now c.in_ok-rest.rest.now c.in_ok-rest.ensures.ok

pub returns-in_err-rest-2-clause-err : goal.returns-in_err-rest-2-clause-err
returns-in_err-rest-2-clause-err c =
    let p = err_from_is_err_and c.from_residual-in_err-rest-2.result c.from_residual-in_err-rest-2.ensures.1 in
    let rest = c.loop-rest.rest.now in
    rw (p.1, p.2) (later_fault c.in_err-rest-2.field-0.0 rest c.args.octets.now c.loop-rest.invariant
    (omega (arith, eqb-false (length rest) 0 (sym c.loop-rest-test.ensures))) c.in_err-rest-2.ensures.err)

pub loop-rest-preserved : goal.loop-rest-preserved
loop-rest-preserved c =
    goes_on c.loop-rest.rest.now c.in_ok-rest-2.rest.now c.args.octets.now c.in_ok-rest-2.ensures.ok
    c.loop-rest.invariant

pub returns-clause-ok : goal.returns-clause-ok
returns-clause-ok c =
    let rest = c.loop-rest.rest.now in
    is_compound rest c.args.octets.now c.loop-rest.invariant
    (nil_from_length rest (eqb-true (length rest) 0 (sym c.loop-rest-test.ensures)))
