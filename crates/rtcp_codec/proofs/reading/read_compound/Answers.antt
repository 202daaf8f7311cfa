-- A compound has no fault, and octets have one fault at most.
use Rattle.std.proofs.Common.{List, Err, inr, sym, subst, ap}
use Rattle.std.proofs.lemmas.Result.{err_from_is_err_and}
use Rattle.rtcp_codec.specs.Packet.{Packet}
use Rattle.rtcp_codec.specs.Compound.{IsCompound}
use Rattle.rtcp_codec.proofs.Compounds.{compound_has_no_fault, one_fault}
use Rattle.rtcp_codec.proofs.reading.read_compound.Goals as goal

pub returns-in_err-judge-clause-only : goal.returns-in_err-judge-clause-only
returns-in_err-judge-clause-only g c =
    λ ps k. absurd (compound_has_no_fault ps c.in_err-judge.field-0.0 c.args.octets.now k c.in_err-judge.ensures.err)

pub returns-in_err-judge-clause-fault : goal.returns-in_err-judge-clause-fault
returns-in_err-judge-clause-fault g c =
    let p = err_from_is_err_and c.from_residual.result c.from_residual.ensures.1 in
    rw (p.1, p.2) (inr c.in_err-judge.ensures.err)

pub returns-in_err-judge-clause-told : goal.returns-in_err-judge-clause-told
returns-in_err-judge-clause-told g c =
    let p = err_from_is_err_and c.from_residual.result c.from_residual.ensures.1 in
    rw (p.1, p.2) (λ f h. ap Err (one_fault c.in_err-judge.field-0.0 f c.args.octets.now c.in_err-judge.ensures.err h))

pub returns-in_err-packets_from-clause-told : goal.returns-in_err-packets_from-clause-told
returns-in_err-packets_from-clause-told g c =
    let k = c.in_ok-judge.ensures.ok in
    λ f h. absurd (compound_has_no_fault k.0 f c.args.octets.now k.1 h)

pub returns-clause-found : goal.returns-clause-found
returns-clause-found g c =
    let k = c.in_ok-judge.ensures.ok in
    subst (λ (ps : List Packet). IsCompound ps c.args.octets.now) (sym (c.in_ok-packets_from.ensures k.0 k.1)) k.1

pub returns-clause-told : goal.returns-clause-told
returns-clause-told g c =
    let k = c.in_ok-judge.ensures.ok in
    λ f h. absurd (compound_has_no_fault k.0 f c.args.octets.now k.1 h)
