use Rattle.std.proofs.Common.{true, Err, ap}
use Rattle.std.proofs.lemmas.Result.{err_from_is_err_and}
use Rattle.rtcp_codec.specs.Compound.{written}
use Rattle.rtcp_codec.specs.View.{packets_of}
use Rattle.rtcp_codec.proofs.Compounds.{reads_compound}
use Rattle.rtcp_codec.proofs.FirstFaults.{writable_has_no_fault, one_write_fault}
use Rattle.rtcp_codec.proofs.RoundTrip.{compound_written}
use Rattle.rtcp_codec.proofs.writing.write_compound.Goals as goal

pub returns-clause-reads : goal.returns-clause-reads
returns-clause-reads g c =
    let ps = packets_of c.args.packets.now in
    let good = c.in_ok-size.ensures.writable in
    reads_compound ps (written ps)
    (compound_written true ps (λ e. good.report) good.each c.append_packets.ensures.types)

pub returns-in_err-size-clause-told : goal.returns-in_err-size-clause-told
returns-in_err-size-clause-told g c =
    let p = err_from_is_err_and c.from_residual.result c.from_residual.ensures.1 in
    rw (p.1, p.2) (λ f h.
    ap Err (one_write_fault c.in_err-size.field-0.0 f (packets_of c.args.packets.now) c.in_err-size.ensures.err h))

pub returns-in_err-size-clause-memory : goal.returns-in_err-size-clause-memory
returns-in_err-size-clause-memory g c =
    let p = err_from_is_err_and c.from_residual.result c.from_residual.ensures.1 in
    rw (p.1, p.2) (λ e. absurd (c.in_err-size.ensures.fault e))

pub returns-in_err-size-clause-full : goal.returns-in_err-size-clause-full
returns-in_err-size-clause-full g c =
    let p = err_from_is_err_and c.from_residual.result c.from_residual.ensures.1 in
    rw (p.1, p.2) (λ e. absurd (c.in_err-size.ensures.fault e))

pub returns-in_default-clause-told : goal.returns-in_default-clause-told
returns-in_default-clause-told g c = λ f h.
    absurd (writable_has_no_fault f (packets_of c.args.packets.now) c.in_ok-size.ensures.writable h)

pub returns-in_err-reserve-clause-told : goal.returns-in_err-reserve-clause-told
returns-in_err-reserve-clause-told g c = λ f h.
    absurd (writable_has_no_fault f (packets_of c.args.packets.now) c.in_ok-size.ensures.writable h)

pub returns-clause-told : goal.returns-clause-told
returns-clause-told g c = λ f h.
    absurd (writable_has_no_fault f (packets_of c.args.packets.now) c.in_ok-size.ensures.writable h)
