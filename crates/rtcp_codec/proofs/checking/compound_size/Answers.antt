use Rattle.std.proofs.Common.{List, length, refl, ap, sym, subst, arith, inr}
use Rattle.std.proofs.lemmas.Result.{err_from_is_err_and}
use Rattle.std.specs.List.{AllByRecursion}
use Rattle.rtcp_codec.specs.Packet.{Packet}
use Rattle.rtcp_codec.specs.Compound.{written}
use Rattle.rtcp_codec.specs.WriteFault.{IsWritable}
use Rattle.rtcp_codec.specs.View.{packet_of}
use Rattle.rtcp_codec.proofs.Lists.{mapped_left, nothing_left}
use Rattle.rtcp_codec.proofs.WrittenLemmas.{written_length, all_left, fault_left, fault_behind}
use Rattle.rtcp_codec.proofs.checking.compound_size.Goals as goal

pub returns-in_err-size-clause-err : goal.returns-in_err-size-clause-err
returns-in_err-size-clause-err g c =
    let p = err_from_is_err_and c.from_residual.result c.from_residual.ensures.1 in
    let i = c.loop-packet.packet-index in
    let left =
    mapped_left packet_of c.args.packets.now i c.packet-item.result c.loop-packet-test.true c.packet-item.is in
    rw (p.1, p.2) (inr (
      c.if-not-begins_with_report.ensures.good refl,
      c.loop-packet.invariant.fault _ (fault_left c.in_err-size.field-0.0 _ _ _ left c.in_err-size.ensures.err),
    ))

pub loop-packet-preserved : goal.loop-packet-preserved
loop-packet-preserved g c =
    let i = c.loop-packet.packet-index in
    let left =
    mapped_left packet_of c.args.packets.now i c.packet-item.result c.loop-packet-test.true c.packet-item.is in
    let len = written_length _ _ _ left in
    record {
      size = omega (arith, len, c.in_ok-size.ensures.size, c.loop-packet.invariant.size);
      most = omega (arith, c.in_ok-size.ensures.most, c.loop-packet.invariant.most);
      good = λ h. c.loop-packet.invariant.good (all_left IsWritable _ _ _ left c.in_ok-size.ensures.writable h);
      fault = λ f h. c.loop-packet.invariant.fault f (fault_behind f _ _ _ left c.in_ok-size.ensures.writable h);
    }

pub returns-clause-writable : goal.returns-clause-writable
returns-clause-writable g c =
    let end = nothing_left packet_of c.args.packets.now c.loop-packet.packet-index c.loop-packet-test.false in
    record {
      report = c.if-not-begins_with_report.ensures.good refl;
      each = c.loop-packet.invariant.good (subst (AllByRecursion IsWritable) (sym end) tt);
    }

pub returns-clause-size : goal.returns-clause-size
returns-clause-size g c =
    let end = nothing_left packet_of c.args.packets.now c.loop-packet.packet-index c.loop-packet-test.false in
    omega (arith, c.loop-packet.invariant.size, ap (λ (l : List Packet). length (written l)) end)

pub returns-in_err-size-clause-fault : goal.returns-in_err-size-clause-fault
returns-in_err-size-clause-fault g c =
    let p = err_from_is_err_and c.from_residual.result c.from_residual.ensures.1 in
    rw (p.1, p.2) c.in_err-size.ensures.fault
