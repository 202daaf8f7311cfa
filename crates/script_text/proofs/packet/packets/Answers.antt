use Rattle.std.proofs.Common.{arith}
use Rattle.desk_text.specs.Words.{words_in}
use Rattle.script_text.proofs.PacketLemmas.{goes_on, fails_on, ends}
use Rattle.script_text.proofs.packet.packets.Goals as goal

pub returns-in-Err : goal.returns-in-Err
returns-in-Err g c =
    let so_far = rw (c.in-Some.is, c.first_word.ensures.words) at c.loop-left.invariant.packets in
    fails_on _ _ c.loop-left.place c.first_word.result.0.now (words_in c.first_word.result.1) c.in-Err.fault so_far
    c.in-Err.ensures

pub loop-left-preserved : goal.loop-left-preserved
loop-left-preserved g c =
    let so_far = rw (c.in-Some.is, c.first_word.ensures.words) at c.loop-left.invariant.packets in
    let left = rw c.in-Some.is at c.loop-left.invariant.place in
    let h = c.in_default-take_packet.ensures in
    record {
      place = omega (arith, left, c.first_word.ensures.shorter);
      packets =
          goes_on _ _ _ c.loop-left.place c.first_word.result.0.now (words_in c.first_word.result.1) h.0 so_far h.1 h.2;
    }

pub returns : goal.returns
returns g c = ends _ _ c.loop-left.place (rw c.in_default.is at c.loop-left.invariant.packets)
