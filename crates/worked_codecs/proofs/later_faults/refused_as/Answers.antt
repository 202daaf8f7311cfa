-- A receiver report without blocks is a packet, and what stands behind it has the fault.
use Rattle.std.proofs.Common.{◌≡◌, ℕ, ◌<◌, List, [], ◌∷◌, ◌++◌, take, drop, length, refl, sym, ◌∙◌, ap, inr, arith}
use Rattle.std.proofs.Common.{length-drop, false}
use Rattle.std.proofs.lemmas.List.{take-append-drop}
use Rattle.rtcp_codec.specs.declared.fault.RtcpFault.{RtcpFault}
use Rattle.rtcp_codec.specs.Packet.{Receiver, IsPacket}
use Rattle.rtcp_codec.specs.Compound.{HasLaterFault, IsFirstOf, fault_order}
use Rattle.worked_codecs.proofs.later_faults.refused_as.Goals as goal

abbrev report : List ℕ
report = 128 ∷ 201 ∷ 0 ∷ 1 ∷ 0 ∷ 0 ∷ 0 ∷ 9 ∷ []

is_report : IsPacket (Receiver 9 []) 0 report
is_report = record {
  words = 1;
  body = 0 ∷ 0 ∷ 0 ∷ 9 ∷ [];
  padding_octets = [];
  parts = refl;
  size = refl;
  words_fit = omega arith;
  types = (omega arith, tt);
  counted = omega arith;
  lengths = tt;
  meaning = tt;
  is_body = ([], refl);
  is_padding = refl;
  padding_words = refl;
}

later_fault : (fault : RtcpFault) (octets : List ℕ) → take 8 octets ≡ report → 8 < length octets →
    IsFirstOf fault_order false fault (drop 8 octets) → HasLaterFault fault octets
later_fault fault octets e more h = record {
  before = record { packet = Receiver 9 []; octets = report; padding = 0 } ∷ [];
  rest = drop 8 octets;
  whole = sym (take-append-drop 8 octets) ∙ ap (λ front. front ++ drop 8 octets) e;
  each = (is_report, tt);
  report = inr refl;
  unpadded = (refl, tt);
  some = omega (arith, more, length-drop 8 octets);
  its_fault = h;
}

pub returns : goal.returns
returns c =
    let t =
    c.read_compound.ensures.told c.args._fault
    (inr (later_fault c.args._fault c.args.octets.now c.requires.report c.requires.more c.requires.fault)) in
    grind (arith, t, c.err.ensures.value)
