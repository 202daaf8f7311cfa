-- A packet has no fault, so one was read, and there is no other.
use Rattle.std.proofs.Common.{◌≡◌, List, ℕ, Result, Ok, Err, Some, None, sym, ◌∙◌}
use Rattle.std.specs.Prelude.{IfOk, IsOkAnd, MatchResult}
use Rattle.rtp_codec.specs.declared.fault.RtpFault.{RtpFault}
use Rattle.rtp_codec.specs.declared.view.RtpView.{RtpView}
use Rattle.rtp_codec.specs.Packet.{Packet, IsPacket}
use Rattle.rtp_codec.specs.Fault.{first_fault}
use Rattle.rtp_codec.specs.View.{packet_of}
use Rattle.rtp_codec.proofs.PacketLemmas.{packet_has_no_fault, one_packet}
use Rattle.rtp_codec.proofs.reading.read.Goals as goal

only : (octets : List ℕ) (r : Result RtpView RtpFault) → IfOk r (λ v. IsPacket (packet_of v) octets)
    → MatchResult r (λ v. first_fault octets ≡ None) (λ f. first_fault octets ≡ Some f) →
    (p : Packet) → IsPacket p octets → IsOkAnd r (λ v. packet_of v ≡ p)
only octets (Ok v) found fault p k = one_packet p (packet_of v) octets k found
only octets (Err f) found fault p k = absurd (let e : Some f ≡ None = sym fault ∙ packet_has_no_fault p octets k in cc)

pub returns-clause-only : goal.returns-clause-only
returns-clause-only c = only c.args.octets.now c.parse.result c.parse.ensures.found c.parse.ensures.fault
