-- Octets are one thing.
use Rattle.std.proofs.Common.{◌≡◌, ℕ, ◌<◌, List, length, None, Some, true, refl, sym, ap, subst, ◌∙◌, arith}
use Rattle.rtp_codec.specs.declared.class.Class.{Class}
use Rattle.rtp_codec.specs.declared.class.Class.TheVariants as classes
use Rattle.rtp_codec.specs.declared.fault.RtpFault.{RtpFault}
use Rattle.rtp_codec.specs.Fault.{first_fault}
use Rattle.rtp_codec.specs.Packet.{Packet as RtpPacket, IsPacket}
use Rattle.rtcp_codec.specs.declared.fault.RtcpFault.{RtcpFault}
use Rattle.rtcp_codec.specs.Compound.{IsCompound, HasFault}
use Rattle.rtcp_codec.specs.Packet.{Packet as RtcpPacket}
use Rattle.rtp_codec.proofs.PacketLemmas.{packet_has_no_fault, one_packet}
use Rattle.rtcp_codec.proofs.Compounds.{compound_reads, compound_has_no_fault, one_fault}
use Rattle.rtcp_codec.proofs.Unique.{same_reading}
use Rattle.ingress.specs.declared.outcome.Outcome.{Outcome}
use Rattle.ingress.specs.Readings.{Reading, too_long, neither, no_packet, packet, no_compound, compound, most_octets}
use Rattle.ingress.specs.Readings.{IsOf, IsReading}
use Rattle.ingress.specs.Sources.{Sources}
use Rattle.ingress.specs.Ingested.{Ingested, only}
use Rattle.ingress.specs.Taking.{Voice, Datagram, taken_in}
use Rattle.ingress.specs.Ingresses.{Knows, Moves, TakesIn}
use Rattle.ingress.specs.inner.Holding.{IngressOf}

-- nothing but an outcome
pub stays : (i : Ingested) (o : Outcome) (old : IngressOf) (happens : Voice → Sources → Ingested × Sources) → i ≡ only o
    → ((voice : Voice) (s : Sources) → happens voice s ≡ (only o, s)) → Moves old old i happens
stays i o old happens is does = λ voice s right asker knows.
    subst (λ (x : Ingested × Sources). (i ≡ x.0) × Knows old x.1) (sym (does voice s)) (is, knows)

-- what happens by one reading, which is the only one
pub takes_by : (old new : IngressOf) (i : Ingested) (octets : List ℕ) (datagram : Reading → Datagram) (one : Reading)
    → ((r : Reading) → IsReading octets r → r ≡ one)
    → Moves old new i (λ voice s. taken_in voice s (datagram one)) → TakesIn old new i octets datagram
takes_by old new i octets datagram one alone moves = λ r is.
    subst (λ (x : Reading). Moves old new i (λ voice s. taken_in voice s (datagram x))) (sym (alone r is)) moves

pub alone_too_long : (octets : List ℕ) → most_octets < length octets → (r : Reading) → IsReading octets r → r ≡ too_long
alone_too_long octets long too_long is = refl
alone_too_long octets long neither is = absurd (omega (arith, long, is.length_fits))
alone_too_long octets long (no_packet f) is = absurd (omega (arith, long, is.0.length_fits))
alone_too_long octets long (packet p) is = absurd (omega (arith, long, is.0.length_fits))
alone_too_long octets long (no_compound f) is = absurd (omega (arith, long, is.0.length_fits))
alone_too_long octets long (compound ps) is = absurd (omega (arith, long, is.0.length_fits))

apart : {P : Type 0} (c d x : Class) → x ≡ c → x ≡ d → (c ≡ d → ⊥) → P
apart c d x e f differ = absurd (differ (sym e ∙ f))

rtp_neither : classes.Rtp ≡ classes.Neither → ⊥
rtp_neither e = cc

rtp_rtcp : classes.Rtp ≡ classes.Rtcp → ⊥
rtp_rtcp e = cc

rtcp_neither : classes.Rtcp ≡ classes.Neither → ⊥
rtcp_neither e = cc

pub alone_neither : (octets : List ℕ) → IsOf classes.Neither octets → (r : Reading) → IsReading octets r → r ≡ neither
alone_neither octets of too_long is = absurd (omega (arith, is, of.length_fits))
alone_neither octets of neither is = refl
alone_neither octets of (no_packet f) is = apart _ _ _ is.0.its_class of.its_class rtp_neither
alone_neither octets of (packet p) is = apart _ _ _ is.0.its_class of.its_class rtp_neither
alone_neither octets of (no_compound f) is = apart _ _ _ is.0.its_class of.its_class rtcp_neither
alone_neither octets of (compound ps) is = apart _ _ _ is.0.its_class of.its_class rtcp_neither

pub alone_no_packet : (octets : List ℕ) (f : RtpFault) → IsOf classes.Rtp octets → first_fault octets ≡ Some f
    → ((p : RtpPacket) → IsPacket p octets → ⊥) → (r : Reading) → IsReading octets r → r ≡ no_packet f
alone_no_packet octets f of found none too_long is = absurd (omega (arith, is, of.length_fits))
alone_no_packet octets f of found none neither is = apart _ _ _ of.its_class is.its_class rtp_neither
alone_no_packet octets f of found none (no_packet g) is =
    let same : g ≡ f = (let both = sym is.1 ∙ found in cc) in ap no_packet same
alone_no_packet octets f of found none (packet p) is = absurd (none p is.1)
alone_no_packet octets f of found none (no_compound g) is = apart _ _ _ of.its_class is.0.its_class rtp_rtcp
alone_no_packet octets f of found none (compound ps) is = apart _ _ _ of.its_class is.0.its_class rtp_rtcp

pub alone_packet : (octets : List ℕ) (p : RtpPacket) → IsOf classes.Rtp octets → first_fault octets ≡ None
    → ((q : RtpPacket) → IsPacket q octets → q ≡ p) → (r : Reading) → IsReading octets r → r ≡ packet p
alone_packet octets p of none only_one too_long is = absurd (omega (arith, is, of.length_fits))
alone_packet octets p of none only_one neither is = apart _ _ _ of.its_class is.its_class rtp_neither
alone_packet octets p of none only_one (no_packet g) is = let both = sym none ∙ is.1 in cc
alone_packet octets p of none only_one (packet q) is = ap packet (only_one q is.1)
alone_packet octets p of none only_one (no_compound g) is = apart _ _ _ of.its_class is.0.its_class rtp_rtcp
alone_packet octets p of none only_one (compound ps) is = apart _ _ _ of.its_class is.0.its_class rtp_rtcp

pub alone_no_compound : (octets : List ℕ) (f : RtcpFault) → IsOf classes.Rtcp octets
    → ((g : RtcpFault) → HasFault g octets → g ≡ f) → ((ps : List RtcpPacket) → IsCompound ps octets → ⊥)
    → (r : Reading) → IsReading octets r → r ≡ no_compound f
alone_no_compound octets f of same none too_long is = absurd (omega (arith, is, of.length_fits))
alone_no_compound octets f of same none neither is = apart _ _ _ of.its_class is.its_class rtcp_neither
alone_no_compound octets f of same none (no_packet g) is = apart _ _ _ is.0.its_class of.its_class rtp_rtcp
alone_no_compound octets f of same none (packet p) is = apart _ _ _ is.0.its_class of.its_class rtp_rtcp
alone_no_compound octets f of same none (no_compound g) is = ap no_compound (same g is.1)
alone_no_compound octets f of same none (compound ps) is = absurd (none ps is.1)

pub alone_compound : (octets : List ℕ) (ps : List RtcpPacket) → IsOf classes.Rtcp octets
    → ((f : RtcpFault) → HasFault f octets → ⊥) → ((qs : List RtcpPacket) → IsCompound qs octets → qs ≡ ps)
    → (r : Reading) → IsReading octets r → r ≡ compound ps
alone_compound octets ps of none same too_long is = absurd (omega (arith, is, of.length_fits))
alone_compound octets ps of none same neither is = apart _ _ _ of.its_class is.its_class rtcp_neither
alone_compound octets ps of none same (no_packet g) is = apart _ _ _ is.0.its_class of.its_class rtp_rtcp
alone_compound octets ps of none same (packet p) is = apart _ _ _ is.0.its_class of.its_class rtp_rtcp
alone_compound octets ps of none same (no_compound g) is = absurd (none g is.1)
alone_compound octets ps of none same (compound qs) is = ap compound (same qs is.1)

one_compound : (octets : List ℕ) (ps qs : List RtcpPacket) → IsCompound ps octets → IsCompound qs octets → qs ≡ ps
one_compound octets ps qs h k =
    (same_reading true qs ps None None octets (compound_reads qs octets k) (compound_reads ps octets h)).0

-- whatever the octets are, they are nothing else
pub one_reading : (octets : List ℕ) (r s : Reading) → IsReading octets r → IsReading octets s → r ≡ s
one_reading octets r too_long is other = alone_too_long octets other r is
one_reading octets r neither is other = alone_neither octets other r is
one_reading octets r (no_packet f) is other =
    alone_no_packet octets f other.0 other.1 (λ p k. let both = sym (packet_has_no_fault p octets k) ∙ other.1 in cc) r
    is
one_reading octets r (packet p) is other =
    alone_packet octets p other.0 (packet_has_no_fault p octets other.1) (λ q k. one_packet p q octets other.1 k) r is
one_reading octets r (no_compound f) is other =
    alone_no_compound octets f other.0 (λ g h. one_fault g f octets h other.1)
    (λ ps k. compound_has_no_fault ps f octets k other.1) r is
one_reading octets r (compound ps) is other =
    alone_compound octets ps other.0 (λ f h. compound_has_no_fault ps f octets other.1 h)
    (λ qs k. one_compound octets ps qs other.1 k) r is
