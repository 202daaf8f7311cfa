-- What a datagram was, and what comes of one that was read.
use Rattle.std.proofs.Common.{◌≡◌, ◌∙◌, ℕ, Bool, true, false, ◌+◌, nat_lt, if◌then◌else◌, List, length, Option, None}
use Rattle.std.proofs.Common.{Some, [], is_some}
use Rattle.std.proofs.Common.{IfSome, IfNone, refl, ap, sym, subst, arith}
use Rattle.std.proofs.lemmas.Bool.Decides.{nat_tests}
use Rattle.std.specs.declared.vec.Vec.{Vec}
use Rattle.rtp_codec.specs.declared.address.Address.{Address}
use Rattle.rtp_codec.specs.declared.class.Class.TheVariants as classes
use Rattle.rtp_codec.specs.declared.writing.Header.{Header}
use Rattle.rtp_codec.specs.Packet.{Packet as RtpPacket}
use Rattle.rtcp_codec.specs.Compound.{IsCompound}
use Rattle.rtcp_codec.specs.View.{packets_of}
use Rattle.rtcp_codec.specs.declared.packet.Rtcp.{Rtcp as RtcpParts}
use Rattle.source_valid.specs.declared.verdict.Verdict.{Verdict}
use Rattle.source_valid.specs.declared.verdict.Verdict.TheVariants.{Probation, Accepted, Jump, Restarted}
use Rattle.source_valid.specs.Histories.{accepted}
use Rattle.frame_gate.specs.declared.packet.Place.{Place}
use Rattle.frame_gate.specs.declared.packet.Place.TheVariants.{Taken, Late, Duplicate}
use Rattle.desk_rows.specs.Desk.{Desk}
use Rattle.desk_rows.specs.declared.row.Source.{Source}
use Rattle.ingress.specs.declared.outcome.Outcome.{Outcome}
use Rattle.ingress.specs.declared.outcome.Outcome.TheVariants.{Unknown, Rtcp}
use Rattle.ingress.specs.declared.known.OriginKey.{OriginKey}
use Rattle.ingress.specs.declared.received.Received.{Received}
use Rattle.ingress.specs.declared.ingest.Effect.{Effect}
use Rattle.ingress.specs.Media.{told}
use Rattle.ingress.specs.Readings.{IsOf}
use Rattle.ingress.specs.Readings.{Reading, IsReading, too_long, neither, no_packet, packet, no_compound, compound}
use Rattle.ingress.specs.Energy.{no_sound, count_of_samples, is_heard, counted_as, sound_in}
use Rattle.ingress.specs.Ingested.{Ingested, only}
use Rattle.ingress.specs.Received.{HasHeader, row_in, received_so, with_outcome, IsReceived}
use Rattle.ingress.specs.inner.Holding.{IngressOf}
use Rattle.ingress.specs.inner.SourceEntries.{AdmissionOf, ValidatedOf}
use Rattle.ingress.specs.inner.Moves.{Advances, outcome_at}
use Rattle.ingress.specs.inner.Effects.{effect_of, IsOfPacket}

pub rtp_neither : classes.Rtp ≡ classes.Neither → ⊥
rtp_neither e = cc

pub rtp_rtcp : classes.Rtp ≡ classes.Rtcp → ⊥
rtp_rtcp e = cc

-- one more has begun, or none
begun : (begins : Bool) (old new : ℕ) → new ≡ (if begins then old + 1 else old) → begins ≡ nat_lt old new
begun true old new is = grind (arith, nat_tests)
begun false old new is = grind (arith, nat_tests)

pub none_began : (epochs : ℕ) → false ≡ nat_lt epochs epochs
none_began epochs = begun false epochs epochs refl

-- an epoch began if the packet initialises its source
pub advanced : (old new : IngressOf) (key : OriginKey) (j : ValidatedOf) (a : Option AdmissionOf)
    → Advances old new key j a → j.begins ≡ nat_lt old.epochs new.epochs
advanced old new key j a h = begun j.begins old.epochs new.epochs (ap (λ (i : IngressOf). i.epochs) h.2)

no_compound_at : (verdict : Verdict) (place : Place) (n : ℕ) → outcome_at verdict place ≡ Rtcp n → ⊥
no_compound_at Probation place n e = cc
no_compound_at (Accepted ext) Taken n e = cc
no_compound_at (Accepted ext) Late n e = cc
no_compound_at (Accepted ext) Duplicate n e = cc
no_compound_at Jump place n e = cc
no_compound_at (Restarted ext) place n e = cc

module _ {A : Type 0} where
  -- of a packet that its source takes
  pub of_taken : (old new : IngressOf) (key : OriginKey) (j : ValidatedOf) (a : Option AdmissionOf) (place : Place)
      (effect : Effect A)
      → effect.outcome ≡ outcome_at j.verdict place → effect.begins ≡ j.begins → Advances old new key j a
      → IsOfPacket old new effect
  of_taken old new key j a place effect outcome begins h = record {
    epoch = begins ∙ advanced old new key j a h;
    media = λ n e. no_compound_at j.verdict place n (sym outcome ∙ e);
  }

  -- of a packet that has no effect
  pub of_dropped : (i : IngressOf) (outcome : Outcome) (effect : Effect A)
      → effect_of effect ≡ only outcome → effect.begins ≡ false → ((n : ℕ) → outcome ≡ Rtcp n → ⊥)
      → IsOfPacket i i effect
  of_dropped i outcome effect is begins media = record {
    epoch = begins ∙ none_began i.epochs;
    media = λ n e. media n (sym (ap (λ (x : Ingested). x.outcome) is) ∙ e);
  }

-- octets that are no packet are of no source
pub no_row : (desk : Desk) (from : Address) (octets : List ℕ) → ((p : RtpPacket) → IsReading octets (packet p) → ⊥)
    → (r : Reading) → IsReading octets r → None ≡ row_in desk from r
no_row desk from octets never too_long is = refl
no_row desk from octets never neither is = refl
no_row desk from octets never (no_packet fault) is = refl
no_row desk from octets never (packet p) is = absurd (never p is)
no_row desk from octets never (no_compound fault) is = refl
no_row desk from octets never (compound packets) is = refl

-- octets that are no packet have no sound
pub no_sound_of : (desk : Desk) (from : Address) (outcome : Outcome) (octets : List ℕ)
    → ((p : RtpPacket) → IsReading octets (packet p) → ⊥)
    → (r : Reading) → IsReading octets r → no_sound ≡ sound_in desk from outcome r
no_sound_of desk from outcome octets never too_long is = refl
no_sound_of desk from outcome octets never neither is = refl
no_sound_of desk from outcome octets never (no_packet fault) is = refl
no_sound_of desk from outcome octets never (packet p) is = absurd (never p is)
no_sound_of desk from outcome octets never (no_compound fault) is = refl
no_sound_of desk from outcome octets never (compound packets) is = refl

-- a packet without samples has no sound, whatever its outcome is
pub no_samples : (outcome : Outcome) → no_sound ≡ counted_as outcome []
no_samples outcome = no_samples_if (is_heard outcome)
  where
    no_samples_if : (b : Bool) → no_sound ≡ (if b then count_of_samples [] else no_sound)
    no_samples_if true = refl
    no_samples_if false = refl

-- sound is heard where its packet is accepted
pub heard_told : (verdict : Verdict) → is_some (accepted verdict) ≡ is_heard (told verdict)
heard_told Probation = refl
heard_told (Accepted ext) = refl
heard_told Jump = refl
heard_told (Restarted ext) = refl

module _ {A : Type 0} (desk : Desk) (from : Address) (moment : ℕ) (octets : List ℕ) where
  -- a datagram of no source and no member
  pub of_nobody : (epochs : ℕ) (header : Option Header) (packets : Vec (RtcpParts A) A) (outcome : Outcome)
      (first received : Received A)
      → received ≡ with_outcome outcome false no_sound first
      → first ≡ received_so from moment (length octets) header packets None Unknown false no_sound
      → IfSome header (HasHeader octets) → IfNone header ((h : Header) → HasHeader octets h → ⊥)
      → ((p : RtpPacket) → IsReading octets (packet p) → ⊥) → ((n : ℕ) → outcome ≡ Rtcp n → ⊥)
      → IsReceived desk from moment octets epochs epochs received
  of_nobody epochs header packets outcome first received told is found none never media =
      subst (λ (r : Received A). IsReceived desk from moment octets epochs epochs r)
      (sym (told ∙ ap (λ (r : Received A). with_outcome outcome false no_sound r) is)) (record {
        rest = refl;
        found = found;
        none = none;
        row = no_row desk from octets never;
        reports = λ n e. absurd (media n e);
        epoch = none_began epochs;
        heard = no_sound_of desk from outcome octets never;
      })

  -- a packet of the source in this row, if there is one
  pub of_packet : (old new : IngressOf) (header : Header) (packets : Vec (RtcpParts A) A) (row : Option Source)
      (effect : Effect A) (first received : Received A)
      → received ≡ with_outcome effect.outcome effect.begins effect.sound (record first { source = row })
      → first ≡ received_so from moment (length octets) (Some header) packets None Unknown false no_sound
      → HasHeader octets header → ((r : Reading) → IsReading octets r → row ≡ row_in desk from r)
      → IsOfPacket old new effect
      → ((r : Reading) → IsReading octets r → effect.sound ≡ sound_in desk from effect.outcome r)
      → IsReceived desk from moment octets old.epochs new.epochs received
  of_packet old new header packets row effect first received told is found rows of sound =
      subst (λ (r : Received A). IsReceived desk from moment octets old.epochs new.epochs r)
      (sym
      (told
      ∙ ap (λ (r : Received A). with_outcome effect.outcome effect.begins effect.sound (record r { source = row }))
      is))
      (record {
        rest = refl;
        found = found;
        none = tt;
        row = rows;
        reports = λ n e. absurd (of.media n e);
        epoch = of.epoch;
        heard = sound;
      })

  -- a compound of these packets
  pub of_compound : (old new : IngressOf) (packets none : Vec (RtcpParts A) A) (effect : Effect A)
      (first received : Received A)
      → received ≡ with_outcome effect.outcome effect.begins effect.sound (record first { packets = packets })
      → first ≡ received_so from moment (length octets) None none None Unknown false no_sound
      → IsOf classes.Rtcp octets → IsCompound (packets_of packets.items) octets
      → effect.begins ≡ nat_lt old.epochs new.epochs → effect.sound ≡ no_sound
      → IsReceived desk from moment octets old.epochs new.epochs received
  of_compound old new packets none effect first received told is of whole begins sound =
      subst (λ (r : Received A). IsReceived desk from moment octets old.epochs new.epochs r)
      (sym
      (told
      ∙ ap (λ (r : Received A). with_outcome effect.outcome effect.begins effect.sound (record r { packets = packets }))
      is))
      (record {
        rest = refl;
        found = tt;
        none = λ h has. rtp_rtcp (sym has.0 ∙ of.its_class);
        row = no_row desk from octets (λ p k. rtp_rtcp (sym k.0.its_class ∙ of.its_class));
        reports = λ n e. whole;
        epoch = begins;
        heard = λ r is.
            sound
            ∙ no_sound_of desk from effect.outcome octets (λ p k. rtp_rtcp (sym k.0.its_class ∙ of.its_class)) r is;
      })
