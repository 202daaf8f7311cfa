-- One more packet of a compound.
use Rattle.std.proofs.Common.{◌≡◌, ℕ, ◌+◌, ◌<◌, List, [], ◌∷◌, ◌++◌, length, get_or, take, refl, sym, ap, ◌∙◌}
use Rattle.std.proofs.lemmas.List.{take_more, append-nil, append_assoc}
use Rattle.std.specs.List.{flat_map}
use Rattle.rtp_codec.specs.declared.address.Address.{Address}
use Rattle.rtcp_codec.specs.declared.packet.Rtcp.{Rtcp}
use Rattle.rtcp_codec.specs.View.{packet_of, packets_of}
use Rattle.ingress.specs.Sources.{Known}
use Rattle.ingress.specs.Control.{asks, noted, noted_all}

module _ {A : Type 0} where
  up_to : (ps : List (Rtcp A)) (i : ℕ) (x : Rtcp A) → i < length ps → x ≡ get_or ps i x
      → take (i + 1) ps ≡ take i ps ++ x ∷ []
  up_to ps i x lt is = take_more ps i x lt ∙ ap (λ y. take i ps ++ y ∷ []) (sym is)

  noted_last : (from : Address) (moment : ℕ) (known : List Known) (qs : List (Rtcp A)) (x : Rtcp A)
      → noted_all from moment known (packets_of (qs ++ x ∷ []))
      ≡ noted from moment (noted_all from moment known (packets_of qs)) (packet_of x)
  noted_last from moment known [] x = refl
  noted_last from moment known (q ∷ qs) x = noted_last from moment (noted from moment known (packet_of q)) qs x

  pub noted_more : (from : Address) (moment : ℕ) (known : List Known) (ps : List (Rtcp A)) (i : ℕ) (x : Rtcp A)
      → i < length ps → x ≡ get_or ps i x
      → noted_all from moment known (packets_of (take (i + 1) ps))
      ≡ noted from moment (noted_all from moment known (packets_of (take i ps))) (packet_of x)
  noted_more from moment known ps i x lt is =
      ap (λ qs. noted_all from moment known (packets_of qs)) (up_to ps i x lt is)
      ∙ noted_last from moment known (take i ps) x

  asked_last : (from : Address) (qs : List (Rtcp A)) (x : Rtcp A)
      → flat_map (asks from) (packets_of (qs ++ x ∷ []))
      ≡ flat_map (asks from) (packets_of qs) ++ asks from (packet_of x)
  asked_last from [] x = append-nil (asks from (packet_of x))
  asked_last from (q ∷ qs) x =
      ap (λ rest. asks from (packet_of q) ++ rest) (asked_last from qs x)
      ∙ sym (append_assoc (asks from (packet_of q)) (flat_map (asks from) (packets_of qs)) (asks from (packet_of x)))

  pub asked_more : (from : Address) (ps : List (Rtcp A)) (i : ℕ) (x : Rtcp A) → i < length ps → x ≡ get_or ps i x
      → flat_map (asks from) (packets_of (take (i + 1) ps))
      ≡ flat_map (asks from) (packets_of (take i ps)) ++ asks from (packet_of x)
  asked_more from ps i x lt is =
      ap (λ qs. flat_map (asks from) (packets_of qs)) (up_to ps i x lt is) ∙ asked_last from (take i ps) x
