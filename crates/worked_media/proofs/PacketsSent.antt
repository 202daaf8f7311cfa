-- One packet more.
use Rattle.std.proofs.Common.{◌≡◌, ℕ, ◌+◌, ◌%◌, ◌^◌, zero, suc, [], ◌∷◌, ◌++◌, Option, None, Some, ap, ◌∙◌, add-one}
use Rattle.std.proofs.Common.{arith, sym, subst}
use Rattle.std.specs.List.{last_or}
use Rattle.std.specs.Option.{IfSome}
use Rattle.rtp_codec.specs.Sequence.{next}
use Rattle.retransmit.specs.SentPacket.{SentPacket}
use Rattle.retransmit.specs.Window.{MayFollow}
use Rattle.worked_media.specs.Sent.{packet, packets}

packets-suc : (first n : ℕ) → packets first (suc n) ≡ packets first n ++ packet ((first + n) % 2 ^ 16) ∷ []
packets-suc first zero = ap (λ m. packet (m % 2 ^ 16) ∷ []) (omega arith)
packets-suc first (suc n) =
    ap (λ ps. packet (first % 2 ^ 16) ∷ ps) (packets-suc (first + 1) n)
    ∙ ap (λ m. packet (first % 2 ^ 16) ∷ packets (first + 1) n ++ packet (m % 2 ^ 16) ∷ []) (omega arith)

pub packets-more : (first n : ℕ) → packets first (n + 1) ≡ packets first n ++ packet ((first + n) % 2 ^ 16) ∷ []
packets-more first n = ap (packets first) (add-one n) ∙ packets-suc first n

last_or-packets : (first n : ℕ) (o : Option SentPacket)
    → last_or o (packets first (suc n)) ≡ Some (packet ((first + n) % 2 ^ 16))
last_or-packets first zero o = ap (λ m. Some (packet (m % 2 ^ 16))) (omega arith)
last_or-packets first (suc n) o =
    last_or-packets (first + 1) n (Some (packet (first % 2 ^ 16))) ∙ ap (λ m. Some (packet (m % 2 ^ 16))) (omega arith)

pub packets-follow : (first n : ℕ) → MayFollow (packets first n) (packet ((first + n) % 2 ^ 16))
packets-follow first zero = tt
packets-follow first (suc n) =
    subst (λ (o : Option SentPacket). IfSome o (λ last. (first + suc n) % 2 ^ 16 ≡ next last.number))
    (sym (last_or-packets first n None)) (omega arith)
