-- What the code reads of a body is the body.
use Rattle.std.proofs.Common.{◌≡◌, ℕ, ◌^◌, ◌<◌, List, [], ◌∷◌, ◌++◌, length, Option, Some, None, sym, ap, ◌∙◌}
use Rattle.std.proofs.Common.{append_assoc}
use Rattle.std.specs.Prelude.{IfSome, IfNone}
use Rattle.std.specs.Option.{option_map}
use Rattle.rtp_codec.specs.Packet.{number_octets}
use Rattle.rtcp_codec.specs.Packet.{Bye, Begin, IsBody}

pub bye_body : {V : Type 0} (items : V → List ℕ) (r : Option V) (ssrcs body rest : List ℕ)
    → body ≡ number_octets ssrcs ++ rest → IfNone r (rest ≡ [])
    → IfSome r (λ v. Begin (length (items v) ∷ items v) rest) → IsBody (Bye ssrcs (option_map items r)) body
bye_body items None ssrcs body rest e none some = e ∙ ap (λ (l : List ℕ). number_octets ssrcs ++ l) none
bye_body items (Some v) ssrcs body rest e none some = (
  some.0,
  e
      ∙ ap (λ (l : List ℕ). number_octets ssrcs ++ l) some.1
      ∙ sym (append_assoc (number_octets ssrcs) (length (items v) ∷ items v) some.0),
)

pub bye_fits : {V : Type 0} (items : V → List ℕ) (r : Option V) → IfSome r (λ v. length (items v) < 2 ^ 8)
    → IfSome (option_map items r) (λ text. length text < 2 ^ 8)
bye_fits items None h = tt
bye_fits items (Some v) h = h
