-- The written form of packets, one behind another.
use Rattle.std.proofs.Common.{◌≡◌, ℕ, ◌+◌, List, [], ◌∷◌, ◌++◌, length, ap, ◌∙◌, append_assoc, length-append, arith}
use Rattle.std.proofs.Common.{inl, inr, subst, sym}
use Rattle.std.proofs.lemmas.List.Concat.{flat_map-cons}
use Rattle.std.proofs.Math.ListN.{set}
use Rattle.std.proofs.lemmas.List.{set_at}
use Rattle.std.specs.List.{AllByRecursion}
use Rattle.rtcp_codec.specs.Description.{filled}
use Rattle.rtcp_codec.specs.Packet.{Packet, fields, written_packet}
use Rattle.rtcp_codec.specs.Compound.{written}
use Rattle.rtcp_codec.specs.WriteFault.{IsWritable, HasPacketFault, IsFirstFault}
use Rattle.rtcp_codec.specs.declared.fault.WriteFault.{WriteFault}

pub written_left : (l : List Packet) (p : Packet) (ps : List Packet) → l ≡ p ∷ ps
    → written l ≡ written_packet p ++ written ps
written_left l p ps e = ap written e ∙ flat_map-cons written_packet p ps

pub written_length : (l : List Packet) (p : Packet) (ps : List Packet) → l ≡ p ∷ ps
    → length (written l) ≡ (4 + length (filled (fields p))) + length (written ps)
written_length l p ps e =
    ap length (written_left l p ps e) ∙ length-append (written_packet p) (written ps) ∙ omega arith

pub written_size : (l : List Packet) (p : Packet) (ps : List Packet) → l ≡ p ∷ ps
    → length (written l) ≡ length (written_packet p) + length (written ps)
written_size l p ps e = ap length (written_left l p ps e) ∙ length-append (written_packet p) (written ps)

-- two texts appended in turn
pub appended : (old front after back whole new : List ℕ) → after ≡ old ++ front → new ≡ after ++ back
    → front ++ back ≡ whole → new ≡ old ++ whole
appended old front after back whole new e f g =
    f ∙ ap (λ (l : List ℕ). l ++ back) e ∙ append_assoc old front back ∙ ap (λ (l : List ℕ). old ++ l) g

-- a header whose length was put in behind the body
pub headed : (old body : List ℕ) (a t h l n : ℕ) → length old ≡ n
    → set (set ((old ++ a ∷ t ∷ 0 ∷ 0 ∷ []) ++ body) (n + 2) h) (n + 3) l ≡ old ++ (a ∷ t ∷ h ∷ l ∷ body)
headed old body a t h l n len =
    let before : (old ++ a ∷ t ∷ 0 ∷ 0 ∷ []) ++ body ≡ (old ++ a ∷ t ∷ []) ++ 0 ∷ 0 ∷ body =
    append_assoc old (a ∷ t ∷ 0 ∷ 0 ∷ []) body ∙ sym (append_assoc old (a ∷ t ∷ []) (0 ∷ 0 ∷ body)) in
    let first : set ((old ++ a ∷ t ∷ []) ++ 0 ∷ 0 ∷ body) (n + 2) h ≡ (old ++ a ∷ t ∷ []) ++ h ∷ 0 ∷ body =
    set_at (old ++ a ∷ t ∷ []) 0 (0 ∷ body) h (n + 2) (omega (arith, length-append old (a ∷ t ∷ []))) in
    let between : (old ++ a ∷ t ∷ []) ++ h ∷ 0 ∷ body ≡ (old ++ a ∷ t ∷ h ∷ []) ++ 0 ∷ body =
    append_assoc old (a ∷ t ∷ []) (h ∷ 0 ∷ body) ∙ sym (append_assoc old (a ∷ t ∷ h ∷ []) (0 ∷ body)) in
    let second : set ((old ++ a ∷ t ∷ h ∷ []) ++ 0 ∷ body) (n + 3) l ≡ (old ++ a ∷ t ∷ h ∷ []) ++ l ∷ body =
    set_at (old ++ a ∷ t ∷ h ∷ []) 0 body l (n + 3) (omega (arith, length-append old (a ∷ t ∷ h ∷ []))) in
    ap (λ (x : List ℕ). set (set x (n + 2) h) (n + 3) l) before
    ∙ ap (λ (x : List ℕ). set x (n + 3) l) (first ∙ between)
    ∙ second
    ∙ append_assoc old (a ∷ t ∷ h ∷ []) (l ∷ body)

pub all_left : (P : Packet → Type 0) (l : List Packet) (p : Packet) (ps : List Packet) → l ≡ p ∷ ps → P p
    → AllByRecursion P ps → AllByRecursion P l
all_left P l p ps e h k = subst (AllByRecursion P) (sym e) (h, k)

pub first_left : (l : List Packet) (p : Packet) (ps : List Packet) → l ≡ p ∷ ps → AllByRecursion IsWritable l
    → IsWritable p × AllByRecursion IsWritable ps
first_left l p ps e h = subst (AllByRecursion IsWritable) e h

pub fault_left : (f : WriteFault) (l : List Packet) (p : Packet) (ps : List Packet) → l ≡ p ∷ ps → IsFirstFault f p
    → HasPacketFault f l
fault_left f l p ps e h = subst (HasPacketFault f) (sym e) (inl h)

pub fault_behind : (f : WriteFault) (l : List Packet) (p : Packet) (ps : List Packet) → l ≡ p ∷ ps → IsWritable p
    → HasPacketFault f ps → HasPacketFault f l
fault_behind f l p ps e h k = subst (HasPacketFault f) (sym e) (inr (h, k))
