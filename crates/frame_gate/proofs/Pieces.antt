-- The non-empty packets of numbers in a row.
use Rattle.std.proofs.Common.{◌≡◌, ℕ, zero, suc, ◌+◌, ◌-◌, ◌<◌, List, [], ◌∷◌, ◌++◌, length, map, Option, Some, refl}
use Rattle.std.proofs.Common.{sym, ap, ◌∙◌, arith, add-one}
use Rattle.std.proofs.lemmas.List.{map-append}
use Rattle.std.proofs.lemmas.List.Elements.{filter-append}
use Rattle.std.specs.Option.{option_to_list}
use Rattle.frame_gate.specs.Packets.{NumberedPacket, frame_packet}
use Rattle.frame_gate.specs.Frame.{SourcePacket}
use Rattle.frame_gate.specs.Runs.{is_full, full, IsRow}

-- a number's packet as a frame has it
abbrev pub in_frame : Option NumberedPacket → List SourcePacket
in_frame found = map frame_packet (full (option_to_list found))

-- the non-empty packets that so many numbers have, as a frame has them
abbrev pub collected : (ℕ → Option NumberedPacket) → ℕ → ℕ → List SourcePacket
collected at from zero = []
collected at from (suc count) = in_frame (at from) ++ collected at (suc from) count

pub collected_more : (at : ℕ → Option NumberedPacket) (n to : ℕ) → n < to
    → collected at n (to - n) ≡ in_frame (at n) ++ collected at (n + 1) (to - (n + 1))
collected_more at n to h =
    let e : to - n ≡ suc (to - (n + 1)) = omega arith in
    ap (collected at n) e ∙ ap (λ m. in_frame (at n) ++ collected at m (to - (n + 1))) (sym (add-one n))

collected_row : (at : ℕ → Option NumberedPacket) (from : ℕ) (ps : List NumberedPacket) → IsRow at from ps
    → collected at from (length ps) ≡ map frame_packet (full ps)
collected_row at from [] h = refl
collected_row at from (p ∷ ps) h =
    ap (λ o. in_frame o ++ collected at (suc from) (length ps)) h.0
    ∙ ap (λ xs. in_frame (Some p) ++ xs) (collected_row at (suc from) ps h.1)
    ∙ sym (map-append frame_packet (full (p ∷ [])) (full ps))
    ∙ sym (ap (λ (xs : List NumberedPacket). map frame_packet xs) (filter-append is_full (p ∷ []) ps))

pub collected_full : (at : ℕ → Option NumberedPacket) (from to : ℕ) (ps : List NumberedPacket) → IsRow at from ps
    → to ≡ from + length ps
    → collected at from (to - from) ≡ map frame_packet (full ps)
collected_full at from to ps h e =
    let n : to - from ≡ length ps = omega arith in
    ap (collected at from) n ∙ collected_row at from ps h
