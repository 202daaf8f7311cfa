-- The line of a frame, as its words are appended.
use Rattle.std.proofs.Common.{◌≡◌, ℕ, Bool, true, false, List, [], ◌∷◌, ◌++◌, map}
use Rattle.std.proofs.Common.{codes, refl, sym, ap, ◌∙◌, append_assoc, if◌then◌else◌}
use Rattle.std.specs.List.{join_with_byte}
use Rattle.std.specs.Fmt.{decimal, digits, signed_decimal}
use Rattle.hex.specs.Hex.{encode_lower}
use Rattle.frame_gate.specs.Frame.{SourcePacket}
use Rattle.media_items.specs.Frame.{SourceFrame}
use Rattle.media_items.specs.Inputs.Input.{frame}
use Rattle.desk_text.specs.Values.{value_text}
use Rattle.desk_text.specs.Text.{Word, fixed, value, word_text, line_text}
use Rattle.desk_text.specs.Shown.{slashed}
use Rattle.script_text.specs.Packets.{marker_text, packet_text}
use Rattle.script_text.specs.Requests.{front_values}
use Rattle.script_text.specs.ItemLines.{item_text}
use Rattle.script_text.specs.inner.Shown.{packet_word}

flat : (a b c d e f g : List ℕ)
    → a ++ b ++ c ++ d ++ e ++ f ++ g ≡ a ++ (b ++ (c ++ (d ++ (e ++ (f ++ g)))))
flat a b c d e f g = simp append_assoc

-- a packet's parts are appended two by two
marked : (m : Bool) (ext pt payload : List ℕ)
    → (ext ++ slashed m) ++ ((pt ++ 47 ∷ []) ++ payload)
    ≡ ext ++ codes "/" ++ marker_text m ++ codes "/" ++ pt ++ codes "/" ++ payload
unfolding digits
marked true ext pt payload =
    append_assoc ext (slashed true) ((pt ++ 47 ∷ []) ++ payload)
    ∙ (ap (λ (t : List ℕ). ext ++ (slashed true ++ t)) (append_assoc pt (47 ∷ []) payload)
    ∙ sym (flat ext (codes "/") (marker_text true) (codes "/") pt (codes "/") payload))
marked false ext pt payload =
    append_assoc ext (slashed false) ((pt ++ 47 ∷ []) ++ payload)
    ∙ (ap (λ (t : List ℕ). ext ++ (slashed false ++ t)) (append_assoc pt (47 ∷ []) payload)
    ∙ sym (flat ext (codes "/") (marker_text false) (codes "/") pt (codes "/") payload))

texts : (ps : List SourcePacket) → map word_text (map packet_word ps) ≡ map packet_text ps
texts [] = refl
texts (p ∷ ps) =
    ap (λ (t : List ℕ). t ∷ map word_text (map packet_word ps))
    (marked p.marker (signed_decimal p.ext) (decimal p.pt) (encode_lower p.payload))
    ∙ ap (λ (t : List (List ℕ)). packet_text p ∷ t) (texts ps)

pub frame_told : (f : SourceFrame) (ws : List Word)
    → ws ≡ (fixed (codes "frame") ∷ map value (front_values f)) ++ map packet_word f.frame.packets
    → line_text (fixed (codes "item") ∷ ws) ≡ item_text (frame f)
frame_told f ws is =
    ap (λ (w : List Word). line_text (fixed (codes "item") ∷ w)) is
    ∙ ap (λ (t : List (List ℕ)). join_with_byte 32 (codes "item" ∷ codes "frame" ∷ map value_text (front_values f) ++ t)
    ++ 10 ∷ []) (texts f.frame.packets)
