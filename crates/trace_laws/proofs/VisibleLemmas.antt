-- The words of an item have neither spaces nor octets that a line may not hold.
use Rattle.std.proofs.Common.{◌≡◌, ℕ, ℤ, pos, negsuc, zero, suc, ◌/◌, ◌%◌, ◌<◌, ◌≤◌, ◌^◌, ◌&&◌, Bool, true, false}
use Rattle.std.proofs.Common.{leb, List, [], ◌∷◌, ◌++◌, length, map, get_or, refl, arith}
use Rattle.std.specs.List.{list_all, join_with_byte}
use Rattle.std.specs.Char.{is_ascii_digit}
use Rattle.std.specs.Fmt.{decimal, signed_decimal}
use Rattle.std.proofs.lemmas.Bool.{and_parts, and_from, le-leb, leb-true, ne_eqb}
use Rattle.std.proofs.lemmas.Fmt.{digits_decimal}
use Rattle.hex.specs.Hex.{IsBytes, encode_lower, encode_with, lower_digits}
use Rattle.rtp_codec.specs.declared.address.Address.{Address}
use Rattle.frame_gate.specs.Frame.{SourcePacket}
use Rattle.media_items.specs.Frame.{SourceFrame}
use Rattle.desk_text.specs.Numbers.{FitsExt}
use Rattle.rtp_codec.specs.Address.{address_text}
use Rattle.desk_text.specs.Addresses.{IsAddress}
use Rattle.desk_text.specs.Values.{value_text, AllFit}
use Rattle.desk_text.specs.Lines.{is_printable}
use Rattle.desk_text.proofs.NumberLemmas.{own}
use Rattle.desk_text.proofs.Joined.{Free, AllFree}
use Rattle.script_text.specs.Packets.{marker_text, packet_text, IsReadable, AllReadable}
use Rattle.script_text.specs.Requests.{front_values}
use Rattle.script_text.specs.ItemLines.{end_values}

-- an octet from 33 to 126: no space, and a line may hold it
abbrev pub Visible : ℕ → Type 0
Visible octet = (33 ≤ octet) × (octet ≤ 126)

-- all octets of a word are such
abbrev pub IsWord : List ℕ → Type 0
IsWord [] = Unit {0}
IsWord (x ∷ xs) = Visible x × IsWord xs

-- all octets of words are
abbrev pub AreWords : List (List ℕ) → Type 0
AreWords [] = Unit {0}
AreWords (w ∷ ws) = IsWord w × AreWords ws

-- the same of an octet, as a test
abbrev pub is_visible : ℕ → Bool
is_visible octet = leb 33 octet && leb octet 126

visible_octet : (octet : ℕ) → is_visible octet ≡ true → Visible octet
visible_octet octet h =
    let parts = and_parts (leb 33 octet) (leb octet 126) h in (leb-true 33 octet parts.0, leb-true octet 126 parts.1)

-- a text that is tested
pub visible_test : (xs : List ℕ) → list_all is_visible xs ≡ true → IsWord xs
visible_test [] h = tt
visible_test (x ∷ xs) h =
    let parts = and_parts (is_visible x) (list_all is_visible xs) h in
    (visible_octet x parts.0, visible_test xs parts.1)

pub visible_append : (xs ys : List ℕ) → IsWord xs → IsWord ys → IsWord (xs ++ ys)
visible_append [] ys h k = k
visible_append (x ∷ xs) ys h k = (h.0, visible_append xs ys h.1 k)

-- ---- numbers

digits_visible : (xs : List ℕ) → list_all is_ascii_digit xs ≡ true → IsWord xs
digits_visible [] h = tt
digits_visible (x ∷ xs) h =
    let parts = and_parts (is_ascii_digit x) (list_all is_ascii_digit xs) h in
    let range = and_parts (leb 48 x) (leb x 57) parts.0 in
    let low : 48 ≤ x = leb-true 48 x range.0 in
    let high : x ≤ 57 = leb-true x 57 range.1 in
    ((omega arith, omega arith), digits_visible xs parts.1)

pub visible_number : (n : ℕ) → n < 2 ^ 64 → IsWord (decimal n)
visible_number n small = digits_visible (decimal n) (digits_decimal own n small)

pub visible_signed : (z : ℤ) → FitsExt z → IsWord (signed_decimal z)
visible_signed (pos n) small = visible_number n (omega (arith, small))
visible_signed (negsuc n) small = ((omega arith, omega arith), visible_number (suc n) (omega (arith, small)))

-- ---- hexadecimal

digit_visible : (table : List ℕ) (k : ℕ) → list_all is_visible table ≡ true → k < length table
    → Visible (get_or table k 0)
digit_visible [] k h lt = absurd (omega (arith, lt))
digit_visible (x ∷ xs) zero h lt = (visible_test (x ∷ xs) h).0
digit_visible (x ∷ xs) (suc k) h lt =
    digit_visible xs k (and_parts (is_visible x) (list_all is_visible xs) h).1 (omega (arith, lt))

-- one of the sixteen digits
hex_digit : (k : ℕ) → k < 16 → Visible (get_or lower_digits k 0)
hex_digit k small = digit_visible lower_digits k refl small

pub visible_hex : (octets : List ℕ) → IsBytes octets → IsWord (encode_lower octets)
unfolding encode_with
visible_hex [] h = tt
visible_hex (b ∷ rest) h =
    let small : b < 256 = h 0 in (
      hex_digit (b / 16) (omega (arith, small)),
      (hex_digit (b % 16) (omega (arith, small)), visible_hex rest (λ k. h (suc k))),
    )

-- ---- values

dotted : (a b : List ℕ) (c : ℕ) → Visible c → IsWord a → IsWord b → IsWord (a ++ (c ∷ []) ++ b)
dotted a b c h ha hb = visible_append (a ++ c ∷ []) b (visible_append a (c ∷ []) ha (h, tt)) hb

pub visible_address : (a : Address) → IsAddress a → IsWord (address_text a)
visible_address a h =
    let part : (k : ℕ) → IsWord (decimal (get_or a.ip k 0)) = λ k.
    visible_number (get_or a.ip k 0) (omega (arith, h.octets k)) in
    let dot : Visible 46 = (omega arith, omega arith) in
    let colon : Visible 58 = (omega arith, omega arith) in
    dotted _ _ 58 colon
    (dotted _ _ 46 dot (dotted _ _ 46 dot (dotted _ _ 46 dot (part 0) (part 1)) (part 2)) (part 3))
    (visible_number a.port (omega (arith, h.port)))

-- the words of an outgoing stream or of a source, and words behind them
pub visible_ends : (from : Address) (ssrc : ℕ) (ws : List (List ℕ)) → AllFit (end_values from ssrc) → AreWords ws
    → AreWords (map value_text (end_values from ssrc) ++ ws)
visible_ends from ssrc ws h seen =
    let small : ssrc ≤ 4294967295 = h.1.0 in
    (visible_address from h.0, (visible_number ssrc (omega arith), seen))

-- the words that stand first on the line of a frame, and words behind them
pub visible_front : (f : SourceFrame) (ws : List (List ℕ)) → AllFit (front_values f) → AreWords ws
    → AreWords (map value_text (front_values f) ++ ws)
visible_front f ws h seen =
    let moment : f.moment ≤ 18446744073709551615 = h.0 in
    let source : f.source ≤ 4294967295 = h.1.1.0 in
    let epoch : f.epoch ≤ 18446744073709551615 = h.1.1.1.0 in
    let ts : f.frame.ts ≤ 4294967295 = h.1.1.1.1.0 in (
      visible_number f.moment (omega arith),
      (
        visible_address f.address h.1.0,
        (
          visible_number f.source (omega arith),
          (visible_number f.epoch (omega arith), (visible_number f.frame.ts (omega arith), seen)),
        ),
      ),
    )

-- ---- packets

marker_visible : (marker : Bool) → IsWord (marker_text marker)
marker_visible true = visible_number 1 (omega arith)
marker_visible false = visible_number 0 (omega arith)

visible_packet : (p : SourcePacket) → IsReadable p → IsWord (packet_text p)
visible_packet p h =
    let slash : Visible 47 = (omega arith, omega arith) in
    dotted _ _ 47 slash
    (dotted _ _ 47 slash (dotted _ _ 47 slash (visible_signed p.ext h.ext) (marker_visible p.marker))
    (visible_number p.pt (omega (arith, h.pt))))
    (visible_hex p.payload h.payload)

pub visible_packets : (ps : List SourcePacket) → AllReadable ps → AreWords (map packet_text ps)
visible_packets [] h = tt
visible_packets (p ∷ ps) h = (visible_packet p h.0, visible_packets ps h.1)

-- ---- what follows of words and of a line

pub word_free : (xs : List ℕ) → IsWord xs → Free 32 xs
word_free [] h = tt
word_free (x ∷ xs) h = (ne_eqb x 32 (λ e. absurd (omega (arith, e, h.0.0))), word_free xs h.1)

pub words_free : (ws : List (List ℕ)) → AreWords ws → AllFree 32 ws
words_free [] h = tt
words_free (w ∷ ws) h = (word_free w h.0, words_free ws h.1)

printable : (octet : ℕ) → 32 ≤ octet → octet ≤ 126 → is_printable octet ≡ true
printable octet low high =
    and_from (leb 32 octet) (leb octet 126) (le-leb 32 octet low) (le-leb octet 126 high)

-- a word before what may stand in a line may, too
pub word_printable : (xs ys : List ℕ) → IsWord xs → list_all is_printable ys ≡ true
    → list_all is_printable (xs ++ ys) ≡ true
word_printable [] ys h k = k
word_printable (x ∷ xs) ys h k =
    let low : 33 ≤ x = h.0.0 in
    and_from (is_printable x) (list_all is_printable (xs ++ ys)) (printable x (omega arith) h.0.1)
    (word_printable xs ys h.1 k)

alone_printable : (xs : List ℕ) → IsWord xs → list_all is_printable xs ≡ true
alone_printable [] h = refl
alone_printable (x ∷ xs) h =
    let low : 33 ≤ x = h.0.0 in
    and_from (is_printable x) (list_all is_printable xs) (printable x (omega arith) h.0.1) (alone_printable xs h.1)

-- words with spaces between them
pub line_printable : (w : List ℕ) (ws : List (List ℕ)) → IsWord w → AreWords ws
    → list_all is_printable (join_with_byte 32 (w ∷ ws)) ≡ true
line_printable w [] h k = alone_printable w h
line_printable w (v ∷ vs) h k =
    word_printable w (32 ∷ join_with_byte 32 (v ∷ vs)) h (line_printable v vs k.0 k.1)
