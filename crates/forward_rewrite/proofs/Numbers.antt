-- Packets numbered in a row.
use Rattle.std.proofs.Common.{◌≡◌, ℕ, suc, ◌+◌, ◌%◌, ◌^◌, ◌<◌, List, [], ◌∷◌, ◌++◌, length, map, drop, get_or, refl}
use Rattle.std.proofs.Common.{sym, ap, ◌∙◌, arith, append_assoc, subst}
use Rattle.std.proofs.lemmas.List.{drop_more, length-map}
use Rattle.frame_gate.specs.Frame.{SourcePacket}
use Rattle.retransmit.specs.SentPacket.{SentPacket}
use Rattle.rtp_codec.specs.Sequence.{next as next_number}
use Rattle.forward_rewrite.specs.inner.Row.{Lead}
use Rattle.forward_rewrite.specs.RoutedList.{Part, numbered, sent_packet}

-- the first packet of what is left, and the others
pub numbered_more : (part : SourcePacket → Part) (ssrc n i : ℕ) (xs : List SourcePacket) (x : SourcePacket)
    → i < length xs → x ≡ get_or xs i x
    → numbered ssrc (n + i) (map part (drop i xs))
    ≡ sent_packet ssrc ((n + i) % 2 ^ 16) (part x) ∷ numbered ssrc (n + (i + 1)) (map part (drop (i + 1) xs))
numbered_more part ssrc n i xs x lt e =
    ap (λ ys. numbered ssrc (n + i) (map part ys)) (drop_more xs i x lt)
    ∙ ap (λ y. sent_packet ssrc ((n + i) % 2 ^ 16) (part y) ∷ numbered ssrc (n + i + 1) (map part (drop (i + 1) xs)))
    (sym e)
    ∙ ap (λ m. sent_packet ssrc ((n + i) % 2 ^ 16) (part x) ∷ numbered ssrc m (map part (drop (i + 1) xs)))
    (omega arith)

pub numbered-append : (ssrc n : ℕ) (xs ys : List Part)
    → numbered ssrc n (xs ++ ys) ≡ numbered ssrc n xs ++ numbered ssrc (n + length xs) ys
numbered-append ssrc n [] ys = ap (λ m. numbered ssrc m ys) (omega arith)
numbered-append ssrc n (x ∷ xs) ys =
    ap (λ zs. sent_packet ssrc (n % 2 ^ 16) x ∷ zs)
    (numbered-append ssrc (n + 1) xs ys ∙ ap (λ m. numbered ssrc (n + 1) xs ++ numbered ssrc m ys) (omega arith))

-- only the number modulo 2 ^ 16 counts
pub numbered_alike : (ssrc m n : ℕ) (xs : List Part) → m % 2 ^ 16 ≡ n % 2 ^ 16 → numbered ssrc m xs ≡ numbered ssrc n xs
numbered_alike ssrc m n [] e = refl
numbered_alike ssrc m n (x ∷ xs) e =
    ap (λ k. sent_packet ssrc k x ∷ numbered ssrc (m + 1) xs) e
    ∙ ap (λ zs. sent_packet ssrc (n % 2 ^ 16) x ∷ zs) (numbered_alike ssrc (m + 1) (n + 1) xs (omega arith))

-- one more packet is pushed
pub numbered_pushed : (part : SourcePacket → Part) (ssrc n i : ℕ) (xs : List SourcePacket) (x : SourcePacket)
    (all entries new : List SentPacket) (number : ℕ) (one : SentPacket)
    → i < length xs → x ≡ get_or xs i x → number ≡ (n + i) % 2 ^ 16 → one ≡ sent_packet ssrc number (part x)
    → new ≡ entries ++ one ∷ []
    → entries ++ numbered ssrc (n + i) (map part (drop i xs)) ≡ all
    → new ++ numbered ssrc (n + (i + 1)) (map part (drop (i + 1) xs)) ≡ all
numbered_pushed part ssrc n i xs x all entries new number one lt at e is pushed told =
    let rest = numbered ssrc (n + (i + 1)) (map part (drop (i + 1) xs)) in
    ap (λ ys. ys ++ rest) pushed
    ∙ append_assoc entries (one ∷ []) rest
    ∙ ap (λ y. entries ++ y ∷ rest) (is ∙ ap (λ k. sent_packet ssrc k (part x)) e)
    ∙ ap (λ ys. entries ++ ys) (sym (numbered_more part ssrc n i xs x lt at))
    ∙ told

pub length-numbered : (ssrc n : ℕ) (xs : List Part) → length (numbered ssrc n xs) ≡ length xs
length-numbered ssrc n [] = refl
length-numbered ssrc n (x ∷ xs) = ap suc (length-numbered ssrc (n + 1) xs)

-- behind packets in a row comes their number behind the first
pub lead-numbered : (ssrc n : ℕ) (xs : List Part) → Lead (n % 2 ^ 16) (numbered ssrc n xs) ((n + length xs) % 2 ^ 16)
lead-numbered ssrc n [] = omega arith
lead-numbered ssrc n (x ∷ xs) =
    let first : (n + 1) % 2 ^ 16 ≡ next_number (n % 2 ^ 16) = omega arith in
    let behind : (n + 1 + length xs) % 2 ^ 16 ≡ (n + length (x ∷ xs)) % 2 ^ 16 = omega arith in
    let rest = lead-numbered ssrc (n + 1) xs in (
      refl,
      subst (λ (k : ℕ). Lead (next_number (n % 2 ^ 16)) (numbered ssrc (n + 1) xs) k) behind
          (subst (λ (k : ℕ). Lead k (numbered ssrc (n + 1) xs) ((n + 1 + length xs) % 2 ^ 16)) first rest),
    )

pub lead_prepared : (ssrc first count : ℕ) (part : SourcePacket → Part) (packets : List SourcePacket)
    (entries : List SentPacket)
    → first < 2 ^ 16 → entries ≡ numbered ssrc first (map part packets) → count ≡ length packets
    → Lead first entries ((first + count) % 2 ^ 16)
lead_prepared ssrc first count part packets entries fits is same =
    let xs = map part packets in
    let begins : first % 2 ^ 16 ≡ first = omega (arith, fits) in
    let all : count ≡ length xs = same ∙ sym (length-map packets part) in
    subst (λ (n : ℕ). Lead first entries ((first + n) % 2 ^ 16)) (sym all)
    (subst (λ (es : List SentPacket). Lead first es ((first + length xs) % 2 ^ 16)) (sym is)
    (subst (λ (n : ℕ). Lead n (numbered ssrc first xs) ((first + length xs) % 2 ^ 16)) begins
    (lead-numbered ssrc first xs)))
