-- What the code splits off is the packet at the front.
use Rattle.std.proofs.Common.{◌≡◌, ℕ, zero, suc, ◌+◌, ◌-◌, ◌*◌, ◌/◌, ◌%◌, ◌<◌, ◌≤◌, Bool, true, false, cond, List, []}
use Rattle.std.proofs.Common.{◌∷◌, ◌++◌, length, get_or, take, drop, refl, sym, ap, subst, ◌∙◌, arith, inl, inr}
use Rattle.std.specs.Prelude.{nat_lt, ◌==◌}
use Rattle.std.specs.Int.{w16, from_be_bytes, to_be_bytes}
use Rattle.std.proofs.lemmas.Bool.{lt-ltb, eqb-true, eqb-false, cases_lt}
use Rattle.std.proofs.lemmas.List.{take-append-drop, length-take, length-drop, get_or-drop, get_or-take, get_or_past}
use Rattle.std.proofs.lemmas.List.{nil_from_length}
use Rattle.std.proofs.lemmas.Nat.{be_bytes_2}
use Rattle.rtp_codec.specs.Packet.{IsPadding}
use Rattle.rtcp_codec.specs.Kind.{kind_of}
use Rattle.rtcp_codec.specs.Packet.{Packet, Sender, Receiver, Sdes, Bye, App, Nack, Pli, Other, kind, type_of, count_of}
use Rattle.rtcp_codec.specs.Packet.{IsPacket, common_header}
use Rattle.rtcp_codec.specs.Compound.{is_padded, count, packet_at, padding_of, IsReport}
use Rattle.rtcp_codec.specs.inner.Reading.{FitsFields, IsHead, IsGoodPadding, IsOf, Takes}
use Rattle.rtcp_codec.proofs.Fitting.{sizes}

abbrev pub IsBytes : List ℕ → Type 0
IsBytes octets = (i : ℕ) → get_or octets i 0 < 256

-- the type and the count of a packet tell its kind
pub kind_is : (p : Packet) → FitsFields p → kind_of (type_of p) (count_of p) ≡ kind p
kind_is (Sender ssrc ntp ts packets octets blocks) h = refl
kind_is (Receiver ssrc blocks) h = refl
kind_is (Sdes chunks) h = refl
kind_is (Bye ssrcs reason) h = refl
kind_is (App subtype ssrc name content) h = refl
kind_is (Nack sender media words) h = refl
kind_is (Pli sender media) h = refl
kind_is (Other pt n body) h = h.1

-- the last of octets stands behind the others
last_split : (l : List ℕ) (m : ℕ) → length l ≡ suc m → l ≡ take m l ++ get_or l m 0 ∷ []
last_split [] m h = absurd (omega arith)
last_split (x ∷ []) zero h = refl
last_split (x ∷ y ∷ ys) zero h = absurd (omega arith)
last_split (x ∷ xs) (suc m) h = ap (λ (l : List ℕ). x ∷ l) (last_split xs m (omega arith))

-- the first octet from its fields
first_is : (a n : ℕ) (padded : Bool) → a / 64 ≡ 2 → padded ≡ (a / 32 % 2 == 1) → (padded ≡ false → n ≡ 0)
    → (padded ≡ true → 0 < n) → 128 + cond (nat_lt 0 n) 32 0 + a % 32 ≡ a
first_is a n true v p none some =
    let t : nat_lt 0 n ≡ true = lt-ltb 0 n (some refl) in
    let bit : a / 32 % 2 ≡ 1 = eqb-true (a / 32 % 2) 1 (sym p) in
    ap (λ (b : Bool). 128 + cond b 32 0 + a % 32) t ∙ omega arith
first_is a n false v p none some =
    let z : n ≡ 0 = none refl in
    let bit : a / 32 % 2 ≡ 1 → ⊥ = eqb-false (a / 32 % 2) 1 (sym p) in
    ap (λ (k : ℕ). 128 + cond (nat_lt 0 k) 32 0 + a % 32) z ∙ omega (arith, bit)

-- the octets of padding, as the last of them counts
padding_is : (tail : List ℕ) (n : ℕ) → n ≤ length tail → (0 < n → get_or tail (length tail - 1) 0 ≡ n)
    → IsPadding n (drop (length tail - n) tail)
padding_is tail zero few count =
    nil_from_length (drop (length tail - 0) tail) (omega (arith, length-drop (length tail - 0) tail))
padding_is tail (suc m) few count =
    let at = length tail - suc m in
    let octets = drop at tail in
    let len : length octets ≡ suc m = omega (arith, length-drop at tail) in
    let place : at + m ≡ length tail - 1 = omega arith in
    let last : get_or octets m 0 ≡ suc m =
    get_or-drop at tail m 0 ∙ ap (λ (i : ℕ). get_or tail i 0) place ∙ count (omega arith) in (
      take m octets,
      omega (arith, length-take m octets),
      last_split octets m len ∙ ap (λ (x : ℕ). take m octets ++ x ∷ []) last,
    )

cut : (len n : ℕ) → suc (suc (suc (suc len))) - n - 4 ≡ len - n
cut len n = omega arith

last_place : (len n : ℕ) → 0 < n → n ≤ len → suc (suc (suc (suc (len - 1)))) ≡ suc (suc (suc (suc len))) - 1
last_place len n some few = omega arith

two_bytes : (c d : ℕ) → c < 256 → d < 256 → IsBytes (c ∷ d ∷ [])
two_bytes c d hc hd zero = hc
two_bytes c d hc hd (suc zero) = hd
two_bytes c d hc hd (suc (suc i)) = omega arith

whole_packet : (a b c d n w : ℕ) (tail body : List ℕ) (p : Packet) → IsBytes (a ∷ b ∷ c ∷ d ∷ tail) → a / 64 ≡ 2
    → w ≡ from_be_bytes w16 (c ∷ d ∷ []) → length tail ≡ 4 * w → (is_padded (a ∷ b ∷ c ∷ d ∷ tail) ≡ false → n ≡ 0)
    → (is_padded (a ∷ b ∷ c ∷ d ∷ tail) ≡ true → 0 < n) → (0 < n → get_or tail (length tail - 1) 0 ≡ n)
    → n ≤ length tail → n % 4 ≡ 0 →
    body ≡ take (length tail - n) tail → IsOf b (a % 32) body p → IsPacket p n (a ∷ b ∷ c ∷ d ∷ tail)
whole_packet a b c d n w tail body p bytes v w-is len none some counted few words front is =
    let first : 128 + cond (nat_lt 0 n) 32 0 + count_of p ≡ a =
    ap (λ (k : ℕ). 128 + cond (nat_lt 0 n) 32 0 + k) is.its_count
    ∙ first_is a n (is_padded (a ∷ b ∷ c ∷ d ∷ tail)) v refl none some in
    let two : to_be_bytes w16 w ≡ c ∷ d ∷ [] =
    be_bytes_2 (c ∷ d ∷ []) w refl (two_bytes c d (bytes 2) (bytes 3)) w-is in
    let joined : body ++ drop (length tail - n) tail ≡ tail =
    ap (λ (l : List ℕ). l ++ drop (length tail - n) tail) front ∙ take-append-drop (length tail - n) tail in
    let sized =
    sizes p body is.fits (omega (arith, is.its_count)) is.is_body
    (omega (arith, len, ap length front, length-take (length tail - n) tail, words)) in
    record {
      words = w;
      body = body;
      padding_octets = drop (length tail - n) tail;
      parts = sym (ap (λ (l : List ℕ). common_header (nat_lt 0 n) p w ++ l) joined
          ∙ ap (λ (k : ℕ). k ∷ type_of p ∷ to_be_bytes w16 w ++ tail) first
          ∙ ap (λ (k : ℕ). a ∷ k ∷ to_be_bytes w16 w ++ tail) is.its_type
          ∙ ap (λ (l : List ℕ). a ∷ b ∷ l ++ tail) two);
      size = omega (arith, len);
      words_fit = omega (arith, w-is, bytes 2, bytes 3);
      types = sized.types;
      counted = sized.counted;
      lengths = sized.lengths;
      meaning = sized.meaning;
      is_body = is.is_body;
      is_padding = padding_is tail n few counted;
      padding_words = words;
    }

pub IsBytes-take : (n : ℕ) (bytes : List ℕ) → IsBytes bytes → IsBytes (take n bytes)
IsBytes-take n bytes h i =
    elim (cases_lt i n) [
      | inl lt ↦ rw (get_or-take n bytes i 0 lt) (h i)
      | inr le ↦ rw (get_or_past (take n bytes) i 0 (omega (arith, length-take n bytes))) (omega arith)
    ]

pub IsBytes-drop : (n : ℕ) (bytes : List ℕ) → IsBytes bytes → IsBytes (drop n bytes)
IsBytes-drop n bytes h i = rw (get_or-drop n bytes i 0) (h (n + i))

padded_by : (n : ℕ) (padded : Bool) → (padded ≡ false → n ≡ 0) → 0 < n → padded ≡ true
padded_by n true none some = refl
padded_by n false none some = absurd (omega (arith, none refl))

counted_by : (n y : ℕ) (padded : Bool) → n ≡ cond padded y 0 → padded ≡ true → y ≡ n
counted_by n y padded e t = sym (e ∙ ap (λ (b : Bool). cond b y 0) t)

pub takes_packet : (first at_end : Bool) (octets packet rest body : List ℕ) (n : ℕ) (p : Packet) → IsBytes octets
    → IsHead first octets → packet ≡ packet_at octets → octets ≡ packet ++ rest → (at_end ≡ true → rest ≡ [])
    → n ≡ padding_of packet → IsGoodPadding at_end n packet → body ≡ take (length packet - n - 4) (drop 4 packet)
    → IsOf (get_or packet 1 0) (get_or packet 0 0 % 32) body p → Takes first p octets rest
takes_packet first at_end (a ∷ b ∷ c ∷ d ∷ more) packet rest body n p bytes head at parts end n-is good body-is is =
    let w : ℕ = from_be_bytes w16 (c ∷ d ∷ []) in
    let tail : List ℕ = take (4 * w) more in
    let x : List ℕ = a ∷ b ∷ c ∷ d ∷ tail in
    let sz : 4 * (w + 1) ≡ suc (suc (suc (suc (4 * w)))) = omega arith in
    let shape : packet ≡ x = at ∙ ap (λ (k : ℕ). take k (a ∷ b ∷ c ∷ d ∷ more)) sz in
    let len : length tail ≡ 4 * w = omega (arith, head.whole, length-take (4 * w) more) in
    let bytes' : IsBytes x =
    subst IsBytes (ap (λ (k : ℕ). take k (a ∷ b ∷ c ∷ d ∷ more)) sz)
    (IsBytes-take (4 * (w + 1)) (a ∷ b ∷ c ∷ d ∷ more) bytes) in
    let good' : IsGoodPadding at_end n x = subst (IsGoodPadding at_end n) shape good in
    let n-is' : n ≡ padding_of x = subst (λ (l : List ℕ). n ≡ padding_of l) shape n-is in
    let is' : IsOf b (a % 32) body p =
    subst (λ (l : List ℕ). IsOf (get_or l 1 0) (get_or l 0 0 % 32) body p) shape is in
    let body' : body ≡ take (length x - n - 4) tail =
    subst (λ (l : List ℕ). body ≡ take (length l - n - 4) (drop 4 l)) shape body-is in
    let front : body ≡ take (length tail - n) tail = body' ∙ ap (λ (k : ℕ). take k tail) (cut (length tail) n) in
    let few : n ≤ length tail = omega (arith, good'.size) in
    let padded : 0 < n → is_padded x ≡ true = padded_by n (is_padded x) good'.none in
    let counted : 0 < n → get_or tail (length tail - 1) 0 ≡ n = λ some.
    ap (λ (k : ℕ). get_or x k 0) (last_place (length tail) n some few)
    ∙ counted_by n (get_or x (length x - 1) 0) (is_padded x) n-is' (padded some) in
    let whole : IsPacket p n x =
    whole_packet a b c d n w tail body p bytes' head.is_version refl len good'.none good'.some counted few good'.words
    front is' in
    record {
      front = packet;
      padding = n;
      parts = parts;
      is_packet = subst (IsPacket p n) (sym shape) whole;
      report = λ f.
          subst IsReport
          (ap (λ (k : ℕ). kind_of k (a % 32)) (sym is'.its_type)
          ∙ ap (kind_of (type_of p)) (sym is'.its_count)
          ∙ kind_is p is'.fits)
          (head.report f);
      last = λ some. end (good'.last (padded some));
    }
takes_packet first at_end (a ∷ b ∷ c ∷ []) packet rest body n p bytes head at parts end n-is good body-is is =
    absurd (omega (arith, head.long))
takes_packet first at_end (a ∷ b ∷ []) packet rest body n p bytes head at parts end n-is good body-is is =
    absurd (omega (arith, head.long))
takes_packet first at_end (a ∷ []) packet rest body n p bytes head at parts end n-is good body-is is =
    absurd (omega (arith, head.long))
takes_packet first at_end [] packet rest body n p bytes head at parts end n-is good body-is is =
    absurd (omega (arith, head.long))
