-- Lists of values whose texts stand one behind another.
use Rattle.std.proofs.Common.{◌≡◌, ℕ, suc, ◌+◌, ◌*◌, ◌<◌, ◌≤◌, List, [], ◌∷◌, ◌++◌, length, map, get_or, drop, ◌^◌}
use Rattle.std.proofs.Common.{refl, sym, ap, subst, ◌∙◌, append_assoc, arith}
use Rattle.std.specs.List.{flat_map, AllByRecursion}
use Rattle.std.specs.Int.{w32, to_be_bytes, from_be_bytes}
use Rattle.std.proofs.lemmas.List.{append-nil, map-append, drop_at, nil_from_length, length-drop}
use Rattle.rtp_codec.specs.Packet.{number_octets}
use Rattle.rtcp_codec.specs.declared.report.ReportBlock.{ReportBlock}
use Rattle.rtcp_codec.specs.declared.nack.NackWord.{NackWord}
use Rattle.rtcp_codec.specs.Report.{block_octets}
use Rattle.rtcp_codec.specs.Nack.{word_octets}
use Rattle.std.proofs.lemmas.Nat.{from_be_bytes-to_be_bytes_4}
use Rattle.std.proofs.lemmas.List.Concat.{flat_map-cons}
use Rattle.std.proofs.Math.Seq.{drop-cons}
use Rattle.std.proofs.lemmas.Grind.{flat_map-append}

pub AllByRecursion-push : {X : Type 0} (P : X → Type 0) (xs : List X) (x : X) → AllByRecursion P xs → P x
    → AllByRecursion P (xs ++ x ∷ [])
AllByRecursion-push P [] x h p = (p, tt)
AllByRecursion-push P (y ∷ ys) x h p = (h.0, AllByRecursion-push P ys x h.1 p)

flat_map-single : {X : Type 0} (f : X → List ℕ) (x : X) → flat_map f (x ∷ []) ≡ f x
flat_map-single f x = flat_map-cons f x [] ∙ append-nil (f x)

-- one more value, whose text stood at the front of the rest
pub text_more : {X : Type 0} (f : X → List ℕ) (octets : List ℕ) (xs : List X) (x : X) (rest after : List ℕ)
    → octets ≡ flat_map f xs ++ rest → rest ≡ f x ++ after → octets ≡ flat_map f (xs ++ x ∷ []) ++ after
text_more f octets xs x rest after h e =
    let joined : flat_map f (xs ++ x ∷ []) ≡ flat_map f xs ++ f x =
    flat_map-append f xs (x ∷ []) ∙ ap (λ (l : List ℕ). flat_map f xs ++ l) (flat_map-single f x) in
    h
    ∙ ap (λ (l : List ℕ). flat_map f xs ++ l) e
    ∙ sym (append_assoc (flat_map f xs) (f x) after)
    ∙ ap (λ (l : List ℕ). l ++ after) (sym joined)

-- the same where each value is seen as another
pub map_more : {X Y : Type 0} (g : X → Y) (xs : List X) (x : X) → map g (xs ++ x ∷ []) ≡ map g xs ++ g x ∷ []
map_more g xs x = map-append g xs (x ∷ [])

-- the text of the first value, and then those of the others
pub front_of : {X : Type 0} (f : X → List ℕ) (x : X) (xs : List X) (rest : List ℕ)
    → flat_map f (x ∷ xs) ++ rest ≡ f x ++ (flat_map f xs ++ rest)
front_of f x xs rest = ap (λ (l : List ℕ). l ++ rest) (flat_map-cons f x xs) ∙ append_assoc (f x) (flat_map f xs) rest

tails : (x y : ℕ) (xs ys : List ℕ) → x ∷ xs ≡ y ∷ ys → (x ≡ y) × (xs ≡ ys)
tails x y xs ys e = (cc, cc)

-- a list is split at a length in one way
pub same_split : (xs ys a b : List ℕ) → length xs ≡ length ys → xs ++ a ≡ ys ++ b → (xs ≡ ys) × (a ≡ b)
same_split [] [] a b len e = (refl, e)
same_split (x ∷ xs) (y ∷ ys) a b len e =
    let t = tails x y (xs ++ a) (ys ++ b) e in
    let r = same_split xs ys a b (omega arith) t.1 in
    (ap (λ (k : ℕ). k ∷ xs) t.0 ∙ ap (λ (l : List ℕ). y ∷ l) r.0, r.1)
same_split [] (y ∷ ys) a b len e = absurd (omega arith)
same_split (x ∷ xs) [] a b len e = absurd (omega arith)

-- a number of 32 bits stands at the front in one way
pub same_number : (m n : ℕ) (a b : List ℕ) → m < 2 ^ 32 → n < 2 ^ 32 → to_be_bytes w32 m ++ a ≡ to_be_bytes w32 n ++ b
    → (m ≡ n) × (a ≡ b)
same_number m n a b hm hn e =
    let s = same_split (to_be_bytes w32 m) (to_be_bytes w32 n) a b refl e in
    (sym (from_be_bytes-to_be_bytes_4 m hm) ∙ ap (from_be_bytes w32) s.0 ∙ from_be_bytes-to_be_bytes_4 n hn, s.1)

number_octets-length : (ns : List ℕ) → length (number_octets ns) ≡ 4 * length ns
number_octets-length [] = refl
number_octets-length (n ∷ ns) =
    ap length (flat_map-cons (λ (k : ℕ). to_be_bytes w32 k) n ns) ∙ omega (arith, number_octets-length ns)

-- what follows numbers of 32 bits
pub behind_numbers : (ns octets rest : List ℕ) (n : ℕ) → length ns ≡ n → octets ≡ number_octets ns ++ rest
    → drop (4 * n) octets ≡ rest
behind_numbers ns octets rest n len e =
    rw e (drop_at (number_octets ns) rest (4 * n) (omega (arith, number_octets-length ns)))

-- ---- what is left of a list

left_at : {X : Type 0} (xs : List X) (i : ℕ) (d : X) → i < length xs → drop i xs ≡ get_or xs i d ∷ drop (i + 1) xs
left_at xs i d lt =
    let one : suc i ≡ i + 1 = omega arith in
    drop-cons xs i d lt ∙ ap (λ (j : ℕ). get_or xs i d ∷ drop j xs) one

-- the text of the next value, and then those of the others
pub text_at : {X : Type 0} (f : X → List ℕ) (xs : List X) (i : ℕ) (d : X) → i < length xs
    → flat_map f (drop i xs) ≡ f (get_or xs i d) ++ flat_map f (drop (i + 1) xs)
text_at f xs i d lt = ap (flat_map f) (left_at xs i d lt) ∙ flat_map-cons f (get_or xs i d) (drop (i + 1) xs)

pub all_behind : {X : Type 0} (P : X → Type 0) (xs : List X) (i : ℕ) (d : X) → i < length xs
    → AllByRecursion P (drop i xs) → AllByRecursion P (drop (i + 1) xs)
all_behind P xs i d lt h = (subst (AllByRecursion P) (left_at xs i d lt) h).1

-- what is true of the next value and of those behind it is true of what is left
pub all_from : {X : Type 0} (P : X → Type 0) (xs : List X) (i : ℕ) (d : X) → i < length xs → P (get_or xs i d)
    → AllByRecursion P (drop (i + 1) xs) → AllByRecursion P (drop i xs)
all_from P xs i d lt p h = subst (AllByRecursion P) (sym (left_at xs i d lt)) (p, h)

-- ---- how long texts are

pub blocks_length : (bs : List ReportBlock) → length (flat_map block_octets bs) ≡ 24 * length bs
blocks_length [] = refl
blocks_length (b ∷ bs) = ap length (flat_map-cons block_octets b bs) ∙ omega (arith, blocks_length bs)

pub words_length : (ws : List NackWord) → length (flat_map word_octets ws) ≡ 4 * length ws
words_length [] = refl
words_length (w ∷ ws) = ap length (flat_map-cons word_octets w ws) ∙ omega (arith, words_length ws)

pub numbers_length : (ns : List ℕ) → length (number_octets ns) ≡ 4 * length ns
numbers_length ns = number_octets-length ns

-- the next value, seen as another, and then those behind it
pub mapped_left : {X Y : Type 0} (g : X → Y) (xs : List X) (i : ℕ) (x : X) → i < length xs → x ≡ get_or xs i x
    → map g (drop i xs) ≡ g x ∷ map g (drop (i + 1) xs)
mapped_left g xs i x lt is = ap (map g) (left_at xs i x lt ∙ ap (λ y. y ∷ drop (i + 1) xs) (sym is))

pub nothing_left : {X Y : Type 0} (g : X → Y) (xs : List X) (i : ℕ) → length xs ≤ i → map g (drop i xs) ≡ []
nothing_left g xs i le = ap (map g) (nil_from_length (drop i xs) (omega (arith, length-drop i xs)))

-- the lengths of lists of blocks, words and numbers
pub ruleset field_lengths = (blocks_length, words_length, numbers_length)
