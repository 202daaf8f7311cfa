-- A word takes each next number that it may name.
use Rattle.std.proofs.Common.{◌≡◌, ℕ, zero, suc, ◌+◌, ◌-◌, ◌%◌, ◌^◌, ◌<◌, ◌≤◌, Bool, true, false, cond, List, [], ◌∷◌}
use Rattle.std.proofs.Common.{◌++◌, length, get_or, sym, ap, subst, ◌∙◌, arith, length-append}
use Rattle.std.proofs.lemmas.List.{append-nil, get_or_append_left, get_or-append-add}
use Rattle.std.proofs.lemmas.List.Concat.{flat_map-cons}
use Rattle.std.specs.Prelude.{All, AllPairs, ⊤}
use Rattle.std.proofs.lemmas.Bool.{false≢true}
use Rattle.std.proofs.lemmas.List.Elements.{All-get_or, All-from_get_or, All-same}
use Rattle.std.proofs.Math.Seq.{get_or-append_seam}
use Rattle.rtp_codec.specs.Sequence.{distance}
use Rattle.rtcp_codec.specs.Packet.{Begin}
use Rattle.rtcp_codec.specs.declared.nack.NackWord.{NackWord}
use Rattle.rtcp_codec.specs.Nack.{most_bits, numbers_of, numbers_named, ArePacked, AreRising, AreApart}
use Rattle.rtcp_codec.specs.inner.Greedy.{numbers_up_to, TakesAll, AreGreedy}
use Rattle.rtcp_codec.proofs.Words.{set_bit, clear_bit, numbers_are}

-- the first of those that are left isn't a number that the word may name by a bit up to n
abbrev pub TakesUpTo : ℕ → ℕ → ℕ → List ℕ → Type 0
TakesUpTo n pid blp [] = ⊤
TakesUpTo n pid blp (x ∷ xs) = All (λ m. distance pid m < distance pid x) (numbers_up_to n pid blp) → n < distance pid x

All-last : (P : ℕ → Type 0) (xs : List ℕ) (y : ℕ) → All P (xs ++ y ∷ []) → P y
All-last P xs y h =
    subst P (get_or-append_seam xs y [] y)
    (All-get_or P (xs ++ y ∷ []) (length xs) y (omega (arith, length-append xs (y ∷ []))) h)

pub distance-ahead : (i pid : ℕ) → i ≤ 16 → pid < 2 ^ 16 → distance pid ((pid + i) % 2 ^ 16) ≡ i
distance-ahead i pid few fits = omega arith

at_distance : (i pid x : ℕ) → i ≤ 16 → pid < 2 ^ 16 → x < 2 ^ 16 → distance pid x ≡ i → (pid + i) % 2 ^ 16 ≡ x
at_distance i pid x few fits number e = omega (arith, e)

-- what is left after one number at the front, or none
pub fit_after : (set : Bool) (n : ℕ) (rest after : List ℕ) → ((k : ℕ) → get_or rest k 0 < 2 ^ 16)
    → rest ≡ cond set (n ∷ []) [] ++ after → (k : ℕ) → get_or after k 0 < 2 ^ 16
fit_after true n rest after fit parts k = subst (λ (l : List ℕ). get_or l (suc k) 0 < 2 ^ 16) parts (fit (suc k))
fit_after false n rest after fit parts k = subst (λ (l : List ℕ). get_or l k 0 < 2 ^ 16) parts (fit k)

-- no bit yet: a number that lies ahead of PID lies a step ahead or more
pub takes_none : (pid : ℕ) (rest : List ℕ) → pid < 2 ^ 16 → TakesUpTo 0 pid 0 rest
unfolding numbers_up_to
takes_none pid [] fits = tt
takes_none pid (x ∷ xs) fits = λ h. omega (arith, h 0 0 (omega arith))

-- a turn of the next bit
pub takes_more : (set : Bool) (i pid blp bit now : ℕ) (rest after : List ℕ) → 0 < i → i ≤ 16 → pid < 2 ^ 16
    → bit ≡ 2 ^ (i - 1) → blp < bit → ((k : ℕ) → get_or rest k 0 < 2 ^ 16) → TakesUpTo (i - 1) pid blp rest
    → rest ≡ cond set ((pid + i) % 2 ^ 16 ∷ []) [] ++ after → now ≡ cond set (blp + bit) blp
    → (Begin ((pid + i) % 2 ^ 16 ∷ []) rest → set ≡ true) → TakesUpTo (i + 1 - 1) pid now after
takes_more set i pid blp bit now rest [] some few fits power lt numbers so_far parts is first = tt
takes_more true i pid blp bit now rest (x ∷ xs) some few fits power lt numbers so_far parts is first = λ h.
    let named = ap (λ (b : ℕ). numbers_up_to (i + 1 - 1) pid b) is ∙ set_bit i pid blp bit some power lt in
    let P : ℕ → Type 0 = λ m. distance pid m < distance pid x in
    let last : P ((pid + i) % 2 ^ 16) =
    All-last P (numbers_up_to (i - 1) pid blp) ((pid + i) % 2 ^ 16) (All-same P _ _ (sym named) h) in
    omega (arith, last, distance-ahead i pid few fits)
takes_more false i pid blp bit now rest (x ∷ xs) some few fits power lt numbers so_far parts is first = λ h.
    let named = ap (λ (b : ℕ). numbers_up_to (i + 1 - 1) pid b) is ∙ clear_bit i pid blp bit some power lt in
    let P : ℕ → Type 0 = λ m. distance pid m < distance pid x in
    let ahead : i - 1 < distance pid x =
    subst (TakesUpTo (i - 1) pid blp) parts so_far (All-same P _ _ (sym named) h) in
    let number : x < 2 ^ 16 = subst (λ (l : List ℕ). get_or l 0 0 < 2 ^ 16) parts (numbers 0) in
    let other : distance pid x ≡ i → ⊥ = λ e.
    absurd (false≢true (first (xs, parts ∙ ap (λ (n : ℕ). n ∷ xs) (sym (at_distance i pid x few fits number e))))) in
    omega (arith, ahead, other)

-- a word that takes each number by a bit up to its last one takes all
pub takes_all : (pid blp : ℕ) (rest : List ℕ) → TakesUpTo most_bits pid blp rest → TakesAll pid blp rest
takes_all pid blp [] h = tt
takes_all pid blp (x ∷ xs) h = λ may.
    let P : ℕ → Type 0 = λ m. distance pid m < distance pid x in
    omega (arith, may.1, h (All-same P _ _ (sym (numbers_are pid blp)) may.0))

-- ---- words

-- what is packed for the rest completes the words
abbrev pub GoesOn : List NackWord → List ℕ → Type 0
GoesOn so_far rest = (ws : List NackWord) → numbers_named ws ≡ rest → AreGreedy ws → AreGreedy (so_far ++ ws)

pub are_greedy : (words : List NackWord) (rest : List ℕ) → GoesOn words rest → rest ≡ [] → AreGreedy words
are_greedy words rest on end = subst AreGreedy (append-nil words) (on [] (sym end) tt)

-- ---- numbers that rise

Ahead-behind : (base : ℕ) (xs ys : List ℕ) → AllPairs (λ m n. distance base m < distance base n) (xs ++ ys)
    → AllPairs (λ m n. distance base m < distance base n) ys
Ahead-behind base xs ys h i j d lt within =
    let at : (k : ℕ) → get_or (xs ++ ys) (length xs + k) d ≡ get_or ys k d = λ k. get_or-append-add xs ys k d in
    rw (sym (at i), sym (at j)) (h (length xs + i) (length xs + j) d (omega arith) (omega (arith, length-append xs ys)))

fit_behind : (xs ys : List ℕ) → ((k : ℕ) → get_or (xs ++ ys) k 0 < 2 ^ 16) → (k : ℕ) → get_or ys k 0 < 2 ^ 16
fit_behind xs ys h k = rw (sym (get_or-append-add xs ys k 0)) (h (length xs + k))

between : (base p m q : ℕ) → base < 2 ^ 16 → p < 2 ^ 16 → m < 2 ^ 16 → q < 2 ^ 16 → distance base p ≤ distance base m
    → distance base m < distance base q → distance p m < distance p q
between base p m q fb fp fm fq le lt = omega (arith, le, lt)

none_before : (base pid : ℕ) (zs : List ℕ) → AllPairs (λ m n. distance base m < distance base n) (pid ∷ zs) → (k : ℕ)
    → k < length (pid ∷ zs) → distance base pid ≤ distance base (get_or (pid ∷ zs) k 0)
none_before base pid zs h zero lt = omega arith
none_before base pid zs h (suc k) lt = omega (arith, h 0 (suc k) 0 (omega arith) lt)

-- the number behind those of a word lies ahead of them
ahead_of_all : (base pid q : ℕ) (ys tail : List ℕ) → base < 2 ^ 16
    → ((k : ℕ) → get_or ((pid ∷ ys) ++ q ∷ tail) k 0 < 2 ^ 16)
    → AllPairs (λ m n. distance base m < distance base n) ((pid ∷ ys) ++ q ∷ tail)
    → All (λ m. distance pid m < distance pid q) (pid ∷ ys)
ahead_of_all base pid q ys tail fb fit h =
    let xs : List ℕ = pid ∷ ys in
    let all : List ℕ = xs ++ q ∷ tail in
    let seam : get_or all (length xs) 0 ≡ q = get_or-append_seam xs q tail 0 in
    let longer : length xs < length all = omega (arith, length-append xs (q ∷ tail)) in
    All-from_get_or (λ m. distance pid m < distance pid q) xs 0 (λ k lt.
    let same : get_or all k 0 ≡ get_or xs k 0 = get_or_append_left xs (q ∷ tail) 0 k lt in
    let it : distance pid (get_or all k 0) < distance pid (get_or all (length xs) 0) =
    between base pid (get_or all k 0) (get_or all (length xs) 0) fb (fit 0) (fit k) (fit (length xs))
    (none_before base pid (ys ++ q ∷ tail) h k (omega (arith, longer))) (h k (length xs) 0 lt longer) in
    subst (λ (x : ℕ). distance pid x < distance pid q) same
    (subst (λ (x : ℕ). distance pid (get_or all k 0) < distance pid x) seam it))

first_apart : (base pid blp q : ℕ) (tail : List ℕ) → base < 2 ^ 16
    → ((k : ℕ) → get_or (numbers_of pid blp ++ q ∷ tail) k 0 < 2 ^ 16)
    → AllPairs (λ m n. distance base m < distance base n) (numbers_of pid blp ++ q ∷ tail) → TakesAll pid blp (q ∷ tail)
    → 16 < distance pid q
unfolding numbers_of
first_apart base pid blp q tail fb fit h takes =
    let near : distance pid q ≤ 16 → ⊥ = λ le. takes (ahead_of_all base pid q _ tail fb fit h, le) in
    omega (arith, near)

pub begins : (w : NackWord) (ws : List NackWord) → Begin (w.pid ∷ []) (numbers_named (w ∷ ws))
unfolding numbers_of
begins w ws = (_, flat_map-cons (λ (x : NackWord). numbers_of x.pid x.blp) w ws)

-- the first number that is left is the next word's PID
pub are_packed : (ws : List NackWord) → AreGreedy ws → ArePacked ws
are_packed [] h = tt
are_packed (w ∷ []) h = tt
are_packed (w ∷ v ∷ ws) h =
    let b = begins v ws in
    (subst (TakesAll w.pid w.blp) b.1 h.0, are_packed (v ∷ ws) h.1)

apart : (base : ℕ) (w : NackWord) (ws : List NackWord) → base < 2 ^ 16
    → ((k : ℕ) → get_or (numbers_named (w ∷ ws)) k 0 < 2 ^ 16)
    → AllPairs (λ m n. distance base m < distance base n) (numbers_named (w ∷ ws)) → AreGreedy (w ∷ ws)
    → AreApart (w ∷ ws)
apart base w [] fb fit h packed = tt
apart base w (v ∷ ws) fb fit h packed =
    let xs = numbers_of w.pid w.blp in
    let rest = numbers_named (v ∷ ws) in
    let e : numbers_named (w ∷ v ∷ ws) ≡ xs ++ rest =
    flat_map-cons (λ (x : NackWord). numbers_of x.pid x.blp) w (v ∷ ws) in
    let fit' : (k : ℕ) → get_or (xs ++ rest) k 0 < 2 ^ 16 =
    subst (λ (l : List ℕ). (k : ℕ) → get_or l k 0 < 2 ^ 16) e fit in
    let h' : AllPairs (λ m n. distance base m < distance base n) (xs ++ rest) =
    subst (AllPairs (λ m n. distance base m < distance base n)) e h in
    let b = begins v ws in
    let first : 16 < distance w.pid v.pid = first_apart base w.pid w.blp v.pid b.0 fb
    (subst (λ (l : List ℕ). (k : ℕ) → get_or (xs ++ l) k 0 < 2 ^ 16) b.1 fit')
    (subst (λ (l : List ℕ). AllPairs (λ m n. distance base m < distance base n) (xs ++ l)) b.1 h')
    (subst (TakesAll w.pid w.blp) b.1 packed.0) in
    (first, apart base v ws fb (fit_behind xs rest fit') (Ahead-behind base xs rest h') packed.1)

-- of numbers that rise, only one over 16 ahead of PID begins a new word
pub are_apart : (ws : List NackWord) (numbers : List ℕ) → numbers_named ws ≡ numbers
    → ((k : ℕ) → get_or numbers k 0 < 2 ^ 16) → AreRising numbers → AreGreedy ws → AreApart ws
are_apart [] numbers e fit rising packed = tt
are_apart (w ∷ ws) numbers e fit rising packed =
    let b = begins w ws in
    let whole : numbers ≡ w.pid ∷ b.0 = sym e ∙ b.1 in
    let rises : AllPairs (λ m n. distance w.pid m < distance w.pid n) (w.pid ∷ b.0) = subst AreRising whole rising in
    let first : w.pid < 2 ^ 16 = subst (λ (l : List ℕ). get_or l 0 0 < 2 ^ 16) whole (fit 0) in
    apart w.pid w ws first (subst (λ (l : List ℕ). (k : ℕ) → get_or l k 0 < 2 ^ 16) (sym e) fit)
    (subst (AllPairs (λ m n. distance w.pid m < distance w.pid n)) (sym b.1) rises) packed
