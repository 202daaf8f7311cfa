-- The missing numbers of an epoch, by what a gate holds.
use Rattle.std.proofs.Common.{◌≡◌, ℕ, ℤ, zero, suc, ◌+◌, ◌-◌, ◌<◌, ◌≤◌, Bool, true, false, not, ◌&&◌, cond, min}
use Rattle.std.proofs.Common.{append_assoc, length-append, List, [], ◌∷◌, ◌++◌, length, map, Option, None, Some, refl}
use Rattle.std.proofs.Common.{sym, ap, ◌∙◌, arith, subst}
use Rattle.std.specs.Prelude.{filter, fold, is_some, unwrap_or, nat_le, nat_lt, IfSome}
use Rattle.std.proofs.lemmas.Bool.Decides.{nat_tests}
use Rattle.std.specs.List.{range_with_len}
use Rattle.frame_gate.specs.Packets.{NumberedPacket, ext_of}
use Rattle.frame_gate.specs.inner.Cells.{held}
use Rattle.frame_gate.specs.inner.Kept.{Kept}
use Rattle.frame_gate.specs.Epochs.{Epoch, packet_at, greatest, next_of}
use Rattle.frame_gate.specs.GivenUp.{missing_in, is_missing}
use Rattle.frame_gate.specs.Watched.{is_asked, is_lost, first_among}
use Rattle.frame_gate.specs.Admits.{IsAt}
use Rattle.frame_gate.proofs.MissingNumbers.{between}
use Rattle.frame_gate.proofs.Taken.{greatest_below}
use Rattle.frame_gate.proofs.Answered.{top-greatest}

-- whether nothing is held under a number
abbrev pub lacks : List (Option NumberedPacket) → ℕ → Bool
lacks cells n = not (is_some (held cells None n))

filter-range : (f g : ℕ → Bool) (a m : ℕ) → ((k : ℕ) → a ≤ k → f k ≡ g k)
    → filter f (range_with_len a m) ≡ filter g (range_with_len a m)
filter-range f g a zero alike = refl
filter-range f g a (suc m) alike =
    let rest = filter-range f g (a + 1) m (λ k le. alike k (omega arith)) in
    ap (λ (b : Bool). cond b (a ∷ filter f (range_with_len (a + 1) m)) (filter f (range_with_len (a + 1) m)))
    (alike a (omega arith))
    ∙ ap (λ (xs : List ℕ). cond (g a) (a ∷ xs) xs) rest

-- where the gate is at an epoch, it lacks just the missing numbers
pub misses : (k : Kept) (e : Epoch) (to : ℕ) → IsAt k e → to ≡ min (unwrap_or k.greatest 0) (k.walk.next + 255)
    → filter (lacks k.cells) (between k.walk.next to) ≡ missing_in e
misses k e to h is =
    let next : k.walk.next ≡ next_of e = h.tied.stands.next in
    let most : unwrap_or k.greatest 0 ≡ greatest e.taken = ap (λ o. unwrap_or o 0) h.greatest ∙ top-greatest e.taken in
    let low : greatest e.taken < k.walk.next + 256 =
    greatest_below e.taken (k.walk.next + 256) (omega arith) h.tied.behind in
    let all : to ≡ greatest e.taken = omega arith in
    filter-range (lacks k.cells) (λ n. not (is_some (packet_at e.taken n))) k.walk.next (to - k.walk.next)
    (λ n le. ap (λ o. not (is_some o)) (h.tied.agrees n le))
    ∙ (λ i. filter (λ n. not (is_some (packet_at e.taken n))) (range_with_len (next i) (all i - next i)))

-- the first of the missing numbers, by what the gate holds
pub first_missing : (k : Kept) (e : Epoch) (cells : List (Option NumberedPacket)) (next to : ℕ) → IsAt k e
    → cells ≡ k.cells → next ≡ k.walk.next → to ≡ min (unwrap_or k.greatest 0) (k.walk.next + 255)
    → first_among (filter (lacks cells) (between next to)) ≡ first_among (missing_in e)
first_missing k e cells next to h same from is =
    (λ i. first_among (filter (lacks (same i)) (between (from i) to))) ∙ ap first_among (misses k e to h is)

-- whether a number that is not held is asked for again
abbrev pub again : List (Option NumberedPacket) → List ℕ → ℕ → Bool
again cells marks n = lacks cells n && is_asked marks n

-- whether a number that is not held was waited for long enough
abbrev pub gone : List (Option NumberedPacket) → ℕ → List ℕ → ℕ → Bool
gone cells limit marks n = lacks cells n && is_lost limit marks n

-- the later number
abbrev pub later : Option ℕ → ℕ → Option ℕ
later last n = Some n

-- one more number, asked for or not
pub one_of : (f : ℕ → Bool) (n : ℕ) (out new : List ℤ) (rest : List ℕ)
    → new ≡ cond (f n) (out ++ ext_of n ∷ []) out
    → (new ++ map ext_of (filter f rest) ≡ out ++ map ext_of (filter f (n ∷ rest))) × (length new ≤ length out + 1)
one_of f n out new rest = by (f n)
  where
    by : (b : Bool) → new ≡ cond b (out ++ ext_of n ∷ []) out
        → (new ++ map ext_of (filter f rest) ≡ out ++ map ext_of (cond b (n ∷ filter f rest) (filter f rest)))
        × (length new ≤ length out + 1)
    by true is = (
      ap (λ (xs : List ℤ). xs ++ map ext_of (filter f rest)) is
          ∙ append_assoc out (ext_of n ∷ []) (map ext_of (filter f rest)),
      (let long : length new ≡ length out + 1 =
          ap (λ (xs : List ℤ). length xs) is ∙ length-append out (ext_of n ∷ []) in
          omega (arith, long)),
    )
    by false is = (
      ap (λ (xs : List ℤ). xs ++ map ext_of (filter f rest)) is,
      (let long : length new ≡ length out = ap (λ (xs : List ℤ). length xs) is in omega (arith, long)),
    )

pub one_more : (cells : List (Option NumberedPacket)) (n : ℕ) (out new : List ℤ) (rest : List ℕ)
    → new ≡ cond (lacks cells n) (out ++ ext_of n ∷ []) out
    → (new ++ map ext_of (filter (lacks cells) rest) ≡ out ++ map ext_of (filter (lacks cells) (n ∷ rest)))
    × (length new ≤ length out + 1)
one_more cells n out new rest is = one_of (lacks cells) n out new rest is

-- those that pass both tests
pub filter-both : (f g : ℕ → Bool) (ns : List ℕ) → filter (λ n. f n && g n) ns ≡ filter g (filter f ns)
filter-both f g [] = refl
filter-both f g (n ∷ ns) = by (f n) (filter-both f g ns)
  where
    by : (b : Bool) → filter (λ k. f k && g k) ns ≡ filter g (filter f ns)
        → cond (b && g n) (n ∷ filter (λ k. f k && g k) ns) (filter (λ k. f k && g k) ns)
        ≡ filter g (cond b (n ∷ filter f ns) (filter f ns))
    by true rest = ap (λ (xs : List ℕ). cond (g n) (n ∷ xs) xs) rest
    by false rest = rest

-- one number on, the last of those that pass
pub one_later : (f : ℕ → Bool) (n : ℕ) (last new : Option ℕ) (rest : List ℕ) → new ≡ cond (f n) (Some n) last
    → fold later new (filter f rest) ≡ fold later last (filter f (n ∷ rest))
one_later f n last new rest = by (f n)
  where
    by : (b : Bool) → new ≡ cond b (Some n) last
        → fold later new (filter f rest) ≡ fold later last (cond b (n ∷ filter f rest) (filter f rest))
    by true is = ap (λ (o : Option ℕ). fold later o (filter f rest)) is
    by false is = ap (λ (o : Option ℕ). fold later o (filter f rest)) is

-- the last of the numbers that pass is one of them, and passes
last_passes : (f : ℕ → Bool) (a m : ℕ) (last : Option ℕ) (P : ℕ → Type 0)
    → ((k : ℕ) → a ≤ k → k < a + m → f k ≡ true → P k)
    → ((k : ℕ) → last ≡ Some k → P k) → (k : ℕ) → fold later last (filter f (range_with_len a m)) ≡ Some k → P k
last_passes f a zero last P here before k is = before k is
last_passes f a (suc m) last P here before k is =
    by (f a) refl (λ o first h. last_passes f (a + 1) m o P there first k h) is
  where
    there : (j : ℕ) → a + 1 ≤ j → j < a + 1 + m → f j ≡ true → P j
    there j above below passes = here j (omega arith) (omega arith) passes

    some_is : (x y : ℕ) → Some x ≡ Some y → x ≡ y
    some_is x y h = cc

    rest : List ℕ
    rest = filter f (range_with_len (a + 1) m)

    by : (b : Bool) → f a ≡ b → ((o : Option ℕ) → ((j : ℕ) → o ≡ Some j → P j) → fold later o rest ≡ Some k → P k)
        → fold later last (cond b (a ∷ rest) rest) ≡ Some k → P k
    by true passes on h =
        on (Some a) (λ j same. subst P (some_is a j same) (here a (omega arith) (omega arith) passes)) h
    by false passes on h = on last before h

pub still_below : (n to : ℕ) (b : Bool) (last new : Option ℕ) → new ≡ cond b (Some n) last → n < to
    → IfSome last (λ k. k < to) → IfSome new (λ k. k < to)
still_below n to true last new is lt before = subst (λ (o : Option ℕ). IfSome o (λ k. k < to)) (sym is) lt
still_below n to false last new is lt before = subst (λ (o : Option ℕ). IfSome o (λ k. k < to)) (sym is) before

and_true : (a b : Bool) → (a && b) ≡ true → (a ≡ true) × (b ≡ true)
and_true true b h = (refl, h)
and_true false b h = absurd (cc)

-- the last of the missing numbers that pass is missing
pub last_missing : (e : Epoch) (f : ℕ → Bool) (n : ℕ) → fold later None (filter f (missing_in e)) ≡ Some n
    → is_missing e n ≡ true
last_missing e f n is =
    let next = next_of e in
    let free = λ (k : ℕ). not (is_some (packet_at e.taken k)) in
    last_passes (λ k. free k && f k) next (greatest e.taken - next) None (λ k. is_missing e k ≡ true)
    (λ k above below passes.
    let has : free k ≡ true = (and_true (free k) (f k) passes).0 in
    let a : nat_le next k ≡ true = grind (arith, nat_tests) in
    let b : nat_lt k (greatest e.taken) ≡ true = grind (arith, nat_tests) in
    (λ i. a i && (b i && has i)))
    (λ k none. absurd (cc)) n
    (ap (λ (xs : List ℕ). fold later None xs) (filter-both free f (range_with_len next (greatest e.taken - next))) ∙ is)

-- those missing numbers that pass, by what the gate holds
pub passing : (k : Kept) (e : Epoch) (to : ℕ) (f : ℕ → Bool) → IsAt k e
    → to ≡ min (unwrap_or k.greatest 0) (k.walk.next + 255)
    → filter (λ n. lacks k.cells n && f n) (between k.walk.next to) ≡ filter f (missing_in e)
passing k e to f h is =
    filter-both (lacks k.cells) f (between k.walk.next to) ∙ ap (λ (ns : List ℕ). filter f ns) (misses k e to h is)
