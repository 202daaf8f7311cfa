-- Rows of numbers that have packets.
use Rattle.std.proofs.Common.{◌≡◌, ℕ, zero, suc, ◌+◌, ◌-◌, ◌≤◌, List, [], ◌∷◌, ◌++◌, length, Option, None, Some, refl}
use Rattle.std.proofs.Common.{sym, ap, ◌∙◌, arith, append-nil}
use Rattle.frame_gate.specs.Packets.{NumberedPacket}
use Rattle.frame_gate.specs.Runs.{row, IsRow}

abbrev then : Option NumberedPacket → List NumberedPacket → List NumberedPacket
then None ps = []
then (Some p) ps = p ∷ ps

row-suc : (at : ℕ → Option NumberedPacket) (from n : ℕ) → row at from (suc n) ≡ then (at from) (row at (suc from) n)
row-suc at from n =
    elim (at from)
    as (λ o.
    elim o as (λ _. List NumberedPacket) [ None ↦ [] | Some p ↦ p ∷ row at (suc from) n ]
    ≡ then o (row at (suc from) n))
    [ None ↦ refl | Some p ↦ refl ]

pub row-none : (at : ℕ → Option NumberedPacket) (from n : ℕ) → at from ≡ None → row at from n ≡ []
row-none at from zero h = refl
row-none at from (suc n) h = row-suc at from n ∙ ap (λ o. then o (row at (suc from) n)) h

row-some : (at : ℕ → Option NumberedPacket) (from n : ℕ) (p : NumberedPacket) → at from ≡ Some p
    → row at from (suc n) ≡ p ∷ row at (suc from) n
row-some at from n p h = row-suc at from n ∙ ap (λ o. then o (row at (suc from) n)) h

-- a row of which all numbers have packets goes on with what comes after it
pub row-split : (at : ℕ → Option NumberedPacket) (from a b : ℕ) → length (row at from a) ≡ a
    → row at from (a + b) ≡ row at from a ++ row at (from + a) b
row-split at from zero b h =
    let e : 0 + b ≡ b = omega arith in
    let f : from ≡ from + 0 = omega arith in
    ap (row at from) e ∙ ap (λ n. row at n b) f
row-split at from (suc a) b h =
    elim (at from) as (λ o. at from ≡ o → row at from (suc a + b) ≡ row at from (suc a) ++ row at (from + suc a) b) [
      | None ↦ λ is. absurd (let e : 0 ≡ suc a = sym (ap length (row-none at from (suc a) is)) ∙ h in omega arith)
      | Some p ↦ λ is.
          let more : row at from (suc a) ≡ p ∷ row at (suc from) a = row-some at from a p is in
          let e : suc a + b ≡ suc (a + b) = omega arith in
          let f : suc from + a ≡ from + suc a = omega arith in
          let long : length (row at (suc from) a) ≡ a =
          (let g : suc (length (row at (suc from) a)) ≡ suc a = sym (ap length more) ∙ h in omega arith) in
          ap (row at from) e
          ∙ row-some at from (a + b) p is
          ∙ ap (λ ps. p ∷ ps) (row-split at (suc from) a b long)
          ∙ ap (λ n. p ∷ row at (suc from) a ++ row at n b) f
          ∙ ap (λ ps. ps ++ row at (from + suc a) b) (sym more)
    ] refl

pub row-push : (at : ℕ → Option NumberedPacket) (from to n : ℕ) (p : NumberedPacket) → from ≤ n
    → length (row at from (n - from)) ≡ n - from → at n ≡ Some p
    → row at from (n + 1 - from) ≡ row at from (n - from) ++ p ∷ []
row-push at from to n p le long found =
    let e : n + 1 - from ≡ n - from + 1 = omega arith in
    let f : from + (n - from) ≡ n = omega arith in
    ap (row at from) e
    ∙ row-split at from (n - from) 1 long
    ∙ ap (λ m. row at from (n - from) ++ row at m 1) f
    ∙ ap (λ ps. row at from (n - from) ++ ps) (row-some at n 0 p found)

pub row-ends : (at : ℕ → Option NumberedPacket) (from to n : ℕ) → from ≤ n → n ≤ to
    → length (row at from (n - from)) ≡ n - from → at n ≡ None
    → row at from (n - from) ≡ row at from (to - from)
row-ends at from to n le below long none =
    let e : to - from ≡ n - from + (to - n) = omega arith in
    let f : from + (n - from) ≡ n = omega arith in
    sym (ap (row at from) e
    ∙ row-split at from (n - from) (to - n) long
    ∙ ap (λ m. row at from (n - from) ++ row at m (to - n)) f
    ∙ ap (λ ps. row at from (n - from) ++ ps) (row-none at n (to - n) none)
    ∙ append-nil (row at from (n - from)))

-- rows over look-ups that agree from the first number on
pub row-alike : (f g : ℕ → Option NumberedPacket) (from n : ℕ) → ((k : ℕ) → from ≤ k → f k ≡ g k)
    → row f from n ≡ row g from n
row-alike f g from zero h = refl
row-alike f g from (suc n) h =
    row-suc f from n
    ∙ ap (λ o. then o (row f (suc from) n)) (h from (omega arith))
    ∙ ap (λ ps. then (g from) ps) (row-alike f g (suc from) n (λ k a. h k (omega arith)))
    ∙ sym (row-suc g from n)

-- numbers that nothing has add nothing
pub row-enough : (f : ℕ → Option NumberedPacket) (from a b : ℕ) → ((k : ℕ) → from + a ≤ k → f k ≡ None)
    → row f from (a + b) ≡ row f from a
row-enough f from zero b h =
    let e : 0 + b ≡ b = omega arith in
    ap (row f from) e ∙ row-none f from b (h from (omega arith))
row-enough f from (suc a) b h =
    let e : suc a + b ≡ suc (a + b) = omega arith in
    ap (row f from) e
    ∙ row-suc f from (a + b)
    ∙ ap (λ ps. then (f from) ps) (row-enough f (suc from) a b (λ k le. h k (omega arith)))
    ∙ sym (row-suc f from a)

-- the row is found by a look-up that finds more
pub row-found : (f g : ℕ → Option NumberedPacket) (from n : ℕ)
    → ((k : ℕ) (p : NumberedPacket) → f k ≡ Some p → g k ≡ Some p)
    → row g from (length (row f from n)) ≡ row f from n
row-found f g from zero h = refl
row-found f g from (suc n) h =
    elim (f from) as (λ o. f from ≡ o → row g from (length (row f from (suc n))) ≡ row f from (suc n)) [
      | None ↦ λ is.
          (let e : row f from (suc n) ≡ [] = row-none f from (suc n) is in ap (λ ps. row g from (length ps)) e ∙ sym e)
      | Some p ↦ λ is.
          (let e : row f from (suc n) ≡ p ∷ row f (suc from) n = row-some f from n p is in
          ap (λ ps. row g from (length ps)) e
          ∙ row-some g from (length (row f (suc from) n)) p (h from p is)
          ∙ ap (λ ps. p ∷ ps) (row-found f g (suc from) n h)
          ∙ sym e)
    ] refl

-- the same row by a look-up that agrees from its first number on
pub is_row-alike : (f g : ℕ → Option NumberedPacket) (from : ℕ) (ps : List NumberedPacket)
    → ((k : ℕ) (p : NumberedPacket) → from ≤ k → f k ≡ Some p → g k ≡ Some p)
    → IsRow f from ps → IsRow g from ps
is_row-alike f g from [] h row = tt
is_row-alike f g from (p ∷ ps) h row =
    (h from p (omega arith) row.0, is_row-alike f g (suc from) ps (λ k q le. h k q (omega arith)) row.1)
