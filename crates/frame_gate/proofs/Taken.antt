-- Taken packets by number.
use Rattle.std.proofs.Common.{◌≡◌, ℕ, ◌<◌, ◌≤◌, true, false, cond, nat_eq, nat_le, min, max, List, [], ◌∷◌, ◌++◌, None}
use Rattle.std.proofs.Common.{Some, refl, sym, ap, ◌∙◌, arith, subst, ◌⊎◌, inl, inr}
use Rattle.std.specs.Option.{option_or}
use Rattle.std.proofs.lemmas.Bool.{cases_lt}
use Rattle.std.proofs.lemmas.Bool.Decides.{nat_tests}
use Rattle.std.proofs.lemmas.List.Folds.{find-append}
use Rattle.frame_gate.specs.Packets.{NumberedPacket}
use Rattle.frame_gate.specs.Epochs.{packet_at, greatest, least}

-- a packet that is found nowhere in a list isn't in its head, nor in its tail
none_head : (p : NumberedPacket) (ps : List NumberedPacket) (n : ℕ) → packet_at (p ∷ ps) n ≡ None
    → (p.number ≡ n → ⊥) × (packet_at ps n ≡ None)
none_head p ps n h =
    elim (nat_eq p.number n) as (λ b.
    nat_eq p.number n ≡ b → cond b (Some p) (packet_at ps n) ≡ None → (p.number ≡ n → ⊥) × (packet_at ps n ≡ None)) [
      | true ↦ λ is found. absurd (let e : Some p ≡ None = found in cc)
      | false ↦ λ is rest. ((λ same. (let e : nat_eq p.number n ≡ true = grind (arith, nat_tests) in cc)), rest)
    ] refl h

none_cons : (p : NumberedPacket) (ps : List NumberedPacket) (n : ℕ) → (p.number ≡ n → ⊥) → packet_at ps n ≡ None
    → packet_at (p ∷ ps) n ≡ None
none_cons p ps n other h =
    let e : nat_eq p.number n ≡ false = grind (arith, nat_tests) in
    ap (λ b. cond b (Some p) (packet_at ps n)) e ∙ h

-- nothing is above the greatest
pub none_above : (ps : List NumberedPacket) (n : ℕ) → greatest ps < n → packet_at ps n ≡ None
none_above [] n h = refl
none_above (p ∷ ps) n h =
    let other : p.number ≡ n → ⊥ = λ same. omega arith in
    let below : greatest ps < n = omega arith in
    none_cons p ps n other (none_above ps n below)

-- the greatest is below a bound above which nothing is
pub greatest_below : (ps : List NumberedPacket) (m : ℕ) → 0 < m → ((n : ℕ) → m ≤ n → packet_at ps n ≡ None)
    → greatest ps < m
greatest_below [] m above none = above
greatest_below (p ∷ ps) m above none =
    let tail : greatest ps < m = greatest_below ps m above (λ n h. (none_head p ps n (none n h)).1) in
    elim (cases_lt p.number m) [
      | inl h ↦ omega arith
      | inr h ↦ absurd ((none_head p ps p.number (none p.number h)).0 refl)
    ]

least_above : (ps : List NumberedPacket) (from n c : ℕ) → c ≤ n → ((k : ℕ) → from ≤ k → k < c → packet_at ps k ≡ None)
    → c ≤ least ps from n
least_above [] from n c le none = le
least_above (p ∷ ps) from n c le none =
    let tail : c ≤ least ps from n = least_above ps from n c le (λ k a b. (none_head p ps k (none k a b)).1) in
    elim (nat_le from p.number)
    as (λ b. nat_le from p.number ≡ b → c ≤ cond b (min p.number (least ps from n)) (least ps from n)) [
      | true ↦ λ is.
          let a : from ≤ p.number = grind (arith, nat_tests) in
          elim (cases_lt p.number c) [
            | inl h ↦ absurd ((none_head p ps p.number (none p.number a h)).0 refl)
            | inr h ↦ omega arith
          ]
      | false ↦ λ is. tail
    ] refl

least_below : (ps : List NumberedPacket) (from n : ℕ) → least ps from n ≤ n
least_below [] from n = omega arith
least_below (p ∷ ps) from n =
    let tail : least ps from n ≤ n = least_below ps from n in
    elim (nat_le from p.number) as (λ b. cond b (min p.number (least ps from n)) (least ps from n) ≤ n)
    [ true ↦ omega arith | false ↦ tail ]

least_found : (ps : List NumberedPacket) (from n c : ℕ) (q : NumberedPacket) → from ≤ c → packet_at ps c ≡ Some q
    → least ps from n ≤ c
least_found [] from n c q a h = absurd (let e : None ≡ Some q = h in cc)
least_found (p ∷ ps) from n c q a h =
    elim (nat_eq p.number c)
    as (λ b. nat_eq p.number c ≡ b → cond b (Some p) (packet_at ps c) ≡ Some q → least (p ∷ ps) from n ≤ c) [
      | true ↦ λ is found.
          let same : p.number ≡ c = grind (arith, nat_tests) in
          let e : nat_le from p.number ≡ true = grind (arith, nat_tests) in
          subst (λ b. cond b (min p.number (least ps from n)) (least ps from n) ≤ c) (sym e) (omega arith)
      | false ↦ λ is rest.
          let tail : least ps from n ≤ c = least_found ps from n c q a rest in
          elim (nat_le from p.number) as (λ b. cond b (min p.number (least ps from n)) (least ps from n) ≤ c)
          [ true ↦ omega arith | false ↦ tail ]
    ] refl h

-- the least taken number is the first at which something is found, or n
pub least_is : (ps : List NumberedPacket) (from n c : ℕ) → from ≤ c → c ≤ n
    → ((k : ℕ) → from ≤ k → k < c → packet_at ps k ≡ None)
    → (c ≡ n) ⊎ ((q : NumberedPacket) × (packet_at ps c ≡ Some q)) → least ps from n ≡ c
least_is ps from n c a le none (inl last) =
    let over : c ≤ least ps from n = least_above ps from n c le none in
    let under : least ps from n ≤ n = least_below ps from n in
    omega arith
least_is ps from n c a le none (inr found) =
    let over : c ≤ least ps from n = least_above ps from n c le none in
    let under : least ps from n ≤ c = least_found ps from n c found.0 a found.1 in
    omega arith

pub greatest-push : (ps : List NumberedPacket) (p : NumberedPacket)
    → greatest (ps ++ p ∷ []) ≡ max p.number (greatest ps)
greatest-push [] p = omega arith
greatest-push (q ∷ qs) p = (let e = greatest-push qs p in omega arith)

-- what is found stays found
pub found-push : (ps : List NumberedPacket) (p : NumberedPacket) (n : ℕ) (q : NumberedPacket) → packet_at ps n ≡ Some q
    → packet_at (ps ++ p ∷ []) n ≡ Some q
found-push ps p n q h =
    find-append (λ (r : NumberedPacket). nat_eq r.number n) ps (p ∷ []) ∙ ap (λ o. option_or o (packet_at (p ∷ []) n)) h

pub none-push : (ps : List NumberedPacket) (p : NumberedPacket) (n : ℕ) → packet_at ps n ≡ None
    → packet_at (ps ++ p ∷ []) n ≡ packet_at (p ∷ []) n
none-push ps p n h =
    find-append (λ (r : NumberedPacket). nat_eq r.number n) ps (p ∷ []) ∙ ap (λ o. option_or o (packet_at (p ∷ []) n)) h
