-- The gains of a member stand together among rows in order.
use Rattle.std.specs.Prelude.{◌≡◌, ◌<◌, ◌≤◌, ◌||◌, ◌&&◌}
use Rattle.desk_rows.specs.laws.Words.{ℕ, Bool, true, false, List, length, get_or, nat_lt, refl, sym, ap, ◌∙◌, arith}
use Rattle.desk_rows.specs.laws.Words.{nat_eq, not, inl, inr, filter, take, drop, not-true, nat_tests, Row, Gain}
use Rattle.desk_rows.specs.laws.Words.{is_gain_of, in_order, precedes, key_precedes, key_of, Parts}
use Rattle.desk_rows.specs.declared.key.Key.TheVariants as keys
use Rattle.desk_rows.specs.laws.ListLaws.{each_at, ahead_may}
use Rattle.desk_rows.specs.laws.OrderLaws.{order_stands}
use Rattle.desk_rows.proofs.Halving.{order_of_rest, rest_fails, none_in_front, all_in_front}

-- ---- gains

-- a row stands before all gains of the member
abbrev pub is_before : ℕ → Row → Bool
is_before member x = key_precedes (key_of x) (keys.Gain member 0)

before_is_other : (member : ℕ) (x : Row) → is_before member x ≡ true → is_gain_of member x ≡ false
before_is_other member (Gain g) e = other g.member g.source e
  where
    other : (n s : ℕ) → nat_lt n member || (nat_eq n member && nat_lt s 0) ≡ true → nat_eq n member ≡ false
    other n s e = grind (arith, nat_tests, e)
before_is_other member _ e = refl

-- what stands between the first gain of a member and another one is one
is_between : (member : ℕ) (a b : Row) → is_before member a ≡ false → precedes a b ≡ true → is_gain_of member b ≡ true
    → is_gain_of member a ≡ true
is_between member a b n e is = by b a n e is
  where
    between : (x s y t : ℕ) → nat_lt x member || (nat_eq x member && nat_lt s 0) ≡ false
        → nat_lt x y || (nat_eq x y && nat_lt s t) ≡ true → nat_eq y member ≡ true → nat_eq x member ≡ true
    between x s y t n e is = grind (arith, nat_tests, n, e, is)

    by : (b a : Row) → is_before member a ≡ false → precedes a b ≡ true → is_gain_of member b ≡ true
        → is_gain_of member a ≡ true
    by (Gain h) (Gain g) n e is = between g.member g.source h.member h.source n e is
    by (Gain h) _ n e is = absurd (cc)
    by _ a n e is = absurd (cc)

pub gains_parted : (member : ℕ) (xs : List Row) (i : ℕ) → in_order xs ≡ true → Parts (is_before member) xs i
    → (k j : ℕ) (d : Row) → k ≤ j → j < length (drop i xs) → is_gain_of member (get_or (drop i xs) j d) ≡ true
    → is_gain_of member (get_or (drop i xs) k d) ≡ true
gains_parted member xs i h parts k j d le lt e =
    elim (ahead_may precedes (drop i xs) (sym (order_stands (drop i xs)) ∙ order_of_rest i xs h) k j d le lt) [
      | inl same ↦ ap (λ n. is_gain_of member (get_or (drop i xs) n d)) same ∙ e
      | inr ahead ↦
          let late =
          each_at (λ x. not (is_before member x)) (drop i xs) k d (rest_fails (is_before member) xs i parts)
          (omega arith) in
          is_between member (get_or (drop i xs) k d) (get_or (drop i xs) j d) (not-true _ late) ahead e
    ]

pub gains_together : (member : ℕ) (xs : List Row) (i j : ℕ) → Parts (is_before member) xs i
    → Parts (is_gain_of member) (drop i xs) j → take j (drop i xs) ≡ filter (is_gain_of member) xs
gains_together member xs i j h k =
    sym (none_in_front (is_before member) (is_gain_of member) (before_is_other member) xs i h
    ∙ all_in_front (is_gain_of member) (drop i xs) j (λ m d a b. k.0 m d (omega arith) a) k.1)
