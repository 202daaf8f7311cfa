-- Takes, for each list of calls.
use Rattle.std.proofs.Common.{◌≡◌, ℕ, ℤ, pos, zero, suc, ◌+◌, ◌<◌, ◌≤◌, ◌^◌, ◌%◌, Bool, true, false, cond, List, []}
use Rattle.std.proofs.Common.{length, map, take, get_or, count_by, Option, None, Some, is_some, refl, sym, ap, ◌∙◌}
use Rattle.std.proofs.Common.{arith}
use Rattle.std.proofs.lemmas.List.{get_or-map, get_or-take, length-take}
use Rattle.std.proofs.lemmas.List.Sums.{count_by_more_yes, count_by_more_no}
use Rattle.playout.specs.Playout.{Pair, Play, present, AreTaken}
use Rattle.playout.specs.Calls.{play_taken, PlaysOut}
use Rattle.playout.specs.inner.Agrees.{Agrees, IsBlank}
use Rattle.playout.specs.inner.Holds.{PlayoutOf, Holds, Shows, HasTaken}
use Rattle.playout.specs.inner.Cells.{heard}

-- where there is no sample, the position makes no difference
pub blank_at : (cells : List (Option ℤ)) (p : ℕ) → Agrees cells [] p → IsBlank cells
blank_at cells p a q = record { here = λ i lt. a.here i lt; behind = λ n above. refl }

present-nothing : (p n : ℕ) → present [] p n ≡ 0
present-nothing p zero = refl
present-nothing p (suc n) = ap (λ (k : ℕ). k + 0) (present-nothing p n)

-- the samples of the first cells are those from the position on
heard_taken : (cells : List (Option ℤ)) (pairs : List Pair) (p n : ℕ) (out : List ℤ) → n ≡ length out
    → out ≡ map heard (take n cells) → n ≤ length cells → Agrees cells pairs p → AreTaken pairs p out
heard_taken cells pairs p n out all is within a i lt =
    let least : i < n = omega (arith, lt, all) in
    let some : i < length (take n cells) = omega (arith, length-take n cells, least, within) in
    ap (λ (xs : List ℤ). get_or xs i (pos 0)) is
    ∙ get_or-map heard (take n cells) i None (pos 0) some
    ∙ ap heard (get_or-take n cells i None least ∙ a.here i (omega (arith, least, within)))

-- and as many of them are there as of those cells
counted : (cells : List (Option ℤ)) (pairs : List Pair) (p n : ℕ) → n ≤ length cells → Agrees cells pairs p
    → count_by is_some (take n cells) ≡ present pairs p n
counted cells pairs p zero within a = refl
counted cells pairs p (suc n) within a =
    let lt : n < length cells = omega (arith, within) in
    let more : suc n ≡ n + 1 = omega arith in
    ap (λ k. count_by is_some (take k cells)) more
    ∙ by (is_some (get_or cells n None)) refl lt
    ∙ (λ i. counted cells pairs p n (omega (arith, within)) a i + cond (is_some (a.here n lt i)) 1 0)
  where
    by : (b : Bool) → is_some (get_or cells n None) ≡ b → n < length cells
        → count_by is_some (take (n + 1) cells)
        ≡ count_by is_some (take n cells) + cond (is_some (get_or cells n None)) 1 0
    by true is lt =
        count_by_more_yes is_some cells n None lt is ∙ ap (λ b. count_by is_some (take n cells) + cond b 1 0) (sym is)
    by false is lt =
        let none : count_by is_some (take n cells) ≡ count_by is_some (take n cells) + 0 = omega arith in
        count_by_more_no is_some cells n None lt is
        ∙ none
        ∙ ap (λ b. count_by is_some (take n cells) + cond b 1 0) (sym is)

pub shows_by : (held : PlayoutOf) (out : List ℤ) (count n : ℕ) → (held.begun ≡ false → IsBlank held.cells)
    → n ≡ length out → n ≤ length held.cells
    → out ≡ map heard (take n held.cells) → count ≡ count_by is_some (take n held.cells) → Shows held out count
shows_by held out count n blank all within samples is play h = by play h
  where
    step : (p : ℕ) (pairs : List Pair) → Agrees held.cells pairs p
        → AreTaken pairs p out × (count ≡ present pairs p (length out))
    step p pairs a = (
      heard_taken held.cells pairs p n out all samples within a,
      is ∙ counted held.cells pairs p n within a ∙ ap (present pairs p) all,
    )

    by : (st : Option Play) → Holds held st → PlaysOut st out count
    by None none = let both = step 0 [] (blank none 0) in (both.0, both.1 ∙ present-nothing 0 (length out))
    by (Some play) (begun, rate, now, half, had) = step play.position play.pairs had

pub taken_by : (old new : PlayoutOf) (count : ℕ) → new.begun ≡ old.begun
    → new.position ≡ (old.position + count) % 2 ^ 32 → length new.cells ≡ length old.cells
    → ((p : ℕ) (pairs : List Pair) → Agrees old.cells pairs p → Agrees new.cells pairs (p + count))
    → HasTaken old new count
taken_by old new count begun position long step play h = by play h
  where
    moved : (p w : ℕ) → p % 2 ^ 32 ≡ w → (p + count) % 2 ^ 32 ≡ (w + count) % 2 ^ 32
    moved p w is = omega (arith, is)

    by : (st : Option Play) → Holds old st → Holds new (play_taken count st)
    by None none = begun ∙ none
    by (Some play) (was, rate, now, half, had) = (
      begun ∙ was,
      rate ∙ sym long,
      moved play.position old.position now ∙ sym position,
      omega (arith, half),
      step play.position play.pairs had,
    )
