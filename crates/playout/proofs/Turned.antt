-- Places from a start on, and then from the front.
use Rattle.std.proofs.Common.{◌≡◌, ◌∙◌, ap, sym, refl, subst, ℕ, ℤ, zero, suc, ◌+◌, ◌-◌, ◌≤◌, ◌<◌, Bool, cond, List, []}
use Rattle.std.proofs.Common.{◌∷◌, ◌++◌, length, take, drop, set, get_or, replicate, min, Option, None, Some, is_none}
use Rattle.std.proofs.Common.{unwrap_or, append-nil, append_assoc, length-append, length-drop, length-set}
use Rattle.std.proofs.Common.{take-append-drop, arith}
use Rattle.std.proofs.lemmas.List.{get_or_append_left, get_or-append_right, set-append_left, set-append_right, take_at}
use Rattle.std.proofs.lemmas.List.{drop_at, drop_all, drop-drop, drop-append-le, length-take-le, length-replicate}
use Rattle.std.proofs.lemmas.List.{take-take, take-replicate, drop-replicate, replicate-append-replicate}
use Rattle.playout.specs.Playout.{Pair, offer, offers}
use Rattle.playout.specs.inner.Agrees.{Agrees, IsBlank, filled}
use Rattle.playout.specs.inner.Cells.{cells_of, turned, fills, news, emptied, IsRing}
use Rattle.playout.proofs.Arrays.{length-cells, length-fills, fills-append, news-append}
use Rattle.playout.proofs.Copied.{first_of_both}
use Rattle.playout.proofs.Offered.{one_offered}

-- the two parts change places
turned_is : (a b : List (Option ℤ)) (n : ℕ) → length a ≡ n → turned n (a ++ b) ≡ b ++ a
turned_is a b n e = λ i. drop_at a b n e i ++ take_at a b n e i

pub length-turned : (n : ℕ) (cells : List (Option ℤ)) → n ≤ length cells → length (turned n cells) ≡ length cells
length-turned n cells le =
    let front = length-take-le n cells le in
    let back = length-drop n cells in
    length-append (drop n cells) (take n cells) ∙ omega (arith, front, back, le)

-- a sample behind the start
near_one : (a b : List (Option ℤ)) (n i : ℕ) (s : ℤ) → length a ≡ n → i < length b
    → (turned n (filled (a ++ b) (n + i) s) ≡ filled (b ++ a) i s)
    × (get_or (a ++ b) (n + i) None ≡ get_or (b ++ a) i None)
near_one a b n i s e lt =
    let less : n ≤ n + i = omega arith in
    let back : n + i - n ≡ i = omega arith in
    let here : get_or (a ++ b) (n + i) None ≡ get_or b i None =
    get_or-append_right a b n (n + i) None e less ∙ ap (λ k. get_or b k None) back in
    let there : get_or (b ++ a) i None ≡ get_or b i None = get_or_append_left b a None i lt in
    let v : Option ℤ = Some (unwrap_or (get_or (b ++ a) i None) s) in (
      ap (λ (o : Option ℤ). turned n (set (a ++ b) (n + i) (Some (unwrap_or o s)))) (here ∙ sym there)
          ∙ ap (turned n) (set-append_right a b n (n + i) v e less ∙ ap (λ k. a ++ set b k v) back)
          ∙ turned_is a (set b i v) n e
          ∙ sym (set-append_left b a i v lt),
      here ∙ sym there,
    )

-- and one before it
far_one : (a b : List (Option ℤ)) (n m i : ℕ) (s : ℤ) → length a ≡ n → length b ≡ m → i < n
    → (turned n (filled (a ++ b) i s) ≡ filled (b ++ a) (m + i) s)
    × (get_or (a ++ b) i None ≡ get_or (b ++ a) (m + i) None)
far_one a b n m i s e f lt =
    let less : m ≤ m + i = omega arith in
    let back : m + i - m ≡ i = omega arith in
    let within : i < length a = omega (arith, e, lt) in
    let there : get_or (b ++ a) (m + i) None ≡ get_or a i None =
    get_or-append_right b a m (m + i) None f less ∙ ap (λ k. get_or a k None) back in
    let here : get_or (a ++ b) i None ≡ get_or a i None = get_or_append_left a b None i within in
    let v : Option ℤ = Some (unwrap_or (get_or (b ++ a) (m + i) None) s) in (
      ap (λ (o : Option ℤ). turned n (set (a ++ b) i (Some (unwrap_or o s)))) (here ∙ sym there)
          ∙ ap (turned n) (set-append_left a b i v within)
          ∙ turned_is (set a i v) b n (length-set a i v ∙ e)
          ∙ sym (set-append_right b a m (m + i) v f less ∙ ap (λ k. b ++ set a k v) back),
      here ∙ sym there,
    )

-- the same of places that are not yet in two parts
near_cell : (n i : ℕ) (cells : List (Option ℤ)) (s : ℤ) → n + i < length cells
    → (turned n (filled cells (n + i) s) ≡ filled (turned n cells) i s)
    × (get_or cells (n + i) None ≡ get_or (turned n cells) i None)
near_cell n i cells s lt =
    let all = take-append-drop n cells in
    let one =
    near_one (take n cells) (drop n cells) n i s (length-take-le n cells (omega (arith, lt)))
    (omega (arith, length-drop n cells, lt)) in
    (ap (λ xs. turned n (filled xs (n + i) s)) (sym all) ∙ one.0, ap (λ xs. get_or xs (n + i) None) (sym all) ∙ one.1)

far_cell : (n m i : ℕ) (cells : List (Option ℤ)) (s : ℤ) → i < n → m + n ≡ length cells
    → (turned n (filled cells i s) ≡ filled (turned n cells) (m + i) s)
    × (get_or cells i None ≡ get_or (turned n cells) (m + i) None)
far_cell n m i cells s lt e =
    let all = take-append-drop n cells in
    let one =
    far_one (take n cells) (drop n cells) n m i s (length-take-le n cells (omega (arith, e)))
    (omega (arith, length-drop n cells, e)) lt in
    (ap (λ xs. turned n (filled xs i s)) (sym all) ∙ one.0, ap (λ xs. get_or xs i None) (sym all) ∙ one.1)

-- samples behind the start
pub near : (n i : ℕ) (cells : List (Option ℤ)) (new : List ℤ) → n + i + length new ≤ length cells
    → (turned n (fills cells (n + i) new) ≡ fills (turned n cells) i new)
    × (news cells (n + i) new ≡ news (turned n cells) i new)
near n i cells [] le = (refl, refl)
near n i cells (s ∷ new) le =
    let one = near_cell n i cells s (omega (arith, le)) in
    let next : suc (n + i) ≡ n + suc i = omega arith in
    let long = length-set cells (n + i) (Some (unwrap_or (get_or cells (n + i) None) s)) in
    let rest = near n (suc i) (filled cells (n + i) s) new (omega (arith, le, long)) in (
      ap (λ k. turned n (fills (filled cells (n + i) s) k new)) next ∙ rest.0 ∙ ap (λ xs. fills xs (suc i) new) one.0,
      (λ j.
          cond (is_none (one.1 j)) 1 0
          + (ap (λ k. news (filled cells (n + i) s) k new) next ∙ rest.1 ∙ ap (λ xs. news xs (suc i) new) one.0) j),
    )

-- and those before it
pub far : (n m i : ℕ) (cells : List (Option ℤ)) (new : List ℤ) → i + length new ≤ n → m + n ≡ length cells
    → (turned n (fills cells i new) ≡ fills (turned n cells) (m + i) new)
    × (news cells i new ≡ news (turned n cells) (m + i) new)
far n m i cells [] le e = (refl, refl)
far n m i cells (s ∷ new) le e =
    let one = far_cell n m i cells s (omega (arith, le)) e in
    let next : m + suc i ≡ suc (m + i) = omega arith in
    let rest = far n m (suc i) (filled cells i s) new (omega (arith, le)) (e ∙ sym (length-set cells i _)) in (
      rest.0 ∙ ap (λ k. fills (turned n (filled cells i s)) k new) next ∙ ap (λ xs. fills xs (suc (m + i)) new) one.0,
      (λ j.
          cond (is_none (one.1 j)) 1 0
          + (rest.1
          ∙ ap (λ k. news (turned n (filled cells i s)) k new) next
          ∙ ap (λ xs. news xs (suc (m + i)) new) one.0)
          j),
    )

-- samples put at places are offered there
pub fills_agree : (new : List ℤ) (cells : List (Option ℤ)) (pairs : List Pair) (p i : ℕ) → i + length new ≤ length cells
    → Agrees cells pairs p
    → Agrees (fills cells i new) (offers p pairs (p + i) new) p
    × (length (offers p pairs (p + i) new) ≡ length pairs + news cells i new)
fills_agree [] cells pairs p i le a = (a, omega arith)
fills_agree (s ∷ new) cells pairs p i le a =
    let one = one_offered cells pairs p i s (omega (arith, le)) a in
    let next : p + suc i ≡ p + i + 1 = omega arith in
    let long = length-set cells i (Some (unwrap_or (get_or cells i None) s)) in
    let rest =
    fills_agree new (filled cells i s) (offer p pairs (p + i) s) p (suc i) (omega (arith, le, long)) one.0 in (
      subst (λ k. Agrees (fills (filled cells i s) (suc i) new) (offers p (offer p pairs (p + i) s) k new) p) next
          rest.0,
      ap (λ k. length (offers p (offer p pairs (p + i) s) k new)) (sym next) ∙ rest.1 ∙ omega (arith, one.1),
    )

-- places emptied behind the start, which moves on
pub moved : (at n : ℕ) (cells : List (Option ℤ)) → at + n ≤ length cells
    → turned (at + n) (emptied at n cells) ≡ drop n (turned at cells ++ replicate n None)
moved at n cells le =
    let none : Option ℤ = None in
    let t : List (Option ℤ) = take at cells in
    let r : List (Option ℤ) = replicate n None in
    let front : length t ≡ at = length-take-le at cells (omega (arith, le)) in
    let gap : length r ≡ n = length-replicate n none in
    let both : length (t ++ r) ≡ at + n = length-append t r ∙ (λ i. front i + gap i) in
    let fits : n ≤ length (drop at cells) = omega (arith, length-drop at cells, le) in
    ap (turned (at + n)) (sym (append_assoc t r (drop (at + n) cells)))
    ∙ turned_is (t ++ r) (drop (at + n) cells) (at + n) both
    ∙ ap (λ xs. xs ++ (t ++ r)) (sym (drop-drop n at cells))
    ∙ sym (drop-append-le n (drop at cells) (t ++ r) fits)
    ∙ ap (drop n) (sym (append_assoc (drop at cells) t r))

-- a start at the end is one at the front
pub at_end : (cells : List (Option ℤ)) → turned (length cells) cells ≡ turned 0 cells
at_end cells =
    ap (turned (length cells)) (sym (append-nil cells))
    ∙ turned_is cells [] (length cells) refl
    ∙ sym (append-nil cells)

-- the first places, of two parts
pub first_of_turned : (n k split : ℕ) (cells : List (Option ℤ)) → n ≤ length cells → k ≤ length cells
    → split ≡ min (length cells - n) k
    → take split (drop n cells) ++ take (k - split) cells ≡ take k (turned n cells)
first_of_turned n k split cells le most is =
    let back = length-drop n cells in
    ap (λ xs. take split (drop n cells) ++ xs) (sym (take-take (k - split) n cells (omega (arith, is, le, most))))
    ∙ first_of_both (drop n cells) (take n cells) split k (is ∙ ap (λ m. min m k) (sym back))

-- no place has a sample
all_none : (n i : ℕ) (cell : Option ℤ) → cell ≡ None → get_or (replicate n cell) i None ≡ None
all_none zero i cell is = refl
all_none (suc n) zero cell is = is
all_none (suc n) (suc i) cell is = all_none n i cell is

-- empty places
pub blank : (n start : ℕ) → start ≤ n → (cells : List (Option ℤ)) → cells ≡ turned start (replicate n None)
    → IsBlank cells
blank n start le cells is p =
    record {
      here = λ i lt. ap (λ (xs : List (Option ℤ)). get_or xs i None) same ∙ all_none n i None refl;
      behind = λ m above. refl;
    }
  where
    none : Option ℤ
    none = None

    same : cells ≡ replicate n None
    same =
        let front = take-replicate start n none le in
        let back = drop-replicate start n none in
        let all : n - start + start ≡ n = omega (arith, le) in
        is
        ∙ (λ i. back i ++ front i)
        ∙ replicate-append-replicate (n - start) start none
        ∙ ap (λ (k : ℕ). replicate k none) all

-- a ring has as many places as its arrays
pub ring_long : (start : ℕ) (ps : List Bool) (ss : List ℤ) (cells : List (Option ℤ)) → IsRing start ps ss
    → turned start (cells_of ps ss) ≡ cells → length cells ≡ length ps
ring_long start ps ss cells ring is =
    let many = length-cells ps ss ring.alike in
    ap length (sym is) ∙ length-turned start (cells_of ps ss) (omega (arith, many, ring.within)) ∙ many

-- places that move on stay as many
pub length-moved : (n : ℕ) (cells new : List (Option ℤ)) → new ≡ drop n (cells ++ replicate n None)
    → length new ≡ length cells
length-moved n cells new is =
    let none : Option ℤ = None in
    let all = length-append cells (replicate n none) in
    let more = length-replicate n none in
    ap length is ∙ length-drop n (cells ++ replicate n None) ∙ omega (arith, all, more)

-- all places emptied
pub emptied_all : (n : ℕ) (cells : List (Option ℤ)) → length cells ≡ n → emptied 0 n cells ≡ replicate n None
emptied_all n cells e =
    ap (λ (xs : List (Option ℤ)). replicate n None ++ xs) (drop_all (0 + n) cells (omega (arith, e)))
    ∙ append-nil (replicate n None)

-- samples put over the end of the arrays, in two parts
pub over : (start ahead offset : ℕ) (cells first second : List (Option ℤ)) (xs ys samples : List ℤ) → xs ++ ys ≡ samples
    → first ≡ fills cells (start + offset) xs → second ≡ fills first 0 ys → ahead + start ≡ length cells
    → offset + length xs ≡ ahead → length ys ≤ start
    → (turned start second ≡ fills (turned start cells) offset samples)
    × (news cells (start + offset) xs + news first 0 ys ≡ news (turned start cells) offset samples)
over start ahead offset cells first second xs ys samples all first_is second_is e to few =
    let front = near start offset cells xs (omega (arith, e, to)) in
    let back =
    far start ahead 0 first ys (omega (arith, few))
    (e ∙ sym (ap length first_is ∙ length-fills cells (start + offset) xs)) in
    let turned_first = ap (turned start) first_is ∙ front.0 in
    let at : ahead + 0 ≡ offset + length xs = omega (arith, to) in (
      ap (turned start) second_is
          ∙ back.0
          ∙ (λ i. fills (turned_first i) (at i) ys)
          ∙ sym (fills-append (turned start cells) offset xs ys)
          ∙ ap (fills (turned start cells) offset) all,
      (λ i. front.1 i + (back.1 ∙ (λ j. news (turned_first j) (at j) ys)) i)
          ∙ sym (news-append (turned start cells) offset xs ys)
          ∙ ap (news (turned start cells) offset) all,
    )
