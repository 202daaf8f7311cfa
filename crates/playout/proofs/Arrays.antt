-- Places in two arrays, and what is done to them.
use Rattle.std.proofs.Common.{◌≡◌, ◌∙◌, ap, sym, refl, ℕ, ℤ, pos, zero, suc, ◌+◌, ◌≤◌, ◌<◌, Bool, true, false, cond}
use Rattle.std.proofs.Common.{List, [], ◌∷◌, ◌++◌, length, map, take, drop, set, get_or, replicate, count_by, Option}
use Rattle.std.proofs.Common.{None, Some, is_none, is_some, unwrap_or, length-set, arith}
use Rattle.std.proofs.lemmas.List.{drop-drop, set-get_or, drop_more, length-replicate}
use Rattle.std.proofs.lemmas.List.Sums.{sum_by-cons}
use borrow.Rule.Slice.PartMut.{put_mid}
use Rattle.playout.specs.inner.Agrees.{filled}
use Rattle.playout.specs.inner.Cells.{cells_of, heard, fills, news, emptied}

-- there are as many places as the arrays have
pub length-cells : (ps : List Bool) (ss : List ℤ) → length ss ≡ length ps → length (cells_of ps ss) ≡ length ps
length-cells [] ss e = refl
length-cells (b ∷ ps) [] e = absurd cc
length-cells (b ∷ ps) (s ∷ ss) e = ap suc (length-cells ps ss (omega (arith, e)))

-- a place, by what the arrays have there
pub cell_at : (ps : List Bool) (ss : List ℤ) (i : ℕ) → length ss ≡ length ps
    → get_or (cells_of ps ss) i None ≡ cond (get_or ps i false) (Some (get_or ss i (pos 0))) None
cell_at [] ss i e = refl
cell_at (b ∷ ps) [] i e = absurd cc
cell_at (b ∷ ps) (s ∷ ss) zero e = refl
cell_at (b ∷ ps) (s ∷ ss) (suc i) e = cell_at ps ss i (omega (arith, e))

-- what is heard there
pub heard_at : (ps : List Bool) (ss : List ℤ) (j : ℕ) → length ss ≡ length ps
    → get_or (map heard (cells_of ps ss)) j (pos 0) ≡ cond (get_or ps j false) (get_or ss j (pos 0)) (pos 0)
heard_at [] ss j e = refl
heard_at (b ∷ ps) [] j e = absurd cc
heard_at (true ∷ ps) (s ∷ ss) zero e = refl
heard_at (false ∷ ps) (s ∷ ss) zero e = refl
heard_at (b ∷ ps) (s ∷ ss) (suc j) e = heard_at ps ss j (omega (arith, e))

-- how many have a sample
pub count-cells : (ps : List Bool) (ss : List ℤ) → length ss ≡ length ps
    → count_by is_some (cells_of ps ss) ≡ count_by (λ b. b) ps
count-cells [] ss e = refl
count-cells (b ∷ ps) [] e = absurd cc
count-cells (true ∷ ps) (s ∷ ss) e =
    sum_by-cons (λ (o : Option ℤ). cond (is_some o) 1 0) (Some s) (cells_of ps ss)
    ∙ ap (λ (n : ℕ). 1 + n) (count-cells ps ss (omega (arith, e)))
    ∙ sym (sum_by-cons (λ (b : Bool). cond b 1 0) true ps)
count-cells (false ∷ ps) (s ∷ ss) e =
    sum_by-cons (λ (o : Option ℤ). cond (is_some o) 1 0) None (cells_of ps ss)
    ∙ ap (λ (n : ℕ). 0 + n) (count-cells ps ss (omega (arith, e)))
    ∙ sym (sum_by-cons (λ (b : Bool). cond b 1 0) false ps)

-- at most all have one
count-most : (ps : List Bool) → count_by (λ b. b) ps ≤ length ps
count-most [] = omega arith
count-most (true ∷ ps) =
    let counted : count_by (λ b. b) (true ∷ ps) ≡ 1 + count_by (λ b. b) ps =
    sum_by-cons (λ (b : Bool). cond b 1 0) true ps in
    omega (arith, counted, count-most ps)
count-most (false ∷ ps) =
    let counted : count_by (λ b. b) (false ∷ ps) ≡ 0 + count_by (λ b. b) ps =
    sum_by-cons (λ (b : Bool). cond b 1 0) false ps in
    omega (arith, counted, count-most ps)

-- where all have one, what is heard are the samples
pub all_heard : (ps : List Bool) (ss : List ℤ) → length ss ≡ length ps → count_by (λ b. b) ps ≡ length ps
    → ss ≡ map heard (cells_of ps ss)
all_heard [] [] e all = refl
all_heard [] (s ∷ ss) e all = absurd cc
all_heard (b ∷ ps) [] e all = absurd cc
all_heard (true ∷ ps) (s ∷ ss) e all =
    let counted : count_by (λ b. b) (true ∷ ps) ≡ 1 + count_by (λ b. b) ps =
    sum_by-cons (λ (b : Bool). cond b 1 0) true ps in
    ap (λ (xs : List ℤ). s ∷ xs) (all_heard ps ss (omega (arith, e)) (omega (arith, all, counted)))
all_heard (false ∷ ps) (s ∷ ss) e all =
    let counted : count_by (λ b. b) (false ∷ ps) ≡ 0 + count_by (λ b. b) ps =
    sum_by-cons (λ (b : Bool). cond b 1 0) false ps in
    absurd (omega (arith, all, counted, count-most ps))

-- where none has one, zeros
pub none_heard : (ps : List Bool) (ss : List ℤ) → length ss ≡ length ps → count_by (λ b. b) ps ≡ 0
    → replicate (length ps) (pos 0) ≡ map heard (cells_of ps ss)
none_heard [] ss e none = refl
none_heard (b ∷ ps) [] e none = absurd cc
none_heard (true ∷ ps) (s ∷ ss) e none =
    let counted : count_by (λ b. b) (true ∷ ps) ≡ 1 + count_by (λ b. b) ps =
    sum_by-cons (λ (b : Bool). cond b 1 0) true ps in
    absurd (omega (arith, none, counted))
none_heard (false ∷ ps) (s ∷ ss) e none =
    let counted : count_by (λ b. b) (false ∷ ps) ≡ 0 + count_by (λ b. b) ps =
    sum_by-cons (λ (b : Bool). cond b 1 0) false ps in
    ap (λ (xs : List ℤ). pos 0 ∷ xs) (none_heard ps ss (omega (arith, e)) (omega (arith, none, counted)))

-- one place written
pub cells-set : (ps : List Bool) (ss : List ℤ) (i : ℕ) (s : ℤ) → length ss ≡ length ps
    → cells_of (set ps i true) (set ss i s) ≡ set (cells_of ps ss) i (Some s)
cells-set [] ss i s e = refl
cells-set (b ∷ ps) [] i s e = absurd cc
cells-set (b ∷ ps) (t ∷ ss) zero s e = refl
cells-set (b ∷ ps) (t ∷ ss) (suc i) s e =
    ap (λ (xs : List (Option ℤ)). cond b (Some t) None ∷ xs) (cells-set ps ss i s (omega (arith, e)))

-- the first ones
pub cells-take : (n : ℕ) (ps : List Bool) (ss : List ℤ) → cells_of (take n ps) (take n ss) ≡ take n (cells_of ps ss)
cells-take zero ps ss = refl
cells-take (suc n) [] ss = refl
cells-take (suc n) (b ∷ ps) [] = refl
cells-take (suc n) (b ∷ ps) (s ∷ ss) = ap (λ (xs : List (Option ℤ)). cond b (Some s) None ∷ xs) (cells-take n ps ss)

-- and those behind
pub cells-drop : (n : ℕ) (ps : List Bool) (ss : List ℤ) → length ss ≡ length ps
    → cells_of (drop n ps) (drop n ss) ≡ drop n (cells_of ps ss)
cells-drop zero ps ss e = refl
cells-drop (suc n) [] ss e = refl
cells-drop (suc n) (b ∷ ps) [] e = absurd cc
cells-drop (suc n) (b ∷ ps) (s ∷ ss) e = cells-drop n ps ss (omega (arith, e))

-- and those of a part
pub cells-part : (at n k : ℕ) (ps : List Bool) (ss : List ℤ) → length ss ≡ length ps → k ≡ n
    → cells_of (take k (drop at ps)) (take k (drop at ss)) ≡ take n (drop at (cells_of ps ss))
cells-part at n k ps ss e f =
    cells-take k (drop at ps) (drop at ss)
    ∙ ap (take k) (cells-drop at ps ss e)
    ∙ ap (λ (m : ℕ). take m (drop at (cells_of ps ss))) f

-- empty arrays have empty places
pub cells-blank : (n : ℕ) (ss : List ℤ) → length ss ≡ n → cells_of (replicate n false) ss ≡ replicate n None
cells-blank zero ss e = refl
cells-blank (suc n) [] e = absurd cc
cells-blank (suc n) (s ∷ ss) e =
    let none : Option ℤ = None in ap (λ (xs : List (Option ℤ)). none ∷ xs) (cells-blank n ss (omega (arith, e)))

-- places emptied, up to an end
emptied_to : (at n end : ℕ) (ps : List Bool) (ss : List ℤ) → length ss ≡ length ps → end ≡ at + n → end ≤ length ps
    → cells_of (take at ps ++ (replicate n false ++ drop end ps)) ss
    ≡ take at (cells_of ps ss) ++ (replicate n None ++ drop end (cells_of ps ss))
emptied_to zero zero zero ps ss e to le = refl
emptied_to zero zero (suc end) ps ss e to le = absurd (omega (arith, to))
emptied_to zero (suc n) zero ps ss e to le = absurd (omega (arith, to))
emptied_to zero (suc n) (suc end) [] ss e to le = absurd (omega (arith, le))
emptied_to zero (suc n) (suc end) (b ∷ ps) [] e to le = absurd cc
emptied_to zero (suc n) (suc end) (b ∷ ps) (s ∷ ss) e to le = let none : Option ℤ = None in
    ap (λ (xs : List (Option ℤ)). none ∷ xs)
    (emptied_to zero n end ps ss (omega (arith, e)) (omega (arith, to)) (omega (arith, le)))
emptied_to (suc at) n zero ps ss e to le = absurd (omega (arith, to))
emptied_to (suc at) n (suc end) [] ss e to le = absurd (omega (arith, le))
emptied_to (suc at) n (suc end) (b ∷ ps) [] e to le = absurd cc
emptied_to (suc at) n (suc end) (b ∷ ps) (s ∷ ss) e to le = let one : Option ℤ = cond b (Some s) None in
    ap (λ (xs : List (Option ℤ)). one ∷ xs)
    (emptied_to at n end ps ss (omega (arith, e)) (omega (arith, to)) (omega (arith, le)))

pub cells-emptied : (at n : ℕ) (ps : List Bool) (ss : List ℤ) → length ss ≡ length ps → at + n ≤ length ps
    → cells_of (take at ps ++ (replicate n false ++ drop (at + n) ps)) ss ≡ emptied at n (cells_of ps ss)
cells-emptied at n ps ss e le = emptied_to at n (at + n) ps ss e refl le

-- samples put behind the first place
pub fills-cons : (c : Option ℤ) (cells : List (Option ℤ)) (i : ℕ) (new : List ℤ)
    → fills (c ∷ cells) (suc i) new ≡ c ∷ fills cells i new
fills-cons c cells i [] = refl
fills-cons c cells i (s ∷ new) = fills-cons c (filled cells i s) (suc i) new

pub news-cons : (c : Option ℤ) (cells : List (Option ℤ)) (i : ℕ) (new : List ℤ)
    → news (c ∷ cells) (suc i) new ≡ news cells i new
news-cons c cells i [] = refl
news-cons c cells i (s ∷ new) =
    ap (λ (n : ℕ). cond (is_none (get_or cells i None)) 1 0 + n) (news-cons c (filled cells i s) (suc i) new)

-- samples put at places that are all free
whole_first : (ps : List Bool) (ss new : List ℤ) → length ss ≡ length ps → length new ≤ length ps
    → count_by (λ b. b) (take (length new) ps) ≡ 0
    → (cells_of (replicate (length new) true ++ drop (length new) ps) (new ++ drop (length new) ss)
    ≡ fills (cells_of ps ss) 0 new)
    × (news (cells_of ps ss) 0 new ≡ length new)
whole_first ps ss [] e le free = (refl, refl)
whole_first [] ss (x ∷ new) e le free = absurd (omega (arith, le))
whole_first (b ∷ ps) [] (x ∷ new) e le free = absurd cc
whole_first (true ∷ ps) (t ∷ ss) (x ∷ new) e le free =
    let counted : count_by (λ b. b) (take (length (x ∷ new)) (true ∷ ps))
    ≡ 1 + count_by (λ b. b) (take (length new) ps) =
    sum_by-cons (λ (b : Bool). cond b 1 0) true (take (length new) ps) in
    absurd (omega (arith, free, counted))
whole_first (false ∷ ps) (t ∷ ss) (x ∷ new) e le free =
    let counted : count_by (λ b. b) (take (length (x ∷ new)) (false ∷ ps))
    ≡ 0 + count_by (λ b. b) (take (length new) ps) =
    sum_by-cons (λ (b : Bool). cond b 1 0) false (take (length new) ps) in
    let rest = whole_first ps ss new (omega (arith, e)) (omega (arith, le)) (omega (arith, free, counted)) in
    let one : Option ℤ = Some x in (
      ap (λ (xs : List (Option ℤ)). one ∷ xs) rest.0 ∙ sym (fills-cons one (cells_of ps ss) 0 new),
      ap (λ (n : ℕ). 1 + n) (news-cons one (cells_of ps ss) 0 new ∙ rest.1) ∙ omega arith,
    )

whole_to : (at end : ℕ) (ps : List Bool) (ss new : List ℤ) → length ss ≡ length ps → end ≡ at + length new
    → end ≤ length ps → count_by (λ b. b) (take (length new) (drop at ps)) ≡ 0
    → (cells_of (take at ps ++ (replicate (length new) true ++ drop end ps)) (take at ss ++ (new ++ drop end ss))
    ≡ fills (cells_of ps ss) at new)
    × (news (cells_of ps ss) at new ≡ length new)
whole_to zero end ps ss new e to le free =
    let all : end ≡ length new = omega (arith, to) in
    let first = whole_first ps ss new e (omega (arith, to, le)) free in
    (ap (λ (k : ℕ). cells_of (replicate (length new) true ++ drop k ps) (new ++ drop k ss)) all ∙ first.0, first.1)
whole_to (suc at) zero ps ss new e to le free = absurd (omega (arith, to))
whole_to (suc at) (suc end) [] ss new e to le free = absurd (omega (arith, le))
whole_to (suc at) (suc end) (b ∷ ps) [] new e to le free = absurd cc
whole_to (suc at) (suc end) (b ∷ ps) (s ∷ ss) new e to le free =
    let rest = whole_to at end ps ss new (omega (arith, e)) (omega (arith, to)) (omega (arith, le)) free in
    let one : Option ℤ = cond b (Some s) None in (
      ap (λ (xs : List (Option ℤ)). one ∷ xs) rest.0 ∙ sym (fills-cons one (cells_of ps ss) at new),
      news-cons one (cells_of ps ss) at new ∙ rest.1,
    )

pub whole : (at : ℕ) (ps : List Bool) (ss new : List ℤ) → length ss ≡ length ps → at + length new ≤ length ps
    → count_by (λ b. b) (take (length new) (drop at ps)) ≡ 0
    → (cells_of (take at ps ++ (replicate (length new) true ++ drop (at + length new) ps))
    (take at ss ++ (new ++ drop (at + length new) ss))
    ≡ fills (cells_of ps ss) at new)
    × (news (cells_of ps ss) at new ≡ length new)
whole at ps ss new e le free = whole_to at (at + length new) ps ss new e refl le free

-- as many places as before
pub length-fills : (cells : List (Option ℤ)) (i : ℕ) (new : List ℤ) → length (fills cells i new) ≡ length cells
length-fills cells i [] = refl
length-fills cells i (s ∷ new) = length-fills (filled cells i s) (suc i) new ∙ length-set cells i _

-- in two steps
pub fills-append : (cells : List (Option ℤ)) (i : ℕ) (xs ys : List ℤ)
    → fills cells i (xs ++ ys) ≡ fills (fills cells i xs) (i + length xs) ys
fills-append cells i [] ys = let same : i ≡ i + 0 = omega arith in ap (λ (n : ℕ). fills cells n ys) same
fills-append cells i (s ∷ xs) ys = let same : suc i + length xs ≡ i + suc (length xs) = omega arith in
    fills-append (filled cells i s) (suc i) xs ys
    ∙ ap (λ (n : ℕ). fills (fills (filled cells i s) (suc i) xs) n ys) same

pub news-append : (cells : List (Option ℤ)) (i : ℕ) (xs ys : List ℤ)
    → news cells i (xs ++ ys) ≡ news cells i xs + news (fills cells i xs) (i + length xs) ys
news-append cells i [] ys =
    let same : i ≡ i + 0 = omega arith in
    ap (λ (n : ℕ). news cells n ys) same
    ∙ (let z : news cells (i + 0) ys ≡ 0 + news cells (i + 0) ys = omega arith in z)
news-append cells i (s ∷ xs) ys = let same : suc i + length xs ≡ i + suc (length xs) = omega arith in
    let first : ℕ = cond (is_none (get_or cells i None)) 1 0 in
    let rest =
    news-append (filled cells i s) (suc i) xs ys
    ∙ ap (λ (n : ℕ). news (filled cells i s) (suc i) xs + news (fills (filled cells i s) (suc i) xs) n ys) same in
    ap (λ (n : ℕ). first + n) rest ∙ omega arith

-- a part of a slice that is written
pub put_is : {X : Type 0} (at n k : ℕ) (xs ys zs : List X) → ys ≡ zs → k ≡ n
    → put_mid at k xs ys ≡ take at xs ++ (zs ++ drop (at + n) xs)
put_is at n k xs ys zs e f = λ i. take at xs ++ (e i ++ (drop-drop k at xs ∙ ap (λ (m : ℕ). drop (at + m) xs) f) i)

-- what is all one value, by its length
pub all_one : (m n : ℕ) (b : Bool) (ys : List Bool) → ys ≡ replicate m b → length ys ≡ n → ys ≡ replicate n b
all_one m n b ys e f = e ∙ ap (λ (k : ℕ). replicate k b) (sym (length-replicate m b) ∙ sym (ap length e) ∙ f)

-- a place that has a sample
pub kept_there : (ps : List Bool) (ss : List ℤ) (at : ℕ) (s : ℤ) → length ss ≡ length ps → get_or ps at false ≡ true
    → (cells_of ps ss ≡ filled (cells_of ps ss) at s) × (false ≡ is_none (get_or (cells_of ps ss) at None))
kept_there ps ss at s e h =
    let cells : List (Option ℤ) = cells_of ps ss in
    let none : Option ℤ = None in
    let some : get_or cells at None ≡ Some (get_or ss at (pos 0)) =
    cell_at ps ss at e ∙ ap (λ (b : Bool). cond b (Some (get_or ss at (pos 0))) none) h in (
      sym (ap (λ (o : Option ℤ). set cells at (Some (unwrap_or o s))) some
          ∙ ap (set cells at) (sym some)
          ∙ set-get_or cells at None),
      sym (ap is_none some),
    )

-- and one that has none
pub put_there : (ps : List Bool) (ss : List ℤ) (at : ℕ) (s : ℤ) → length ss ≡ length ps → get_or ps at false ≡ false
    → (cells_of (set ps at true) (set ss at s) ≡ filled (cells_of ps ss) at s)
    × (true ≡ is_none (get_or (cells_of ps ss) at None))
put_there ps ss at s e h =
    let cells : List (Option ℤ) = cells_of ps ss in
    let none : Option ℤ = None in
    let free : get_or cells at None ≡ None =
    cell_at ps ss at e ∙ ap (λ (b : Bool). cond b (Some (get_or ss at (pos 0))) none) h in (
      cells-set ps ss at s e ∙ ap (λ (o : Option ℤ). set cells at (Some (unwrap_or o s))) (sym free),
      sym (ap is_none free),
    )

-- one sample more
pub fills_more : (cells more : List (Option ℤ)) (i k : ℕ) (new : List ℤ) (x : ℤ) → k < length new
    → x ≡ get_or new k (pos 0) → more ≡ filled cells (i + k) x
    → (fills more (i + (k + 1)) (drop (k + 1) new) ≡ fills cells (i + k) (drop k new))
    × (cond (is_none (get_or cells (i + k) None)) 1 0 + news more (i + (k + 1)) (drop (k + 1) new)
    ≡ news cells (i + k) (drop k new))
fills_more cells more i k new x lt is e =
    let next : i + (k + 1) ≡ suc (i + k) = omega arith in
    let rest : List ℤ = drop (k + 1) new in
    let first : ℕ = cond (is_none (get_or cells (i + k) None)) 1 0 in
    let whole_is : x ∷ rest ≡ drop k new = ap (λ (z : ℤ). z ∷ rest) is ∙ sym (drop_more new k (pos 0) lt) in (
      (λ j. fills (e j) (next j) rest) ∙ ap (fills cells (i + k)) whole_is,
      (λ j. first + news (e j) (next j) rest) ∙ ap (news cells (i + k)) whole_is,
    )
