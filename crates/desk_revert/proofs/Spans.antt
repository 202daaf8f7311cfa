-- A span of a list of members is taken and another one is put.
use Rattle.std.specs.Prelude.{◌≡◌, ◌<◌, ◌≤◌, ◌+◌, ◌∷◌, ◌++◌, take, drop}
use Rattle.std.proofs.Common.{get_or}
use Rattle.std.proofs.lemmas.List.{take_more, drop_more, length-take-le, take-append-drop}
use Rattle.desk_rows.specs.laws.Words.{ℕ, true, List, [], length, nat_lt, refl, sym, ap, ◌∙◌, arith, insert}
use Rattle.desk_rows.specs.laws.Words.{remove, nat_le, and_from, length-append, append_assoc, nat_tests, list_all}
use Rattle.desk_rows.specs.laws.Words.{take_at, can_take, can_put, places_rise, is_at}
use Rattle.desk_rows.specs.laws.Words.{put_at}
use Rattle.desk_rows.specs.laws.Equal.{row_itself}
use Rattle.desk_rows.specs.declared.row.Row.TheVariants as rows
use Rattle.desk_revert.specs.Spans.{placed_from, Exchanges}
use Rattle.desk_rows.specs.declared.edit.Placed.{Placed}
use Rattle.desk_rows.specs.declared.row.Member.{Member}

remove_at : (front : List Member) (m : Member) (back : List Member)
    → remove ((front ++ m ∷ []) ++ back) (length front) ≡ front ++ back
remove_at [] m back = refl
remove_at (x ∷ xs) m back =
    let e : remove ((xs ++ m ∷ []) ++ back) (length xs) ≡ xs ++ back = remove_at xs m back in ap (λ ys. x ∷ ys) e

insert_at : (front : List Member) (m : Member) (back : List Member)
    → insert (front ++ back) (length front) m ≡ (front ++ m ∷ []) ++ back
insert_at [] m back = refl
insert_at (x ∷ xs) m back =
    let e : insert (xs ++ back) (length xs) m ≡ (xs ++ m ∷ []) ++ back = insert_at xs m back in ap (λ ys. x ∷ ys) e

stands_at : (front : List Member) (m : Member) (back : List Member)
    → is_at ((front ++ m ∷ []) ++ back) (length front) m ≡ true
stands_at [] m back = row_itself (rows.Member m)
stands_at (x ∷ xs) m back = stands_at xs m back

one_more : (front : List Member) (m : Member) → length front + 1 ≡ length (front ++ m ∷ [])
one_more front m = sym (length-append front (m ∷ []))

shifted : (front : List Member) (m : Member) (ms back : List Member)
    → front ++ (m ∷ (ms ++ back)) ≡ (front ++ m ∷ []) ++ (ms ++ back)
shifted front m ms back = sym (append_assoc front (m ∷ []) (ms ++ back))

pub take_span : (front span back : List Member)
    → take_at (placed_from (length front) span) (front ++ (span ++ back)) ≡ front ++ back
take_span front [] back = refl
take_span front (m ∷ ms) back =
    ap (λ xs. remove xs (length front))
    ((λ i. take_at (placed_from (one_more front m i) ms) (shifted front m ms back i))
    ∙ take_span (front ++ m ∷ []) ms back)
    ∙ remove_at front m back

pub can_take_span : (front span back : List Member)
    → can_take (placed_from (length front) span) (front ++ (span ++ back)) ≡ true
can_take_span front [] back = refl
can_take_span front (m ∷ ms) back =
    let left : take_at (placed_from (length front + 1) ms) (front ++ (m ∷ (ms ++ back))) ≡ (front ++ m ∷ []) ++ back =
    (λ i. take_at (placed_from (one_more front m i) ms) (shifted front m ms back i))
    ∙ take_span (front ++ m ∷ []) ms back in
    and_from _ _
    ((λ i. can_take (placed_from (one_more front m i) ms) (shifted front m ms back i))
    ∙ can_take_span (front ++ m ∷ []) ms back)
    (ap (λ xs. is_at xs (length front) m) left ∙ stands_at front m back)

pub put_span : (front span back : List Member)
    → put_at (placed_from (length front) span) (front ++ back) ≡ front ++ (span ++ back)
put_span front [] back = refl
put_span front (m ∷ ms) back =
    (λ i. put_at (placed_from (one_more front m i) ms) (insert_at front m back i))
    ∙ put_span (front ++ m ∷ []) ms back
    ∙ sym (shifted front m ms back)

within : (front back : List Member) → nat_le (length front) (length (front ++ back)) ≡ true
within front back = grind (arith, nat_tests, length-append front back)

pub can_put_span : (front span back : List Member)
    → can_put (placed_from (length front) span) (front ++ back) ≡ true
can_put_span front [] back = refl
can_put_span front (m ∷ ms) back =
    and_from _ _ (within front back)
    ((λ i. can_put (placed_from (one_more front m i) ms) (insert_at front m back i))
    ∙ can_put_span (front ++ m ∷ []) ms back)

above : (n k : ℕ) (ms : List Member) → n < k → list_all (λ q. nat_lt n q.place) (placed_from k ms) ≡ true
above n k [] h = refl
above n k (m ∷ ms) h = grind (arith, nat_tests, h, above n (k + 1) ms (omega (arith, h)))

pub span_rises : (n : ℕ) (ms : List Member) → places_rise (placed_from n ms) ≡ true
span_rises n [] = refl
span_rises n (m ∷ ms) = and_from _ _ (above n (n + 1) ms (omega arith)) (span_rises (n + 1) ms)

-- ---- what two lists have in common

pub front_more : (xs ys : List Member) (i : ℕ) (x y : Member) → i < length xs → i < length ys → get_or xs i x ≡ x
    → get_or ys i y ≡ y → x ≡ y → take i xs ≡ take i ys → take (i + 1) xs ≡ take (i + 1) ys
front_more xs ys i x y in_xs in_ys at_xs at_ys same so_far =
    take_more xs i x in_xs
    ∙ (λ k. so_far k ++ (at_xs ∙ same ∙ sym at_ys) k ∷ [])
    ∙ sym (take_more ys i y in_ys)

pub back_more : (xs ys : List Member) (i j : ℕ) (x y : Member) → i < length xs → j < length ys → get_or xs i x ≡ x
    → get_or ys j y ≡ y → x ≡ y → drop (i + 1) xs ≡ drop (j + 1) ys → drop i xs ≡ drop j ys
back_more xs ys i j x y in_xs in_ys at_xs at_ys same so_far =
    drop_more xs i x in_xs
    ∙ (λ k. (at_xs ∙ same ∙ sym at_ys) k ∷ so_far k)
    ∙ sym (drop_more ys j y in_ys)

-- the members between what both lists begin with and what both end with
pub exchanges : (before behind gone come tail other : List Member) (f : ℕ) (taken put : List Placed)
    → f ≤ length before → take f before ≡ take f behind → drop f before ≡ gone ++ tail → drop f behind ≡ come ++ other
    → tail ≡ other → taken ≡ placed_from f gone → put ≡ placed_from f come → Exchanges before behind taken put
exchanges before behind gone come tail other f taken put few front_is gone_is come_is tail_is takes puts =
    let long : f ≡ length (take f before) = sym (length-take-le f before few) in
    record {
      front = take f before;
      gone = gone;
      come = come;
      back = tail;
      first = sym (take-append-drop f before) ∙ ap (λ xs. take f before ++ xs) gone_is;
      second =
          sym (take-append-drop f behind)
          ∙ (λ k. sym front_is k ++ (come_is ∙ ap (λ xs. come ++ xs) (sym tail_is)) k);
      takes = takes ∙ ap (λ n. placed_from n gone) long;
      puts = puts ∙ ap (λ n. placed_from n come) long;
    }
