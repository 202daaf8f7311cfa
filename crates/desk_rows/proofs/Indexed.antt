-- An index of members, made and asked.
use Rattle.std.specs.Prelude.{◌≡◌, ◌≤◌, ◌∷◌, ◌++◌, ◌+◌}
use Rattle.desk_rows.specs.laws.Words.{ℕ, suc, Bool, true, false, cond, List, [], length, Option, None, Some, refl, sym}
use Rattle.desk_rows.specs.laws.Words.{ap, ◌∙◌, arith, map, nat_eq, append_assoc, nat_tests, sum_by-IsPermutation, find}
use Rattle.desk_rows.specs.laws.Words.{slice_get, IsNonDecreasingBy, IsPermutation, option_map, option_and_then}
use Rattle.desk_rows.specs.laws.Words.{count_by, IndexEntry, MemberRow as Member, Desk, good, place_in, has_key}
use Rattle.desk_rows.specs.laws.Words.{entries_from, entry_in, IsIndex}
use Rattle.desk_rows.specs.declared.row.Row.TheVariants as rows
use Rattle.desk_rows.specs.declared.key.Key.TheVariants as keys
use Rattle.desk_rows.specs.declared.claim.Claim.TheVariants as claims
use Rattle.desk_rows.specs.laws.ClaimLaws.{claimed_once}
use Rattle.desk_rows.specs.laws.Laws.{good_parts}
use Rattle.desk_rows.specs.laws.ListLaws.{count_next, found_alike}
use Rattle.desk_rows.proofs.Counts.{rows_count}
use Rattle.desk_rows.proofs.Halving.{Rises}

-- ---- the row at a place

behind : {X : Type 0} (x : X) (xs : List X) (o : Option ℕ)
    → option_and_then (slice_get xs) o ≡ option_and_then (slice_get (x ∷ xs)) (option_map (λ place. place + 1) o)
behind x xs None = refl
behind x xs (Some place) = ap (slice_get (x ∷ xs)) (let more : suc place ≡ place + 1 = omega arith in more)

-- the member of a number is the row at its place
pub member_at : (ms : List Member) (n : ℕ)
    → find (has_key (keys.Member n)) (map rows.Member ms)
    ≡ option_and_then (slice_get (map rows.Member ms)) (place_in ms n)
member_at [] n = refl
member_at (m ∷ ms) n = by (nat_eq m.member n) (member_at ms n)
  where
    by : (b : Bool)
        → find (has_key (keys.Member n)) (map rows.Member ms)
        ≡ option_and_then (slice_get (map rows.Member ms)) (place_in ms n)
        → cond b (Some (rows.Member m)) (find (has_key (keys.Member n)) (map rows.Member ms))
        ≡ option_and_then (slice_get (map rows.Member (m ∷ ms)))
        (cond b (Some 0) (option_map (λ place. place + 1) (place_in ms n)))
    by true rest = refl
    by false rest = rest ∙ behind (rows.Member m) (map rows.Member ms) (place_in ms n)

-- ---- halving

pub entries_rise : (es : List IndexEntry) → IsNonDecreasingBy (λ e. e.member) es → Rises (λ e. e.member ∷ []) es
entries_rise es up i j d le lt = let rises = up i j d le lt in grind (arith, nat_tests, rises)

pub row_found : (ms : List Member) (es : List IndexEntry) (n : ℕ) (o : Option IndexEntry) → IsIndex ms es
    → entry_in es n ≡ o →
    find (has_key (keys.Member n)) (map rows.Member ms)
    ≡ option_and_then (slice_get (map rows.Member ms)) (option_map (λ e. e.place) o)
row_found ms es n o h e =
    member_at ms n
    ∙ ap (option_and_then (slice_get (map rows.Member ms))) (sym (h.places n) ∙ ap (option_map (λ e. e.place)) e)

-- ---- making

-- what is there and what is left make the whole
pub listed : (es : List IndexEntry) (m : Member) (ms : List Member) (whole : List IndexEntry)
    → es ++ entries_from (length es) (m ∷ ms) ≡ whole
    → (es ++ record { member = m.member; place = length es } ∷ []) ++ entries_from (length es + 1) ms ≡ whole
listed es m ms whole e = append_assoc es _ _ ∙ e

-- no two members have one number
abbrev pub Once : List Member → Type 0
Once ms = (n : ℕ) → count_by (λ m. nat_eq m.member n) ms ≤ 1

counted_from : (p n : ℕ) (ms : List Member)
    → count_by (λ e. nat_eq e.member n) (entries_from p ms) ≡ count_by (λ m. nat_eq m.member n) ms
counted_from p n [] = refl
counted_from p n (m ∷ ms) =
    let entry : IndexEntry = record { member = m.member; place = p } in
    omega (
      arith,
      counted_from (p + 1) n ms,
      count_next (λ e. nat_eq e.member n) entry (entries_from (p + 1) ms),
      count_next (λ m. nat_eq m.member n) m ms,
    )

-- the entries in the members' order give each place
places_from : (p n : ℕ) (ms : List Member)
    → option_map (λ e. e.place) (entry_in (entries_from p ms) n) ≡ option_map (λ place. p + place) (place_in ms n)
places_from p n [] = refl
places_from p n (m ∷ ms) = by (nat_eq m.member n) (place_in ms n) (places_from (p + 1) n ms)
  where
    by : (b : Bool) (o : Option ℕ)
        → option_map (λ e. e.place) (entry_in (entries_from (p + 1) ms) n) ≡ option_map (λ place. (p + 1) + place) o
        → option_map (λ e. e.place)
        (cond b (Some record { member = m.member; place = p }) (entry_in (entries_from (p + 1) ms) n))
        ≡ option_map (λ place. p + place) (cond b (Some 0) (option_map (λ place. place + 1) o))
    by true o rest = ap Some (let same : p ≡ p + 0 = omega arith in same)
    by false None rest = rest
    by false (Some q) rest = rest ∙ ap Some (let more : (p + 1) + q ≡ p + (q + 1) = omega arith in more)

-- and so they do in any order
pub gives_places : (ms : List Member) (es : List IndexEntry) → Once ms → IsPermutation (entries_from 0 ms) es → (n : ℕ)
    → option_map (λ e. e.place) (entry_in es n) ≡ place_in ms n
gives_places ms es once moved n =
    found_alike (λ e. nat_eq e.member n) (λ e. e.place) es (entries_from 0 ms)
    (λ p. sum_by-IsPermutation (λ x. cond (p x) 1 0) (entries_from 0 ms) es moved)
    (omega (arith, counted_from 0 n ms, once n))
    ∙ places_from 0 n ms ∙ from_zero (place_in ms n)
  where
    from_zero : (o : Option ℕ) → option_map (λ place. 0 + place) o ≡ o
    from_zero None = refl
    from_zero (Some q) = ap Some (let same : 0 + q ≡ q = omega arith in same)

-- ---- good desks

-- in a good desk no two members have one number
pub once_each : (d : Desk) → good d ≡ true → Once d.members
once_each d g n =
    omega
    (arith, claimed_once d (claims.Key (keys.Member n)) (good_parts d g).alone, rows_count (has_key (keys.Member n)) d)
