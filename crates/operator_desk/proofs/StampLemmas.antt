-- The stamped calls of a log that goes on by one call.
use Rattle.std.proofs.Common.{◌≡◌, ℕ, zero, suc, ◌+◌, ◌<◌, ◌≤◌, List, [], ◌∷◌, ◌++◌, length, take, drop, sym}
use Rattle.std.proofs.Common.{ap, ◌∙◌, arith}
use Rattle.std.proofs.lemmas.List.{drop-append-le, length-take-le, take_all}
use Rattle.std.specs.Prelude.{slice_index_or}
use Rattle.std.specs.declared.sync.OnceToken.{OnceToken}
use Rattle.call_history.specs.Stamp.{StampedOf}
use Rattle.operator_desk.specs.Entry.{EntryOf}
use Rattle.operator_desk.specs.PastCalls.{stamped_from, stamped_of}
use Rattle.operator_desk.specs.inner.Tokens.{shown}
use Rattle.operator_desk.proofs.TokenLemmas.{length-shown}

-- an entry as an accepted call with its stamp
abbrev pub stamped : ℕ → EntryOf → StampedOf
stamped number e = record { made = record { number = number; op = e.op; call = e.call }; stamp = e.stamp }

-- the calls of a log that goes on
pub stamped-append : (first : ℕ) (xs ys : List EntryOf)
    → stamped_from first (xs ++ ys) ≡ stamped_from first xs ++ stamped_from (first + length xs) ys
stamped-append first [] ys = ap (λ (n : ℕ). stamped_from n ys) (let same : first ≡ first + 0 = omega arith in same)
stamped-append first (x ∷ xs) ys =
    let same : first + 1 + length xs ≡ first + suc (length xs) = omega arith in
    ap (λ ms. stamped first x ∷ ms)
    (stamped-append (first + 1) xs ys ∙ ap (λ (n : ℕ). stamped_from (first + 1) xs ++ stamped_from n ys) same)

pub length-stamped : (first : ℕ) (log : List EntryOf) → length (stamped_from first log) ≡ length log
length-stamped first [] = omega arith
length-stamped first (e ∷ log) = ap suc (length-stamped (first + 1) log)

next_from : (first : ℕ) (xs : List (OnceToken EntryOf)) (k : ℕ) (x : OnceToken EntryOf) → k < length xs
    → x ≡ slice_index_or xs k x
    → take (suc k) (stamped_from first (shown xs))
    ≡ take k (stamped_from first (shown xs)) ++ stamped (first + k) x.value ∷ []
next_from first [] k x few hx = absurd (omega arith)
next_from first (a ∷ xs) zero x few hx =
    let same : first ≡ first + 0 = omega arith in
    ap (λ (n : ℕ). stamped n a.value ∷ []) same
    ∙ ap (λ (t : OnceToken EntryOf). stamped (first + 0) t.value ∷ []) (sym hx)
next_from first (a ∷ xs) (suc k) x few hx =
    let same : first + 1 + k ≡ first + suc k = omega arith in
    ap (λ ms. stamped first a.value ∷ ms)
    (next_from (first + 1) xs k x (omega arith) hx
    ∙ ap (λ (n : ℕ). take k (stamped_from (first + 1) (shown xs)) ++ stamped n x.value ∷ []) same)

-- the accepted calls up to a place, but for the first ones, and the next one
pub stamped_next : (xs : List (OnceToken EntryOf)) (from k : ℕ) (x : OnceToken EntryOf) (m : StampedOf) → k < length xs
    → from ≤ k → x ≡ slice_index_or xs k x → m ≡ stamped (k + 1) x.value
    → drop from (take k (stamped_of (shown xs))) ++ m ∷ [] ≡ drop from (take (k + 1) (stamped_of (shown xs)))
stamped_next xs from k x m few least hx is =
    let ms = stamped_of (shown xs) in
    let many : length ms ≡ length xs = length-stamped 1 (shown xs) ∙ length-shown xs in
    let front = length-take-le k ms (omega (arith, many, few)) in
    let place : k + 1 ≡ 1 + k = omega arith in
    let next : suc k ≡ k + 1 = omega arith in
    ap (λ (y : StampedOf). drop from (take k ms) ++ y ∷ []) (is ∙ ap (λ (n : ℕ). stamped n x.value) place)
    ∙ (sym (drop-append-le from (take k ms) (stamped (1 + k) x.value ∷ []) (omega (arith, many, front)))
    ∙ ap (drop from) (sym (next_from 1 xs k x few hx) ∙ ap (λ (n : ℕ). take n ms) next))

-- all of them are the accepted calls up to the last place
pub stamped_whole : (xs : List (OnceToken EntryOf)) (k : ℕ) → length xs ≤ k
    → take k (stamped_of (shown xs)) ≡ stamped_of (shown xs)
stamped_whole xs k all =
    let many : length (stamped_of (shown xs)) ≡ length xs = length-stamped 1 (shown xs) ∙ length-shown xs in
    take_all k (stamped_of (shown xs)) (omega (arith, many))
