-- The lists of a log that goes on by one call.
use Rattle.std.proofs.Common.{◌≡◌, ℕ, zero, suc, ◌+◌, ◌<◌, ◌≤◌, List, [], ◌∷◌, ◌++◌, length, take, drop, sym, ap, ◌∙◌}
use Rattle.std.proofs.Common.{arith}
use Rattle.std.proofs.lemmas.List.{drop-append-le, length-take-le, take_all}
use Rattle.std.proofs.lemmas.List.Sums.{fold_push}
use Rattle.std.specs.Prelude.{slice_index_or}
use Rattle.std.specs.declared.sync.OnceToken.{OnceToken}
use Rattle.call_history.specs.AcceptedCall.{AcceptedOf}
use Rattle.call_history.specs.Lists.{ListsOf, no_lists, with_call, lists_of}
use Rattle.operator_desk.specs.Entry.{EntryOf}
use Rattle.operator_desk.specs.PastCalls.{made_from, made_of, lists_in}
use Rattle.operator_desk.specs.inner.Tokens.{shown}
use Rattle.operator_desk.proofs.TokenLemmas.{length-shown}

-- an entry as an accepted call
abbrev pub made : ℕ → EntryOf → AcceptedOf
made number e = record { number = number; op = e.op; call = e.call }

-- the calls of a log that goes on
pub made-append : (first : ℕ) (xs ys : List EntryOf)
    → made_from first (xs ++ ys) ≡ made_from first xs ++ made_from (first + length xs) ys
made-append first [] ys = ap (λ (n : ℕ). made_from n ys) (let same : first ≡ first + 0 = omega arith in same)
made-append first (x ∷ xs) ys =
    let same : first + 1 + length xs ≡ first + suc (length xs) = omega arith in
    ap (λ ms. made first x ∷ ms)
    (made-append (first + 1) xs ys ∙ ap (λ (n : ℕ). made_from (first + 1) xs ++ made_from n ys) same)

-- the next call goes into the lists
pub lists-push : (log : List EntryOf) (e : EntryOf) (m : AcceptedOf) → m ≡ made (length log + 1) e
    → with_call (lists_in log) e.call m ≡ lists_in (log ++ e ∷ [])
lists-push log e m is =
    let next = made (1 + length log) e in
    let place : length log + 1 ≡ 1 + length log = omega arith in
    let same : m ≡ next = is ∙ ap (λ (n : ℕ). made n e) place in
    let step = λ (l : ListsOf) (x : AcceptedOf). with_call l x.call x in
    ap (λ (x : AcceptedOf). with_call (lists_in log) e.call x) same
    ∙ (sym (fold_push step no_lists (made_of log) next)
    ∙ ap lists_of (sym (made-append 1 log (e ∷ []))))

pub length-made : (first : ℕ) (log : List EntryOf) → length (made_from first log) ≡ length log
length-made first [] = omega arith
length-made first (e ∷ log) = ap suc (length-made (first + 1) log)

next_from : (first : ℕ) (xs : List (OnceToken EntryOf)) (k : ℕ) (x : OnceToken EntryOf) → k < length xs
    → x ≡ slice_index_or xs k x
    → take (suc k) (made_from first (shown xs)) ≡ take k (made_from first (shown xs)) ++ made (first + k) x.value ∷ []
next_from first [] k x few hx = absurd (omega arith)
next_from first (a ∷ xs) zero x few hx =
    let same : first ≡ first + 0 = omega arith in
    ap (λ (n : ℕ). made n a.value ∷ []) same
    ∙ ap (λ (t : OnceToken EntryOf). made (first + 0) t.value ∷ []) (sym hx)
next_from first (a ∷ xs) (suc k) x few hx =
    let same : first + 1 + k ≡ first + suc k = omega arith in
    ap (λ ms. made first a.value ∷ ms)
    (next_from (first + 1) xs k x (omega arith) hx
    ∙ ap (λ (n : ℕ). take k (made_from (first + 1) (shown xs)) ++ made n x.value ∷ []) same)

-- the accepted calls up to a place, but for the first ones, and the next one
pub made_next : (xs : List (OnceToken EntryOf)) (from k : ℕ) (x : OnceToken EntryOf) (m : AcceptedOf) → k < length xs
    → from ≤ k → x ≡ slice_index_or xs k x → m ≡ made (k + 1) x.value
    → drop from (take k (made_of (shown xs))) ++ m ∷ [] ≡ drop from (take (k + 1) (made_of (shown xs)))
made_next xs from k x m few least hx is =
    let ms = made_of (shown xs) in
    let many : length ms ≡ length xs = length-made 1 (shown xs) ∙ length-shown xs in
    let front = length-take-le k ms (omega (arith, many, few)) in
    let place : k + 1 ≡ 1 + k = omega arith in
    let next : suc k ≡ k + 1 = omega arith in
    ap (λ (y : AcceptedOf). drop from (take k ms) ++ y ∷ []) (is ∙ ap (λ (n : ℕ). made n x.value) place)
    ∙ (sym (drop-append-le from (take k ms) (made (1 + k) x.value ∷ []) (omega (arith, many, front)))
    ∙ ap (drop from) (sym (next_from 1 xs k x few hx) ∙ ap (λ (n : ℕ). take n ms) next))

-- all of them are the accepted calls up to the last place
pub made_whole : (xs : List (OnceToken EntryOf)) (k : ℕ) → length xs ≤ k
    → take k (made_of (shown xs)) ≡ made_of (shown xs)
made_whole xs k all =
    let many : length (made_of (shown xs)) ≡ length xs = length-made 1 (shown xs) ∙ length-shown xs in
    take_all k (made_of (shown xs)) (omega (arith, many))
