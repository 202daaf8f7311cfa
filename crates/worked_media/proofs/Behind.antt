-- What stands at the end of a list that is known in two ways.
use Rattle.std.proofs.Common.{◌≡◌, ℕ, List, [], ◌∷◌, ◌++◌, length, map, Option, None, Some, IfSome, ap, sym, arith, ◌∙◌}
use Rattle.std.proofs.lemmas.List.{append_assoc, append-nil, append_cancel_left}
use Rattle.std.specs.List.{slice_get}
use Rattle.std.specs.Option.{option_map}
use Rattle.forward_rewrite.specs.declared.counts.Counts.{Counts}
use Rattle.forward_rewrite.specs.Mixes.{MixOf, MixTick, GivesTick, HasMixed, mix_list}
use Rattle.forward_rewrite.specs.Sending.{Sending, Numbered}
use Rattle.forward_rewrite.specs.Timestamps.{Stamped, last_of}
use Rattle.forward_rewrite.specs.laws.Laws.{KeepsTime, ts_behind}

abbrev head_or : {A : Type 0} → A → List A → A
head_or x [] = x
head_or x (y ∷ ys) = y

abbrev second_or : {A : Type 0} → A → List A → A
second_or x [] = x
second_or x (y ∷ ys) = head_or x ys

-- two frames under their timestamps, by what is known of any list of frames
pub stamped_two : (xs : List Stamped) (s next : Sending) (t : ℕ) → map (λ (x : Stamped). x.sending) xs ≡ s ∷ next ∷ []
    → IfSome (slice_get xs 0) (λ x. x.ts ≡ t) → KeepsTime xs
    → IfSome (last_of xs) (λ x. x.ts ≡ ts_behind (record { sending = s; ts = t }) next)
stamped_two [] s next t is first goes = first
stamped_two (x ∷ []) s next t is first goes = omega (arith, ap length is)
stamped_two (x ∷ y ∷ z ∷ xs) s next t is first goes = omega (arith, ap length is)
stamped_two (x ∷ y ∷ []) s next t is first goes =
    goes.0
    ∙ ap (ts_behind x) (ap (second_or x.sending) is)
    ∙ ap (λ s. ts_behind (record { sending = s; ts = x.ts }) next) (ap (head_or x.sending) is)
    ∙ ap (λ t. ts_behind (record { sending = s; ts = t }) next) first

pub two-behind : {A : Type 0} (xs : List A) (x y p q : A) → (xs ++ x ∷ []) ++ y ∷ [] ≡ xs ++ p ∷ q ∷ []
    → (x ≡ p) × (y ≡ q)
two-behind xs x y p q e =
    let same = append_cancel_left xs (x ∷ y ∷ []) (p ∷ q ∷ []) (sym (append_assoc xs (x ∷ []) (y ∷ [])) ∙ e) in
    (ap (head_or x) same, ap (second_or x) same)

-- what is told of the last frame has its timestamp
pub ts-told : (f : Stamped → Counts) → ((x : Stamped) → (f x).ts ≡ x.ts) → (o : Option Stamped) (t : ℕ)
    → IfSome o (λ x. x.ts ≡ t) → IfSome (option_map f o) (λ n. n.ts ≡ t)
ts-told f same None t is = tt
ts-told f same (Some x) t is = same x ∙ is

-- what two packets make of a mix, a silent tick between them
pub three-ticks : (m n o p : MixOf) (first_seq first_ts : ℕ) (before : List MixTick) (one two three : MixTick)
    (a b : Numbered)
    → n.ssrc ≡ m.ssrc → o.ssrc ≡ n.ssrc → GivesTick m n one (a ∷ []) → GivesTick n o two []
    → GivesTick o p three (b ∷ []) → HasMixed m first_seq first_ts before
    → mix_list m.ssrc first_seq first_ts (before ++ one ∷ two ∷ three ∷ [])
    ≡ (mix_list m.ssrc first_seq first_ts before ++ a ∷ []) ++ b ∷ []
three-ticks m n o p first_seq first_ts before one two three a b same again g h i mixed =
    let spoken = before ++ one ∷ [] in
    let paused = spoken ++ two ∷ [] in
    let first = g first_seq first_ts before mixed in
    let second = h first_seq first_ts spoken first.1 in
    let third = i first_seq first_ts paused second.1 in
    ap (mix_list m.ssrc first_seq first_ts) (sym (ap (λ ticks. ticks ++ three ∷ [])
    (append_assoc before (one ∷ []) (two ∷ []))
    ∙ append_assoc before (one ∷ two ∷ []) (three ∷ [])))
    ∙ ap (λ ssrc. mix_list ssrc first_seq first_ts (paused ++ three ∷ [])) (sym (again ∙ same))
    ∙ third.0
    ∙ ap (λ sent. sent ++ b ∷ []) (
    ap (λ ssrc. mix_list ssrc first_seq first_ts paused) again
    ∙ second.0
    ∙ append-nil (mix_list n.ssrc first_seq first_ts spoken)
    ∙ ap (λ ssrc. mix_list ssrc first_seq first_ts spoken) same
    ∙ first.0)
