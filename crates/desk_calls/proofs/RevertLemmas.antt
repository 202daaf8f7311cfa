-- A call that is taken back: what is walked past, what is carried out again, and what is told.
use Rattle.std.specs.Prelude.{◌∷◌, ◌++◌, ◌||◌, ◌&&◌, ◌<◌, ◌≤◌, ◌+◌}
use Rattle.std.proofs.Common.{◌≡◌, ℕ, Bool, true, false, not, cond, List, [], reverse, fold, drop, length}
use Rattle.std.proofs.Common.{nat_eq, nat_lt, refl, sym, ap, subst, ◌∙◌, arith, Option, None, Some}
use Rattle.std.proofs.Common.{inl, inr}
use Rattle.std.specs.List.{list_all, sum_by}
use Rattle.std.specs.Option.{option_or, option_map}
use Rattle.std.proofs.lemmas.Bool.{and_parts, cases_Bool}
use Rattle.std.proofs.lemmas.Bool.Decides.{nat_tests}
use Rattle.std.proofs.lemmas.List.{reverse-append, reverse-reverse, length-reverse, length-append}
use Rattle.std.proofs.lemmas.List.Folds.{list_any-append}
use Rattle.std.proofs.lemmas.List.Sums.{sum_by-cons}
use Rattle.std.proofs.Math.Seq.{drop-append_seam}
use Rattle.undo_log.specs.laws.ListLaws.{all_absorbed}
use Rattle.desk_rows.specs.declared.key.Key.{Key}
use Rattle.desk_rows.specs.declared.row.Row.TheVariants as rows
use Rattle.desk_rows.specs.Desk.{Desk}
use Rattle.desk_rows.specs.Edit.{EditOf}
use Rattle.desk_rows.specs.Exchange.{fits as one_fits, after as one_after}
use Rattle.desk_edit.specs.declared.command.Command.{Command}
use Rattle.desk_edit.specs.declared.command.Form.{Form}
use Rattle.desk_edit.specs.declared.command.Form.TheVariants.{Put, Remove, Move}
use Rattle.desk_edit.specs.declared.refusal.Refusal.{Refusal}
use Rattle.desk_edit.specs.Forms.{form_of}
use Rattle.desk_edit.specs.Commands.{desk_after, desk_led}
use Rattle.desk_edit.specs.Groups.{desk_after_all}
use Rattle.desk_edit.specs.AsIf.{is_moved, first_in_the_way}
use Rattle.desk_edit.specs.InForce.{Entry, carries, struck_by, is_struck, from_newest}
use Rattle.desk_edit.specs.InForce.{commands_of, desk_with, desk_in_force, lower, walked, stay, falls, kept}
use Rattle.desk_edit.specs.Reverts.{revert_limit, is_far, is_made, weight, in_call, conflict, is_touched}
use Rattle.desk_edit.specs.Reverts.{told_elsewhere, elsewhere}
use Rattle.desk_edit.specs.Calls.{front}
use Rattle.desk_edit.proofs.Forcing.{both_parts}
use Rattle.desk_revert.specs.Moving.{bring_or_take}
use Rattle.desk_revert.proofs.Presence.{all_edits}
use Rattle.desk_calls.specs.Edits.{fits, after}
use Rattle.desk_calls.specs.Following.{Follows}
use Rattle.desk_calls.specs.inner.Touching.{touches, elsewhere_by}
use Rattle.desk_calls.proofs.Ends.{front_push}
use Rattle.desk_calls.proofs.FollowLaws.{as_many, one_less}

-- the newest entry first
pub newest : (rest earlier : List Entry) (e : Entry) → rest ≡ earlier ++ e ∷ [] → reverse rest ≡ e ∷ reverse earlier
newest rest earlier e is = ap reverse is ∙ reverse-append earlier (e ∷ [])

-- ---- what is walked past

-- how much an entry counts where the call of this number is taken back
abbrev pub counts : ℕ → Entry → ℕ
counts n e = cond (nat_eq e.number n) 0 (weight e.deed)

pub walked_on : (low : ℕ) (e : Entry) (es : List Entry) → nat_lt e.number low ≡ false
    → walked low (e ∷ es) ≡ e ∷ walked (lower e.deed low) es
walked_on low e es h = ap (λ b. cond b [] (e ∷ walked (lower e.deed low) es)) h

pub walked_end : (low : ℕ) (e : Entry) (es : List Entry) → nat_lt e.number low ≡ true → walked low (e ∷ es) ≡ []
walked_end low e es h = ap (λ b. cond b [] (e ∷ walked (lower e.deed low) es)) h

pub stay_on : (low : ℕ) (e : Entry) (es : List Entry) → nat_lt e.number low ≡ false
    → stay low (e ∷ es) ≡ stay (lower e.deed low) es
stay_on low e es h = ap (λ b. cond b (e ∷ es) (stay (lower e.deed low) es)) h

pub stay_end : (low : ℕ) (e : Entry) (es : List Entry) → nat_lt e.number low ≡ true → stay low (e ∷ es) ≡ e ∷ es
stay_end low e es h = ap (λ b. cond b (e ∷ es) (stay (lower e.deed low) es)) h

pub sum_on : (n low : ℕ) (e : Entry) (es : List Entry) → nat_lt e.number low ≡ false
    → sum_by (counts n) (walked low (e ∷ es)) ≡ counts n e + sum_by (counts n) (walked (lower e.deed low) es)
sum_on n low e es h =
    ap (sum_by (counts n)) (walked_on low e es h) ∙ sum_by-cons (counts n) e (walked (lower e.deed low) es)

few_in_all : (total count rest : ℕ) → count + rest ≡ total → rest ≡ 0 → count ≤ revert_limit
    → nat_lt revert_limit total ≡ false
few_in_all total count rest sum none few = grind (arith, nat_tests, sum, none, few)

many_in_all : (total count own rest all : ℕ) → count + all ≡ total → all ≡ own + rest → revert_limit < count + own
    → nat_lt revert_limit total ≡ true
many_in_all total count own rest all sum parts many = grind (arith, nat_tests, sum, parts, many)

-- at the first entry that stays
pub near_end : (n low count : ℕ) (rest entries earlier : List Entry) (e : Entry) → rest ≡ earlier ++ e ∷ []
    → nat_lt e.number low ≡ true
    → count + sum_by (counts n) (walked low (reverse rest)) ≡ sum_by (counts n) (walked n (reverse entries))
    → count ≤ revert_limit → is_far n entries ≡ false
near_end n low count rest entries earlier e is end sum few =
    let none : sum_by (counts n) (walked low (reverse rest)) ≡ 0 =
    ap (λ es. sum_by (counts n) (walked low es)) (newest rest earlier e is)
    ∙ ap (sum_by (counts n)) (walked_end low e (reverse earlier) end) in
    few_in_all (sum_by (counts n) (walked n (reverse entries))) count (sum_by (counts n) (walked low (reverse rest)))
    sum
    none few

pub base_end : (n low : ℕ) (rest entries earlier : List Entry) (e : Entry) → rest ≡ earlier ++ e ∷ []
    → nat_lt e.number low ≡ true → stay low (reverse rest) ≡ stay n (reverse entries)
    → length rest ≡ length (stay n (reverse entries))
base_end n low rest entries earlier e is end same =
    let turned = newest rest earlier e is in
    sym (length-reverse rest)
    ∙ ap length (turned ∙ sym (ap (stay low) turned ∙ stay_end low e (reverse earlier) end))
    ∙ ap length same

-- where nothing is left
pub near_none : (n low count : ℕ) (rest entries : List Entry) → rest ≡ []
    → count + sum_by (counts n) (walked low (reverse rest)) ≡ sum_by (counts n) (walked n (reverse entries))
    → count ≤ revert_limit → is_far n entries ≡ false
near_none n low count rest entries none sum few =
    few_in_all (sum_by (counts n) (walked n (reverse entries))) count (sum_by (counts n) (walked low (reverse rest)))
    sum
    (ap (λ es. sum_by (counts n) (walked low (reverse es))) none) few

pub base_none : (n low : ℕ) (rest entries : List Entry) → rest ≡ []
    → stay low (reverse rest) ≡ stay n (reverse entries) → 0 ≡ length (stay n (reverse entries))
base_none n low rest entries none same = sym (ap (λ es. length (stay low (reverse es))) none) ∙ ap length same

-- too much
pub far_on : (n low count : ℕ) (rest entries earlier : List Entry) (e : Entry) → rest ≡ earlier ++ e ∷ []
    → nat_lt e.number low ≡ false
    → count + sum_by (counts n) (walked low (reverse rest)) ≡ sum_by (counts n) (walked n (reverse entries))
    → revert_limit < count + counts n e → is_far n entries ≡ true
far_on n low count rest entries earlier e is on sum many =
    many_in_all (sum_by (counts n) (walked n (reverse entries))) count (counts n e)
    (sum_by (counts n) (walked (lower e.deed low) (reverse earlier))) (sum_by (counts n) (walked low (reverse rest)))
    sum
    (ap (λ es. sum_by (counts n) (walked low es)) (newest rest earlier e is) ∙ sum_on n low e (reverse earlier) on) many

moved_sum : (total count own rest all : ℕ) → count + all ≡ total → all ≡ own + rest → count + own + rest ≡ total
moved_sum total count own rest all sum parts = omega (arith, sum, parts)

-- one entry more is counted
pub counted_on : (n low count own next : ℕ) (rest entries earlier : List Entry) (e : Entry) → rest ≡ earlier ++ e ∷ []
    → nat_lt e.number low ≡ false
    → count + sum_by (counts n) (walked low (reverse rest)) ≡ sum_by (counts n) (walked n (reverse entries))
    → own ≡ counts n e → next ≡ lower e.deed low
    → count + own + sum_by (counts n) (walked next (reverse earlier)) ≡ sum_by (counts n) (walked n (reverse entries))
counted_on n low count own next rest entries earlier e is on sum own_is next_is =
    (λ i. count + own_is i + sum_by (counts n) (walked (next_is i) (reverse earlier)))
    ∙ moved_sum (sum_by (counts n) (walked n (reverse entries))) count (counts n e)
    (sum_by (counts n) (walked (lower e.deed low) (reverse earlier))) (sum_by (counts n) (walked low (reverse rest)))
    sum
    (ap (λ es. sum_by (counts n) (walked low es)) (newest rest earlier e is) ∙ sum_on n low e (reverse earlier) on)

pub stays_on : (n low next : ℕ) (rest entries earlier : List Entry) (e : Entry) → rest ≡ earlier ++ e ∷ []
    → nat_lt e.number low ≡ false → stay low (reverse rest) ≡ stay n (reverse entries) → next ≡ lower e.deed low
    → stay next (reverse earlier) ≡ stay n (reverse entries)
stays_on n low next rest entries earlier e is on same next_is =
    ap (λ k. stay k (reverse earlier)) next_is
    ∙ sym (ap (stay low) (newest rest earlier e is) ∙ stay_on low e (reverse earlier) on)
    ∙ same

-- those that are left of the walked ones stand behind those that stay
pub behind_kept : (n : ℕ) (done : List Entry)
    → reverse (drop (length (stay n (reverse done))) done) ≡ walked n (reverse done)
behind_kept n done =
    let up = walked n (reverse done) in
    let down = stay n (reverse done) in
    let all : done ≡ reverse down ++ reverse up =
    sym (sym (reverse-append up down) ∙ ap reverse (both_parts n (reverse done)) ∙ reverse-reverse done) in
    let long : length down ≡ length (reverse down) = sym (length-reverse down) in
    ap reverse ((λ i. drop (long i) (all i)) ∙ drop-append_seam (reverse down) (reverse up)) ∙ reverse-reverse up

pub kept_many : (n : ℕ) (done : List Entry) → length (stay n (reverse done)) ≡ length (kept n done)
kept_many n done = sym (length-reverse (stay n (reverse done)))

pub kept_few : (n : ℕ) (done : List Entry) → length (stay n (reverse done)) ≤ length done
kept_few n done =
    omega (
      arith,
      ap length (both_parts n (reverse done)),
      length-append (walked n (reverse done)) (stay n (reverse done)),
      length-reverse done,
    )

-- ---- which call is in force

pub made_turned : (n : ℕ) (es : List Entry) → is_made n (reverse es) ≡ is_made n es
made_turned n [] = refl
made_turned n (e ∷ es) =
    ap (is_made n) (reverse-append (e ∷ []) es)
    ∙ list_any-append (λ x. nat_eq n x.number) (reverse es) (e ∷ [])
    ∙ ap (λ b. b || (nat_eq n e.number || false)) (made_turned n es)
    ∙ grind arith

pub none_made : (n : ℕ) (s : List ℕ) (es : List Entry) → list_all (λ x. nat_lt x.number n) es ≡ true
    → is_made n (from_newest s es) ≡ false
none_made n s [] h = refl
none_made n s (e ∷ es) h =
    let both = and_parts (nat_lt e.number n) (list_all (λ x. nat_lt x.number n) es) h in
    let other : nat_eq n e.number ≡ false = grind (arith, nat_tests, both.0) in
    by (is_struck s e.number) (none_made n s es both.1) (none_made n (struck_by e.deed s) es both.1) other where
      by : (b : Bool) → is_made n (from_newest s es) ≡ false → is_made n (from_newest (struck_by e.deed s) es) ≡ false
          → nat_eq n e.number ≡ false
          → is_made n (cond b (from_newest s es) (e ∷ from_newest (struck_by e.deed s) es)) ≡ false
      by true one two other = one
      by false one two other = (λ i. other i || two i)

pub passed_over : (s : List ℕ) (e : Entry) (es : List Entry) → is_struck s e.number ≡ true
    → from_newest s (e ∷ es) ≡ from_newest s es
passed_over s e es h = ap (λ b. cond b (from_newest s es) (e ∷ from_newest (struck_by e.deed s) es)) h

pub taken_up : (s : List ℕ) (e : Entry) (es : List Entry) → is_struck s e.number ≡ false
    → from_newest s (e ∷ es) ≡ e ∷ from_newest (struck_by e.deed s) es
taken_up s e es h = ap (λ b. cond b (from_newest s es) (e ∷ from_newest (struck_by e.deed s) es)) h

-- the entry of the call itself tells
pub own_told : (n : ℕ) (s : List ℕ) (e : Entry) (es : List Entry) → falls (e ∷ es) ≡ true → nat_eq e.number n ≡ true
    → is_made n (from_newest s (e ∷ es)) ≡ not (is_struck s e.number)
own_told n s e es fall own =
    let below = (and_parts (list_all (λ x. nat_lt x.number e.number) es) (falls es) fall).0 in
    let same : e.number ≡ n = grind (arith, nat_tests, own) in
    elim (cases_Bool (is_struck s e.number)) [
      | inl h ↦
          ap (is_made n) (passed_over s e es h)
          ∙ none_made n s es (ap (λ k. list_all (λ x. nat_lt x.number k) es) (sym same) ∙ below)
          ∙ sym (ap not h)
      | inr h ↦
          ap (is_made n) (taken_up s e es h)
          ∙ ap (λ b. b || is_made n (from_newest (struck_by e.deed s) es)) {y = true} (grind (arith, nat_tests, own))
          ∙ sym (ap not h)
    ]

pub others_told : (n : ℕ) (s t : List ℕ) (e : Entry) (es : List Entry) → nat_eq e.number n ≡ false
    → t ≡ cond (is_struck s e.number) s (struck_by e.deed s)
    → is_made n (from_newest t es) ≡ is_made n (from_newest s (e ∷ es))
others_told n s t e es other next = elim (cases_Bool (is_struck s e.number)) [
  | inl h ↦
      ap (λ u. is_made n (from_newest u es)) (next ∙ ap (λ b. cond b s (struck_by e.deed s)) h)
      ∙ sym (ap (is_made n) (passed_over s e es h))
  | inr h ↦
      let no : nat_eq n e.number ≡ false = grind (arith, nat_tests, other) in
      ap (λ u. is_made n (from_newest u es)) (next ∙ ap (λ b. cond b s (struck_by e.deed s)) h)
      ∙ ap (λ b. b || is_made n (from_newest (struck_by e.deed s) es)) (sym no)
      ∙ sym (ap (is_made n) (taken_up s e es h))
]

-- ---- what is carried out again

pub conflict_push : (d : Desk) (es : List Entry) (e : Entry)
    → conflict d (es ++ e ∷ []) ≡ option_or (conflict d es) (conflict (fold desk_with d es) (e ∷ []))
conflict_push d [] e = refl
conflict_push d (x ∷ es) e =
    by (option_map (in_call x.number) (first_in_the_way 0 d (commands_of x.deed))) (conflict_push (desk_with d x) es e)
  where
    by : (o : Option Refusal)
        → conflict (desk_with d x) (es ++ e ∷ [])
        ≡ option_or (conflict (desk_with d x) es) (conflict (fold desk_with (desk_with d x) es) (e ∷ []))
        → option_or o (conflict (desk_with d x) (es ++ e ∷ []))
        ≡ option_or (option_or o (conflict (desk_with d x) es)) (conflict (fold desk_with (desk_with d x) es) (e ∷ []))
    by None rest = rest
    by (Some why) rest = refl

-- what stands in the way of entries behind which one more stands
pub carried_way : (d mid : Desk) (s t : List ℕ) (entries earlier : List Entry) (e : Entry)
    → entries ≡ earlier ++ e ∷ [] → is_struck s e.number ≡ false
    → t ≡ cond (is_struck s e.number) s (struck_by e.deed s)
    → mid ≡ fold desk_with d (reverse (from_newest t (reverse earlier)))
    → conflict d (reverse (from_newest t (reverse earlier))) ≡ None
    → conflict d (reverse (from_newest s (reverse entries))) ≡ conflict mid (e ∷ [])
carried_way d mid s t entries earlier e is up next before free =
    let more = from_newest (struck_by e.deed s) (reverse earlier) in
    let next_is : t ≡ struck_by e.deed s = next ∙ ap (λ b. cond b s (struck_by e.deed s)) up in
    ap (conflict d)
    (ap (λ es. reverse (from_newest s es)) (newest entries earlier e is)
    ∙ ap reverse (taken_up s e (reverse earlier) up)
    ∙ reverse-append (e ∷ []) more)
    ∙ conflict_push d (reverse more) e
    ∙ ap (λ o. option_or o (conflict (fold desk_with d (reverse more)) (e ∷ [])))
    (sym (ap (λ u. conflict d (reverse (from_newest u (reverse earlier)))) next_is) ∙ free)
    ∙ ap (λ x. conflict x (e ∷ []))
    (sym (before ∙ ap (λ u. fold desk_with d (reverse (from_newest u (reverse earlier)))) next_is))

-- what stands in the way of the first ones stands in the way of all
pub carried_stop : (d : Desk) (s t : List ℕ) (entries earlier : List Entry) (e : Entry) (why : Refusal)
    → entries ≡ earlier ++ e ∷ [] → t ≡ cond (is_struck s e.number) s (struck_by e.deed s)
    → conflict d (reverse (from_newest t (reverse earlier))) ≡ Some why
    → conflict d (reverse (from_newest s (reverse entries))) ≡ Some why
carried_stop d s t entries earlier e why is next way = elim (cases_Bool (is_struck s e.number)) [
  | inl h ↦
      ap (λ es. conflict d (reverse (from_newest s es))) (newest entries earlier e is)
      ∙ ap (λ es. conflict d (reverse es)) (passed_over s e (reverse earlier) h)
      ∙ sym (ap (λ u. conflict d (reverse (from_newest u (reverse earlier))))
      (next ∙ ap (λ b. cond b s (struck_by e.deed s)) h))
      ∙ way
  | inr h ↦
      let more = from_newest (struck_by e.deed s) (reverse earlier) in
      let next_is : t ≡ struck_by e.deed s = next ∙ ap (λ b. cond b s (struck_by e.deed s)) h in
      ap (conflict d)
      (ap (λ es. reverse (from_newest s es)) (newest entries earlier e is)
      ∙ ap reverse (taken_up s e (reverse earlier) h)
      ∙ reverse-append (e ∷ []) more)
      ∙ conflict_push d (reverse more) e
      ∙ ap (λ o. option_or o (conflict (fold desk_with d (reverse more)) (e ∷ [])))
      (sym (ap (λ u. conflict d (reverse (from_newest u (reverse earlier)))) next_is) ∙ way)
]

-- an entry that is struck is passed over
pub over : (s t : List ℕ) (entries earlier : List Entry) (e : Entry) → entries ≡ earlier ++ e ∷ []
    → is_struck s e.number ≡ true → t ≡ cond (is_struck s e.number) s (struck_by e.deed s)
    → reverse (from_newest t (reverse earlier)) ≡ reverse (from_newest s (reverse entries))
over s t entries earlier e is out next =
    sym (ap (λ es. reverse (from_newest s es)) (newest entries earlier e is)
    ∙ ap reverse (passed_over s e (reverse earlier) out)
    ∙ sym (ap (λ u. reverse (from_newest u (reverse earlier))) (next ∙ ap (λ b. cond b s (struck_by e.deed s)) out)))

pub way_both : (d mid : Desk) (s t : List ℕ) (entries earlier : List Entry) (e : Entry) (out : Bool)
    (o : Option Refusal)
    → entries ≡ earlier ++ e ∷ [] → out ≡ is_struck s e.number → t ≡ cond (is_struck s e.number) s (struck_by e.deed s)
    → mid ≡ fold desk_with d (reverse (from_newest t (reverse earlier)))
    → conflict d (reverse (from_newest t (reverse earlier))) ≡ None → cond out None (conflict mid (e ∷ [])) ≡ o
    → conflict d (reverse (from_newest s (reverse entries))) ≡ o
way_both d mid s t entries earlier e out o is told next before free way =
    elim (cases_Bool (is_struck s e.number)) [
      | inl h ↦
          sym (ap (conflict d) (over s t entries earlier e is h next))
          ∙ free
          ∙ sym (ap (λ b. cond b None (conflict mid (e ∷ []))) (told ∙ h))
          ∙ way
      | inr h ↦
          carried_way d mid s t entries earlier e is h next before free
          ∙ sym (ap (λ b. cond b None (conflict mid (e ∷ []))) (told ∙ h))
          ∙ way
    ]

pub none_carried : (d : Desk) (s : List ℕ) (entries : List Entry) → entries ≡ []
    → d ≡ fold desk_with d (reverse (from_newest s (reverse entries)))
none_carried d s entries none = sym (ap (λ es. fold desk_with d (reverse (from_newest s (reverse es)))) none)

pub none_in_the_way : (d : Desk) (s : List ℕ) (entries : List Entry) → entries ≡ []
    → conflict d (reverse (from_newest s (reverse entries))) ≡ None
none_in_the_way d s entries none = ap (λ es. conflict d (reverse (from_newest s (reverse es)))) none

-- ---- what brought or took a row

-- edits that fit bring or take what is moved
moved_by : (d e : Desk) (es : List EditOf) (key : Key) → fits d es ≡ true → after d es ≡ e
    → is_moved d e key ≡ bring_or_take es key
moved_by d e es key fit leads =
    ap (λ x. is_moved d x key) (sym leads ∙ all_absorbed one_fits one_after d es fit) ∙ all_edits d es key fit

touched_step : (start : Desk) (s : List ℕ) (low : ℕ) (key : Key) (e : Entry) (es : List Entry) (x : List EditOf)
    (xs : List (List EditOf))
    → is_moved (desk_in_force start (reverse es)) (desk_in_force start (reverse (e ∷ es))) key ≡ bring_or_take x key
    → is_touched start (cond (is_struck s e.number) s (struck_by e.deed s)) (lower e.deed low) key es
    ≡ touches (cond (is_struck s e.number) s (struck_by e.deed s)) key (walked (lower e.deed low) es) xs
    → is_touched start s low key (e ∷ es) ≡ touches s key (walked low (e ∷ es)) (x ∷ xs)
touched_step start s low key e es x xs moved rest = elim (cases_Bool (nat_lt e.number low)) [
  | inl h ↦
      ap (λ b. cond b false (((is_struck s e.number || not (carries e.deed))
      && is_moved (desk_in_force start (reverse es)) (desk_in_force start (reverse (e ∷ es))) key)
      || is_touched start (cond (is_struck s e.number) s (struck_by e.deed s)) (lower e.deed low) key es)) h
      ∙ sym (ap (λ ws. touches s key ws (x ∷ xs)) (walked_end low e es h))
  | inr h ↦
      ap (λ b. cond b false (((is_struck s e.number || not (carries e.deed))
      && is_moved (desk_in_force start (reverse es)) (desk_in_force start (reverse (e ∷ es))) key)
      || is_touched start (cond (is_struck s e.number) s (struck_by e.deed s)) (lower e.deed low) key es)) h
      ∙ (λ i. ((is_struck s e.number || not (carries e.deed)) && moved i) || rest i)
      ∙ sym (ap (λ ws. touches s key ws (x ∷ xs)) (walked_on low e es h))
]

-- the edits tell what the desks do
pub touched_by_edits : (start : Desk) (s : List ℕ) (low : ℕ) (key : Key) (es : List Entry) (xs : List (List EditOf))
    → Follows start [] (reverse es) (reverse xs) → is_touched start s low key es ≡ touches s key (walked low es) xs
touched_by_edits start s low key [] xs f = refl
touched_by_edits start s low key (e ∷ es) [] f =
    absurd (omega (
      arith,
      as_many start [] (reverse (e ∷ es)) [] f,
      ap length (reverse-append (e ∷ []) es),
      length-append (reverse es) (e ∷ []),
    ))
touched_by_edits start s low key (e ∷ es) (x ∷ xs) f =
    let turned : reverse (e ∷ es) ≡ reverse es ++ e ∷ [] = reverse-append (e ∷ []) es in
    let less =
    one_less start [] (reverse es ++ e ∷ []) (reverse xs) x
    (subst (λ ys. Follows start [] (reverse es ++ e ∷ []) ys) (reverse-append (x ∷ []) xs)
    (subst (λ cs. Follows start [] cs (reverse (x ∷ xs))) turned f)) in
    let init : less.init ≡ reverse es =
    sym (front_push less.init less.last) ∙ ap front (sym less.is) ∙ front_push (reverse es) e in
    let fit : fits (desk_in_force start (reverse es)) x ≡ true =
    ap (λ i. fits (desk_in_force start i) x) (sym init) ∙ less.fits in
    let leads : after (desk_in_force start (reverse es)) x ≡ desk_in_force start (reverse (e ∷ es)) =
    ap (λ i. after (desk_in_force start i) x) (sym init)
    ∙ less.leads
    ∙ ap (λ cs. desk_in_force start cs) (sym turned) in
    touched_step start s low key e es x xs
    (moved_by (desk_in_force start (reverse es)) (desk_in_force start (reverse (e ∷ es))) x key fit leads)
    (touched_by_edits start (cond (is_struck s e.number) s (struck_by e.deed s)) (lower e.deed low) key es xs
    (subst (λ cs. Follows start [] cs (reverse xs)) init less.follows))

pub elsewhere_by_edits : (start : Desk) (n : ℕ) (done : List Entry) (edits : List (List EditOf)) (keys : List Key)
    → Follows start [] done edits
    → elsewhere start n done keys ≡ elsewhere_by n (walked n (reverse done)) (reverse edits) keys
elsewhere_by_edits start n done edits [] f = refl
elsewhere_by_edits start n done edits (key ∷ ks) f =
    let follows : Follows start [] (reverse (reverse done)) (reverse (reverse edits)) =
    subst (λ xs. Follows start [] (reverse (reverse done)) xs) (sym (reverse-reverse edits))
    (subst (λ cs. Follows start [] cs edits) (sym (reverse-reverse done)) f) in
    let here = touched_by_edits start (n ∷ []) n key (reverse done) (reverse edits) follows in
    let rest = elsewhere_by_edits start n done edits ks f in
    λ i. option_or (cond (here i) None (told_elsewhere key)) (rest i)

-- ---- the bridge stays the same

led_bridge : (d : Desk) (f : Form) → (desk_led d f).bridge_ssrc ≡ d.bridge_ssrc
led_bridge d (Put (rows.Room r)) = refl
led_bridge d (Put (rows.Member r)) = refl
led_bridge d (Put (rows.Source r)) = refl
led_bridge d (Put (rows.Slot r)) = refl
led_bridge d (Put (rows.Sub r)) = refl
led_bridge d (Put (rows.Mute r)) = refl
led_bridge d (Put (rows.Gain r)) = refl
led_bridge d (Put (rows.Pin r)) = refl
led_bridge d (Put (rows.Floor r)) = refl
led_bridge d (Remove key) = refl
led_bridge d (Move member room) = refl

after_bridge : (d : Desk) (command : Command) → (desk_after d command).bridge_ssrc ≡ d.bridge_ssrc
unfolding desk_after
after_bridge d command = led_bridge d (form_of command)

all_bridge : (d : Desk) (commands : List Command) → (desk_after_all d commands).bridge_ssrc ≡ d.bridge_ssrc
all_bridge d [] = refl
all_bridge d (c ∷ cs) = all_bridge (desk_after d c) cs ∙ after_bridge d c

pub entries_bridge : (d : Desk) (es : List Entry) → (fold desk_with d es).bridge_ssrc ≡ d.bridge_ssrc
entries_bridge d [] = refl
entries_bridge d (e ∷ es) = entries_bridge (desk_with d e) es ∙ all_bridge d (commands_of e.deed)

-- ---- the entries one after another, with their edits

last_first : {X : Type 0} (rest earlier : List X) (x : X) → rest ≡ earlier ++ x ∷ []
    → reverse rest ≡ x ∷ reverse earlier
last_first rest earlier x is = ap reverse is ∙ reverse-append earlier (x ∷ [])

both_last : (s : List ℕ) (key : Key) (rest earlier : List Entry) (e : Entry) (left before : List (List EditOf))
    (x : List EditOf) → rest ≡ earlier ++ e ∷ [] → left ≡ before ++ x ∷ []
    → touches s key (reverse rest) (reverse left) ≡ touches s key (e ∷ reverse earlier) (x ∷ reverse before)
both_last s key rest earlier e left before x is has =
    λ i. touches s key (last_first rest earlier e is i) (last_first left before x has i)

-- this entry tells
pub touch_here : (s : List ℕ) (key : Key) (rest earlier : List Entry) (e : Entry) (left before : List (List EditOf))
    (x : List EditOf) → rest ≡ earlier ++ e ∷ [] → left ≡ before ++ x ∷ []
    → ((is_struck s e.number || not (carries e.deed)) && bring_or_take x key) ≡ true
    → touches s key (reverse rest) (reverse left) ≡ true
touch_here s key rest earlier e left before x is has brings =
    both_last s key rest earlier e left before x is has
    ∙ (λ i. brings i
    || touches (cond (is_struck s e.number) s (struck_by e.deed s)) key (reverse earlier) (reverse before))

-- those before it tell
pub touch_on : (s t : List ℕ) (key : Key) (rest earlier : List Entry) (e : Entry) (left before : List (List EditOf))
    (x : List EditOf) → rest ≡ earlier ++ e ∷ [] → left ≡ before ++ x ∷ []
    → ((is_struck s e.number || not (carries e.deed)) && bring_or_take x key) ≡ false
    → t ≡ cond (is_struck s e.number) s (struck_by e.deed s)
    → touches t key (reverse earlier) (reverse before) ≡ touches s key (reverse rest) (reverse left)
touch_on s t key rest earlier e left before x is has none next =
    ap (λ u. touches u key (reverse earlier) (reverse before)) next
    ∙ sym (both_last s key rest earlier e left before x is has
    ∙ (λ i. none i
    || touches (cond (is_struck s e.number) s (struck_by e.deed s)) key (reverse earlier) (reverse before)))

pub touch_none : (s : List ℕ) (key : Key) (rest : List Entry) (left : List (List EditOf)) → rest ≡ []
    → touches s key (reverse rest) (reverse left) ≡ false
touch_none s key rest left none = ap (λ es. touches s key (reverse es) (reverse left)) none
