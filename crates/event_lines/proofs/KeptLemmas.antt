-- What a budget keeps, after one more answer.
use Rattle.std.proofs.Common.{◌≡◌, ℕ, ◌+◌, ◌-◌, ◌<◌, ◌≤◌, Bool, true, false, cond, nat_lt, List, [], ◌∷◌}
use Rattle.std.proofs.Common.{◌++◌, length, refl, sym, ap, ◌∙◌, subst, arith, length-append, append-nil}
use Rattle.std.specs.Prelude.{filter, min}
use Rattle.std.proofs.lemmas.Bool.Decides.{nat_tests}
use Rattle.std.proofs.lemmas.Bool.{and_parts}
use Rattle.std.proofs.lemmas.List.Elements.{filter-append}
use Rattle.event_lines.specs.inner.Kept.{IsKept}
use Rattle.event_lines.specs.Lines.{LineAnswer, wrote, left, told, second, most_lines, most_events, moments}
use Rattle.event_lines.specs.Lines.{left_events, told_events, is_within, is_recent, AreFew}

pub moments-append : (a b : List LineAnswer) → moments (a ++ b) ≡ moments a ++ moments b
moments-append [] b = refl
moments-append (wrote at ∷ a) b = ap (λ (l : List ℕ). at ∷ l) (moments-append a b)
moments-append (left events ∷ a) b = moments-append a b
moments-append (told at events ∷ a) b = ap (λ (l : List ℕ). at ∷ l) (moments-append a b)

arith_refl : (n : ℕ) → n ≡ 0 + n
arith_refl n = omega arith

pub left_events-append : (a b : List LineAnswer) → left_events (a ++ b) ≡ left_events a + left_events b
left_events-append [] b = arith_refl (left_events b)
left_events-append (wrote at ∷ a) b = left_events-append a b
left_events-append (left events ∷ a) b = let h = left_events-append a b in omega (arith, h)
left_events-append (told at events ∷ a) b = left_events-append a b

pub told_events-append : (a b : List LineAnswer) → told_events (a ++ b) ≡ told_events a + told_events b
told_events-append [] b = arith_refl (told_events b)
told_events-append (wrote at ∷ a) b = told_events-append a b
told_events-append (left events ∷ a) b = told_events-append a b
told_events-append (told at events ∷ a) b = let h = told_events-append a b in omega (arith, h)

-- a line that is recent later is recent before
recent_before : (now later at : ℕ) → now ≤ later → is_recent later at ≡ true → is_recent now at ≡ true
recent_before now later at le h = grind (arith, nat_tests)

-- what is recent later, among what is recent before
pub recent_among : (now later : ℕ) (lines : List ℕ) → now ≤ later
    → filter (is_recent later) (filter (is_recent now) lines) ≡ filter (is_recent later) lines
recent_among now later [] le = refl
recent_among now later (at ∷ lines) le = by (is_recent now at) refl (recent_among now later lines le)
  where
    not_later : is_recent now at ≡ false → (b : Bool) → is_recent later at ≡ b → b ≡ false
    not_later old false e = refl
    not_later old true e = (let k = sym old ∙ recent_before now later at le e in absurd (cc))

    by : (b : Bool) → is_recent now at ≡ b
        → filter (is_recent later) (filter (is_recent now) lines) ≡ filter (is_recent later) lines
        → filter (is_recent later) (cond b (at ∷ filter (is_recent now) lines) (filter (is_recent now) lines))
        ≡ cond (is_recent later at) (at ∷ filter (is_recent later) lines) (filter (is_recent later) lines)
    by true e rest = ap (λ (l : List ℕ). cond (is_recent later at) (at ∷ l) l) rest
    by false e rest =
        rest
        ∙ sym (ap (λ (b : Bool). cond b (at ∷ filter (is_recent later) lines) (filter (is_recent later) lines))
        (not_later e (is_recent later at) refl))

-- a line of the same second as a moment is recent at it
within_recent : (from now at : ℕ) → is_within from now ≡ true → is_within from at ≡ true → is_recent now at ≡ true
within_recent from now at h k = grind (arith, nat_tests, and_parts)

-- so many lines at most are of a moment's second
few_within : (from now : ℕ) (lines : List ℕ) → is_within from now ≡ true
    → length (filter (is_within from) lines) ≤ length (filter (is_recent now) lines)
few_within from now [] h = omega arith
few_within from now (at ∷ lines) h = by (is_within from at) refl (is_recent now at) refl (few_within from now lines h)
  where
    by : (b : Bool) → is_within from at ≡ b → (c : Bool) → is_recent now at ≡ c
        → length (filter (is_within from) lines) ≤ length (filter (is_recent now) lines)
        → length (cond b (at ∷ filter (is_within from) lines) (filter (is_within from) lines))
        ≤ length (cond c (at ∷ filter (is_recent now) lines) (filter (is_recent now) lines))
    by true e true f rest = omega (arith, rest)
    by true e false f rest = (let k = sym f ∙ within_recent from now at h e in absurd (cc))
    by false e true f rest = omega (arith, rest)
    by false e false f rest = rest

-- one more line where there is room leaves few
pub few_after : (now : ℕ) (lines : List ℕ) → AreFew lines
    → nat_lt (length (filter (is_recent now) lines)) most_lines ≡ true → AreFew (lines ++ now ∷ [])
few_after now lines few room from = by (is_within from now) refl
  where
    split : length (filter (is_within from) (lines ++ now ∷ []))
        ≡ length (filter (is_within from) lines) + length (filter (is_within from) (now ∷ []))
    split =
        ap length (filter-append (is_within from) lines (now ∷ []))
        ∙ length-append (filter (is_within from) lines) (filter (is_within from) (now ∷ []))

    one : (b : Bool) → is_within from now ≡ b → length (filter (is_within from) (now ∷ [])) ≡ cond b 1 0
    one true e = ap (λ (c : Bool). length (cond c (now ∷ []) [])) e
    one false e = ap (λ (c : Bool). length (cond c (now ∷ []) [])) e

    by : (b : Bool) → is_within from now ≡ b → length (filter (is_within from) (lines ++ now ∷ [])) ≤ most_lines
    by true e =
        (let s = split in
        let o = one true e in let less = few_within from now lines e in grind (arith, nat_tests, s, o, less, room))
    by false e = (let s = split in let o = one false e in let f = few from in omega (arith, s, o, f))

-- a filter keeps no more than there is
short_filter : (p : ℕ → Bool) (lines : List ℕ) → length (filter p lines) ≤ length lines
short_filter p [] = omega arith
short_filter p (at ∷ lines) = by (p at) (short_filter p lines)
  where
    by : (b : Bool) → length (filter p lines) ≤ length lines
        → length (cond b (at ∷ filter p lines) (filter p lines)) ≤ length (at ∷ lines)
    by true rest = omega (arith, rest)
    by false rest = omega (arith, rest)

-- what is kept at a later moment
pub moved : (recent : List ℕ) (capacity : ℕ) (answers : List LineAnswer) (latest untold now : ℕ)
    → IsKept recent capacity answers latest untold → latest ≤ now
    → IsKept (filter (is_recent now) recent) capacity answers now untold
moved recent capacity answers latest untold now k le = record {
  memory = k.memory;
  short = (let a = short_filter (is_recent now) recent in let b = k.short in omega (arith, a, b));
  recent_is = λ later after. k.recent_is later (omega (arith, le, after)) ∙ sym (recent_among now later recent after);
  few = k.few;
  counted = k.counted;
}

-- there is room by what is kept if there is by all that was written
pub room_is : (recent : List ℕ) (capacity : ℕ) (answers : List LineAnswer) (latest untold now : ℕ)
    → IsKept recent capacity answers latest untold → latest ≤ now
    → length (filter (is_recent now) recent) ≡ length (filter (is_recent now) (moments answers))
room_is recent capacity answers latest untold now k le = ap length (sym (k.recent_is now le))

-- what is kept after a line
line_kept : (recent : List ℕ) (capacity : ℕ) (answers : List LineAnswer) (latest untold now : ℕ) (answer : LineAnswer)
    (after : ℕ)
    → IsKept recent capacity answers latest untold → latest ≤ now → length (filter (is_recent now) recent) < most_lines
    → moments (answers ++ answer ∷ []) ≡ moments answers ++ now ∷ []
    → (left_events (answers ++ answer ∷ []) ≤ most_events
    → left_events (answers ++ answer ∷ []) ≡ told_events (answers ++ answer ∷ []) + after)
    → IsKept (filter (is_recent now) recent ++ now ∷ []) capacity (answers ++ answer ∷ []) now after
line_kept recent capacity answers latest untold now answer after k le room lines counted =
    let kept = filter (is_recent now) recent in
    let here = moved recent capacity answers latest untold now k le in
    let same = room_is recent capacity answers latest untold now k le in
    record {
      memory = k.memory;
      short = (let a = length-append kept (now ∷ []) in omega (arith, a, room));
      recent_is = λ later past. ap (filter (is_recent later)) lines
          ∙ (filter-append (is_recent later) (moments answers) (now ∷ [])
          ∙ (ap (λ (l : List ℕ). l ++ filter (is_recent later) (now ∷ [])) (here.recent_is later past)
          ∙ sym (filter-append (is_recent later) kept (now ∷ []))));
      few = subst AreFew (sym lines) (few_after now (moments answers) k.few (grind (arith, nat_tests, same, room)));
      counted = counted;
    }

-- after the line of an event
pub wrote_kept : (recent : List ℕ) (capacity : ℕ) (answers : List LineAnswer) (latest untold now : ℕ)
    → IsKept recent capacity answers latest untold → latest ≤ now → length (filter (is_recent now) recent) < most_lines
    → IsKept (filter (is_recent now) recent ++ now ∷ []) capacity (answers ++ wrote now ∷ []) now untold
wrote_kept recent capacity answers latest untold now k le room =
    line_kept recent capacity answers latest untold now (wrote now) untold k le room
    (moments-append answers (wrote now ∷ [])) same
  where
    same : left_events (answers ++ wrote now ∷ []) ≤ most_events
        → left_events (answers ++ wrote now ∷ []) ≡ told_events (answers ++ wrote now ∷ []) + untold
    same fits =
        (let a = left_events-append answers (wrote now ∷ []) in let b = told_events-append answers (wrote now ∷ []) in
        let c = k.counted (omega (arith, a, fits)) in omega (arith, a, b, c))

-- after a line that told of all events without one
pub told_kept : (recent : List ℕ) (capacity : ℕ) (answers : List LineAnswer) (latest untold now : ℕ)
    → IsKept recent capacity answers latest untold → latest ≤ now → length (filter (is_recent now) recent) < most_lines
    → IsKept (filter (is_recent now) recent ++ now ∷ []) capacity (answers ++ told now untold ∷ []) now 0
told_kept recent capacity answers latest untold now k le room =
    line_kept recent capacity answers latest untold now (told now untold) 0 k le room
    (moments-append answers (told now untold ∷ [])) same
  where
    same : left_events (answers ++ told now untold ∷ []) ≤ most_events
        → left_events (answers ++ told now untold ∷ []) ≡ told_events (answers ++ told now untold ∷ []) + 0
    same fits =
        (let a = left_events-append answers (told now untold ∷ []) in
        let b = told_events-append answers (told now untold ∷ []) in
        let c = k.counted (omega (arith, a, fits)) in omega (arith, a, b, c))

-- the lesser of two numbers of which one is known to be it
min_left : (a b : ℕ) → a ≤ b → min a b ≡ a
min_left a b le = grind (arith, nat_tests)

-- after events without a line
pub left_kept : (recent : List ℕ) (capacity : ℕ) (answers : List LineAnswer) (latest untold events : ℕ)
    → IsKept recent capacity answers latest untold
    → IsKept recent capacity (answers ++ left events ∷ []) latest (min (untold + events) most_events)
left_kept recent capacity answers latest untold events k = record {
  memory = k.memory;
  short = k.short;
  recent_is = λ later past. ap (filter (is_recent later)) lines ∙ k.recent_is later past;
  few = subst AreFew (sym lines) k.few;
  counted = same;
}
  where
    lines : moments (answers ++ left events ∷ []) ≡ moments answers
    lines = moments-append answers (left events ∷ []) ∙ append-nil (moments answers)

    same : left_events (answers ++ left events ∷ []) ≤ most_events
        → left_events (answers ++ left events ∷ [])
        ≡ told_events (answers ++ left events ∷ []) + min (untold + events) most_events
    same fits =
        (let a = left_events-append answers (left events ∷ []) in
        let b = told_events-append answers (left events ∷ []) in
        let c = k.counted (omega (arith, a, fits)) in
        let d = min_left (untold + events) most_events (omega (arith, a, c, fits)) in omega (arith, a, b, c, d))

-- what is kept, in other terms
pub same_kept : {recent others : List ℕ} {capacity place : ℕ} {answers more : List LineAnswer} {now untold left : ℕ}
    → others ≡ recent → place ≡ capacity → more ≡ answers → left ≡ untold → IsKept recent capacity answers now untold
    → IsKept others place more now left
same_kept {recent} {others} {capacity} {place} {answers} {more} {now} {untold} {left} a b c d k =
    subst (λ (l : List ℕ). IsKept l place more now left) (sym a)
    (subst (λ (n : ℕ). IsKept recent n more now left) (sym b)
    (subst (λ (l : List LineAnswer). IsKept recent capacity l now left) (sym c)
    (subst (λ (n : ℕ). IsKept recent capacity answers now n) (sym d) k)))
