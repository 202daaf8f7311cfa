-- Requests to one source, over steps: they are half a second apart.
use Rattle.std.proofs.Common.{◌≡◌, ℕ, ◌+◌, ◌-◌, ◌≤◌, ◌<◌, Bool, true, false, cond, ◌&&◌, ◌||◌, not, nat_eq, nat_lt}
use Rattle.std.proofs.Common.{nat_le, List, [], ◌∷◌, ◌++◌, map, Option, None, Some, inl, inr, refl, sym, ap, ◌∙◌, subst}
use Rattle.std.proofs.Common.{arith}
use Rattle.std.specs.Prelude.{filter, count_by, ◌⊎◌}
use Rattle.std.specs.List.{list_any}
use Rattle.std.proofs.lemmas.List.Folds.{list_any-append}
use Rattle.std.proofs.lemmas.List.Sums.{sum_by-cons}
use Rattle.std.proofs.lemmas.Bool.Decides.{nat_tests}
use Rattle.picture_requests.specs.declared.source.VideoSource.{VideoSource}
use Rattle.picture_requests.specs.declared.sending.SentRequest.{SentRequest}
use Rattle.picture_requests.specs.Sources.{same_source, is_among}
use Rattle.picture_requests.specs.Requests.{RequestsOf, request_gap, is_recent, asked_lately, due}
use Rattle.picture_requests.specs.Steps.{RequestStep, see, want, ask, after_step, asks_of, AreDue, AreInOrder}
use Rattle.picture_requests.specs.Steps.{AreSpaced}
use Rattle.picture_requests.proofs.Same.{source_is, source_itself}
use Rattle.picture_requests.proofs.Waits.{among_filtered, wanted, asked, sent_of}

-- the request to this source at this moment
abbrev pub is_that : VideoSource → ℕ → SentRequest → Bool
is_that s m r = same_source s r.source && nat_eq m r.moment

-- it is kept
abbrev pub is_kept : VideoSource → ℕ → List SentRequest → Bool
is_kept s m sent = list_any (is_that s m) sent

-- The last request to a source is kept, or it is half a second old.
abbrev pub Keeps : ℕ → VideoSource → Option ℕ → List SentRequest → Type 0
Keeps now s None sent = Unit {0}
Keeps now s (Some m) sent = (m ≤ now) × ((m + request_gap ≤ now) ⊎ (is_kept s m sent ≡ true))

-- These moments are half a second apart, and the first one from the last one before them.
abbrev pub SpacedFrom : Option ℕ → List ℕ → Type 0
SpacedFrom None ms = AreSpaced ms
SpacedFrom (Some m) ms = AreSpaced (m ∷ ms)

both : (a b : Bool) → (a && b) ≡ true → (a ≡ true) × (b ≡ true)
both true b h = (refl, h)
both false b h = cc

moment_is : (m n : ℕ) → nat_eq m n ≡ true → m ≡ n
moment_is m n h = grind (arith, nat_tests)

-- a request is recent, or half a second old
old_or_recent : (m now : ℕ) (r : SentRequest) → r.moment ≡ m → m ≤ now
    → (m + request_gap ≤ now) ⊎ (is_recent now r ≡ true)
old_or_recent m now r e le = by (nat_lt (now - m) request_gap) refl
  where
    by : (b : Bool) → nat_lt (now - m) request_gap ≡ b → (m + request_gap ≤ now) ⊎ (is_recent now r ≡ true)
    by true t =
        inr (subst (λ (k : ℕ). (nat_lt (now - k) request_gap && nat_lt (k - now) request_gap) ≡ true) (sym e)
        (let none : nat_lt (m - now) request_gap ≡ true = grind (arith, nat_tests, le) in
        ap (λ b. b && nat_lt (m - now) request_gap) t ∙ none))
    by false f = inl (grind (arith, nat_tests, le, f))

-- so it stays kept until it is that old
kept_recent : (s : VideoSource) (m now : ℕ) (sent : List SentRequest) → m ≤ now → is_kept s m sent ≡ true
    → (m + request_gap ≤ now) ⊎ (is_kept s m (filter (is_recent now) sent) ≡ true)
kept_recent s m now [] le h = absurd (cc)
kept_recent s m now (r ∷ sent) le h = by (is_that s m r) refl h (kept_recent s m now sent le)
  where
    first : is_that s m r ≡ true → (b : Bool) → b ≡ true
        → is_kept s m (cond b (r ∷ filter (is_recent now) sent) (filter (is_recent now) sent)) ≡ true
    first t true e = ap (λ c. c || is_kept s m (filter (is_recent now) sent)) t
    first t false e = absurd (cc)

    later : (b : Bool) → is_kept s m (filter (is_recent now) sent) ≡ true
        → is_kept s m (cond b (r ∷ filter (is_recent now) sent) (filter (is_recent now) sent)) ≡ true
    later true k = or_true (is_that s m r) (is_kept s m (filter (is_recent now) sent)) k
      where
        or_true : (a b : Bool) → b ≡ true → (a || b) ≡ true
        or_true true b h = refl
        or_true false b h = h
    later false k = k

    by : (b : Bool) → is_that s m r ≡ b → (b || is_kept s m sent) ≡ true
        → (is_kept s m sent ≡ true → (m + request_gap ≤ now) ⊎ (is_kept s m (filter (is_recent now) sent) ≡ true))
        → (m + request_gap ≤ now) ⊎ (is_kept s m (filter (is_recent now) (r ∷ sent)) ≡ true)
    by true t h rest =
        elim (old_or_recent m now r (sym (moment_is m r.moment (both (same_source s r.source) (nat_eq m r.moment) t).1))
        le) [
          | inl old ↦ inl old
          | inr recent ↦ inr (first t (is_recent now r) recent)
        ]
    by false f h rest = elim (rest h) [
      | inl old ↦ inl old
      | inr k ↦ inr (later (is_recent now r) k)
    ]

-- a kept request that is recent is one lately
lately : (s : VideoSource) (m now : ℕ) (sent : List SentRequest) → is_kept s m sent ≡ true
    → is_among (map (λ r. r.source) sent) s ≡ true
lately s m now [] h = absurd (cc)
lately s m now (r ∷ sent) h = by (same_source s r.source) (nat_eq m r.moment) h (lately s m now sent)
  where
    by : (a b : Bool) → ((a && b) || is_kept s m sent) ≡ true
        → (is_kept s m sent ≡ true → is_among (map (λ r. r.source) sent) s ≡ true)
        → (a || is_among (map (λ r. r.source) sent) s) ≡ true
    by true b h rest = refl
    by false b h rest = rest h

-- so a source that is due was asked half a second ago
due_is_old : (s : VideoSource) (m now : ℕ) (sent : List SentRequest) → m ≤ now → is_kept s m sent ≡ true
    → is_among (asked_lately now sent) s ≡ false → m + request_gap ≤ now
due_is_old s m now sent le k free = elim (kept_recent s m now sent le k) [
  | inl old ↦ old
  | inr recent ↦ absurd (let there = lately s m now (filter (is_recent now) sent) recent in cc)
]

-- what is due waits, and was not asked lately
pub record Due (s : VideoSource) (now : ℕ) (r : RequestsOf) : Type 0 where
  pub waits : is_among r.waiting s ≡ true
  pub free : is_among (asked_lately now r.sent) s ≡ false

pub due_parts : (s : VideoSource) (now : ℕ) (r : RequestsOf) → is_among (due now r) s ≡ true → Due s now r
due_parts s now r h = by (is_among (asked_lately now r.sent) s) refl
  where
    same : is_among (due now r) s ≡ (not (is_among (asked_lately now r.sent) s) && is_among r.waiting s)
    same = among_filtered s (λ x. not (is_among (asked_lately now r.sent) x)) r.waiting

    by : (b : Bool) → is_among (asked_lately now r.sent) s ≡ b → Due s now r
    by true e = absurd (let no : false ≡ true = sym (ap (λ b. not b && is_among r.waiting s) e) ∙ sym same ∙ h in cc)
    by false e = record { waits = sym (ap (λ b. not b && is_among r.waiting s) e) ∙ sym same ∙ h; free = e }

-- ---- steps

-- time goes on
pub keeps_on : (now next : ℕ) (s : VideoSource) (last : Option ℕ) (sent : List SentRequest) → now ≤ next
    → Keeps now s last sent → Keeps next s last sent
keeps_on now next s None sent le k = tt
keeps_on now next s (Some m) sent le k = (
  omega (arith, le, k.0),
  elim k.1 [
    | inl old ↦ inl (omega (arith, le, old))
    | inr there ↦ inr there
  ],
)

-- old requests are dropped
pub keeps_recent : (now : ℕ) (s : VideoSource) (last : Option ℕ) (sent : List SentRequest) → Keeps now s last sent
    → Keeps now s last (filter (is_recent now) sent)
keeps_recent now s None sent k = tt
keeps_recent now s (Some m) sent k = (
  k.0,
  elim k.1 [
    | inl old ↦ inl old
    | inr there ↦ kept_recent s m now sent k.0 there
  ],
)

or_true : (a b : Bool) → a ≡ true → (a || b) ≡ true
or_true a b h = ap (λ c. c || b) h

-- a request is added
pub keeps_more : (now : ℕ) (s : VideoSource) (last : Option ℕ) (sent : List SentRequest) (r : SentRequest)
    → Keeps now s last sent → Keeps now s last (sent ++ r ∷ [])
keeps_more now s None sent r k = tt
keeps_more now s (Some m) sent r k = (
  k.0,
  elim k.1 [
    | inl old ↦ inl old
    | inr there ↦
        inr (list_any-append (is_that s m) sent (r ∷ []) ∙ or_true (is_kept s m sent) (is_kept s m (r ∷ [])) there)
  ],
)

-- the one that is added is kept
pub kept_new : (s : VideoSource) (m : ℕ) (sent : List SentRequest)
    → is_kept s m (sent ++ (record { source = s; moment = m }) ∷ []) ≡ true
kept_new s m sent =
    list_any-append (is_that s m) sent ((record { source = s; moment = m }) ∷ [])
    ∙ last (is_kept s m sent) (same_source s s) (nat_eq m m) (source_itself s) (grind (arith, nat_tests))
  where
    last : (a b c : Bool) → b ≡ true → c ≡ true → (a || ((b && c) || false)) ≡ true
    last true b c h k = refl
    last false b c h k = ap (λ x. (x && c) || false) h ∙ ap (λ x. x || false) k

-- the first of these moments is half a second from the last one
spaced : (last : Option ℕ) (m : ℕ) (ms : List ℕ) → ((l : ℕ) → last ≡ Some l → l + request_gap ≤ m) → AreSpaced (m ∷ ms)
    → SpacedFrom last (m ∷ ms)
spaced None m ms h rest = rest
spaced (Some l) m ms h rest = (h l refl, rest)

-- a source that is due was asked half a second ago, if at all
pub is_old : (now : ℕ) (s : VideoSource) (last : Option ℕ) (sent : List SentRequest) → Keeps now s last sent
    → is_among (asked_lately now sent) s ≡ false → (l : ℕ) → last ≡ Some l → l + request_gap ≤ now
is_old now s None sent k free l e = absurd (cc)
is_old now s (Some m) sent k free l e = let same : m ≡ l = cc in subst (λ n. n + request_gap ≤ now) same (elim k.1 [
  | inl old ↦ old
  | inr there ↦ due_is_old s m now sent k.0 there free
])

-- after a source was wanted
pub keeps_wanted : (now : ℕ) (s : VideoSource) (last : Option ℕ) (t : VideoSource) (r : RequestsOf)
    → Keeps now s last r.sent → Keeps now s last (after_step (want t now) r).sent
keeps_wanted now s last t r k =
    subst (Keeps now s last) (sym (sent_of (is_among r.waiting t) r (wanted t now r))) (by (is_among r.waiting t))
  where
    by : (b : Bool) → Keeps now s last (cond b r.sent (filter (is_recent now) r.sent))
    by true = k
    by false = keeps_recent now s last r.sent k

-- after a source that waited was asked
pub sent_asked : (now : ℕ) (t : VideoSource) (r : RequestsOf) → is_among r.waiting t ≡ true
    → (after_step (ask t now) r).sent ≡ r.sent ++ (record { source = t; moment = now }) ∷ []
sent_asked now t r h =
    sent_of (is_among r.waiting t) (asked t now r) r
    ∙ ap (λ b. cond b (r.sent ++ (record { source = t; moment = now }) ∷ []) r.sent) h

pub run : (s : VideoSource) (now : ℕ) (steps : List RequestStep) (r : RequestsOf) (last : Option ℕ)
    → AreInOrder now steps → AreDue r steps → Keeps now s last r.sent → SpacedFrom last (asks_of s steps)
run s now [] r None order due k = tt
run s now [] r (Some m) order due k = tt
run s now (see desk next ∷ steps) r last order due k =
    run s next steps (after_step (see desk next) r) last order.1 due
    (keeps_recent next s last r.sent (keeps_on now next s last r.sent order.0 k))
run s now (want t next ∷ steps) r last order due k =
    run s next steps (after_step (want t next) r) last order.1 due
    (keeps_wanted next s last t r (keeps_on now next s last r.sent order.0 k))
run s now (ask t next ∷ steps) r last order due k =
    let p = due_parts t next r due.0 in
    let k' = keeps_on now next s last r.sent order.0 k in
    by (same_source s t) refl p.waits p.free k' (sent_asked next t r p.waits)
    (λ last' kept. run s next steps (after_step (ask t next) r) last' order.1 due.1 kept)
  where
    by : (b : Bool) → same_source s t ≡ b → is_among r.waiting t ≡ true → is_among (asked_lately next r.sent) t ≡ false
        → Keeps next s last r.sent
        → (after_step (ask t next) r).sent ≡ r.sent ++ (record { source = t; moment = next }) ∷ []
        → ((last' : Option ℕ) → Keeps next s last' (after_step (ask t next) r).sent
        → SpacedFrom last' (asks_of s steps))
        → SpacedFrom last (cond b (next ∷ asks_of s steps) (asks_of s steps))
    by true e waits free k' sent rest =
        let same : s ≡ t = source_is s t e in
        let free' : is_among (asked_lately next r.sent) s ≡ false =
        ap (is_among (asked_lately next r.sent)) same ∙ free in
        let there : is_kept s next (r.sent ++ (record { source = t; moment = next }) ∷ []) ≡ true =
        subst (λ (x : VideoSource). is_kept s next (r.sent ++ (record { source = x; moment = next }) ∷ []) ≡ true) same
        (kept_new s next r.sent) in
        spaced last next (asks_of s steps) (is_old next s last r.sent k' free')
        (rest (Some next) (omega arith, inr (ap (is_kept s next) sent ∙ there)))
    by false e waits free k' sent rest =
        rest last
        (subst (Keeps next s last) (sym sent) (keeps_more next s last r.sent (record { source = t; moment = next }) k'))

-- ---- in a second

-- the moment is in the second from another on
abbrev pub in_second : ℕ → ℕ → Bool
in_second moment m = nat_le moment m && nat_lt m (moment + 1000000000)

in_time : (moment m : ℕ) → moment + 1000000000 ≤ m → in_second moment m ≡ false
in_time moment m h = grind (arith, nat_tests, h)

counts : (moment m : ℕ) (ms : List ℕ)
    → count_by (in_second moment) (m ∷ ms) ≡ cond (in_second moment m) 1 0 + count_by (in_second moment) ms
counts moment m ms = sum_by-cons (λ n. cond (in_second moment n) 1 0) m ms

none_later : (moment m : ℕ) (ms : List ℕ) → AreSpaced (m ∷ ms) → moment + 1000000000 ≤ m
    → count_by (in_second moment) (m ∷ ms) ≡ 0
none_later moment m [] h le = counts moment m [] ∙ ap (λ b. cond b 1 0 + 0) (in_time moment m le)
none_later moment m (n ∷ ms) h le =
    counts moment m (n ∷ ms) ∙ ap (λ b. cond b 1 0 + count_by (in_second moment) (n ∷ ms)) (in_time moment m le)
    ∙ omega (arith, none_later moment n ms h.1 (omega (arith, h.0, le)))

at_most : (b : Bool) → cond b 1 0 ≤ 1
at_most true = omega arith
at_most false = omega arith

one_later : (moment m : ℕ) (ms : List ℕ) → AreSpaced (m ∷ ms) → moment + 500000000 ≤ m
    → count_by (in_second moment) (m ∷ ms) ≤ 1
one_later moment m [] h le = omega (arith, counts moment m [], at_most (in_second moment m))
one_later moment m (n ∷ ms) h le =
    omega
    (arith, counts moment m (n ∷ ms), at_most (in_second moment m), none_later moment n ms h.1 (omega (arith, h.0, le)))

two_later : (moment m : ℕ) (ms : List ℕ) → AreSpaced (m ∷ ms) → moment ≤ m → count_by (in_second moment) (m ∷ ms) ≤ 2
two_later moment m [] h le = omega (arith, counts moment m [], at_most (in_second moment m))
two_later moment m (n ∷ ms) h le =
    omega
    (arith, counts moment m (n ∷ ms), at_most (in_second moment m), one_later moment n ms h.1 (omega (arith, h.0, le)))

too_early : (moment m : ℕ) → m < moment → in_second moment m ≡ false
too_early moment m h = grind (arith, nat_tests, h)

none_of : (b : Bool) → b ≡ false → cond {A = ℕ} b 1 0 ≡ 0
none_of b h = ap (λ (c : Bool). cond {A = ℕ} c 1 0) h

spaced_rest : (m : ℕ) (ms : List ℕ) → AreSpaced (m ∷ ms) → AreSpaced ms
spaced_rest m [] h = tt
spaced_rest m (n ∷ ms) h = h.1

pub two_in_second : (moment : ℕ) (ms : List ℕ) → AreSpaced ms → count_by (in_second moment) ms ≤ 2
two_in_second moment [] h = omega arith
two_in_second moment (m ∷ ms) h = by (nat_lt m moment) refl (two_in_second moment ms (spaced_rest m ms h))
  where
    by : (b : Bool) → nat_lt m moment ≡ b → count_by (in_second moment) ms ≤ 2
        → count_by (in_second moment) (m ∷ ms) ≤ 2
    by true e rest = (let early : in_second moment m ≡ false = too_early moment m (grind (arith, nat_tests, e)) in
        omega (arith, counts moment m ms, none_of (in_second moment m) early, rest))
    by false e rest = two_later moment m ms h (grind (arith, nat_tests, e))
