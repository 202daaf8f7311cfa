-- Requests to one source, over steps in which it may be wanted: they are half a second apart in between.
use Rattle.std.proofs.Common.{◌≡◌, ℕ, ◌+◌, ◌≤◌, Bool, true, false, cond, ◌&&◌, ◌||◌, not, List, [], ◌∷◌, ◌++◌, map}
use Rattle.std.proofs.Common.{Option, None, Some, IfSome, inl, inr, refl, sym, ap, ◌∙◌, subst, arith}
use Rattle.std.specs.Prelude.{filter, ◌⊎◌, fold}
use Rattle.std.specs.Bool.{MatchBool}
use Rattle.std.proofs.lemmas.List.Folds.{list_any-append}
use Rattle.picture_requests.specs.declared.source.VideoSource.{VideoSource}
use Rattle.picture_requests.specs.declared.sending.SentRequest.{SentRequest}
use Rattle.picture_requests.specs.Sources.{same_source, is_among, without_source, with_source}
use Rattle.picture_requests.specs.Choices.{choices_of, changed_to}
use Rattle.picture_requests.specs.Requests.{RequestsOf, request_gap, is_recent, asked_lately, due, still_chosen}
use Rattle.picture_requests.specs.Steps.{RequestStep, see, want, ask, after_step, after_steps, AreInOrder}
use Rattle.picture_requests.specs.Steps.{IsAskedInTime, AreApart}
use Rattle.picture_requests.proofs.Same.{source_is}
use Rattle.picture_requests.proofs.Waits.{among_filtered, wanted, asked, sent_of, waiting_of, waits_step}
use Rattle.picture_requests.proofs.Spaced.{Keeps, is_kept, keeps_on, keeps_recent, keeps_more, keeps_wanted, kept_new}
use Rattle.picture_requests.proofs.Spaced.{is_old, due_parts}
use Rattle.picture_requests.proofs.Freed.{due_then}

or_true : (a b : Bool) → b ≡ true → (a || b) ≡ true
or_true true b h = refl
or_true false b h = h

and_false : (a b : Bool) → b ≡ false → (a && b) ≡ false
and_false true b h = h
and_false false b h = refl

if_some : (last : Option ℕ) (P : ℕ → Type 0) → ((l : ℕ) → last ≡ Some l → P l) → IfSome last P
if_some None P h = tt
if_some (Some l) P h = h l refl

-- ---- one step

-- the requests that are kept after another source was asked
keeps_other : (now : ℕ) (s t : VideoSource) (last : Option ℕ) (r : RequestsOf) → Keeps now s last r.sent
    → Keeps now s last (after_step (ask t now) r).sent
keeps_other now s t last r k =
    subst (Keeps now s last) (sym (sent_of (is_among r.waiting t) (asked t now r) r)) (by (is_among r.waiting t))
  where
    by : (b : Bool) → Keeps now s last (cond b (asked t now r).sent r.sent)
    by true = keeps_more now s last r.sent (record { source = t; moment = now }) k
    by false = k

-- and after the source itself was asked, which waited
keeps_own : (now : ℕ) (s t : VideoSource) (r : RequestsOf) → same_source s t ≡ true → is_among r.waiting s ≡ true
    → Keeps now s (Some now) (after_step (ask t now) r).sent
keeps_own now s t r e waits =
    let same : s ≡ t = source_is s t e in
    let there : is_kept s now (r.sent ++ (record { source = t; moment = now }) ∷ []) ≡ true =
    subst (λ (x : VideoSource). is_kept s now (r.sent ++ (record { source = x; moment = now }) ∷ []) ≡ true) same
    (kept_new s now r.sent) in
    let waits' : is_among r.waiting t ≡ true = ap (is_among r.waiting) (sym same) ∙ waits in (
      omega arith,
      inr (ap (is_kept s now)
          (sent_of (is_among r.waiting t) (asked t now r) r
          ∙ ap (λ b. cond b (asked t now r).sent r.sent) waits')
          ∙ there),
    )

-- a source that was wanted waits
waits_wanted : (s t : VideoSource) (moment : ℕ) (r : RequestsOf) → same_source s t ≡ true
    → is_among (after_step (want t moment) r).waiting s ≡ true
waits_wanted s t moment r e = waits_step s (want t moment) r ∙ or_true (is_among r.waiting s) (same_source s t) e

-- ---- all steps

-- A source that was wanted just now waits, and is not held to its last request.
abbrev pub IsFree : VideoSource → RequestsOf → Option ℕ → Bool → Type 0
IsFree s r last now = now ≡ true → (last ≡ None) × (is_among r.waiting s ≡ true)

pub apart : (s : VideoSource) (now : ℕ) (steps : List RequestStep) (r : RequestsOf) (last : Option ℕ) (wanted : Bool)
    → AreInOrder now steps → IsAskedInTime s r wanted steps → Keeps now s last r.sent → IsFree s r last wanted
    → AreApart s last steps
apart s now [] r last w order fair k free = tt
apart s now (see desk next ∷ steps) r last w order fair k free =
    apart s next steps (after_step (see desk next) r) last false order.1 fair
    (keeps_recent next s last r.sent (keeps_on now next s last r.sent order.0 k)) (λ wrong. absurd (cc (wrong)))
apart s now (want t next ∷ steps) r last w order fair k free =
    by (same_source s t) refl fair
    (λ last' b fair' kept free'. apart s next steps (after_step (want t next) r) last' b order.1 fair' kept free')
    (keeps_wanted next s last t r (keeps_on now next s last r.sent order.0 k))
  where
    by : (b : Bool) → same_source s t ≡ b → IsAskedInTime s (after_step (want t next) r) b steps
        → ((last' : Option ℕ) (c : Bool) → IsAskedInTime s (after_step (want t next) r) c steps
        → Keeps next s last' (after_step (want t next) r).sent → IsFree s (after_step (want t next) r) last' c
        → AreApart s last' steps)
        → Keeps next s last (after_step (want t next) r).sent
        → AreApart s (cond b None last) steps
    by true e fair' rest kept = rest None true fair' tt (λ now. (refl, waits_wanted s t next r e))
    by false e fair' rest kept = rest last false fair' kept (λ wrong. absurd (cc (wrong)))
apart s now (ask t next ∷ steps) r last w order fair k free =
    by (same_source s t) refl fair.0 (keeps_on now next s last r.sent order.0 k)
    (λ last' kept. apart s next steps (after_step (ask t next) r) last' false order.1 fair.1 kept
    (λ wrong. absurd (cc (wrong))))
  where
    old : Keeps next s last r.sent → (w ≡ true) ⊎ (is_among (due next r) s ≡ true)
        → IfSome last (λ l. l + request_gap ≤ next) × (is_among r.waiting s ≡ true)
    old k' (inl same) =
        let none = free same in
        (subst (λ (o : Option ℕ). IfSome o (λ l. l + request_gap ≤ next)) (sym none.0) tt, none.1)
    old k' (inr is) =
        let p = due_parts s next r is in
        (if_some last (λ l. l + request_gap ≤ next) (is_old next s last r.sent k' p.free), p.waits)

    by : (b : Bool) → same_source s t ≡ b → (b ≡ true → (w ≡ true) ⊎ (is_among (due next r) s ≡ true))
        → Keeps next s last r.sent
        → ((last' : Option ℕ) → Keeps next s last' (after_step (ask t next) r).sent → AreApart s last' steps)
        → MatchBool b (IfSome last (λ l. l + request_gap ≤ next) × AreApart s (Some next) steps)
        (AreApart s last steps)
    by true e fair' k' rest =
        let p = old k' (fair' refl) in (p.0, rest (Some next) (keeps_own next s t r e p.1))
    by false e fair' k' rest = rest last (keeps_other next s t last r k')

-- ---- several lists of steps

pub in_time_wanted : (s : VideoSource) (r : RequestsOf) (w : Bool) (steps : List RequestStep)
    → IsAskedInTime s r false steps → IsAskedInTime s r w steps
in_time_wanted s r w [] fair = tt
in_time_wanted s r w (see desk moment ∷ steps) fair = fair
in_time_wanted s r w (want t moment ∷ steps) fair = fair
in_time_wanted s r w (ask t moment ∷ steps) fair = ((λ e. either (fair.0 e)), fair.1)
  where
    either : (false ≡ true) ⊎ (is_among (due moment r) s ≡ true) → (w ≡ true) ⊎ (is_among (due moment r) s ≡ true)
    either (inl wrong) = absurd (cc (wrong))
    either (inr is) = inr is

pub in_time_both : (s : VideoSource) (r : RequestsOf) (w : Bool) (xs ys : List RequestStep) → IsAskedInTime s r w xs
    → IsAskedInTime s (after_steps xs r) false ys → IsAskedInTime s r w (xs ++ ys)
in_time_both s r w [] ys these those = in_time_wanted s r w ys those
in_time_both s r w (see desk moment ∷ xs) ys these those =
    in_time_both s (after_step (see desk moment) r) false xs ys these those
in_time_both s r w (want t moment ∷ xs) ys these those =
    in_time_both s (after_step (want t moment) r) (same_source s t) xs ys these those
in_time_both s r w (ask t moment ∷ xs) ys these those =
    (these.0, in_time_both s (after_step (ask t moment) r) false xs ys these.1 those)

-- ---- what waits stands there once

-- The source stands there at most once.
abbrev pub StandsOnce : VideoSource → List VideoSource → Type 0
StandsOnce s [] = Unit {0}
StandsOnce s (x ∷ xs) = (same_source s x ≡ true → is_among xs s ≡ false) × StandsOnce s xs

once_filtered : (s : VideoSource) (p : VideoSource → Bool) (xs : List VideoSource) → StandsOnce s xs
    → StandsOnce s (filter p xs)
once_filtered s p [] once = tt
once_filtered s p (x ∷ xs) once = by (p x) (once_filtered s p xs once.1)
  where
    by : (b : Bool) → StandsOnce s (filter p xs) → StandsOnce s (cond b (x ∷ filter p xs) (filter p xs))
    by true rest = ((λ e. among_filtered s p xs ∙ and_false (p s) (is_among xs s) (once.0 e)), rest)
    by false rest = rest

none_of : (a b : Bool) → (a || b) ≡ false → (a ≡ false) × (b ≡ false)
none_of true b h = absurd (cc (h))
none_of false b h = (refl, h)

once_more : (s : VideoSource) (xs : List VideoSource) (t : VideoSource) → StandsOnce s xs → is_among xs t ≡ false
    → StandsOnce s (xs ++ t ∷ [])
once_more s [] t once new = ((λ e. refl), tt)
once_more s (x ∷ xs) t once new =
    let parts = none_of (same_source t x) (is_among xs t) new in
    ((λ e. list_any-append (same_source s) xs (t ∷ []) ∙ by e (same_source s t) refl), once_more s xs t once.1 parts.1)
  where
    by : same_source s x ≡ true → (b : Bool) → same_source s t ≡ b → (is_among xs s || (b || false)) ≡ false
    by e true is =
        let here : same_source s x ≡ false =
        ap (λ (y : VideoSource). same_source y x) (source_is s t is)
        ∙ (none_of (same_source t x) (is_among xs t) new).0 in
        let wrong : true ≡ false = sym e ∙ here in
        absurd (cc (wrong))
    by e false is = ap (λ b. b || false) (once.0 e)

once_collected : (s : VideoSource) (xs ks : List VideoSource) → StandsOnce s ks
    → StandsOnce s (fold with_source ks xs)
once_collected s [] ks once = once
once_collected s (x ∷ xs) ks once = once_collected s xs (with_source ks x) (by (is_among ks x) refl)
  where
    by : (b : Bool) → is_among ks x ≡ b → StandsOnce s (cond b ks (ks ++ x ∷ []))
    by true e = once
    by false e = once_more s ks x once e

once_step : (s : VideoSource) (step : RequestStep) (r : RequestsOf) → StandsOnce s r.waiting
    → StandsOnce s (after_step step r).waiting
once_step s (see desk moment) r once =
    let after = choices_of desk in
    once_collected s (still_chosen after r.waiting ++ changed_to r.choices after) [] tt
once_step s (want t moment) r once =
    subst (StandsOnce s) (sym (waiting_of (is_among r.waiting t) r (wanted t moment r)))
    (by (is_among r.waiting t) refl)
  where
    by : (b : Bool) → is_among r.waiting t ≡ b → StandsOnce s (cond b r.waiting (r.waiting ++ t ∷ []))
    by true e = once
    by false e = once_more s r.waiting t once e
once_step s (ask t moment) r once =
    subst (StandsOnce s) (sym (waiting_of (is_among r.waiting t) (asked t moment r) r)) (by (is_among r.waiting t))
  where
    by : (b : Bool) → StandsOnce s (cond b (without_source t r.waiting) r.waiting)
    by true = once_filtered s (λ x. not (same_source x t)) r.waiting once
    by false = once

pub once_steps : (s : VideoSource) (steps : List RequestStep) (r : RequestsOf) → StandsOnce s r.waiting
    → StandsOnce s (after_steps steps r).waiting
once_steps s [] r once = once
once_steps s (step ∷ steps) r once = once_steps s steps (after_step step r) (once_step s step r once)

-- so it is due once
pub due_once : (s : VideoSource) (moment : ℕ) (r : RequestsOf) → StandsOnce s r.waiting → StandsOnce s (due moment r)
due_once s moment r once = once_filtered s (λ x. not (is_among (asked_lately moment r.sent) x)) r.waiting once

-- ---- a source stays due where another one is asked

lately_more : (s : VideoSource) (moment : ℕ) (sent : List SentRequest) (q : SentRequest)
    → same_source s q.source ≡ false
    → is_among (asked_lately moment (sent ++ q ∷ [])) s ≡ is_among (asked_lately moment sent) s
lately_more s moment [] q e = by (is_recent moment q)
  where
    by : (b : Bool) → is_among (map (λ (x : SentRequest). x.source) (cond b (q ∷ []) [])) s ≡ false
    by true = ap (λ b. b || false) e
    by false = refl
lately_more s moment (x ∷ sent) q e = by (is_recent moment x) (lately_more s moment sent q e)
  where
    by : (b : Bool) → is_among (asked_lately moment (sent ++ q ∷ [])) s ≡ is_among (asked_lately moment sent) s
        → is_among (map (λ (y : SentRequest). y.source)
        (cond b (x ∷ filter (is_recent moment) (sent ++ q ∷ [])) (filter (is_recent moment) (sent ++ q ∷ [])))) s
        ≡ is_among (map (λ (y : SentRequest). y.source)
        (cond b (x ∷ filter (is_recent moment) sent) (filter (is_recent moment) sent))) s
    by true rest = ap (λ b. same_source s x.source || b) rest
    by false rest = rest

pub due_still : (s t : VideoSource) (moment : ℕ) (r : RequestsOf) → same_source s t ≡ false
    → is_among (due moment r) s ≡ true → is_among (due moment (after_step (ask t moment) r)) s ≡ true
due_still s t moment r e is =
    let p = due_parts s moment r is in
    due_then s moment (after_step (ask t moment) r)
    (waits_step s (ask t moment) r ∙ (ap (λ b. not b && is_among r.waiting s) e ∙ p.waits))
    (ap (λ l. is_among (asked_lately moment l) s) (sent_of (is_among r.waiting t) (asked t moment r) r)
    ∙ (by (is_among r.waiting t) ∙ p.free))
  where
    by : (b : Bool)
        → is_among (asked_lately moment (cond b (asked t moment r).sent r.sent)) s
        ≡ is_among (asked_lately moment r.sent) s
    by true = lately_more s moment r.sent (record { source = t; moment = moment }) e
    by false = refl
