-- A source that waits is due once its requests are half a second old.
use Rattle.std.proofs.Common.{◌≡◌, ℕ, ◌+◌, ◌-◌, Bool, true, false, cond, ◌&&◌, ◌||◌, not, nat_lt, nat_le, List, [], ◌∷◌}
use Rattle.std.proofs.Common.{◌++◌, map, refl, ap, ◌∙◌, arith}
use Rattle.std.specs.Prelude.{filter}
use Rattle.std.specs.List.{list_all}
use Rattle.std.proofs.lemmas.Bool.{and_parts, and_from}
use Rattle.std.proofs.lemmas.Bool.Decides.{nat_tests}
use Rattle.std.proofs.lemmas.List.Folds.{list_all-append}
use Rattle.picture_requests.specs.declared.source.VideoSource.{VideoSource}
use Rattle.picture_requests.specs.declared.sending.SentRequest.{SentRequest}
use Rattle.picture_requests.specs.Sources.{same_source, is_among}
use Rattle.picture_requests.specs.Requests.{RequestsOf, request_gap, is_recent, asked_lately, due}
use Rattle.picture_requests.specs.Steps.{RequestStep, see, want, ask, after_step, after_steps, asks_of}
use Rattle.picture_requests.proofs.Waits.{among_filtered, wanted, asked, sent_of}

-- half a second old at a moment
abbrev pub is_old : ℕ → ℕ → Bool
is_old moment m = nat_le (m + request_gap) moment

-- of another source, or half a second old
abbrev pub is_past : VideoSource → ℕ → SentRequest → Bool
is_past s moment r = not (same_source s r.source) || is_old moment r.moment

abbrev pub ArePast : VideoSource → ℕ → List SentRequest → Type 0
ArePast s moment sent = list_all (is_past s moment) sent ≡ true

-- what is past in a list is past where it is filtered
past_filtered : (s : VideoSource) (moment : ℕ) (p : SentRequest → Bool) (sent : List SentRequest)
    → ArePast s moment sent → ArePast s moment (filter p sent)
past_filtered s moment p [] h = refl
past_filtered s moment p (r ∷ sent) h =
    let parts = and_parts (is_past s moment r) (list_all (is_past s moment) sent) h in
    by (p r) parts.0 (past_filtered s moment p sent parts.1)
  where
    by : (b : Bool) → is_past s moment r ≡ true → ArePast s moment (filter p sent)
        → ArePast s moment (cond b (r ∷ filter p sent) (filter p sent))
    by true one rest = and_from _ _ one rest
    by false one rest = rest

-- a request that is past is not recent
not_recent : (moment : ℕ) (r : SentRequest) → is_old moment r.moment ≡ true → is_recent moment r ≡ false
not_recent moment r h =
    let late : nat_lt (moment - r.moment) request_gap ≡ false = grind (arith, nat_tests, h) in
    ap (λ b. b && nat_lt (r.moment - moment) request_gap) late

-- so the source was not asked lately
pub none_lately : (s : VideoSource) (moment : ℕ) (sent : List SentRequest) → ArePast s moment sent
    → is_among (asked_lately moment sent) s ≡ false
none_lately s moment [] h = refl
none_lately s moment (r ∷ sent) h =
    let parts = and_parts (is_past s moment r) (list_all (is_past s moment) sent) h in
    by (same_source s r.source) refl parts.0 (none_lately s moment sent parts.1)
  where
    own : is_recent moment r ≡ false → is_among (asked_lately moment sent) s ≡ false
        → is_among (asked_lately moment (r ∷ sent)) s ≡ false
    own e rest =
        ap
        (λ b.
        is_among (map (λ q. q.source) (cond b (r ∷ filter (is_recent moment) sent) (filter (is_recent moment) sent))) s)
        e
        ∙ rest

    other : same_source s r.source ≡ false → is_among (asked_lately moment sent) s ≡ false → (b : Bool)
        → is_among (map (λ q. q.source) (cond b (r ∷ filter (is_recent moment) sent) (filter (is_recent moment) sent)))
        s
        ≡ false
    other e rest true = ap (λ b. b || is_among (asked_lately moment sent) s) e ∙ rest
    other e rest false = rest

    by : (b : Bool) → same_source s r.source ≡ b → (not b || is_old moment r.moment) ≡ true
        → is_among (asked_lately moment sent) s ≡ false → is_among (asked_lately moment (r ∷ sent)) s ≡ false
    by true e past rest = own (not_recent moment r past) rest
    by false e past rest = other e rest (is_recent moment r)

-- ---- steps

-- with one more
past_more : (s : VideoSource) (moment : ℕ) (sent : List SentRequest) (r : SentRequest) → ArePast s moment sent
    → is_past s moment r ≡ true → ArePast s moment (sent ++ r ∷ [])
past_more s moment sent r h one =
    list_all-append (is_past s moment) sent (r ∷ []) ∙ and_from _ _ h (and_from _ _ one refl)

past_cond : (s : VideoSource) (moment : ℕ) (b : Bool) (xs ys : List SentRequest) → ArePast s moment xs
    → ArePast s moment ys → ArePast s moment (cond b xs ys)
past_cond s moment true xs ys h k = h
past_cond s moment false xs ys h k = k

-- the requests of steps whose asks are past
pub past_on : (s : VideoSource) (moment : ℕ) (steps : List RequestStep) (r : RequestsOf) → ArePast s moment r.sent
    → list_all (is_old moment) (asks_of s steps) ≡ true → ArePast s moment (after_steps steps r).sent
past_on s moment [] r h old = h
past_on s moment (see desk now ∷ steps) r h old =
    past_on s moment steps (after_step (see desk now) r) (past_filtered s moment (is_recent now) r.sent h) old
past_on s moment (want t now ∷ steps) r h old =
    past_on s moment steps (after_step (want t now) r)
    (ap (list_all (is_past s moment)) (sent_of (is_among r.waiting t) r (wanted t now r))
    ∙ past_cond s moment (is_among r.waiting t) r.sent (filter (is_recent now) r.sent) h
    (past_filtered s moment (is_recent now) r.sent h))
    old
past_on s moment (ask t now ∷ steps) r h old =
    by (same_source s t) refl old (past_on s moment steps (after_step (ask t now) r))
  where
    more : is_past s moment (record { source = t; moment = now }) ≡ true
        → ArePast s moment (after_step (ask t now) r).sent
    more one =
        ap (list_all (is_past s moment)) (sent_of (is_among r.waiting t) (asked t now r) r)
        ∙ past_cond s moment (is_among r.waiting t) (r.sent ++ (record { source = t; moment = now }) ∷ []) r.sent
        (past_more s moment r.sent (record { source = t; moment = now }) h one) h

    by : (b : Bool) → same_source s t ≡ b
        → list_all (is_old moment) (cond b (now ∷ asks_of s steps) (asks_of s steps)) ≡ true
        → (ArePast s moment (after_step (ask t now) r).sent → list_all (is_old moment) (asks_of s steps) ≡ true
        → ArePast s moment (after_steps (ask t now ∷ steps) r).sent)
        → ArePast s moment (after_steps (ask t now ∷ steps) r).sent
    by true e old rest =
        let parts = and_parts (is_old moment now) (list_all (is_old moment) (asks_of s steps)) old in
        rest (more (ap (λ b. not b || is_old moment now) e ∙ parts.0)) parts.1
    by false e old rest = rest (more (ap (λ b. not b || is_old moment now) e)) old

pub due_then : (s : VideoSource) (moment : ℕ) (r : RequestsOf) → is_among r.waiting s ≡ true
    → is_among (asked_lately moment r.sent) s ≡ false → is_among (due moment r) s ≡ true
due_then s moment r waits free =
    among_filtered s (λ x. not (is_among (asked_lately moment r.sent) x)) r.waiting
    ∙ and_from _ _ (ap not free) waits
