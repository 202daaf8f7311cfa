-- Each datagram that a front tries to send is meant.
use Rattle.std.proofs.Common.{◌≡◌, ℕ, zero, suc, cond, Bool, true, false, if◌then◌else◌, List, [], ◌∷◌, ◌++◌, length}
use Rattle.std.proofs.Common.{map, Option, refl, ap, sym, subst, ◌∙◌, arith, append_assoc}
use Rattle.std.specs.List.{AllByRecursion, Contains}
use Rattle.std.specs.Bool.{MatchBool}
use Rattle.std.proofs.lemmas.List.{append-nil, map-append}
use Rattle.rtp_codec.specs.declared.address.Address.{Address}
use Rattle.desk_rows.specs.Desk.{Desk, blank}
use Rattle.sender_feedback.specs.Upstream.{Asker}
use Rattle.ingress.specs.Sources.{Origin}
use Rattle.ingress.specs.Taking.{picture_request}
use Rattle.ingress.specs.inner.Holding.{IngressOf}
use Rattle.rate_limiter.specs.declared.bucket.Bucket.{Bucket}
use Rattle.rate_limiter.specs.Steps.{may_spend}
use Rattle.udp_wire.specs.Attempts.{Attempt}
use Rattle.media_front.specs.Tries.{WereTried}
use Rattle.media_front.specs.Paid.{paid_one, paid_of, after_one, is_paid_for}
use Rattle.media_front.specs.Fronts.{FrontOf, HasIngested, HasReported, once_refilled}
use Rattle.media_front.specs.Waits.{OnWire, HasWaitedOnce, HaveWaited, video_origins, silence}
use Rattle.media_front.proofs.TryLemmas.{tried_none, tried_both}
use Rattle.media_front.proofs.WaitLists.{folds_both}
use Rattle.event_loop.specs.Turns.{Turn, History, Does, HaveDone, HasCaughtUp, owed, passed, took, lost, looked}
use Rattle.event_loop.specs.Turns.{gave_ticks, let_wait, let_some_wait, entered_desk, saw_desk, wanted_picture}
use Rattle.event_loop.specs.Turns.{chose_sources, asked_picture, made_report, judged_wake, signalled}
use Rattle.event_loop.specs.Tries.{Try, Why, answers, asks_again, reports, asks_picture, HasDone, AsksAgain, IsMeant}
use Rattle.event_loop.specs.Tries.{AreMeant, time_passes, tries_for, waits_tried, reports_tried, tries_by}
use Rattle.event_loop.specs.Tries.{tries_by_turns}
use Rattle.event_loop.proofs.TurnLemmas.{all_both, done_both, done_one}
use Rattle.event_loop.proofs.LaneLemmas.{asker_by_one}

-- ---- elements

in_head : {X : Type 0} (x : X) (xs : List X) → Contains (x ∷ xs) x
in_head x xs = (zero, omega arith, refl)

in_tail : {X : Type 0} (y : X) (xs : List X) (x : X) → Contains xs x → Contains (y ∷ xs) x
in_tail y xs x c = (suc c.0, omega (arith, c.1), c.2)

all_in : {X : Type 0} (all xs : List X) → ((x : X) → Contains xs x → Contains all x)
    → AllByRecursion (λ x. Contains all x) xs
all_in all [] f = tt
all_in all (x ∷ xs) f = (f x (in_head x xs), all_in all xs (λ y c. f y (in_tail x xs y c)))

all_mapped : {X Y : Type 0} (P : Y → Type 0) (Q : X → Type 0) (f : X → Y) (xs : List X) → ((x : X) → Q x → P (f x))
    → AllByRecursion Q xs → AllByRecursion P (map f xs)
all_mapped P Q f [] k all = tt
all_mapped P Q f (x ∷ xs) k all = (k x all.0, all_mapped P Q f xs k all.1)

-- ---- what is tried for one reason

what_for : (why : Why) (ds : List (Address × List ℕ)) → map (λ (t : Try). t.what) (tries_for why ds) ≡ ds
what_for why [] = refl
what_for why (d ∷ ds) = ap (λ (l : List (Address × List ℕ)). d ∷ l) (what_for why ds)

-- what is paid for is some of what is asked for
paid_in : (all ds : List (Address × List ℕ)) (buckets : List Bucket)
    → ((d : Address × List ℕ) → Contains ds d → Contains all d)
    → AllByRecursion (λ (d : Address × List ℕ). Contains all d) (paid_of ds buckets)
paid_in all [] buckets f = tt
paid_in all (d ∷ ds) buckets f =
    all_both (λ (e : Address × List ℕ). Contains all e) (paid_one d buckets) (paid_of ds (after_one d buckets))
    (elim (may_spend d.0 (length d.1) buckets)
    as (λ b. AllByRecursion (λ (e : Address × List ℕ). Contains all e) (cond b (d ∷ []) []))
    [ true ↦ (f d (in_head d ds), tt) | false ↦ tt ])
    (paid_in all ds (after_one d buckets) (λ e c. f e (in_tail d ds e c)))

-- these were tried, and why, between two states of a front that began at a third
abbrev Meant : {P S : Type 0} → List Turn → History P S → List Try → Option (List Attempt) → Option (List Attempt)
    → Type 0
Meant all start tries before after =
    WereTried (map (λ (t : Try). t.what) tries) before after
    × AllByRecursion (λ (t : Try). IsMeant all start t.what t.why) tries

no_tries : {P S : Type 0} (all : List Turn) (start : History P S) (before after : Option (List Attempt))
    → after ≡ before → Meant all start [] before after
no_tries all start before after same =
    (subst (λ (o : Option (List Attempt)). WereTried [] before o) (sym same) (tried_none before), tt)

both_meant : {P S : Type 0} (all : List Turn) (start : History P S) (xs ys : List Try)
    (a b c : Option (List Attempt))
    → Meant all start xs a b → Meant all start ys b c → Meant all start (xs ++ ys) a c
both_meant all start xs ys a b c first rest = (
  subst (λ (l : List (Address × List ℕ)). WereTried l a c) (sym (map-append (λ (t : Try). t.what) xs ys))
      (tried_both (map (λ (t : Try). t.what) xs) (map (λ (t : Try). t.what) ys) a b c first.0 rest.0),
  all_both (λ (t : Try). IsMeant all start t.what t.why) xs ys first.1 rest.1,
)

for_one_reason : {P S : Type 0} (all : List Turn) (start : History P S) (before after : Option (List Attempt))
    (why : Why) (asked ds : List (Address × List ℕ))
    → WereTried ds before after → AllByRecursion (λ (d : Address × List ℕ). Contains asked d) ds
    → ((d : Address × List ℕ) → Contains asked d → IsMeant all start d why)
    → Meant all start (tries_for why ds) before after
for_one_reason all start before after why asked ds tried some meant = (
  subst (λ (l : List (Address × List ℕ)). WereTried l before after) (sym (what_for why ds)) tried,
  all_mapped (λ (t : Try). IsMeant all start t.what t.why) (λ (d : Address × List ℕ). Contains asked d)
      (λ d. record { what = d; why = why }) ds meant some,
)

-- ---- waits

meant_waits : {P S : Type 0} (all : List Turn) (start : History P S) (whole : Bool) (desk : Desk) (moment : ℕ)
    (old new : History P S)
    → HasDone all start (time_passes whole desk moment) old new
    → (first os rest : List Origin) (front last : FrontOf P S) (before after : Option (List Attempt))
    → video_origins desk ≡ first ++ (os ++ rest)
    → HaveWaited desk moment first old.front front old.tried before
    → (waited : HaveWaited desk moment os front last before after)
    → Meant all start (waits_tried desk moment os (front, before) (last, after) waited) before after
meant_waits {P} {S} all start whole desk moment old new here first [] rest front last before after order far done =
    no_tries all start before after (ap (λ (w : OnWire P S). w.1) (sym done))
meant_waits {P} {S} all start whole desk moment old new here first (o ∷ os) rest front last before after order far done
    =
    let mid = done.0 in
    let one = done.1 in
    let ingested = one.waited.ingested in
    let again : AsksAgain desk moment o ingested old = record {
      first = first;
      rest = os ++ rest;
      order = order;
      front = front;
      tried = before;
      waited = far;
      new = mid.0.ingress;
      waits = one.waited.waits;
    } in
    let paid = paid_of ingested.up (once_refilled (silence desk o.address moment) ingested front.limiter) in
    both_meant all start (tries_for (asks_again desk moment o ingested) paid)
    (waits_tried desk moment os mid (last, after) done.2) before mid.1 after
    (for_one_reason all start before mid.1 (asks_again desk moment o ingested) ingested.up paid one.waited.handled.up
    (paid_in ingested.up ingested.up _ (λ d c. c)) (λ d c. (whole, old, new, here, again, c)))
    (meant_waits all start whole desk moment old new here (first ++ o ∷ []) os rest mid.0 last mid.1 after
    (order ∙ sym (append_assoc first (o ∷ []) (os ++ rest)))
    (folds_both (HasWaitedOnce desk moment) (old.front, old.tried) first (front, before) (o ∷ []) mid far
    (mid, one, refl))
    done.2)

-- ---- pictures

paid_alone : (d : Address × List ℕ) (buckets : List Bucket) (sent : Bool) → sent ≡ is_paid_for d buckets
    → paid_of (d ∷ []) buckets ≡ (if sent then d ∷ [] else []) ++ []
paid_alone d buckets sent is = ap (λ (b : Bool). (if b then d ∷ [] else []) ++ []) (sym is)

meant_picture : {P S : Type 0} (all : List Turn) (start : History P S) (who : Asker) (o : Origin) (moment : ℕ)
    (sent : Bool) (old new : History P S) (before after : Option (List Attempt))
    → start.front.ingress.asker ≡ who → HasDone all start (asked_picture o moment sent) old new
    → WereTried ((if sent then picture_request who o ∷ [] else []) ++ []) before after
    → Meant all start
    (if sent then record { what = picture_request who o; why = asks_picture o moment } ∷ [] else []) before after
meant_picture all start who o moment true old new before after same here tried =
    (tried, ((old, new, here, ap (λ (w : Asker). picture_request w o) (sym same)), tt))
meant_picture all start who o moment false old new before after same here tried = (tried, tt)

-- ---- turns

meant_report : {P S : Type 0} (all : List Turn) (start : History P S) (due : Bool) (desk : Desk) (moment : ℕ)
    (old new : History P S)
    → HasDone all start (made_report due desk moment) old new
    → (made : MatchBool due (HasReported desk moment old.front new.front old.tried new.tried)
    ((new.front ≡ old.front) × (new.tried ≡ old.tried)))
    → Meant all start (reports_tried due desk moment old.front new.front old.tried new.tried made) old.tried new.tried
meant_report all start true desk moment old new here h =
    for_one_reason all start old.tried new.tried (reports desk moment) h.told h.told h.up
    (all_in h.told h.told (λ d c. c)) (λ d c. (old, new, here, (h.told, h.tells, c)))
meant_report all start false desk moment old new here h = no_tries all start old.tried new.tried h.1

late_ingress : {P S : Type 0} (late : Bool) (moment : ℕ) (old new : FrontOf P S) → HasCaughtUp late moment old new
    → new.ingress ≡ old.ingress
late_ingress {P} {S} true moment old new h = ap (λ (f : FrontOf P S). f.ingress) h.same
late_ingress {P} {S} false moment old new h = ap (λ (f : FrontOf P S). f.ingress) h

meant_by_one : {P S : Type 0} (all : List Turn) (start : History P S) (t : Turn) (old new : History P S)
    → start.front.ingress.asker ≡ old.front.ingress.asker → HasDone all start t old new
    → (d : Does old t new) → Meant all start (tries_by t old new d) old.tried new.tried
meant_by_one {P} {S} all start (owed notice) old new same here d =
    no_tries all start old.tried new.tried (ap (λ (s : History P S). s.tried) d)
meant_by_one {P} {S} all start (passed came) old new same here d =
    no_tries all start old.tried new.tried (ap (λ (s : History P S). s.tried) d)
meant_by_one {P} {S} all start (took late arrival outcome ended) old new same here d =
    let ingested = d.takes.ingested in
    let at = subst (λ o. HasDone all start (took late arrival o ended) old new) (sym d.takes.became) here in
    let takes =
    subst (λ (i : IngressOf). HasIngested arrival ingested i new.front.ingress)
    (late_ingress late arrival.moment old.front d.mid d.time.caught) d.takes.takes in
    for_one_reason all start old.tried new.tried (answers late arrival ingested) ingested.up
    (paid_of ingested.up (once_refilled arrival ingested (d.mid).limiter)) d.takes.handled.up
    (paid_in ingested.up ingested.up _ (λ x c. c)) (λ x c. (old, new, ended, at, takes, c))
meant_by_one all start (lost late arrival) old new same here d = no_tries all start old.tried new.tried d.tried
meant_by_one {P} {S} all start (looked moment) old new same here d =
    no_tries all start old.tried new.tried (ap (λ (s : History P S). s.tried) d.same)
meant_by_one {P} {S} all start (gave_ticks due moment) old new same here d =
    no_tries all start old.tried new.tried (ap (λ (s : History P S). s.tried) d.same)
meant_by_one {P} {S} all start (let_wait desk moment) old new same here d =
    meant_waits all start true desk moment old new here [] (video_origins desk) [] old.front new.front old.tried
    new.tried (sym (append-nil (video_origins desk))) refl d.waited
meant_by_one {P} {S} all start (let_some_wait desk moment) old new same here d =
    meant_waits all start false desk moment old new here [] (d.waited).first (d.waited.next ∷ d.waited.rest) old.front
    d.waited.behind old.tried new.tried d.waited.order refl d.waited.waited
meant_by_one {P} {S} all start (entered_desk desk) old new same here d =
    no_tries all start old.tried new.tried (ap (λ (s : History P S). s.tried) d)
meant_by_one {P} {S} all start (saw_desk later version desk moment) old new same here d =
    no_tries all start old.tried new.tried (ap (λ (s : History P S). s.tried) d.same)
meant_by_one {P} {S} all start (wanted_picture source moment) old new same here d =
    no_tries all start old.tried new.tried (ap (λ (s : History P S). s.tried) d)
meant_by_one {P} {S} all start (chose_sources moment sources) old new same here d =
    no_tries all start old.tried new.tried (ap (λ (s : History P S). s.tried) d.same)
meant_by_one {P} {S} all start (asked_picture o moment sent) old new same here d =
    let who = old.front.ingress.asker in
    meant_picture all start who o moment sent old new old.tried new.tried same here
    (subst (λ (l : List (Address × List ℕ)). WereTried l old.tried new.tried)
    (paid_alone (picture_request who o) old.front.limiter sent d.asked.answer) (d.asked.handled (blank 0) 0).up)
meant_by_one all start (made_report due desk moment) old new same here d =
    meant_report all start due desk moment old new here d.made
meant_by_one {P} {S} all start (judged_wake moment raised) old new same here d =
    no_tries all start old.tried new.tried (ap (λ (s : History P S). s.tried) d.same)
meant_by_one {P} {S} all start signalled old new same here d =
    no_tries all start old.tried new.tried (ap (λ (s : History P S). s.tried) d)

meant_from : {P S : Type 0} (all first turns : List Turn) (start old new : History P S) → all ≡ first ++ turns
    → start.front.ingress.asker ≡ old.front.ingress.asker
    → HaveDone first start old → (g : HaveDone turns old new)
    → Meant all start (tries_by_turns turns old new g) old.tried new.tried
meant_from {P} {S} all first [] start old new order same far g =
    no_tries all start old.tried new.tried (ap (λ (s : History P S). s.tried) (sym g))
meant_from {P} {S} all first (t ∷ ts) start old new order same far g =
    let mid = g.0 in
    both_meant all start (tries_by t old mid g.1) (tries_by_turns ts mid new g.2) old.tried mid.tried new.tried
    (meant_by_one all start t old mid same (first, ts, order, far, g.1) g.1)
    (meant_from all (first ++ t ∷ []) ts start mid new (order ∙ sym (append_assoc first (t ∷ []) ts))
    (same ∙ sym (asker_by_one t old mid g.1))
    (done_both first (t ∷ []) start old mid far (done_one t old mid g.1)) g.2)

pub meant_by_all : {P S : Type 0} (turns : List Turn) (old new : History P S) (done : HaveDone turns old new)
    → (tries : List Try) × AreMeant turns old new done tries
meant_by_all turns old new done =
    let m = meant_from turns [] turns old old new refl refl refl done in
    (tries_by_turns turns old new done, (refl, m.0, m.1))
