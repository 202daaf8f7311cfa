-- What is granted of a quota in a window, over steps.
use Rattle.std.proofs.Common.{◌≡◌, ℕ, ◌+◌, ◌-◌, ◌*◌, ◌≤◌, ◌<◌, nat_eq, nat_lt, Bool, true, false, ◌&&◌, if◌then◌else◌}
use Rattle.std.proofs.Common.{List, [], ◌∷◌, Option, None, Some, inl, inr, refl, sym, ap, ◌∙◌, subst, arith}
use Rattle.std.specs.Option.{is_some}
use Rattle.std.specs.Prelude.{not}
use Rattle.std.proofs.Math.Nat.{add-mul}
use Rattle.std.proofs.lemmas.Bool.{cases_order, cases_lt, eq-eqb, ne_eqb, lt-ltb, le-ltb}
use Rattle.rtp_codec.specs.declared.address.Address.{Address}
use Rattle.rtp_codec.specs.Address.{same_address}
use Rattle.rate_limiter.specs.declared.bucket.Bucket.{Bucket}
use Rattle.rate_limiter.specs.declared.quota.Quota.{Quota}
use Rattle.rate_limiter.specs.declared.quota.Quota.TheVariants.{Numbers, Items}
use Rattle.rate_limiter.specs.Buckets.{bucket_at, bucket_of, opened, or_opened, used, refilled, paid, counted, most_of}
use Rattle.rate_limiter.specs.Buckets.{counted_of, counted_in, left_in, window_of}
use Rattle.rate_limiter.specs.Steps.{LimiterStep, refill, spend, ask, may_spend, may_ask, buckets_after, counted_as}
use Rattle.rate_limiter.specs.Steps.{granted_at, all_asked, enters, entries, AreInOrder}
use Rattle.rate_limiter.proofs.KeyedLemmas.{same_address_is, same_itself}
use Rattle.rate_limiter.proofs.Turns.{address_of, own_at, IsKept, others}

-- how much of a quota may still be granted in a window, now or later
abbrev pub rest_of : Quota → ℕ → Bucket → ℕ
rest_of q window a =
    if nat_lt a.window window then most_of q else (if nat_eq a.window window then most_of q - counted_of q a else 0)

abbrev pub rest_in : Quota → ℕ → Option Bucket → ℕ
rest_in q window None = 0
rest_in q window (Some a) = rest_of q window a

-- the quota of an address that is entered
abbrev pub entered : Quota → Option Bucket → Option Bucket → ℕ
entered q old new = if is_some new && not (is_some old) then most_of q else 0

-- a step that grants so much of a quota
abbrev pub IsBounded : Quota → ℕ → ℕ → Option Bucket → Option Bucket → Type 0
IsBounded q window granted old new = granted + rest_in q window new ≤ entered q old new + rest_in q window old

-- The bucket last asked in this window or before it.
abbrev pub IsBefore : ℕ → Option Bucket → Type 0
IsBefore now None = Unit {0}
IsBefore now (Some a) = a.window ≤ now

most_rest : (q : Quota) (window : ℕ) (a : Bucket) → rest_of q window a ≤ most_of q
most_rest q window a =
    (elim (nat_lt a.window window) as (λ y.
    (if y then most_of q else (if nat_eq a.window window then most_of q - counted_of q a else 0)) ≤ most_of q) [
      | true ↦ omega arith
      | false ↦ (elim (nat_eq a.window window) as (λ z. (if z then most_of q - counted_of q a else 0) ≤ most_of q) [
        | true ↦ omega arith
        | false ↦ omega arith
      ])
    ])

kept : (q : Quota) (window : ℕ) (old new : Option Bucket) → IsKept old new → IsBounded q window 0 old new
kept q window old None k = omega arith
kept q window None (Some a) k = cc
kept q window (Some b) (Some a) k =
    let e : b ≡ a = cc in subst (λ (x : Bucket). IsBounded q window 0 (Some b) (Some x)) e (omega arith)

same : (q : Quota) (window : ℕ) (old : Option Bucket) → IsBounded q window 0 old old
same q window None = omega arith
same q window (Some a) = omega arith

-- a bucket with the same window and count
stays : (q : Quota) (window : ℕ) (a b : Bucket) → b.window ≡ a.window → counted_of q b ≡ counted_of q a
    → IsBounded q window 0 (Some a) (Some b)
stays q window a b w n =
    let e : rest_of q window b ≡ rest_of q window a =
    ap (λ (v : ℕ). if nat_lt v window then most_of q else (if nat_eq v window then most_of q - counted_of q b else 0)) w
    ∙ ap
    (λ (m : ℕ). if nat_lt a.window window then most_of q else (if nat_eq a.window window then most_of q - m else 0))
    n in
    omega (arith, e)

asked_refilled : (q : Quota) (octets : ℕ) (a : Bucket) → counted_of q (refilled octets a) ≡ counted_of q a
asked_refilled Numbers octets a = refl
asked_refilled Items octets a = refl

asked_paid : (q : Quota) (octets : ℕ) (a : Bucket) → counted_of q (paid octets a) ≡ counted_of q a
asked_paid Numbers octets a = refl
asked_paid Items octets a = refl

refills : (q : Quota) (window : ℕ) (address : Address) (octets : ℕ) (old : Option Bucket)
    → IsBounded q window 0 old (Some (refilled octets (or_opened address old)))
refills q window address octets None = omega (arith, most_rest q window (refilled octets (opened address)))
refills q window address octets (Some a) = stays q window a (refilled octets a) refl (asked_refilled q octets a)

pays_for : (q : Quota) (window : ℕ) (address : Address) (octets : ℕ) (old : Option Bucket)
    → IsBounded q window 0 old (Some (paid octets (or_opened address old)))
pays_for q window address octets None = omega (arith, most_rest q window (paid octets (opened address)))
pays_for q window address octets (Some a) = stays q window a (paid octets a) refl (asked_paid q octets a)

abbrev pub granted_in : ℕ → ℕ → ℕ → ℕ
granted_in window now granted = if nat_eq now window then granted else 0

rest_later : (q : Quota) (window : ℕ) (a : Bucket) → a.window < window → rest_of q window a ≡ most_of q
rest_later q window a h = rw (lt-ltb a.window window h) refl

rest_now : (q : Quota) (window : ℕ) (a : Bucket) → a.window ≡ window → rest_of q window a ≡ most_of q - counted_of q a
rest_now q window a h = rw (le-ltb a.window window (omega (arith, h))) (rw (eq-eqb a.window window h) refl)

rest_gone : (q : Quota) (window : ℕ) (a : Bucket) → window < a.window → rest_of q window a ≡ 0
rest_gone q window a h =
    rw (le-ltb a.window window (omega (arith, h))) (rw (ne_eqb a.window window (λ e. omega (arith, h, e))) refl)

asked_now : (q : Quota) (now : ℕ) (a : Bucket) → a.window ≡ now → counted_in now q a ≡ counted_of q a
asked_now q now a h = rw (eq-eqb a.window now h) refl

asked_none : (q : Quota) (now : ℕ) (a : Bucket) → a.window < now → counted_in now q a ≡ 0
asked_none q now a h = rw (ne_eqb a.window now (λ e. omega (arith, h, e))) refl

-- so much is granted in the window of now
grants : (q : Quota) (window now part : ℕ) (a b : Bucket) → a.window ≤ now → part ≤ left_in now q a → b.window ≡ now
    → counted_of q b ≡ counted_in now q a + part
    → granted_in window now part + rest_of q window b ≤ rest_of q window a
grants q window now part a b before few at more = elim (cases_order now window) [
  | inl e ↦
      let all : granted_in window now part ≡ part = rw (eq-eqb now window e) refl in
      let left : rest_of q window b ≡ most_of q - counted_of q b = rest_now q window b (at ∙ e) in
      elim (cases_lt a.window now) [
        | inl lt ↦
            omega (arith, all, left, more, few, asked_none q now a lt, rest_later q window a (omega (arith, lt, e)))
        | inr ge ↦
            let is : a.window ≡ now = omega (arith, before, ge) in
            omega (arith, all, left, more, few, asked_now q now a is, rest_now q window a (is ∙ e))
      ]
  | inr (inl lt) ↦
      let none : granted_in window now part ≡ 0 = rw (ne_eqb now window (λ e. omega (arith, lt, e))) refl in
      omega
      (arith, none, rest_later q window b (omega (arith, lt, at)), rest_later q window a (omega (arith, before, lt)))
  | inr (inr gt) ↦
      let none : granted_in window now part ≡ 0 = rw (ne_eqb now window (λ e. omega (arith, gt, e))) refl in
      omega (arith, none, rest_gone q window b (omega (arith, gt, at)))
]

-- of the same quota or of the other one
part_few : (q k : Quota) (now granted : ℕ) (a : Bucket) → granted ≤ left_in now k a
    → counted_as q k granted ≤ left_in now q a
part_few Numbers Numbers now granted a few = few
part_few Numbers Items now granted a few = omega arith
part_few Items Numbers now granted a few = omega arith
part_few Items Items now granted a few = few

window_counted : (k : Quota) (now granted : ℕ) (a : Bucket) → (counted now k granted a).window ≡ now
window_counted Numbers now granted a = refl
window_counted Items now granted a = refl

pub address_counted : (k : Quota) (now granted : ℕ) (a : Bucket) → (counted now k granted a).address ≡ a.address
address_counted Numbers now granted a = refl
address_counted Items now granted a = refl

no_more : (n : ℕ) → n ≡ n + 0
no_more n = omega arith

asked_counted : (q k : Quota) (now granted : ℕ) (a : Bucket)
    → counted_of q (counted now k granted a) ≡ counted_in now q a + counted_as q k granted
asked_counted Numbers Numbers now granted a = refl
asked_counted Numbers Items now granted a = no_more (counted_in now Numbers a)
asked_counted Items Numbers now granted a = no_more (counted_in now Items a)
asked_counted Items Items now granted a = refl

grants_of : (q k : Quota) (window now granted : ℕ) (a : Bucket) → a.window ≤ now → granted ≤ left_in now k a
    → granted_in window now (counted_as q k granted) + rest_of q window (counted now k granted a) ≤ rest_of q window a
grants_of q k window now granted a before few =
    grants q window now (counted_as q k granted) a (counted now k granted a) before (part_few q k now granted a few)
    (window_counted k now granted a) (asked_counted q k now granted a)

asks : (q k : Quota) (window now granted : ℕ) (address : Address) (old : Option Bucket) → IsBefore now old
    → granted ≤ left_in now k (or_opened address old)
    → IsBounded q window (granted_in window now (counted_as q k granted)) old
    (Some (counted now k granted (or_opened address old)))
asks q k window now granted address None before few =
    omega
    (arith, grants_of q k window now granted (opened address) (omega arith) few, most_rest q window (opened address))
asks q k window now granted address (Some a) before few = omega (arith, grants_of q k window now granted a before few)

other_at : (from address : Address) (x : Bucket) (buckets : List Bucket) → x.address ≡ from
    → same_address from address ≡ false → IsKept (bucket_at address buckets) (bucket_at address (used x buckets))
other_at from address x buckets e f = others x address buckets (ap (λ (a : Address). same_address a address) e ∙ f)

-- the window of the step, if it asks; else the one of now
abbrev pub window_after : ℕ → LimiterStep → ℕ
window_after now (refill from octets) = now
window_after now (spend to octets) = now
window_after now (ask from moment quota count) = window_of moment

before_kept : (now later : ℕ) (old new : Option Bucket) → IsKept old new → now ≤ later → IsBefore now old
    → IsBefore later new
before_kept now later old None k le h = tt
before_kept now later None (Some a) k le h = cc
before_kept now later (Some b) (Some a) k le h =
    let e : b ≡ a = cc in subst (λ (x : Bucket). x.window ≤ later) e (omega (arith, h, le))

-- a step whose window is not before that of now
pub record Goes (q : Quota) (address : Address) (window now : ℕ) (s : LimiterStep)
    (buckets : List Bucket) : Type 0 where
  pub bounded : IsBounded q window (granted_at address q window s buckets) (bucket_at address buckets)
      (bucket_at address (buckets_after s buckets))
  pub before : IsBefore (window_after now s) (bucket_at address (buckets_after s buckets))

-- a step that grants nothing uses the bucket x of an address
uses : (q : Quota) (from address : Address) (window now : ℕ) (x : Bucket) (buckets : List Bucket) → x.address ≡ from
    → IsBefore now (bucket_at address buckets)
    → (from ≡ address → IsBounded q window 0 (bucket_at address buckets) (Some x) × (x.window ≤ now))
    → IsBounded q window 0 (bucket_at address buckets) (bucket_at address (used x buckets))
    × IsBefore now (bucket_at address (used x buckets))
uses q from address window now x buckets e before mine =
    (elim (same_address from address) as (λ y.
    same_address from address ≡ y
    → IsBounded q window 0 (bucket_at address buckets) (bucket_at address (used x buckets))
    × IsBefore now (bucket_at address (used x buckets))) [
      | true ↦ λ t. let f = same_address_is from address t in
          let o = own_at address x buckets (e ∙ f) in
          let m = mine f in (
            subst (IsBounded q window 0 (bucket_at address buckets)) (sym o) m.0,
            subst (IsBefore now) (sym o) m.1,
          )
      | false ↦ λ t. let k = other_at from address x buckets e t in (
        kept q window (bucket_at address buckets) (bucket_at address (used x buckets)) k,
        before_kept now now (bucket_at address buckets) (bucket_at address (used x buckets)) k (omega arith) before,
      )
    ]) refl

window_refilled : (now octets : ℕ) (address : Address) (old : Option Bucket) → IsBefore now old
    → (refilled octets (or_opened address old)).window ≤ now
window_refilled now octets address None h = omega arith
window_refilled now octets address (Some a) h = h

window_paid : (now octets : ℕ) (address : Address) (old : Option Bucket) → IsBefore now old
    → (paid octets (or_opened address old)).window ≤ now
window_paid now octets address None h = omega arith
window_paid now octets address (Some a) h = h

refill_goes : (q : Quota) (address : Address) (window now : ℕ) (from : Address) (octets : ℕ) (buckets : List Bucket)
    → IsBefore now (bucket_at address buckets) → Goes q address window now (refill from octets) buckets
refill_goes q address window now from octets buckets h =
    let u =
    uses q from address window now (refilled octets (bucket_of from buckets)) buckets (address_of from buckets) h
    (λ f.
    subst
    (λ (b : Address).
    IsBounded q window 0 (bucket_at address buckets) (Some (refilled octets (bucket_of b buckets)))
    × ((refilled octets (bucket_of b buckets)).window ≤ now))
    (sym f) (
      refills q window address octets (bucket_at address buckets),
      window_refilled now octets address (bucket_at address buckets) h,
    )) in
    record { bounded = u.0; before = u.1 }

spend_goes : (q : Quota) (address : Address) (window now : ℕ) (to : Address) (octets : ℕ) (buckets : List Bucket)
    → IsBefore now (bucket_at address buckets) → Goes q address window now (spend to octets) buckets
spend_goes q address window now to octets buckets h =
    (elim (may_spend to octets buckets)
    as (λ z. may_spend to octets buckets ≡ z → Goes q address window now (spend to octets) buckets) [
      | true ↦ λ t.
          let u = uses q to address window now (paid octets (bucket_of to buckets)) buckets (address_of to buckets) h
          (λ f.
          subst
          (λ (b : Address).
          IsBounded q window 0 (bucket_at address buckets) (Some (paid octets (bucket_of b buckets)))
          × ((paid octets (bucket_of b buckets)).window ≤ now))
          (sym f) (
            pays_for q window address octets (bucket_at address buckets),
            window_paid now octets address (bucket_at address buckets) h,
          )) in
          record { bounded = rw t u.0; before = rw t u.1 }
      | false ↦ λ t. record { bounded = rw t (same q window (bucket_at address buckets)); before = rw t h }
    ]) refl

before_more : (now later : ℕ) (o : Option Bucket) → now ≤ later → IsBefore now o → IsBefore later o
before_more now later None le h = tt
before_more now later (Some a) le h = omega (arith, le, h)

own_ask : (q : Quota) (address : Address) (window now moment : ℕ) (k : Quota) (count : ℕ) (buckets : List Bucket)
    → IsBefore now (bucket_at address buckets) → now ≤ window_of moment
    → Goes q address window now (ask address moment k count) buckets
own_ask q address window now moment k count buckets h le =
    let old = bucket_at address buckets in
    let g = may_ask address moment k count buckets in
    let x = counted (window_of moment) k g (bucket_of address buckets) in
    let o =
    own_at address x buckets
    (address_counted k (window_of moment) g (bucket_of address buckets) ∙ address_of address buckets) in
    let few : g ≤ left_in (window_of moment) k (or_opened address old) = omega arith in
    let b : IsBounded q window (granted_in window (window_of moment) (counted_as q k g)) old (Some x) =
    asks q k window (window_of moment) g address old (before_more now (window_of moment) old le h) few in
    record {
      bounded =
          subst (IsBounded q window (granted_at address q window (ask address moment k count) buckets) old) (sym o)
          (rw (same_itself address) b);
      before =
          subst (IsBefore (window_of moment)) (sym o)
          (omega (arith, window_counted k (window_of moment) g (bucket_of address buckets)));
    }

ask_goes : (q : Quota) (address : Address) (window now : ℕ) (from : Address) (moment : ℕ) (k : Quota) (count : ℕ)
    (buckets : List Bucket)
    → IsBefore now (bucket_at address buckets) → now ≤ window_of moment
    → Goes q address window now (ask from moment k count) buckets
ask_goes q address window now from moment k count buckets h le =
    (elim (same_address from address)
    as (λ y. same_address from address ≡ y → Goes q address window now (ask from moment k count) buckets) [
      | true ↦ λ t.
          subst (λ (b : Address). Goes q address window now (ask b moment k count) buckets)
          (sym (same_address_is from address t)) (own_ask q address window now moment k count buckets h le)
      | false ↦ λ t.
          let g = may_ask from moment k count buckets in
          let x = counted (window_of moment) k g (bucket_of from buckets) in
          let kp =
          other_at from address x buckets
          (address_counted k (window_of moment) g (bucket_of from buckets) ∙ address_of from buckets) t in
          record {
            bounded =
                subst (λ (n : ℕ). IsBounded q window n (bucket_at address buckets) (bucket_at address (used x buckets)))
                (sym (ap (λ (y : Bool). if y && nat_eq (window_of moment) window then counted_as q k g else 0) t))
                (kept q window (bucket_at address buckets) (bucket_at address (used x buckets)) kp);
            before =
                before_kept now (window_of moment) (bucket_at address buckets) (bucket_at address (used x buckets)) kp
                le h;
          }
    ]) refl

later_window : (m n : ℕ) → m ≤ n → window_of m ≤ window_of n
later_window m n le = omega (arith, le)

times : (q : Quota) (b : Bool) → (if b then most_of q else 0) ≡ (if b then 1 else 0) * most_of q
times Numbers true = refl
times Numbers false = refl
times Items true = refl
times Items false = refl

-- one step, and the others
with_rest : (q : Quota) (address : Address) (window : ℕ) (s : LimiterStep) (ss : List LimiterStep)
    (buckets : List Bucket)
    → IsBounded q window (granted_at address q window s buckets) (bucket_at address buckets)
    (bucket_at address (buckets_after s buckets))
    → all_asked address q window ss (buckets_after s buckets)
    ≤ entries address ss (buckets_after s buckets) * most_of q
    + rest_in q window (bucket_at address (buckets_after s buckets))
    → all_asked address q window (s ∷ ss) buckets
    ≤ entries address (s ∷ ss) buckets * most_of q + rest_in q window (bucket_at address buckets)
with_rest q address window s ss buckets one rest =
    let here : entered q (bucket_at address buckets) (bucket_at address (buckets_after s buckets))
    ≡ enters address s buckets * most_of q =
    times q (is_some (bucket_at address (buckets_after s buckets)) && not (is_some (bucket_at address buckets))) in
    omega (
      arith,
      one,
      rest,
      here,
      add-mul (enters address s buckets) (entries address ss (buckets_after s buckets)) (most_of q),
    )

pub run : (q : Quota) (address : Address) (window moment : ℕ) (ss : List LimiterStep) (buckets : List Bucket)
    → AreInOrder moment ss → IsBefore (window_of moment) (bucket_at address buckets)
    → all_asked address q window ss buckets
    ≤ entries address ss buckets * most_of q + rest_in q window (bucket_at address buckets)
run q address window moment [] buckets order h = omega arith
run q address window moment (refill from octets ∷ ss) buckets order h =
    let g = refill_goes q address window (window_of moment) from octets buckets h in
    with_rest q address window (refill from octets) ss buckets g.bounded
    (run q address window moment ss (buckets_after (refill from octets) buckets) order g.before)
run q address window moment (spend to octets ∷ ss) buckets order h =
    let g = spend_goes q address window (window_of moment) to octets buckets h in
    with_rest q address window (spend to octets) ss buckets g.bounded
    (run q address window moment ss (buckets_after (spend to octets) buckets) order g.before)
run q address window moment (ask from next k count ∷ ss) buckets order h =
    let g =
    ask_goes q address window (window_of moment) from next k count buckets h (later_window moment next order.0) in
    with_rest q address window (ask from next k count) ss buckets g.bounded
    (run q address window next ss (buckets_after (ask from next k count) buckets) order.1 g.before)
