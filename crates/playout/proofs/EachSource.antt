-- The playouts of many sources: what becomes of the playout of each.
use Rattle.std.proofs.Common.{◌≡◌, ◌≢◌, ◌∙◌, ap, sym, refl, subst, ℕ, ℤ, zero, suc, ◌≤◌, Bool, true, false, cond, arith}
use Rattle.std.proofs.Common.{List, [], ◌∷◌, ◌&&◌, if◌then◌else◌, length, Option, None, Some, nat_eq, slice_get}
use Rattle.std.proofs.lemmas.List.Sums.{fold-append}
use Rattle.std.proofs.lemmas.Slice.Eq.{bytes_eq-Decides}
use Rattle.std.proofs.lemmas.Option.{same_Some}
use Rattle.std.specs.Cmp.{unsigned_Decides}
use Rattle.std.specs.Str.{bytes_eq}
use Rattle.std.specs.Map.{lookup, values_of}
use Rattle.indexmap.specs.Layout.{set_value_at}
use Rattle.rtp_codec.specs.Address.{same_address}
use Rattle.rtp_codec.specs.declared.address.Address.{Address}
use Rattle.playout.specs.declared.many.SourceKey.{SourceKey}
use Rattle.playout.specs.Playout.{Play, begun_by, AreTaken}
use Rattle.playout.specs.Calls.{PlaysOut, at_rate}
use Rattle.playout.specs.Renewal.{SourcePlay, no_sound, no_tally, source_put, source_ticked}
use Rattle.playout.specs.Playouts.{AudioEvent, PutOf, TakeAll, PlayoutsOf, same_source, source_next, address_of}
use Rattle.playout.specs.Playouts.{playout_at, source_on, Keeps, HoldsAt, HasAlso, ShowsOf}
use Rattle.playout.specs.inner.Holds.{PlayoutOf, SourceOf, Holds, Shows, ShowsAt}
use Rattle.playout.specs.inner.Counts.{PutsInto, HasTicked}
use Rattle.playout.proofs.Renewed.{at_own, at_other, begins, keeps_first}

-- the first put of a source
at_first : (renews : Bool) (new : SourceOf) (rate ts : ℕ) (samples : List ℤ) (s : SourcePlay) → new.tally ≡ no_tally
    → Holds new.playout (Some (begun_by rate ts samples))
    → HoldsAt renews None s → HoldsAt renews (Some new) (source_put rate s ts samples)
at_first renews new rate ts samples s none held x =
    subst (λ (y : SourcePlay). Keeps renews new (source_put rate y ts samples)) (sym x)
    (subst (λ (y : SourcePlay). Keeps renews new y) (sym (begins renews rate ts samples None no_tally refl refl))
    (keeps_first renews new rate ts samples none held))

-- a take before the first put changes nothing
none_ticked : (renews : Bool) (s : SourcePlay) → HoldsAt renews None s → HoldsAt renews None (source_ticked s)
none_ticked renews s x = ap source_ticked x

-- the playouts have one event more, where each source has it
pub also : (old new : PlayoutsOf) (event : AudioEvent)
    → ((source : ℕ) (address : Address) (s : SourcePlay) → HoldsAt old.renews (playout_at source address old) s
    → HoldsAt new.renews (playout_at source address new) (source_next source address s event))
    → HasAlso old new event
also old new event step events has source address =
    subst (λ (s : SourcePlay). HoldsAt new.renews (playout_at source address new) s)
    (sym (fold-append (source_next source address) (no_sound false) events (event ∷ [])))
    (step source address (source_on source address events) (has source address))

both : (a b : Bool) → (a && b) ≡ true → (a ≡ true) × (b ≡ true)
both true b h = (refl, h)
both false b h = cc

-- what passes as one source is one
source_is : (s t : ℕ) (a b : Address) → same_source s a t b ≡ true → (s ≡ t) × (a ≡ b)
source_is s t a b h =
    let first = both (nat_eq s t) (same_address a b) h in
    let second = both (bytes_eq a.ip b.ip) (nat_eq a.port b.port) first.1 in
    let ip = (bytes_eq-Decides a.ip b.ip).0 second.0 in
    let port = (unsigned_Decides a.port b.port).0 second.1 in
    ((unsigned_Decides s t).0 first.0, λ i. record { ip = ip i; port = port i })

abbrev pub same_key : SourceKey → SourceKey → Bool
same_key key other = same_source key.source (address_of key) other.source (address_of other)

abbrev pub key_for : ℕ → Address → SourceKey
key_for source address = record { source = source; ip = address.ip; port = address.port }

module _ (renews : Bool) (es fs : List (SourceKey × SourceOf)) (s : ℕ) (a : Address) (key : SourceKey)
    (is_key : key ≡ key_for s a) (rate ts : ℕ) (samples : List ℤ) (w : SourceOf)
    (writes : (q : SourceKey) → lookup (same_key q) fs ≡ cond (same_key key q) (Some w) (lookup (same_key q) es)) where
  abbrev before : PlayoutsOf
  before = record { renews = renews; sources = es }

  abbrev after : PlayoutsOf
  after = record { renews = renews; sources = fs }

  at : (q : SourceKey) → lookup (same_key q) fs ≡ cond (same_key (key_for s a) q) (Some w) (lookup (same_key q) es)
  at q = writes q ∙ ap (λ (k : SourceKey). cond (same_key k q) (Some w) (lookup (same_key q) es)) is_key

  -- a put of one source, of which this is then kept
  put_one : ((x : SourcePlay) → HoldsAt renews (lookup (same_key (key_for s a)) es) x
      → HoldsAt renews (Some w) (source_put rate x ts samples))
      → HasAlso before after (PutOf s a rate ts samples)
  put_one step = also before after (PutOf s a rate ts samples) (λ t b x held. by t b x held (same_source s a t b) refl)
    where
      next : SourcePlay → Bool → SourcePlay
      next x is = if is then source_put rate x ts samples else x

      by : (t : ℕ) (b : Address) (x : SourcePlay) → HoldsAt renews (lookup (same_key (key_for t b)) es) x → (is : Bool)
          → same_source s a t b ≡ is
          → HoldsAt renews (lookup (same_key (key_for t b)) fs) (source_next t b x (PutOf s a rate ts samples))
      by t b x held true is =
          let same = source_is s t a b is in
          let here : HoldsAt renews (lookup (same_key (key_for s a)) es) x =
          subst (λ (k : SourceKey). HoldsAt renews (lookup (same_key k) es) x)
          (sym (λ i. key_for (same.0 i) (same.1 i))) held in
          let now : lookup (same_key (key_for t b)) fs ≡ Some w =
          at (key_for t b) ∙ ap (λ c. cond c (Some w) (lookup (same_key (key_for t b)) es)) is in
          subst (λ c. HoldsAt renews (lookup (same_key (key_for t b)) fs) (next x c)) (sym is)
          (subst (λ o. HoldsAt renews o (source_put rate x ts samples)) (sym now) (step x here))
      by t b x held false is =
          let now : lookup (same_key (key_for t b)) fs ≡ lookup (same_key (key_for t b)) es =
          at (key_for t b) ∙ ap (λ c. cond c (Some w) (lookup (same_key (key_for t b)) es)) is in
          subst (λ c. HoldsAt renews (lookup (same_key (key_for t b)) fs) (next x c)) (sym is)
          (subst (λ o. HoldsAt renews o x) (sym now) held)

  -- where something is kept of it
  pub put_kept : (v : SourceOf) → lookup (same_key key) es ≡ Some v → PutsInto renews v w rate ts samples
      → HasAlso before after (PutOf s a rate ts samples)
  put_kept v here puts =
      put_one (λ x held.
      puts x
      (subst (λ o. HoldsAt renews o x) (ap (λ (k : SourceKey). lookup (same_key k) es) (sym is_key) ∙ here) held))

  -- where nothing is
  pub put_new : lookup (same_key (key_for s a)) es ≡ None → w.tally ≡ no_tally
      → Holds w.playout (Some (begun_by rate ts samples)) → HasAlso before after (PutOf s a rate ts samples)
  put_new here none held =
      put_one
      (λ x missing. at_first renews w rate ts samples x none held (subst (λ o. HoldsAt renews o x) here missing))

module _ (h : PlayoutOf) (rate : ℕ) (out : List ℤ) where
  -- what a playout shows at its own rate
  pub shown_own : (count : ℕ) → length h.cells ≡ rate → Shows h out count → ShowsAt h rate out count
  shown_own count e shows None held = shows None held
  shown_own count e shows (Some play) held =
      subst (λ (o : Option Play). PlaysOut o out count) (sym (at_own rate play (held.1 ∙ e))) (shows (Some play) held)

  -- and at another
  pub shown_other : length h.cells ≢ rate → AreTaken [] 0 out → ShowsAt h rate out 0
  shown_other other zeros None held = (zeros, refl)
  shown_other other zeros (Some play) held =
      subst (λ (o : Option Play). PlaysOut o out 0) (sym (at_other rate play (λ same. other (sym held.1 ∙ same))))
      (zeros, refl)

module _ (playouts : PlayoutsOf) (source : ℕ) (address : Address) (rate : ℕ) (out : List ℤ) where
  -- what is shown of a source of which something is kept
  pub shown : (h : SourceOf) (count : ℕ) → playout_at source address playouts ≡ Some h
      → ShowsAt h.playout rate out count → ShowsOf playouts source address rate out count
  shown h count here shows events has =
      let kept : Keeps playouts.renews h (source_on source address events) =
      subst (λ o. HoldsAt playouts.renews o (source_on source address events)) here (has source address) in
      subst (λ (s : SourcePlay). PlaysOut (at_rate rate s.play) out count) (sym kept.is)
      (shows (Some kept.play) kept.holds)

  -- and of another one
  pub shown_none : playout_at source address playouts ≡ None → AreTaken [] 0 out
      → ShowsOf playouts source address rate out 0
  shown_none here zeros events has =
      let none : source_on source address events ≡ no_sound playouts.renews =
      subst (λ o. HoldsAt playouts.renews o (source_on source address events)) here (has source address) in
      subst (λ (s : SourcePlay). PlaysOut (at_rate rate s.play) out 0) (sym none) (zeros, refl)

-- an entry that has had a take
abbrev Passed : SourceKey × SourceOf → SourceKey × SourceOf → Type 0
Passed e f = (f.0 ≡ e.0) × HasTicked e.1 f.1

-- the first n entries have had a take, and the others are as they were
abbrev pub HaveTaken : ℕ → List (SourceKey × SourceOf) → List (SourceKey × SourceOf) → Type 0
HaveTaken zero es fs = fs ≡ es
HaveTaken (suc n) [] fs = fs ≡ []
HaveTaken (suc n) (e ∷ es) [] = ⊥
HaveTaken (suc n) (e ∷ es) (f ∷ fs) = Passed e f × HaveTaken n es fs

-- one more
pub one_taken : (n : ℕ) (es fs : List (SourceKey × SourceOf)) (v w : SourceOf) → HaveTaken n es fs
    → slice_get (values_of fs) n ≡ Some v → HasTicked v w
    → HaveTaken (suc n) es (set_value_at fs n w)
one_taken zero es [] v w so at takes = cc
one_taken zero [] (f ∷ fs) v w so at takes = cc
one_taken zero (e ∷ es) (f ∷ fs) v w so at takes =
    let here : HasTicked f.1 w = subst (λ (x : SourceOf). HasTicked x w) (sym (same_Some f.1 v at)) takes in
    subst (λ (xs : List (SourceKey × SourceOf)). HaveTaken 1 xs ((f.0, w) ∷ fs)) so ((refl, here), refl)
one_taken (suc n) [] fs v w so at takes =
    absurd (let none : None ≡ Some v =
    subst (λ (xs : List (SourceKey × SourceOf)). slice_get (values_of xs) (suc n) ≡ Some v) so at in
    cc)
one_taken (suc n) (e ∷ es) [] v w so at takes = absurd so
one_taken (suc n) (e ∷ es) (f ∷ fs) v w so at takes = (so.0, one_taken n es fs v w so.1 at takes)

-- a source has the take too
taken_at : (renews : Bool) (test : SourceKey → Bool) (n : ℕ) (es fs : List (SourceKey × SourceOf)) → length es ≤ n
    → HaveTaken n es fs
    → (s : SourcePlay) → HoldsAt renews (lookup test es) s → HoldsAt renews (lookup test fs) (source_ticked s)
taken_at renews test zero [] fs all so s x =
    subst (λ (xs : List (SourceKey × SourceOf)). HoldsAt renews (lookup test xs) (source_ticked s)) (sym so)
    (none_ticked renews s x)
taken_at renews test zero (e ∷ es) fs all so s x = absurd (omega (arith, all))
taken_at renews test (suc n) [] fs all so s x =
    subst (λ (xs : List (SourceKey × SourceOf)). HoldsAt renews (lookup test xs) (source_ticked s)) (sym so)
    (none_ticked renews s x)
taken_at renews test (suc n) (e ∷ es) [] all so s x = absurd so
taken_at renews test (suc n) (e ∷ es) (f ∷ fs) all so s x =
    subst (λ b. HoldsAt renews (cond b (Some f.1) (lookup test fs)) (source_ticked s)) (ap test (sym so.0.0))
    (by (taken_at renews test n es fs (omega (arith, all)) so.1 s) (test e.0) x)
  where
    by : (HoldsAt renews (lookup test es) s → HoldsAt renews (lookup test fs) (source_ticked s))
        → (b : Bool) → HoldsAt renews (cond b (Some e.1) (lookup test es)) s
        → HoldsAt renews (cond b (Some f.1) (lookup test fs)) (source_ticked s)
    by rest true y = so.0.1 renews s y
    by rest false y = rest y

-- there are as many as before
pub as_many : (n : ℕ) (es fs : List (SourceKey × SourceOf)) → HaveTaken n es fs → length fs ≡ length es
as_many zero es fs so = ap length so
as_many (suc n) [] fs so = ap length so
as_many (suc n) (e ∷ es) [] so = absurd so
as_many (suc n) (e ∷ es) (f ∷ fs) so = ap suc (as_many n es fs so.1)

-- all of them
pub all_taken : (renews : Bool) (n : ℕ) (es fs : List (SourceKey × SourceOf)) → length es ≤ n → HaveTaken n es fs
    → HasAlso (record { renews = renews; sources = es }) (record { renews = renews; sources = fs }) TakeAll
all_taken renews n es fs all so =
    also (record { renews = renews; sources = es }) (record { renews = renews; sources = fs }) TakeAll
    (λ source address s x. taken_at renews (same_key (key_for source address)) n es fs all so s x)
