-- What is prepared for the receivers, by their SSRC.
use Rattle.std.proofs.Common.{◌≡◌, ℕ, Bool, true, false, cond, nat_eq, ◌⊎◌, List, [], ◌∷◌, ◌++◌, map, Option, Some}
use Rattle.std.proofs.Common.{None, refl, sym, ap, subst, ◌∙◌, arith, eqb-true, eq-eqb, inl, inr}
use Rattle.std.proofs.lemmas.Bool.{cases_eq}
use Rattle.std.specs.Prelude.{filter, option_map}
use Rattle.std.specs.List.{find, AllByRecursion}
use Rattle.std.proofs.lemmas.Bool.Decides.{nat_tests}
use Rattle.std.proofs.lemmas.List.{flat_map_more}
use Rattle.retransmit.specs.SentPacket.{SentPacket}
use Rattle.topology.specs.declared.receivers.Receiver.{Receiver}
use Rattle.topology.specs.Receivers.{receiver_at, AreDistinct}
use Rattle.forward_rewrite.specs.Streams.{StreamOf, committed}
use Rattle.media_items.specs.OwnStreams.{is_mine}
use Rattle.bridge_core.specs.Sent.{Sent}
use Rattle.bridge_core.specs.Lanes.{goes}
use Rattle.bridge_core.specs.LaneState.{StreamList, stream_at}
use Rattle.bridge_core.specs.inner.Readies.{ReadyOf, Fits, AllFit, receivers_of, ssrc_of, current, kept_after}
use Rattle.bridge_core.specs.inner.Readies.{kept_after_one, sent_for}

pub each_more : {X : Type 0} {P Q : X → Type 0} → ((x : X) → P x → Q x) → (xs : List X) → AllByRecursion P xs
    → AllByRecursion Q xs
each_more f [] h = tt
each_more f (x ∷ xs) h = (f x h.0, each_more f xs h.1)

abbrev pub ready_at : ℕ → List ReadyOf → Option ReadyOf
ready_at k rs = find (λ r. nat_eq r.receiver.slot.out_ssrc k) rs

pub receiver_at-receivers_of : (k : ℕ) (rs : List ReadyOf)
    → receiver_at k (receivers_of rs) ≡ option_map (λ r. r.receiver) (ready_at k rs)
receiver_at-receivers_of k [] = refl
receiver_at-receivers_of k (r ∷ rs) =
    elim (nat_eq r.receiver.slot.out_ssrc k) as (λ b.
    cond b (Some r.receiver) (receiver_at k (receivers_of rs))
    ≡ option_map (λ (r : ReadyOf). r.receiver) (cond b (Some r) (ready_at k rs)))
    [ true ↦ refl | false ↦ receiver_at-receivers_of k rs ]

pub ready_at-none : (k : ℕ) (rs : List ReadyOf) → receiver_at k (receivers_of rs) ≡ None → ready_at k rs ≡ None
ready_at-none k rs e = none (ready_at k rs) (sym (receiver_at-receivers_of k rs) ∙ e)
  where
    none : (o : Option ReadyOf) → option_map (λ (r : ReadyOf). r.receiver) o ≡ None → o ≡ None
    none None e = refl
    none (Some r) e = cc

-- a stream that something is prepared for is committed once, and another stays
abbrev pub kept_by : Option ReadyOf → Option StreamOf → Option StreamOf
kept_by None kept = kept
kept_by (Some r) kept = Some (committed (current kept r.receiver.slot) r.prepared)

pub kept_after-distinct : (k : ℕ) (rs : List ReadyOf) (kept : Option StreamOf) → AreDistinct (receivers_of rs)
    → kept_after k rs kept ≡ kept_by (ready_at k rs) kept
kept_after-distinct k [] kept d = refl
kept_after-distinct k (r ∷ rs) kept d =
    elim (cases_eq r.receiver.slot.out_ssrc k) [
      | inl same ↦
          let none : ready_at k rs ≡ None =
          ready_at-none k rs (subst (λ m. receiver_at m (receivers_of rs) ≡ None) same d.0) in
          let is : nat_eq r.receiver.slot.out_ssrc k ≡ true = grind (arith, nat_tests) in
          kept_after-distinct k rs (kept_after_one k r kept) d.1
          ∙ ap (λ o. kept_by o (kept_after_one k r kept)) none
          ∙ ap (λ b. cond b (Some (committed (current kept r.receiver.slot) r.prepared)) kept) is
          ∙ sym (ap (λ b. kept_by (cond b (Some r) (ready_at k rs)) kept) is)
      | inr other ↦
          let not : nat_eq r.receiver.slot.out_ssrc k ≡ false = grind (arith, nat_tests) in
          kept_after-distinct k rs (kept_after_one k r kept) d.1
          ∙ ap (λ b. kept_by (ready_at k rs) (cond b (Some (committed (current kept r.receiver.slot) r.prepared)) kept))
          not
          ∙ sym (ap (λ b. kept_by (cond b (Some r) (ready_at k rs)) kept) not)
    ]

-- leaving out what isn't the lane's keeps the receiver of an SSRC of the lane
pub receiver_at-mine : (lane lanes k : ℕ) (rs : List Receiver) → is_mine lane lanes k ≡ true
    → receiver_at k rs ≡ receiver_at k (filter (λ r. is_mine lane lanes r.slot.out_ssrc) rs)
receiver_at-mine lane lanes k [] mine = refl
receiver_at-mine lane lanes k (r ∷ rs) mine =
    let rest = receiver_at-mine lane lanes k rs mine in
    let right = filter (λ (r : Receiver). is_mine lane lanes r.slot.out_ssrc) rs in
    elim (cases_eq r.slot.out_ssrc k) [
      | inl same ↦
          let is : nat_eq r.slot.out_ssrc k ≡ true = grind (arith, nat_tests) in
          let its : is_mine lane lanes r.slot.out_ssrc ≡ true =
          subst (λ m. is_mine lane lanes m ≡ true) (sym same) mine in
          ap (λ b. cond b (Some r) (receiver_at k rs)) is
          ∙ sym (ap (λ b. cond b (Some r) (receiver_at k right)) is)
          ∙ sym (ap (λ b. receiver_at k (cond b (r ∷ right) right)) its)
      | inr other ↦
          let not : nat_eq r.slot.out_ssrc k ≡ false = grind (arith, nat_tests) in
          ap (λ b. cond b (Some r) (receiver_at k rs)) not
          ∙ rest
          ∙ (elim (is_mine lane lanes r.slot.out_ssrc)
          as (λ t. receiver_at k right ≡ receiver_at k (cond t (r ∷ right) right))
          [ true ↦ sym (ap (λ b. cond b (Some r) (receiver_at k right)) not) | false ↦ refl ])
    ]

-- the first is not it, and none of the others is
past : (b : Bool) (r : Receiver) (o : Option Receiver) → cond b (Some r) o ≡ None → (b ≡ false) × (o ≡ None)
past true r o e = absurd (cc)
past false r o e = (refl, e)

receiver_at-filter_none : (p : Receiver → Bool) (k : ℕ) (rs : List Receiver) → receiver_at k rs ≡ None
    → receiver_at k (filter p rs) ≡ None
receiver_at-filter_none p k [] e = refl
receiver_at-filter_none p k (r ∷ rs) e =
    let parts = past (nat_eq r.slot.out_ssrc k) r (receiver_at k rs) e in
    let rest = receiver_at-filter_none p k rs parts.1 in
    elim (p r) as (λ b. receiver_at k (cond b (r ∷ filter p rs) (filter p rs)) ≡ None)
    [ true ↦ ap (λ b. cond b (Some r) (receiver_at k (filter p rs))) parts.0 ∙ rest | false ↦ rest ]

pub AreDistinct-filter : (p : Receiver → Bool) (rs : List Receiver) → AreDistinct rs → AreDistinct (filter p rs)
AreDistinct-filter p [] d = tt
AreDistinct-filter p (r ∷ rs) d =
    elim (p r) as (λ b. AreDistinct (cond b (r ∷ filter p rs) (filter p rs))) [
      | true ↦ (receiver_at-filter_none p r.slot.out_ssrc rs d.0, AreDistinct-filter p rs d.1)
      | false ↦ AreDistinct-filter p rs d.1
    ]

-- the first of the list, or one of the rest
first_or : (b : Bool) (x : ReadyOf) (o : Option ReadyOf) (r : ReadyOf) → cond b (Some x) o ≡ Some r
    → ((b ≡ true) × (x ≡ r)) ⊎ (o ≡ Some r)
first_or true x o r e = inl (refl, (cc))
first_or false x o r e = inr e

-- what holds of all that is ready holds of what is ready at a key
pub all-at : (P : ReadyOf → Type 0) (k : ℕ) (rs : List ReadyOf) (r : ReadyOf) → AllByRecursion P rs
    → ready_at k rs ≡ Some r → P r
all-at P k [] r h e = absurd (cc)
all-at P k (x ∷ rs) r h e =
    elim (first_or (nat_eq x.receiver.slot.out_ssrc k) x (ready_at k rs) r e)
    [ inl p ↦ subst P p.1 h.0 | inr rest ↦ all-at P k rs r h.1 rest ]

pub ready_at-ssrc : (k : ℕ) (rs : List ReadyOf) (r : ReadyOf) → ready_at k rs ≡ Some r → r.receiver.slot.out_ssrc ≡ k
ready_at-ssrc k [] r e = absurd (cc)
ready_at-ssrc k (x ∷ rs) r e =
    elim (first_or (nat_eq x.receiver.slot.out_ssrc k) x (ready_at k rs) r e) [
      | inl p ↦ ap (λ (y : ReadyOf). y.receiver.slot.out_ssrc) (sym p.1) ∙ eqb-true _ _ p.0
      | inr rest ↦ ready_at-ssrc k rs r rest
    ]

-- each is the one at its key
pub each_found : (rs : List ReadyOf) → AreDistinct (receivers_of rs)
    → AllByRecursion (λ r. ready_at r.receiver.slot.out_ssrc rs ≡ Some r) rs
each_found [] d = tt
each_found (x ∷ rs) d =
    (here (ready_at x.receiver.slot.out_ssrc rs), each_more (λ r found. later r found) rs (each_found rs d.1))
  where
    here : (o : Option ReadyOf) → cond (nat_eq x.receiver.slot.out_ssrc x.receiver.slot.out_ssrc) (Some x) o ≡ Some x
    here o = ap (λ b. cond b (Some x) o) (eq-eqb x.receiver.slot.out_ssrc x.receiver.slot.out_ssrc refl)

    later : (r : ReadyOf) → ready_at r.receiver.slot.out_ssrc rs ≡ Some r
        → ready_at r.receiver.slot.out_ssrc (x ∷ rs) ≡ Some r
    later r found = elim (cases_eq x.receiver.slot.out_ssrc r.receiver.slot.out_ssrc) [
      | inl same ↦
          absurd (let none : ready_at r.receiver.slot.out_ssrc rs ≡ None =
          ready_at-none r.receiver.slot.out_ssrc rs (subst (λ m. receiver_at m (receivers_of rs) ≡ None) same d.0) in
          cc)
      | inr other ↦
          let not : nat_eq x.receiver.slot.out_ssrc r.receiver.slot.out_ssrc ≡ false = grind (arith, nat_tests) in
          ap (λ b. cond b (Some x) (ready_at r.receiver.slot.out_ssrc rs)) not ∙ found
    ]

pub all-push : {X : Type 0} (P : X → Type 0) (xs : List X) (x : X) → AllByRecursion P xs → P x
    → AllByRecursion P (xs ++ x ∷ [])
all-push P [] x h n = (n, tt)
all-push P (y ∷ xs) x h n = (h.0, all-push P xs x h.1 n)

-- what is left of a list is the lane's
pub all_mine : (lane lanes : ℕ) (rs : List Receiver)
    → AllByRecursion (λ r. is_mine lane lanes r.slot.out_ssrc ≡ true)
    (filter (λ r. is_mine lane lanes r.slot.out_ssrc) rs)
all_mine lane lanes [] = tt
all_mine lane lanes (r ∷ rs) = go (is_mine lane lanes r.slot.out_ssrc) refl (all_mine lane lanes rs)
  where
    go : (b : Bool) → is_mine lane lanes r.slot.out_ssrc ≡ b
        → AllByRecursion (λ x. is_mine lane lanes x.slot.out_ssrc ≡ true)
        (filter (λ x. is_mine lane lanes x.slot.out_ssrc) rs)
        → AllByRecursion (λ x. is_mine lane lanes x.slot.out_ssrc ≡ true) (cond (is_mine lane lanes r.slot.out_ssrc)
        (r ∷ filter (λ x. is_mine lane lanes x.slot.out_ssrc) rs) (filter (λ x. is_mine lane lanes x.slot.out_ssrc) rs))
    go true e rest =
        subst
        (λ b.
        AllByRecursion (λ (x : Receiver). is_mine lane lanes x.slot.out_ssrc ≡ true)
        (cond b (r ∷ filter (λ (x : Receiver). is_mine lane lanes x.slot.out_ssrc) rs)
        (filter (λ (x : Receiver). is_mine lane lanes x.slot.out_ssrc) rs)))
        (sym e) (e, rest)
    go false e rest =
        subst
        (λ b.
        AllByRecursion (λ (x : Receiver). is_mine lane lanes x.slot.out_ssrc ≡ true)
        (cond b (r ∷ filter (λ (x : Receiver). is_mine lane lanes x.slot.out_ssrc) rs)
        (filter (λ (x : Receiver). is_mine lane lanes x.slot.out_ssrc) rs)))
        (sym e) rest

pub readies_mine : (lane lanes : ℕ) (rs : List ReadyOf)
    → AllByRecursion (λ (r : Receiver). is_mine lane lanes r.slot.out_ssrc ≡ true) (receivers_of rs)
    → AllByRecursion (λ (r : ReadyOf). is_mine lane lanes r.receiver.slot.out_ssrc ≡ true) rs
readies_mine lane lanes [] h = tt
readies_mine lane lanes (r ∷ rs) h = (h.0, readies_mine lane lanes rs h.1)

-- committing one stream leaves those of the others as they are
pub still_fit : (old new : StreamList) (r : ReadyOf) (rs : List ReadyOf)
    → receiver_at r.receiver.slot.out_ssrc (receivers_of rs) ≡ None
    → ((k : ℕ) → stream_at k new ≡ kept_after_one k r (stream_at k old)) → AllFit old rs → AllFit new rs
still_fit old new r [] none is h = tt
still_fit old new r (x ∷ rs) none is h =
    let parts =
    past (nat_eq x.receiver.slot.out_ssrc r.receiver.slot.out_ssrc) x.receiver
    (receiver_at r.receiver.slot.out_ssrc (receivers_of rs)) none in
    let apart : nat_eq r.receiver.slot.out_ssrc x.receiver.slot.out_ssrc ≡ false = grind (arith, nat_tests, parts.0) in
    let same : stream_at x.receiver.slot.out_ssrc new ≡ stream_at x.receiver.slot.out_ssrc old =
    is x.receiver.slot.out_ssrc
    ∙ ap
    (λ b.
    cond b (Some (committed (current (stream_at x.receiver.slot.out_ssrc old) r.receiver.slot) r.prepared))
    (stream_at x.receiver.slot.out_ssrc old))
    apart in
    (subst (λ kept. Fits kept x) (sym same) h.0, still_fit old new r rs parts.1 is h.1)

-- the packets of one more receiver are appended
pub sent_pushed : (before out new : List Sent) (rs all : List ReadyOf) (r : ReadyOf) (to : Receiver)
    (ps : List SentPacket)
    → out ≡ before ++ sent_for rs → r.receiver ≡ to → ps ≡ r.prepared.packets
    → new ≡ out ++ map (goes to.slot.out_ssrc None) ps → all ≡ rs ++ r ∷ []
    → new ≡ before ++ sent_for all
sent_pushed before out new rs all r to ps told whose same appended pushed =
    appended
    ∙ ap (λ es. es ++ map (goes to.slot.out_ssrc None) ps) told
    ∙ ap (λ (x : Receiver). (before ++ sent_for rs) ++ map (goes x.slot.out_ssrc None) ps) (sym whose)
    ∙ ap (λ (qs : List SentPacket). (before ++ sent_for rs) ++ map (goes (ssrc_of r) None) qs) same
    ∙ flat_map_more (λ (x : ReadyOf). map (goes (ssrc_of x) None) x.prepared.packets) before rs r
    ∙ ap (λ xs. before ++ sent_for xs) (sym pushed)
