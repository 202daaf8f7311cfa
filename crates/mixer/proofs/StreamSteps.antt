-- Streams step by step.
use Rattle.std.proofs.Common.{◌≡◌, ℕ, ◌+◌, ◌<◌, ◌≤◌, Bool, true, false, nat_eq, zero, suc, List, [], ◌∷◌, ◌++◌, length}
use Rattle.std.proofs.Common.{map, filter, take, Option, None, Some, unwrap_or, if◌then◌else◌, ap, sym, subst, ◌∙◌}
use Rattle.std.proofs.Common.{arith, refl, slice_get, slice_index_or, append-nil, cond, ◌⊎◌, inl, inr}
use Rattle.std.specs.List.{AllByRecursion}
use Rattle.std.specs.Map.{lookup}
use Rattle.indexmap.specs.IndexMap.{set_value_at}
use Rattle.forward_rewrite.specs.Mixes.{MixOf}
use Rattle.std.proofs.lemmas.List.Elements.{filter_more, filter-append}
use Rattle.std.proofs.lemmas.Bool.{eqb-true}
use Rattle.desk_rows.specs.declared.row.Member.{Member as MemberRow}
use Rattle.desk_rows.specs.Desk.{Desk}
use Rattle.media_items.specs.OwnStreams.{is_mine}
use Rattle.mixer.specs.Hearing.{Voice}
use Rattle.mixer.specs.inner.Ready.{HasPassed, Passes, Partly, hears_any, hearers}

abbrev Entries : Type 0
Entries = List (ℕ × MixOf)

-- ---- a tick that is passed

partly_first : (d : Desk) (moment : ℕ) (new : Entries) (w : MixOf) (e : ℕ × MixOf) → 0 < length new
    → HasPassed d moment (slice_index_or new 0 e).0 (slice_index_or new 0 e).1 w
    → Partly d moment 1 new (set_value_at new 0 w)
partly_first d moment [] w e within passed = absurd (omega (arith, within))
partly_first d moment (o ∷ es) w e within passed = (refl, passed, refl)

partly_next : (d : Desk) (moment n : ℕ) (old new : Entries) (w : MixOf) (e : ℕ × MixOf) → Partly d moment n old new
    → n < length new
    → HasPassed d moment (slice_index_or new n e).0 (slice_index_or new n e).1 w
    → Partly d moment (suc n) old (set_value_at new n w)
partly_next d moment zero old new w e so within passed =
    subst (λ o. Partly d moment 1 o (set_value_at new 0 w)) so (partly_first d moment new w e within passed)
partly_next d moment (suc n) [] new w e so within passed = absurd (omega (arith, ap length so, within))
partly_next d moment (suc n) (o ∷ old) [] w e so within passed = absurd so
partly_next d moment (suc n) (o ∷ old) (x ∷ new) w e so within passed =
    (so.0, so.1, partly_next d moment n old new w e so.2 (omega (arith, within)) passed)

-- one stream more
pub partly_more : (d : Desk) (moment n : ℕ) (old new : Entries) (w : MixOf) (e : ℕ × MixOf) → Partly d moment n old new
    → n < length new
    → HasPassed d moment (slice_index_or new n e).0 (slice_index_or new n e).1 w
    → Partly d moment (n + 1) old (set_value_at new n w)
partly_more d moment n old new w e so within passed =
    let is : suc n ≡ n + 1 = omega arith in
    subst (λ m. Partly d moment m old (set_value_at new n w)) is (partly_next d moment n old new w e so within passed)

-- the value at a place is that of the entry there
pub value-at : (es : Entries) (n : ℕ) (e : ℕ × MixOf) (s : MixOf) → n < length es
    → slice_get (map (λ e. e.1) es) n ≡ Some s → (slice_index_or es n e).1 ≡ s
value-at [] n e s within at = absurd (omega (arith, within))
value-at (o ∷ es) zero e s within at = ap (λ o. unwrap_or o s) at
value-at (o ∷ es) (suc n) e s within at = value-at es n e s (omega (arith, within)) at

pub long_as_ever : (es : Entries) (n : ℕ) (w : MixOf) → length (set_value_at es n w) ≡ length es
long_as_ever [] n w = refl
long_as_ever (e ∷ es) zero w = refl
long_as_ever (e ∷ es) (suc n) w = ap suc (long_as_ever es n w)

pass_none : (d : Desk) (moment ssrc : ℕ) (new : Entries) → new ≡ []
    → Passes d moment ssrc None (lookup (nat_eq ssrc) new)
pass_none d moment ssrc new none = subst (λ es. Passes d moment ssrc None (lookup (nat_eq ssrc) es)) (sym none) tt

pub tells : (b : Bool) → (b ≡ true) ⊎ (b ≡ false)
tells true = inl refl
tells false = inr refl

pass_one : (d : Desk) (moment ssrc key : ℕ) (x y : MixOf) (old new : Option MixOf) → HasPassed d moment key x y
    → Passes d moment ssrc old new
    → Passes d moment ssrc (if nat_eq ssrc key then Some x else old) (if nat_eq ssrc key then Some y else new)
pass_one d moment ssrc key x y old new one rest = by (tells (nat_eq ssrc key))
  where
    by : (nat_eq ssrc key ≡ true) ⊎ (nat_eq ssrc key ≡ false)
        → Passes d moment ssrc (if nat_eq ssrc key then Some x else old) (if nat_eq ssrc key then Some y else new)
    by (inl own) =
        subst (λ b. Passes d moment ssrc (if b then Some x else old) (if b then Some y else new)) (sym own)
        (subst (λ k. HasPassed d moment k x y) (sym (eqb-true ssrc key own)) one)
    by (inr other) =
        subst (λ b. Passes d moment ssrc (if b then Some x else old) (if b then Some y else new)) (sym other) rest

-- once all have passed it, each one has
pub all_passed : (d : Desk) (moment n ssrc : ℕ) (old new : Entries) → length old ≤ n → Partly d moment n old new
    → Passes d moment ssrc (lookup (nat_eq ssrc) old) (lookup (nat_eq ssrc) new)
all_passed d moment zero ssrc [] new all so = pass_none d moment ssrc new so
all_passed d moment zero ssrc (o ∷ old) new all so = absurd (omega (arith, all))
all_passed d moment (suc n) ssrc [] new all so = pass_none d moment ssrc new so
all_passed d moment (suc n) ssrc (o ∷ old) [] all so = absurd so
all_passed d moment (suc n) ssrc (o ∷ old) (e ∷ new) all so =
    subst
    (λ k.
    Passes d moment ssrc (lookup (nat_eq ssrc) (o ∷ old))
    (if nat_eq ssrc k then Some e.1 else lookup (nat_eq ssrc) new))
    (sym so.0)
    (pass_one d moment ssrc o.0 o.1 e.1 (lookup (nat_eq ssrc) old) (lookup (nat_eq ssrc) new) so.1
    (all_passed d moment n ssrc old new (omega (arith, all)) so.2))

-- ---- lists that grow

pub all-push : {X : Type 0} (P : X → Type 0) (xs : List X) (x : X) → AllByRecursion P xs → P x
    → AllByRecursion P (xs ++ x ∷ [])
all-push P [] x h n = (n, tt)
all-push P (y ∷ xs) x h n = (h.0, all-push P xs x h.1 n)

pub all-at : {X : Type 0} (P : X → Type 0) (xs : List X) (i : ℕ) (d : X) → AllByRecursion P xs → i < length xs
    → P (slice_index_or xs i d)
all-at P [] i d h l = absurd (omega (arith, l))
all-at P (x ∷ xs) zero d h l = h.0
all-at P (x ∷ xs) (suc i) d h l = all-at P xs i d h.1 (omega (arith, l))

-- ---- who hears something

-- one member more
hearers_more : (d : Desk) (voices : List Voice) (lane lanes n : ℕ) (ms : List MemberRow) (e : MemberRow) → n < length ms
    → hearers d voices lane lanes (take (n + 1) ms)
    ≡ hearers d voices lane lanes (take n ms)
    ++ filter (hears_any d voices)
    (cond (is_mine lane lanes (slice_index_or ms n e).out_audio) (slice_index_or ms n e ∷ []) [])
hearers_more d voices lane lanes n ms e l =
    let mine = λ (m : MemberRow). is_mine lane lanes m.out_audio in
    ap (filter (hears_any d voices)) (filter_more mine ms n e l)
    ∙ filter-append (hears_any d voices) (filter mine (take n ms))
    (cond (mine (slice_index_or ms n e)) (slice_index_or ms n e ∷ []) [])

-- whose mix is on a stream of the lane
pub one_mine : (d : Desk) (voices : List Voice) (lane lanes n : ℕ) (ms : List MemberRow) (e : MemberRow) (b : Bool)
    (xs : List MemberRow)
    → n < length ms
    → b ≡ is_mine lane lanes (slice_index_or ms n e).out_audio → b ≡ true → xs ≡ hearers d voices lane lanes (take n ms)
    → xs ++ filter (hears_any d voices) (slice_index_or ms n e ∷ []) ≡ hearers d voices lane lanes (take (n + 1) ms)
one_mine d voices lane lanes n ms e b xs l is yes_mine so =
    let m = slice_index_or ms n e in
    ap (λ ys. ys ++ filter (hears_any d voices) (m ∷ [])) so
    ∙ ap (λ c. hearers d voices lane lanes (take n ms) ++ filter (hears_any d voices) (cond c (m ∷ []) []))
    (sym yes_mine ∙ is)
    ∙ sym (hearers_more d voices lane lanes n ms e l)

-- whose mix is on a stream of another lane
pub not_mine : (d : Desk) (voices : List Voice) (lane lanes n : ℕ) (ms : List MemberRow) (e : MemberRow) (b : Bool)
    (xs : List MemberRow)
    → n < length ms
    → b ≡ is_mine lane lanes (slice_index_or ms n e).out_audio → b ≡ false
    → xs ≡ hearers d voices lane lanes (take n ms)
    → xs ≡ hearers d voices lane lanes (take (n + 1) ms)
not_mine d voices lane lanes n ms e b xs l is other so =
    let m = slice_index_or ms n e in
    so ∙ sym (append-nil (hearers d voices lane lanes (take n ms)))
    ∙ ap (λ c. hearers d voices lane lanes (take n ms) ++ filter (hears_any d voices) (cond c (m ∷ []) []))
    (sym other ∙ is)
    ∙ sym (hearers_more d voices lane lanes n ms e l)
