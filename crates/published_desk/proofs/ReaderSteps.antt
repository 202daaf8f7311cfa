-- Each step keeps the rule of what is shown.
use Rattle.std.proofs.Common.{◌≡◌, ◌≢◌, ◌⊎◌, ℕ, List, [], ◌∷◌, ◌++◌, fold, set, refl, sym, ap, subst, ◌∙◌, ⊎_elim}
use Rattle.std.proofs.Common.{arith, Option, Some, None}
use Rattle.std.specs.Prelude.{Result, Ok, Err, IsOk, MatchResult}
use Rattle.std.proofs.lemmas.List.Sums.{fold_push}
use mathlib.Core.List.{IsPrefix}
use mathlib.Core.Option.{some, some-ne-none}
use lib.ListN.{get_elem?}
use Rattle.left_right.specs.Register.{Admits, Turns, TurnsAt, Forks, Merges}
use Rattle.atomic_table.proofs.Lists.{at_set, at_snoc}
use Rattle.logbook.specs.Pages.{Book}
use Rattle.desk_rows.specs.Desk.{Desk}
use Rattle.desk_rows.specs.Edit.{EditOf}
use Rattle.published_desk.specs.Published.{NoticeOf}
use Rattle.published_desk.specs.inner.Page.{Page}
use Rattle.published_desk.specs.inner.ReaderRule.{Kept, Sees, IsLater, IsOf, start_of}
use Rattle.published_desk.specs.declared.rule.Sight.{Sight}
use Rattle.published_desk.proofs.Prefixes.{prefix_self, prefix_trans}

module _ (step : Desk → List EditOf → Desk) where
  abbrev View : Type 0
  View = Option (Sight Desk NoticeOf)

  abbrev All_later : Desk → Page → List View → Type 0
  All_later start page views = (seat : ℕ) (v : View) → get_elem? views seat ≡ some v → IsLater start v page

  abbrev seen : Desk → Page → View
  seen start page = Some (record { start = start; notice = page.notice })

  push_later : (start : Desk) (page : Page) (views : List View) (w : View) → IsLater start w page
      → All_later start page views → All_later start page (views ++ w ∷ [])
  push_later start page views w new old seat v at =
      ⊎_elim (old seat v) (λ (e : w ≡ v). subst (λ u. IsLater start u page) e new) (at_snoc views w v seat at)

  set_later : (start : Desk) (page : Page) (views : List View) (seat : ℕ) (w : View) → IsLater start w page
      → All_later start page views → All_later start page (set views seat w)
  set_later start page views seat w new old j u at =
      ⊎_elim (λ (t : (j ≡ seat) × (w ≡ u)). subst (λ z. IsLater start z page) t.1 new)
      (λ (t : (j ≢ seat) × (get_elem? views j ≡ some u)). old j u t.1) (at_set views seat j w u at)

  later_self : (start : Desk) (page : Page) → IsLater start (seen start page) page
  later_self start page = (refl, refl, prefix_self page.notice.lists)

  later_trans : (start : Desk) (v : View) (x y : Page) → IsLater start v x → IsLater start (seen start x) y
      → IsLater start v y
  later_trans start None x y p q = tt
  later_trans start (Some old) x y p q =
      (p.0, q.1 ∙ p.1, prefix_trans old.notice.lists x.notice.lists y.notice.lists p.2 q.2)

  pub admits : Admits (Kept step) None
  admits page views kept = (kept.0, kept.1, push_later kept.0 page views None tt kept.2)

  pub begins : (page : Page) → page.notice.lists ≡ [] → Kept step page (None ∷ [])
  begins page none = (
    page.desk,
    ap (λ ls. fold step page.desk ls) (sym none),
    push_later page.desk page [] None tt (λ seat v at. absurd (some-ne-none v (sym at))),
  )

  pub looks : (seat : ℕ) (v : View) → Turns (Kept step) seat v (λ x. x) (Sees step)
  looks seat v page views kept at = (
    seen kept.0 page,
    (kept.0, kept.1, set_later kept.0 page views seat (seen kept.0 page) (later_self kept.0 page) kept.2),
    (kept.0, refl, kept.2 seat v at, kept.1),
  )

  pub shows : (seat : ℕ) (v : View) (x y : Page) (es : List EditOf) → y.notice.publisher ≡ x.notice.publisher
      → y.notice.lists ≡ x.notice.lists ++ es ∷ [] → y.desk ≡ step x.desk es
      → TurnsAt (Kept step) seat v x y (Sees step)
  shows seat v x y es book lists rows views kept at =
      let start = kept.0 in
      let next : IsLater start (seen start x) y = (refl, book, (es ∷ [], sym lists)) in
      let old : All_later start y views = λ j u there. later_trans start u x y (kept.2 j u there) next in
      let push : fold step start (x.notice.lists ++ es ∷ []) ≡ step (fold step start x.notice.lists) es =
      fold_push step start x.notice.lists es in
      let leads : y.desk ≡ fold step start y.notice.lists =
      rows ∙ (ap (λ d. step d es) kept.1 ∙ (sym push ∙ ap (fold step start) (sym lists))) in (
        seen start y,
        (start, leads, set_later start y views seat (seen start y) (later_self start y) old),
        (start, refl, later_trans start v x y (kept.2 seat v at) next, leads),
      )

  pub forks : (seat : ℕ) (v : View) → Forks (Kept step) seat v v v
  forks seat v page views kept at =
      let is = kept.2 seat v at in
      (kept.0, kept.1, push_later kept.0 page (set views seat v) v is (set_later kept.0 page views seat v is kept.2))

  pub merges : (seat other : ℕ) (v w : View) → Merges (Kept step) seat v other w w None
  merges seat other v w page views kept at apart there =
      let is : IsLater kept.0 w page =
      ⊎_elim (λ (t : (other ≡ seat) × (w ≡ w)). absurd (apart t.0))
      (λ (t : (other ≢ seat) × (get_elem? views other ≡ some w)). kept.2 other w t.1)
      (at_set views seat other w w there) in (
        kept.0,
        kept.1,
        set_later kept.0 page (set views seat w) other None tt (set_later kept.0 page views seat w is kept.2),
      )

  -- the first desk stays as it was seen
  pub start_stays : (publisher : Book) (v w : View) (x y : Page) → IsOf publisher v → Sees step v x y w
      → start_of w ≡ start_of v
  start_stays publisher None w x y is sees = absurd is
  start_stays publisher (Some s) w x y is (start, new, later, leads) = ap start_of new ∙ sym later.0

  pub publisher_stays : (v w : View) (x y : Page) → Sees step v x y w → IsOf y.notice.publisher w
  publisher_stays v w x y (start, new, later, leads) = subst (IsOf y.notice.publisher) (sym new) refl

  -- where there is no list yet, the desk that is seen is the first one
  pub first_seen : (v w : View) (x y z : Page) → Sees step v x y w → y ≡ z → z.notice.lists ≡ []
      → w ≡ Some (record { start = z.desk; notice = z.notice })
  first_seen v w x y z (start, new, later, leads) same none =
      let empty : y.notice.lists ≡ [] = ap (λ p. p.notice.lists) same ∙ none in
      let rows : start ≡ z.desk = sym (leads ∙ ap (fold step start) empty) ∙ ap (λ p. p.desk) same in
      new ∙ (λ i. Some (record { start = rows i; notice = (same i).notice }))

-- what holds of an answer that is Ok
pub from_ok : {A B : Type 0} → (r : Result A B) (P : A → Type 0) (Q : B → Type 0) → IsOk r → MatchResult r P Q
    → (x : A) × P x
from_ok (Ok x) P Q ok m = (x, m)
from_ok (Err e) P Q ok m = absurd (search (arith, ok))
