-- Lanes that are started.
use Rattle.std.proofs.Common.{◌≡◌, ℕ, zero, suc, List, [], ◌∷◌, ◌++◌, length, map, zip, All, Some, IfSome, slice_get}
use Rattle.std.proofs.Common.{refl, ap, sym, subst, ◌∙◌, arith}
use Rattle.std.specs.List.{AllByRecursion}
use Rattle.logbook.specs.Pages.{Book}
use Rattle.published_desk.specs.Published.{NoticeOf}
use Rattle.sender_feedback.specs.Upstream.{Asker}
use Rattle.media_workers.specs.LaneRuns.{LaneNow}
use Rattle.media_workers.specs.Ports.{port_of}
use Rattle.media_front.specs.declared.lane_status.LaneStatus.{LaneStatus}
use Rattle.media_front.specs.FedLanes.{IsFresh, lanes_in}
use Rattle.media_front.specs.inner.Statuses.{fresh_status, lane_by, lanes_by, AreOf}

-- the lanes are those that were handed in
pub lanes_started : {P S : Type 0} (lanes : List LaneNow) (outfits : List (P × S)) (ts : List LaneStatus)
    → length outfits ≡ length lanes → length ts ≡ length lanes
    → lanes_in (lanes_by (map (λ x. port_of x.0 (x.1).0 (x.1).1) (zip lanes outfits)) ts) ≡ lanes
lanes_started [] outfits ts one two = refl
lanes_started (l ∷ lanes) [] ts one two = absurd (omega (arith, one))
lanes_started (l ∷ lanes) (o ∷ outfits) [] one two = absurd (omega (arith, two))
lanes_started (l ∷ lanes) (o ∷ outfits) (t ∷ ts) one two =
    ap (λ (ls : List LaneNow). l ∷ ls) (lanes_started lanes outfits ts (omega (arith, one)) (omega (arith, two)))

-- none was given anything
pub fresh_started : {P S : Type 0} (lanes : List LaneNow) (outfits : List (P × S)) (ts : List LaneStatus)
    → All (λ (t : LaneStatus). t ≡ fresh_status) ts
    → AllByRecursion IsFresh (lanes_by (map (λ x. port_of x.0 (x.1).0 (x.1).1) (zip lanes outfits)) ts)
fresh_started [] outfits ts all = tt
fresh_started (l ∷ lanes) [] ts all = tt
fresh_started (l ∷ lanes) (o ∷ outfits) [] all = tt
fresh_started {P} {S} (l ∷ lanes) (o ∷ outfits) (t ∷ ts) all = (
  ap (λ (u : LaneStatus). lane_by (port_of l o.0 o.1) u) (all 0 t (omega arith)),
  fresh_started lanes outfits ts (λ k d low. all (suc k) d (omega (arith, low))),
)

-- what holds of each place holds with one place more
pub at_push : {X : Type 0} (R : ℕ → X → Type 0) (xs : List X) (x : X)
    → ((k : ℕ) (y : X) → slice_get xs k ≡ Some y → R k y) → R (length xs) x
    → (k : ℕ) (y : X) → slice_get (xs ++ x ∷ []) k ≡ Some y → R k y
at_push {X} R [] x old one zero y at = let e : x ≡ y = cc (at) in subst (λ (z : X). R 0 z) e one
at_push R [] x old one (suc k) y at = absurd (cc (at))
at_push R (z ∷ xs) x old one zero y at = old zero y at
at_push {X} R (z ∷ xs) x old one (suc k) y at =
    at_push (λ (j : ℕ) (w : X). R (suc j) w) xs x (λ j w e. old (suc j) w e) one k y at

pub same_name : {s t : ℕ} {m n : List ℕ} → s ≡ t → m ≡ n
    → ◌≡◌ {A = Asker} (record { ssrc = s; cname = m }) (record { ssrc = t; cname = n })
same_name {s} {t} {m} {n} e d =
    ap (λ (k : ℕ). record { ssrc = k; cname = m }) e ∙ ap (λ (l : List ℕ). record { ssrc = t; cname = l }) d

pub All_mapped : {X Y : Type 0} (R : Y → Type 0) (f : X → Y) (xs : List X) → All R (map f xs) → All (λ x. R (f x)) xs
All_mapped R f [] all k d low = absurd (omega (arith, low))
All_mapped R f (x ∷ xs) all zero d low = all 0 (f x) (omega arith)
All_mapped R f (x ∷ xs) all (suc k) d low =
    All_mapped R f xs (λ j e less. all (suc j) e (omega (arith, less))) k d (omega (arith, low))

pub fresh_of : (book : Book) (ts : List LaneStatus) → All (λ (t : LaneStatus). t ≡ fresh_status) ts → AreOf book ts
fresh_of book ts all k d low =
    subst (λ (t : LaneStatus). IfSome t.owed (λ (n : NoticeOf). n.publisher ≡ book)) (sym (all k d low)) (tt {0})

pub All_one : {X : Type 0} (P : X → Type 0) (x : X) → P x → All P (x ∷ [])
All_one P x one zero d low = one
All_one P x one (suc k) d low = absurd (omega (arith, low))

-- what holds of each at its place holds of all
pub all_at : {X : Type 0} (P : X → Type 0) (xs : List X) → ((k : ℕ) (x : X) → slice_get xs k ≡ Some x → P x) → All P xs
all_at P [] at k d low = absurd (omega (arith, low))
all_at P (x ∷ xs) at zero d low = at 0 x refl
all_at P (x ∷ xs) at (suc k) d low = all_at P xs (λ j y e. at (suc j) y e) k d (omega (arith, low))
