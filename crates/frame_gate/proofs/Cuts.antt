-- Cuts: where they are placed, and what is given before them.
use Rattle.std.proofs.Common.{◌≡◌, ℕ, zero, suc, ◌+◌, ◌-◌, ◌<◌, ◌≤◌, true, false, cond, nat_le, List, ◌++◌, Option}
use Rattle.std.proofs.Common.{None, Some, refl, sym, ap, ◌∙◌, arith, subst, inl, inr, append-nil}
use Rattle.std.specs.Prelude.{IsSome}
use Rattle.std.proofs.lemmas.Bool.{cases_lt}
use Rattle.std.proofs.lemmas.Bool.Decides.{nat_tests}
use Rattle.frame_gate.specs.Packets.{NumberedPacket}
use Rattle.frame_gate.specs.Frame.{WholeFrame}
use Rattle.frame_gate.specs.declared.walk.Walk.{Walk}
use Rattle.frame_gate.specs.Runs.{Divided, undivided, divide_on, divided, row}
use Rattle.frame_gate.specs.inner.Walks.{Stands, GoesOn}
use Rattle.frame_gate.specs.Epochs.{Epoch, packet_at, greatest, least, next_of, frames_of, placed, resynced}
use Rattle.frame_gate.specs.inner.Ties.{Tied, begun_at}
use Rattle.frame_gate.proofs.Taken.{none_above, greatest_below, least_is}
use Rattle.frame_gate.proofs.Rows.{row-alike, row-enough}
use Rattle.frame_gate.proofs.Divisions.{differs-nil}

-- a run is found by looking at any more numbers
pub run-enough : (taken : List NumberedPacket) (cut m : ℕ) → greatest taken + 1 ≤ cut + m
    → row (packet_at taken) cut m ≡ row (packet_at taken) cut (greatest taken + 1 - cut)
run-enough taken cut m h =
    let a = greatest taken + 1 - cut in
    let e : m ≡ a + (m - a) = omega arith in
    ap (row (packet_at taken) cut) e
    ∙ row-enough (packet_at taken) cut a (m - a) (λ k le. none_above taken k (omega arith))

-- before the first packet of a run
pub begun_stands : (at : ℕ → Option NumberedPacket) (given earlier out : List WholeFrame) (c : ℕ)
    → given ++ out ≡ earlier
    → Stands at c given earlier undivided (begun_at c) out
begun_stands at given earlier out c frames = record {
  after = omega arith;
  next = omega arith;
  first = refl;
  stamp = λ p. differs-nil p;
  piece = λ later. absurd (let e : true ≡ false = later in cc);
  frames = frames ∙ sym (append-nil earlier);
}

pub placed_tied : (at : ℕ → Option NumberedPacket) (given : List WholeFrame) (e : Epoch) (w v : Walk)
    (out more : List WholeFrame) (n c : ℕ)
    → Tied at given e w out → w.next + 256 ≤ n → c ≡ least e.taken (next_of e) n → w.next ≤ c → c ≤ n → c ≤ v.next
    → ((cut : ℕ) (given earlier : List WholeFrame) (d : Divided) → Stands at cut given earlier d (begun_at c) out
    → GoesOn d.unclosed → Stands at cut given earlier (divide_on d (row at c (w.next + 256 - c))) v more)
    → Tied at given (placed e n) v more
placed_tied at given e w v out more n c h far is above below onward drained =
    let to = w.next + 256 in
    let g : greatest e.taken < to = greatest_below e.taken to (omega arith) h.behind in
    let same : row at c (to - c) ≡ row (packet_at e.taken) c (greatest e.taken + 1 - c) =
    row-alike at (packet_at e.taken) c (to - c) (λ k le. h.agrees k (omega arith))
    ∙ run-enough e.taken c (to - c) (omega arith) in
    let there : Stands at c given (frames_of e) (divided (row (packet_at e.taken) c (greatest e.taken + 1 - c))) v more
    =
    subst (λ (r : List NumberedPacket). Stands at c given (frames_of e) (divided r) v more) same
    (drained c given (frames_of e) undivided (begun_stands at given (frames_of e) out c h.stands.frames) refl) in
    record {
      stands =
          subst
          (λ (k : ℕ).
          Stands at k given (frames_of e) (divided (row (packet_at e.taken) k (greatest e.taken + 1 - k))) v more)
          is there;
      agrees = λ k le. h.agrees k (omega arith);
      behind = λ k le. h.behind k (omega arith);
    }

some_of : (o : Option NumberedPacket) → IsSome o → (q : NumberedPacket) × (o ≡ Some q)
some_of None h = cc
some_of (Some q) h = (q, refl)

-- where the cells have the least held number
pub cut_is : (at : ℕ → Option NumberedPacket) (given : List WholeFrame) (e : Epoch) (w : Walk) (out : List WholeFrame)
    (n c : ℕ)
    → Tied at given e w out → w.next ≤ c → c ≤ n
    → ((k : ℕ) → w.next ≤ k → k < c → k < w.next + 256 → at k ≡ None) → (c < n → IsSome (at c))
    → c ≡ least e.taken (next_of e) n
cut_is at given e w out n c h above below none some =
    let next : w.next ≡ next_of e = h.stands.next in
    sym (least_is e.taken (next_of e) n c (omega arith) below
    (λ k a b. elim (cases_lt k (w.next + 256)) [
      | inl near ↦ (let le : w.next ≤ k = omega arith in sym (h.agrees k le) ∙ none k le b near)
      | inr far ↦ h.behind k far
    ])
    (elim (cases_lt c n) [
      | inl less ↦ (let found = some_of (at c) (some less) in inr (found.0, sym (h.agrees c above) ∙ found.1))
      | inr same ↦ inl (omega arith)
    ]))

-- cuts that are not needed
pub resynced-near : (most : ℕ) (e : Epoch) (n : ℕ) → n < next_of e + 256 → resynced most e n ≡ e
resynced-near zero e n h = refl
resynced-near (suc most) e n h =
    let b : nat_le (next_of e + 256) n ≡ false = grind (arith, nat_tests) in
    ap (λ x. cond x (resynced most (placed e n) n) e) b

pub resynced-far : (most : ℕ) (e : Epoch) (n : ℕ) → next_of e + 256 ≤ n
    → resynced (suc most) e n ≡ resynced most (placed e n) n
resynced-far most e n h =
    let b : nat_le (next_of e + 256) n ≡ true = grind (arith, nat_tests) in
    ap (λ x. cond x (resynced most (placed e n) n) e) b

-- an epoch on the way of the cuts, and how many more cuts it may take
pub record Underway (at : ℕ → Option NumberedPacket) (given : List WholeFrame) (to : Epoch) (n : ℕ) (w : Walk)
    (out : List WholeFrame) : Type 0 where
  pub e : Epoch
  pub most : ℕ
  pub tied : Tied at given e w out
  pub enough : n < w.next + 256 + most
  pub leads : resynced most e n ≡ to

pub underway_done : (at : ℕ → Option NumberedPacket) (given : List WholeFrame) (to : Epoch) (n : ℕ) (w : Walk)
    (out : List WholeFrame)
    → Underway at given to n w out → n < w.next + 256 → Tied at given to w out
underway_done at given to n w out u near =
    let next : w.next ≡ next_of u.e = u.tied.stands.next in
    subst (λ (e : Epoch). Tied at given e w out) (sym (resynced-near u.most u.e n (omega arith)) ∙ u.leads) u.tied

pub underway_more : (at : ℕ → Option NumberedPacket) (given : List WholeFrame) (to : Epoch) (n : ℕ) (w v : Walk)
    (out more : List WholeFrame)
    → Underway at given to n w out → w.next + 256 ≤ n → w.next < v.next
    → ((e : Epoch) → Tied at given e w out → Tied at given (placed e n) v more)
    → Underway at given to n v more
underway_more at given to n w v out more u far onward cut = from u.most u.e u.tied u.enough u.leads
  where
    from : (most : ℕ) (e : Epoch) → Tied at given e w out → n < w.next + 256 + most → resynced most e n ≡ to
        → Underway at given to n v more
    from zero e tied enough leads = absurd (omega arith)
    from (suc most) e tied enough leads =
        let next : w.next ≡ next_of e = tied.stands.next in
        record {
          e = placed e n;
          most = most;
          tied = cut e tied;
          enough = omega arith;
          leads = sym (resynced-far most e n (omega arith)) ∙ leads;
        }
