-- One more packet is taken.
use Rattle.std.proofs.Common.{◌≡◌, ℕ, zero, suc, ◌+◌, ◌-◌, ◌<◌, ◌≤◌, true, false, cond, nat_eq, max, List, [], ◌∷◌}
use Rattle.std.proofs.Common.{◌++◌, length, Option, None, Some, refl, sym, ap, ◌∙◌, arith, subst, append_assoc}
use Rattle.std.proofs.Common.{append-nil, length-append}
use Rattle.std.proofs.lemmas.Bool.Decides.{nat_tests}
use Rattle.std.proofs.lemmas.List.Concat.{flat_map-append}
use Rattle.std.proofs.lemmas.List.Sums.{fold-append}
use Rattle.frame_gate.specs.Packets.{NumberedPacket}
use Rattle.frame_gate.specs.Frame.{WholeFrame}
use Rattle.frame_gate.specs.declared.walk.Walk.{Walk}
use Rattle.frame_gate.specs.Runs.{Divided, undivided, closes, joins, parted, ended, ends, differs, with_packet}
use Rattle.frame_gate.specs.Runs.{divide_on, divided, joined, next_in, row}
use Rattle.frame_gate.specs.inner.Walks.{Stands, GoesOn}
use Rattle.frame_gate.specs.Epochs.{Epoch, packet_at, greatest, run, pieces, next_of, taking}
use Rattle.frame_gate.specs.inner.Ties.{Tied}
use Rattle.frame_gate.proofs.Taken.{greatest-push, found-push, none-push}
use Rattle.frame_gate.proofs.Rows.{row-alike, row-found, row-split, is_row-alike}
use Rattle.frame_gate.proofs.Wholes.{divide-goes_on}
use Rattle.frame_gate.proofs.Cuts.{run-enough}

-- the packets of a divided run, in order
abbrev pub all_of : Divided → List NumberedPacket
all_of d = joined d.closed ++ d.unclosed

all-closes : (d : Divided) → all_of (closes d) ≡ all_of d
all-closes d =
    append-nil (joined (d.closed ++ d.unclosed ∷ []))
    ∙ flat_map-append (λ (piece : List NumberedPacket). piece) d.closed (d.unclosed ∷ [])
    ∙ ap (λ (xs : List NumberedPacket). joined d.closed ++ xs) (append-nil d.unclosed)

pub all-with : (d : Divided) (p : NumberedPacket) → all_of (with_packet d p) ≡ all_of d ++ p ∷ []
all-with d p =
    let whole = joins (parted d p) p in
    let last : all_of (ended whole p) ≡ all_of whole =
    elim (ends p) as (λ b. all_of (cond b (closes whole) whole) ≡ all_of whole)
    [ true ↦ all-closes whole | false ↦ refl ] in
    let first : all_of (parted d p) ≡ all_of d =
    elim (differs d.unclosed p) as (λ b. all_of (cond b (closes d) d) ≡ all_of d)
    [ true ↦ all-closes d | false ↦ refl ] in
    last
    ∙ sym (append_assoc (joined (parted d p).closed) (parted d p).unclosed (p ∷ []))
    ∙ ap (λ (xs : List NumberedPacket). xs ++ p ∷ []) first

-- The pieces, joined, are the run.
pub all-divide : (d : Divided) (run : List NumberedPacket) → all_of (divide_on d run) ≡ all_of d ++ run
all-divide d [] = sym (append-nil (all_of d))
all-divide d (p ∷ ps) =
    all-divide (with_packet d p) ps
    ∙ ap (λ (xs : List NumberedPacket). xs ++ ps) (all-with d p)
    ∙ append_assoc (all_of d) (p ∷ []) ps

pub stands_after : (at : ℕ → Option NumberedPacket) (given : List WholeFrame) (e : Epoch) (w : Walk)
    (out : List WholeFrame)
    → Stands at e.cut given e.earlier (pieces e) w out → w.after ≡ e.cut + length (run e)
stands_after at given e w out h =
    let whole : length (run e) ≡ length (joined (pieces e).closed) + length (pieces e).unclosed =
    sym (ap length (all-divide undivided (run e))) ∙ length-append (joined (pieces e).closed) (pieces e).unclosed in
    omega (arith, h.after)

-- next lies between the cut and the number after the run
next_between : (cut : ℕ) (closed : List (List NumberedPacket)) (un : List NumberedPacket)
    → let d : Divided = record { closed = closed; unclosed = un } in
    (cut ≤ next_in cut d) × (next_in cut d ≤ cut + length (joined closed) + length un)
next_between cut [] un = (omega arith, omega arith)
next_between cut (x ∷ xs) un = (omega arith, omega arith)

row-length : (f : ℕ → Option NumberedPacket) (from n : ℕ) → length (row f from n) ≤ n
row-length f from zero = omega arith
row-length f from (suc n) =
    elim (f from)
    as (λ o. length (elim o as (λ _. List NumberedPacket) [ None ↦ [] | Some p ↦ p ∷ row f (suc from) n ]) ≤ suc n) [
      | None ↦ omega arith
      | Some p ↦ (let h = row-length f (suc from) n in omega arith)
    ]

pub stands-alike : (f g : ℕ → Option NumberedPacket) (cut : ℕ) (given earlier : List WholeFrame) (d : Divided)
    (w : Walk) (out : List WholeFrame)
    → ((k : ℕ) (q : NumberedPacket) → w.next ≤ k → f k ≡ Some q → g k ≡ Some q)
    → Stands f cut given earlier d w out → Stands g cut given earlier d w out
stands-alike f g cut given earlier d w out alike h = record {
  after = h.after;
  next = h.next;
  first = h.first;
  stamp = h.stamp;
  piece = λ later. is_row-alike f g w.next d.unclosed alike (h.piece later);
  frames = h.frames;
}

-- the pieces with one more packet go on where the run ended
pieces-taking : (at : ℕ → Option NumberedPacket) (e : Epoch) (p : NumberedPacket) (after to : ℕ)
    → after ≡ e.cut + length (run e) → after ≤ to → max (greatest e.taken) p.number < to
    → ((k : ℕ) → after ≤ k → at k ≡ packet_at (e.taken ++ p ∷ []) k)
    → divide_on (pieces e) (row at after (to - after)) ≡ pieces (taking e p)
pieces-taking at e p after to is le end alike =
    let new = packet_at (e.taken ++ p ∷ []) in
    let a = length (run e) in
    let same : row new e.cut a ≡ run e =
    row-found (packet_at e.taken) new e.cut (greatest e.taken + 1 - e.cut)
    (λ k q found. found-push e.taken p k q found) in
    let g : greatest (e.taken ++ p ∷ []) ≡ max p.number (greatest e.taken) = greatest-push e.taken p in
    let enough : greatest (e.taken ++ p ∷ []) + 1 ≤ e.cut + (a + (to - after)) = omega arith in
    let longer : run (taking e p) ≡ run e ++ row at after (to - after) =
    sym (run-enough (e.taken ++ p ∷ []) e.cut (a + (to - after)) enough)
    ∙ row-split new e.cut a (to - after) (ap length same)
    ∙ ap (λ (xs : List NumberedPacket). xs ++ row new (e.cut + a) (to - after)) same
    ∙ ap (λ n. run e ++ row new n (to - after)) (sym is)
    ∙ ap (λ (xs : List NumberedPacket). run e ++ xs) (sym (row-alike at new after (to - after) alike)) in
    sym (ap divided longer ∙ fold-append with_packet undivided (run e) (row at after (to - after)))

pub taken_tied : (at new last : ℕ → Option NumberedPacket) (given : List WholeFrame) (e : Epoch) (w v : Walk)
    (out more : List WholeFrame) (p : NumberedPacket) (to : ℕ)
    → Tied at given e w out → w.next ≤ p.number → p.number < w.next + 256 → w.next ≤ v.next
    → max (greatest e.taken) p.number < to
    → ((k : ℕ) → w.next ≤ k → new k ≡ packet_at (e.taken ++ p ∷ []) k)
    → ((k : ℕ) → w.next ≤ k → last k ≡ packet_at (e.taken ++ p ∷ []) k)
    → ((cut : ℕ) (given earlier : List WholeFrame) (d : Divided) → Stands new cut given earlier d w out
    → GoesOn d.unclosed → Stands new cut given earlier (divide_on d (row new w.after (to - w.after))) v more)
    → Tied last given (taking e p) v more
taken_tied at new last given e w v out more p to h above near onward end alike kept drained =
    let far : w.after ≡ e.cut + length (run e) = stands_after at given e w out h.stands in
    let between = next_between e.cut (pieces e).closed (pieces e).unclosed in
    let next : w.next ≡ next_of e = h.stands.next in
    let walked : w.next ≤ w.after = omega (arith, h.stands.after, between.1) in
    let short = row-length (packet_at e.taken) e.cut (greatest e.taken + 1 - e.cut) in
    let le : w.after ≤ to = omega (arith, between.0) in
    let there : Stands new e.cut given e.earlier (pieces (taking e p)) v more =
    subst (λ (d : Divided). Stands new e.cut given e.earlier d v more)
    (pieces-taking new e p w.after to far le end (λ k a. alike k (omega arith)))
    (drained e.cut given e.earlier (pieces e)
    (stands-alike at new e.cut given e.earlier (pieces e) w out
    (λ k q a found. alike k a ∙ found-push e.taken p k q (sym (h.agrees k a) ∙ found)) h.stands)
    (divide-goes_on undivided (run e) refl)) in
    record {
      stands = stands-alike new last e.cut given e.earlier (pieces (taking e p)) v more
          (λ k q a found. (let b : w.next ≤ k = omega arith in kept k b ∙ sym (alike k b) ∙ found)) there;
      agrees = λ k a. kept k (omega arith);
      behind = λ k a.
          none-push e.taken p k (h.behind k (omega arith))
          ∙ (let other : nat_eq p.number k ≡ false = nat_neq p.number k (omega arith) in
          ap (λ b. cond b (Some p) None) other);
    }
  where
    nat_neq : (m n : ℕ) → m < n → nat_eq m n ≡ false
    nat_neq m n lt = grind (arith, nat_tests)
