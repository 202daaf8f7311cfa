-- A walk stands to a run with one division, or one packet, more.
use Rattle.std.proofs.Common.{◌≡◌, ℕ, suc, ◌+◌, Bool, true, false, not, ◌&&◌, ◌||◌, cond, nat_eq, List, [], ◌∷◌, ◌++◌}
use Rattle.std.proofs.Common.{length, Option, None, Some, refl, sym, ap, ◌∙◌, arith, subst, append_assoc, length-append}
use Rattle.std.proofs.Common.{append-nil}
use Rattle.std.proofs.lemmas.Bool.Decides.{nat_tests}
use Rattle.std.specs.List.{list_any}
use Rattle.std.proofs.lemmas.List.{map-append}
use Rattle.std.proofs.lemmas.List.Elements.{filter-append}
use Rattle.std.proofs.lemmas.List.Folds.{list_any-append}
use Rattle.std.proofs.lemmas.List.Concat.{flat_map-append}
use Rattle.std.proofs.lemmas.List.Sums.{fold-append}
use Rattle.frame_gate.specs.Packets.{NumberedPacket}
use Rattle.frame_gate.specs.Frame.{WholeFrame}
use Rattle.frame_gate.specs.declared.walk.Walk.{Walk}
use Rattle.frame_gate.specs.Runs.{is_empty, is_full, frame_of, full, differs, Divided, closes, joins, parted, ended}
use Rattle.frame_gate.specs.Runs.{with_packet, divide_on, joined, next_in, frames_in, IsRow}
use Rattle.frame_gate.specs.inner.Walks.{Stands, is_nil, tells_apart_at, closed_at, joined_at}

abbrev of : List (List NumberedPacket) → List NumberedPacket → Divided
of closed un = record { closed = closed; unclosed = un }

joined-push : (closed : List (List NumberedPacket)) (un : List NumberedPacket)
    → length (joined (closed ++ un ∷ [])) ≡ length (joined closed) + length un
joined-push closed un =
    ap length (flat_map-append (λ (piece : List NumberedPacket). piece) closed (un ∷ []))
    ∙ length-append (joined closed) (un ++ [])
    ∙ ap (λ (xs : List NumberedPacket). length (joined closed) + length xs) (append-nil un)

next_in-push : (cut : ℕ) (closed : List (List NumberedPacket)) (un : List NumberedPacket)
    → next_in cut (of (closed ++ un ∷ []) []) ≡ cut + length (joined (closed ++ un ∷ []))
next_in-push cut [] un = refl
next_in-push cut (x ∷ xs) un = refl

is_nil-push : (closed : List (List NumberedPacket)) (un : List NumberedPacket) → false ≡ is_nil (closed ++ un ∷ [])
is_nil-push [] un = refl
is_nil-push (x ∷ xs) un = refl

pub differs-nil : (p : NumberedPacket) → differs [] p ≡ false
differs-nil p = elim (is_empty p) as (λ b. (not b && false) ≡ false) [ true ↦ refl | false ↦ refl ]

frames-later : (closed : List (List NumberedPacket)) (un : List NumberedPacket) → is_nil closed ≡ false
    → frames_in (of (closed ++ un ∷ []) []) ≡ frames_in (of closed un) ++ frame_of un ∷ []
frames-later [] un h = cc
frames-later (x ∷ xs) un h = map-append frame_of xs (un ∷ [])

closes_with : (at : ℕ → Option NumberedPacket) (cut : ℕ) (given earlier : List WholeFrame) (d : Divided) (w : Walk)
    (out more : List WholeFrame)
    → Stands at cut given earlier d w out → given ++ more ≡ earlier ++ frames_in (closes d)
    → Stands at cut given earlier (closes d) (closed_at w) more
closes_with at cut given earlier d w out more h frames =
    let far : w.after ≡ cut + length (joined (d.closed ++ d.unclosed ∷ [])) + 0 =
    omega (arith, h.after, joined-push d.closed d.unclosed) in
    record {
      after = far;
      next =
          (let e : w.after ≡ cut + length (joined (d.closed ++ d.unclosed ∷ [])) = omega arith in e)
          ∙ sym (next_in-push cut d.closed d.unclosed);
      first = is_nil-push d.closed d.unclosed;
      stamp = λ p. differs-nil p;
      piece = λ _. tt;
      frames = frames;
    }

pub closes_later : (at : ℕ → Option NumberedPacket) (cut : ℕ) (given earlier : List WholeFrame) (d : Divided) (w : Walk)
    (out : List WholeFrame)
    → Stands at cut given earlier d w out → w.first ≡ false
    → Stands at cut given earlier (closes d) (closed_at w) (out ++ frame_of d.unclosed ∷ [])
closes_later at cut given earlier d w out h later =
    let f = frame_of d.unclosed ∷ [] in
    closes_with at cut given earlier d w out (out ++ f) h
    (sym (append_assoc given out f)
    ∙ ap (λ fs. fs ++ f) h.frames
    ∙ append_assoc earlier (frames_in d) f
    ∙ ap (λ fs. earlier ++ fs) (sym (frames-later d.closed d.unclosed (sym h.first ∙ later))))

-- where the unclosed piece of a later division begins
pub piece_ends : (at : ℕ → Option NumberedPacket) (cut : ℕ) (given earlier : List WholeFrame) (d : Divided) (w : Walk)
    (out : List WholeFrame)
    → Stands at cut given earlier d w out → w.first ≡ false → w.after ≡ w.next + length d.unclosed
piece_ends at cut given earlier d w out h later =
    let n : next_in cut d ≡ cut + length (joined d.closed) = later_next d.closed d.unclosed (sym h.first ∙ later) in
    omega (arith, h.after, h.next, n)
  where
    later_next : (closed : List (List NumberedPacket)) (un : List NumberedPacket) → is_nil closed ≡ false
        → next_in cut (of closed un) ≡ cut + length (joined closed)
    later_next [] un e = cc
    later_next (x ∷ xs) un e = refl

row-push : (at : ℕ → Option NumberedPacket) (from : ℕ) (ps : List NumberedPacket) (p : NumberedPacket)
    → IsRow at from ps → at (from + length ps) ≡ Some p → IsRow at from (ps ++ p ∷ [])
row-push at from [] p h found = (ap at (let e : from ≡ from + 0 = omega arith in e) ∙ found, tt)
row-push at from (q ∷ qs) p h found = (
  h.0,
  row-push at (suc from) qs p h.1
      (ap at (let e : suc from + length qs ≡ from + suc (length qs) = omega arith in e) ∙ found),
)

-- a non-empty packet that the stamp doesn't tell apart has it, where there is one
same_stamp : (stamp : Option ℕ) (p q : NumberedPacket) (any : Bool) → is_empty p ≡ false
    → tells_apart_at stamp p ≡ false
    → (is_full q && any) ≡ tells_apart_at stamp q
    → (is_full q && (any || (not (nat_eq p.ts q.ts) || false))) ≡ (is_full q && not (nat_eq p.ts q.ts))
same_stamp None p q any full_p same h = nothing_yet (is_full q) any (not (nat_eq p.ts q.ts)) h
  where
    nothing_yet : (f any x : Bool) → (f && any) ≡ false → (f && (any || (x || false))) ≡ (f && x)
    nothing_yet false any x h = refl
    nothing_yet true true x h = cc
    nothing_yet true false true h = refl
    nothing_yet true false false h = refl
same_stamp (Some ts) p q any full_p same h =
    let told : not (nat_eq ts p.ts) ≡ false = ap (λ (b : Bool). not b && not (nat_eq ts p.ts)) (sym full_p) ∙ same in
    let is : ts ≡ p.ts = grind (arith, nat_tests) in
    same_again (is_full q) any (not (nat_eq p.ts q.ts)) (h ∙ ap (λ t. is_full q && not (nat_eq t q.ts)) is)
  where
    same_again : (f any x : Bool) → (f && any) ≡ (f && x) → (f && (any || (x || false))) ≡ (f && x)
    same_again false any x h = refl
    same_again true true true h = refl
    same_again true true false h = cc
    same_again true false true h = refl
    same_again true false false h = refl

stamp-push : (un : List NumberedPacket) (stamp : Option ℕ) (p : NumberedPacket)
    → ((q : NumberedPacket) → differs un q ≡ tells_apart_at stamp q) → differs un p ≡ false
    → (q : NumberedPacket) → differs (un ++ p ∷ []) q ≡ tells_apart_at (cond (is_empty p) stamp (Some p.ts)) q
stamp-push un stamp p h same q =
    let test = λ (r : NumberedPacket). not (nat_eq r.ts q.ts) in
    let any = list_any test (full un) in
    ap (λ (rs : List NumberedPacket). is_full q && list_any test rs) (filter-append is_full un (p ∷ []))
    ∙ ap (λ (b : Bool). is_full q && b) (list_any-append test (full un) (full (p ∷ [])))
    ∙ (elim (is_empty p) as (λ (b : Bool).
    is_empty p ≡ b
    → (is_full q && (any || list_any test (cond (not b) (p ∷ []) []))) ≡ tells_apart_at (cond b stamp (Some p.ts)) q) [
      | true ↦ λ is.
          (let e : (any || false) ≡ any = grind (arith, nat_tests) in ap (λ (b : Bool). is_full q && b) e) ∙ h q
      | false ↦ λ is. same_stamp stamp p q any is (sym (h p) ∙ same) (h q)
    ]) refl

next-push : (cut : ℕ) (closed : List (List NumberedPacket)) (un : List NumberedPacket) (p : NumberedPacket)
    (next after : ℕ) (first : Bool)
    → first ≡ is_nil closed → next ≡ next_in cut (of closed un) → after ≡ cut + length (joined closed) + length un
    → cond first (after + 1) next ≡ next_in cut (of closed (un ++ p ∷ []))
next-push cut [] un p next after first f n a =
    ap (λ b. cond b (after + 1) next) f ∙ omega (arith, length-append un (p ∷ []))
next-push cut (x ∷ xs) un p next after first f n a = ap (λ b. cond b (after + 1) next) f ∙ n

pub joins_stands : (at : ℕ → Option NumberedPacket) (cut : ℕ) (given earlier : List WholeFrame) (d : Divided) (w : Walk)
    (out : List WholeFrame) (p : NumberedPacket)
    → Stands at cut given earlier d w out → at w.after ≡ Some p → differs d.unclosed p ≡ false
    → Stands at cut given earlier (joins d p) (joined_at w p) out
joins_stands at cut given earlier d w out p h found same = record {
  after = omega (arith, h.after, length-append d.unclosed (p ∷ []));
  next = next-push cut d.closed d.unclosed p w.next w.after w.first h.first h.next h.after;
  first = h.first;
  stamp = stamp-push d.unclosed w.stamp p h.stamp same;
  piece = λ later.
      subst (λ n. IsRow at n (d.unclosed ++ p ∷ [])) (sym (ap (λ b. cond b (w.after + 1) w.next) later))
      (row-push at w.next d.unclosed p (h.piece later)
      (ap at (sym (piece_ends at cut given earlier d w out h later)) ∙ found));
  frames = h.frames;
}

-- a division before the packet, where there is one
parted_yes : (d : Divided) (p : NumberedPacket) → differs d.unclosed p ≡ true → closes d ≡ parted d p
parted_yes d p e = sym (ap (λ b. cond b (closes d) d) e)

pub parts_yes : (at : ℕ → Option NumberedPacket) (cut : ℕ) (given earlier : List WholeFrame) (d : Divided) (v w : Walk)
    (before out : List WholeFrame) (p : NumberedPacket)
    → Stands at cut given earlier d v before → tells_apart_at v.stamp p ≡ true
    → Stands at cut given earlier (closes d) w out → Stands at cut given earlier (parted d p) w out
parts_yes at cut given earlier d v w before out p h apart closed =
    subst (λ e. Stands at cut given earlier e w out) (parted_yes d p (h.stamp p ∙ apart)) closed

-- after a division before it the packet fits the unclosed piece
pub fits_after : (d : Divided) (p : NumberedPacket) → differs (parted d p).unclosed p ≡ false
fits_after d p =
    elim (differs d.unclosed p) as (λ b. differs d.unclosed p ≡ b → differs (cond b (closes d) d).unclosed p ≡ false) [
      | true ↦ λ is. differs-nil p
      | false ↦ λ is. is
    ] refl

pub not_true : (b : Bool) → not b ≡ true → b ≡ false
not_true false h = refl
not_true true h = cc

pub follows_stands : (at : ℕ → Option NumberedPacket) (cut : ℕ) (given earlier : List WholeFrame) (d : Divided)
    (v w j : Walk) (out : List WholeFrame) (p : NumberedPacket)
    → Stands at cut given earlier (parted d p) w out → w.after ≡ v.after → at v.after ≡ Some p → j ≡ joined_at w p
    → Stands at cut given earlier (joins (parted d p) p) j out
follows_stands at cut given earlier d v w j out p h after found is =
    subst (λ x. Stands at cut given earlier (joins (parted d p) p) x out) (sym is)
    (joins_stands at cut given earlier (parted d p) w out p h (ap at after ∙ found) (fits_after d p))

pub ends_yes : (at : ℕ → Option NumberedPacket) (cut : ℕ) (given earlier : List WholeFrame) (d : Divided) (w : Walk)
    (out : List WholeFrame) (p : NumberedPacket)
    → is_empty p ≡ false → p.marker ≡ true → Stands at cut given earlier (closes d) w out
    → Stands at cut given earlier (ended d p) w out
ends_yes at cut given earlier d w out p is_full_p marker h =
    let e : (not (is_empty p) && p.marker) ≡ true = ap (λ (b : Bool). not b && p.marker) is_full_p ∙ marker in
    subst (λ x. Stands at cut given earlier x w out) (sym (ap (λ (b : Bool). cond b (closes d) d) e)) h

pub divide-push : (d : Divided) (run more : List NumberedPacket) (p : NumberedPacket) → more ≡ run ++ p ∷ []
    → with_packet (divide_on d run) p ≡ divide_on d more
divide-push d run more p is = sym (ap (divide_on d) is ∙ fold-append with_packet d run (p ∷ []))
