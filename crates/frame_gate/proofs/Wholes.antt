-- The pieces that are closed after the first are frames.
use Rattle.std.proofs.Common.{◌≡◌, ℕ, suc, ◌+◌, ◌<◌, ◌≤◌, Bool, true, false, cond, not, ◌&&◌, ◌||◌, nat_eq, nat_lt}
use Rattle.std.proofs.Common.{List, [], ◌∷◌, ◌++◌, length, map, Option, None, Some, refl, sym, ap, ◌∙◌, arith}
use Rattle.std.proofs.Common.{append-nil, get_or, ◌%◌}
use Rattle.std.specs.Prelude.{int_lt}
use Rattle.std.proofs.lemmas.Int.{ints}
use Rattle.std.specs.List.{list_any}
use Rattle.std.specs.Option.{option_or}
use Rattle.std.proofs.lemmas.Bool.Decides.{nat_tests}
use Rattle.std.proofs.lemmas.List.{map-append}
use Rattle.std.proofs.lemmas.List.Elements.{filter-append}
use Rattle.std.proofs.lemmas.List.Folds.{list_any-append}
use Rattle.frame_gate.specs.Packets.{NumberedPacket, ext_of, frame_packet}
use Rattle.frame_gate.specs.Frame.{SourcePacket, WholeFrame, most_packets, fault_of, numbers_rise, rise_from}
use Rattle.frame_gate.specs.Frame.{lacks_payload, has_bad_kind, marker_is_early}
use Rattle.frame_gate.specs.declared.frame.FrameFault.{FrameFault}
use Rattle.frame_gate.specs.declared.frame.FrameFault.TheVariants.{Empty, Order, TooMany, NoPayload, BadKind, Marker}
use Rattle.frame_gate.specs.Runs.{frame_of, is_empty, is_full, full, differs, ends, Divided, closes, joins, parted}
use Rattle.frame_gate.specs.Runs.{with_packet, divide_on, first_ts, IsRow}
use Rattle.frame_gate.specs.inner.Cells.{held, of_number}
use Rattle.frame_gate.specs.declared.walk.Walk.{Walk}
use Rattle.frame_gate.specs.inner.Walks.{Stands, tells_apart_at, GoesOn, MayEnd}
use Rattle.frame_gate.proofs.Divisions.{piece_ends}

-- a test that fails is passed over
pass : (b : Bool) (fault : FrameFault) (later : Option FrameFault) → b ≡ false → cond b (Some fault) later ≡ later
pass true fault later h = cc
pass false fault later h = refl

pub faultless_with : (ps : List SourcePacket) → nat_eq (length ps) 0 ≡ false → not (numbers_rise ps) ≡ false
    → nat_lt most_packets (length ps) ≡ false
    → lacks_payload ps ≡ false → has_bad_kind ps ≡ false → marker_is_early ps ≡ false → fault_of ps ≡ None
unfolding fault_of
faultless_with ps some order few payload kinds marker =
    pass (nat_eq (length ps) 0) Empty _ some
    ∙ pass (not (numbers_rise ps)) Order _ order
    ∙ pass (nat_lt most_packets (length ps)) TooMany _ few
    ∙ pass (lacks_payload ps) NoPayload _ payload
    ∙ pass (has_bad_kind ps) BadKind _ kinds
    ∙ pass (marker_is_early ps) Marker None marker

-- what is held of a number has this number
number_is : (o : Option NumberedPacket) (n : ℕ) (p : NumberedPacket) → of_number o n ≡ Some p → p.number ≡ n
number_is None n p h = cc
number_is (Some q) n p h = by (nat_eq q.number n) refl h
  where
    by : (b : Bool) → nat_eq q.number n ≡ b → cond b (Some q) None ≡ Some p → p.number ≡ n
    by true is found =
        let e : q.number ≡ n = grind (arith, nat_tests) in
        let f : q ≡ p = cc in
        ap (λ (r : NumberedPacket). r.number) (sym f) ∙ e
    by false is found = absurd (cc)

abbrev pub AreNumbered : (ℕ → Option NumberedPacket) → Type 0
AreNumbered at = (n : ℕ) (p : NumberedPacket) → at n ≡ Some p → p.number ≡ n

pub held_number : (cells : List (Option NumberedPacket)) (newcomer : Option NumberedPacket)
    → AreNumbered (held cells newcomer)
held_number cells newcomer n p h = by (of_number newcomer n) refl h
  where
    cell : Option NumberedPacket
    cell = of_number (get_or cells (n % 256) None) n

    by : (o : Option NumberedPacket) → of_number newcomer n ≡ o → option_or o cell ≡ Some p → p.number ≡ n
    by None is found = number_is (get_or cells (n % 256) None) n p found
    by (Some q) is found = number_is newcomer n p (is ∙ found)

rises : (a b : ℕ) → a < b → int_lt (ext_of a) (ext_of b) ≡ true
rises a b h = by (int_lt (ext_of a) (ext_of b)) refl
  where
    by : (t : Bool) → int_lt (ext_of a) (ext_of b) ≡ t → int_lt (ext_of a) (ext_of b) ≡ true
    by true e = e
    by false e = absurd (omega (arith, ints))

-- the packets of a row rise
pub row_rises_from : (at : ℕ → Option NumberedPacket) → AreNumbered at → (from : ℕ) (ps : List NumberedPacket) (b : ℕ)
    → b < from → IsRow at from ps
    → rise_from (ext_of b) (map frame_packet (full ps)) ≡ true
row_rises_from at has from [] b lt h = refl
row_rises_from at has from (p ∷ ps) b lt h =
    let n : p.number ≡ from = has from p h.0 in
    elim (is_empty p) as (λ e. rise_from (ext_of b) (map frame_packet (cond (not e) (p ∷ full ps) (full ps))) ≡ true) [
      | true ↦ row_rises_from at has (suc from) ps b (omega arith) h.1
      | false ↦
          ap (λ x. x && rise_from (ext_of p.number) (map frame_packet (full ps))) (rises b p.number (omega arith))
          ∙ row_rises_from at has (suc from) ps p.number (omega arith) h.1
    ]

pub row_rises : (at : ℕ → Option NumberedPacket) → AreNumbered at → (from : ℕ) (ps : List NumberedPacket)
    → IsRow at from ps
    → numbers_rise (map frame_packet (full ps)) ≡ true
row_rises at has from [] h = refl
row_rises at has from (p ∷ ps) h =
    let n : p.number ≡ from = has from p h.0 in
    elim (is_empty p) as (λ e. numbers_rise (map frame_packet (cond (not e) (p ∷ full ps) (full ps))) ≡ true) [
      | true ↦ row_rises at has (suc from) ps h.1
      | false ↦ row_rises_from at has (suc from) ps p.number (omega arith) h.1
    ]

pub full_payload : (ps : List NumberedPacket) → lacks_payload (map frame_packet (full ps)) ≡ false
full_payload [] = refl
full_payload (p ∷ ps) =
    elim (is_empty p)
    as (λ e. is_empty p ≡ e → lacks_payload (map frame_packet (cond (not e) (p ∷ full ps) (full ps))) ≡ false) [
      | true ↦ λ is. full_payload ps
      | false ↦ λ is. ap (λ x. x || lacks_payload (map frame_packet (full ps))) is ∙ full_payload ps
    ] refl

pub full_few : (ps : List NumberedPacket) → length (map frame_packet (full ps)) ≤ length ps
full_few [] = omega arith
full_few (p ∷ ps) =
    let tail : length (map frame_packet (full ps)) ≤ length ps = full_few ps in
    elim (is_empty p) as (λ e. length (map frame_packet (cond (not e) (p ∷ full ps) (full ps))) ≤ suc (length ps))
    [ true ↦ omega arith | false ↦ omega arith ]

neither : (x y : Bool) → (x || y) ≡ false → (x ≡ false) × (y ≡ false)
neither true y e = absurd (cc)
neither false y e = (refl, e)

-- a timestamp that differs from another
abbrev another : ℕ → NumberedPacket
another ts = record { number = 0; marker = false; pt = 0; ts = ts; payload = 0 ∷ [] }

-- where the stamp is known, the piece has a packet, and the first one has this timestamp
pub stamp_is : (un : List NumberedPacket) (ts : ℕ) → ((q : NumberedPacket) → differs un q ≡ tells_apart_at (Some ts) q)
    → (nat_eq (length (map frame_packet (full un))) 0 ≡ false) × (first_ts (full un) ≡ ts)
stamp_is un ts h = by (full un) (h (another (suc ts))) (h (another ts))
  where
    by : (ps : List NumberedPacket) → list_any (λ q. not (nat_eq q.ts (suc ts))) ps ≡ not (nat_eq ts (suc ts))
        → list_any (λ q. not (nat_eq q.ts ts)) ps ≡ not (nat_eq ts ts)
        → (nat_eq (length (map frame_packet ps)) 0 ≡ false) × (first_ts ps ≡ ts)
    by [] other same =
        absurd
        (let e : not (nat_eq ts (suc ts)) ≡ true = grind (arith, nat_tests) in let f : false ≡ true = other ∙ e in cc)
    by (p ∷ ps) other same =
        let e : not (nat_eq ts ts) ≡ false = grind (arith, nat_tests) in
        let f : not (nat_eq p.ts ts) ≡ false =
        (neither (not (nat_eq p.ts ts)) (list_any (λ q. not (nat_eq q.ts ts)) ps) (same ∙ e)).0 in
        let some : nat_eq (suc (length (map frame_packet ps))) 0 ≡ false = grind (arith, nat_tests) in
        (some, (let g : p.ts ≡ ts = grind (arith, nat_tests) in g))

-- markers: none of these packets ends a piece
markers-full : (un : List NumberedPacket) → GoesOn un
    → list_any (λ (q : SourcePacket). q.marker) (map frame_packet (full un)) ≡ false
markers-full [] h = refl
markers-full (p ∷ ps) h =
    let both = neither (ends p) (list_any ends ps) h in
    let later = markers-full ps both.1 in
    by later both.0 (is_empty p) refl
  where
    by : list_any (λ (q : SourcePacket). q.marker) (map frame_packet (full ps)) ≡ false → ends p ≡ false → (e : Bool)
        → is_empty p ≡ e
        → list_any (λ (q : SourcePacket). q.marker) (map frame_packet (cond (not e) (p ∷ full ps) (full ps))) ≡ false
    by later goes_on true is = later
    by later goes_on false is =
        let mark : p.marker ≡ false = sym (ap (λ (b : Bool). not b && p.marker) is) ∙ goes_on in
        ap (λ b. b || list_any (λ (q : SourcePacket). q.marker) (map frame_packet (full ps))) mark ∙ later

early-push : (ps : List SourcePacket) (x : SourcePacket) → list_any (λ (q : SourcePacket). q.marker) ps ≡ false
    → marker_is_early (ps ++ x ∷ []) ≡ false
early-push [] x h = by x.marker
  where
    by : (b : Bool) → ((b && false) || false) ≡ false
    by true = refl
    by false = refl
early-push (p ∷ ps) x h =
    let both = neither p.marker (list_any (λ (q : SourcePacket). q.marker) ps) h in
    ap (λ b. (b && nat_lt 0 (length (ps ++ x ∷ []))) || marker_is_early (ps ++ x ∷ [])) both.0 ∙ early-push ps x both.1

early-none : (ps : List SourcePacket) → list_any (λ (q : SourcePacket). q.marker) ps ≡ false
    → marker_is_early ps ≡ false
early-none [] h = refl
early-none (p ∷ ps) h =
    let both = neither p.marker (list_any (λ (q : SourcePacket). q.marker) ps) h in
    ap (λ b. (b && nat_lt 0 (length ps)) || marker_is_early ps) both.0 ∙ early-none ps both.1

pub goes_on-may_end : (un : List NumberedPacket) → GoesOn un → MayEnd un
goes_on-may_end un h = early-none (map frame_packet (full un)) (markers-full un h)

pub joined-may_end : (un : List NumberedPacket) (p : NumberedPacket) → GoesOn un → MayEnd (un ++ p ∷ [])
joined-may_end un p h =
    ap (λ (ps : List NumberedPacket). marker_is_early (map frame_packet ps)) (filter-append is_full un (p ∷ []))
    ∙ ap marker_is_early (map-append frame_packet (full un) (full (p ∷ [])))
    ∙ (elim (is_empty p)
    as (λ e. marker_is_early (map frame_packet (full un) ++ map frame_packet (cond (not e) (p ∷ []) [])) ≡ false) [
      | true ↦ ap marker_is_early (append-nil (map frame_packet (full un))) ∙ goes_on-may_end un h
      | false ↦ early-push (map frame_packet (full un)) (frame_packet p) (markers-full un h)
    ])

-- the unclosed piece goes on, whatever the packets
pub parted-goes_on : (d : Divided) (p : NumberedPacket) → GoesOn d.unclosed → GoesOn (parted d p).unclosed
parted-goes_on d p h =
    elim (differs d.unclosed p) as (λ b. GoesOn (cond b (closes d) d).unclosed) [ true ↦ refl | false ↦ h ]

with-goes_on : (d : Divided) (p : NumberedPacket) → GoesOn d.unclosed → GoesOn (with_packet d p).unclosed
with-goes_on d p h =
    let whole = joins (parted d p) p in
    elim (ends p) as (λ b. ends p ≡ b → GoesOn (cond b (closes whole) whole).unclosed) [
      | true ↦ λ is. refl
      | false ↦ λ is.
          list_any-append ends (parted d p).unclosed (p ∷ [])
          ∙ ap (λ b. b || (ends p || false)) (parted-goes_on d p h)
          ∙ ap (λ b. b || false) is
    ] refl

pub divide-goes_on : (d : Divided) (run : List NumberedPacket) → GoesOn d.unclosed → GoesOn (divide_on d run).unclosed
divide-goes_on d [] h = h
divide-goes_on d (p ∷ ps) h = divide-goes_on (with_packet d p) ps (with-goes_on d p h)

-- the packets of a piece that is closed after the first are a frame
pub closed_is_frame : (cells : List (Option NumberedPacket)) (newcomer : Option NumberedPacket) (cut : ℕ)
    (given earlier : List WholeFrame) (d : Divided) (w : Walk) (out : List WholeFrame) (ts : ℕ)
    (packets : List SourcePacket)
    → Stands (held cells newcomer) cut given earlier d w out → w.first ≡ false → w.stamp ≡ Some ts
    → w.after ≤ w.next + 256
    → packets ≡ map frame_packet (full d.unclosed) → has_bad_kind packets ≡ false → MayEnd d.unclosed
    → (fault_of packets ≡ None) × (record { ts = ts; packets = packets } ≡ frame_of d.unclosed)
closed_is_frame cells newcomer cut given earlier d w out ts packets h later stamp near is kinds may_end =
    let at = held cells newcomer in
    let ps = map frame_packet (full d.unclosed) in
    let first = stamp_is d.unclosed ts (λ q. h.stamp q ∙ ap (λ o. tells_apart_at o q) stamp) in
    let ends_at : w.after ≡ w.next + length d.unclosed = piece_ends at cut given earlier d w out h later in
    let less : length ps ≤ length d.unclosed = full_few d.unclosed in
    let few : nat_lt most_packets (length ps) ≡ false = grind (arith, nat_tests) in
    let none : fault_of ps ≡ None =
    faultless_with ps first.0 (ap not (row_rises at (held_number cells newcomer) w.next d.unclosed (h.piece later))) few
    (full_payload d.unclosed)
    (ap has_bad_kind (sym is) ∙ kinds) may_end in
    (ap fault_of is ∙ none, whole ts (sym first.1) packets is)
  where
    whole : (t : ℕ) → t ≡ first_ts (full d.unclosed) → (qs : List SourcePacket)
        → qs ≡ map frame_packet (full d.unclosed)
        → (let f : WholeFrame = record { ts = t; packets = qs } in f) ≡ frame_of d.unclosed
    whole t a qs b = cc
