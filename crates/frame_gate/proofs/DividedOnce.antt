-- A run is divided where it is to be divided, and nowhere else.
use Rattle.std.proofs.Common.{◌≡◌, ℕ, Bool, true, false, not, ◌&&◌, ◌||◌, cond, nat_eq, List, [], ◌∷◌, ◌++◌, refl, sym}
use Rattle.std.proofs.Common.{ap, ◌∙◌, arith, subst, inl, inr, append_assoc, append-nil}
use Rattle.std.specs.List.{list_any}
use Rattle.std.proofs.lemmas.Bool.Decides.{nat_tests}
use Rattle.std.proofs.lemmas.List.Folds.{list_any-append}
use Rattle.std.proofs.lemmas.List.Concat.{flat_map-append}
use Rattle.std.proofs.lemmas.List.Sums.{fold-append}
use Rattle.frame_gate.specs.Packets.{NumberedPacket}
use Rattle.frame_gate.specs.Runs.{is_full, full, ends, differs, Divided, undivided, closes, joins, parted, ended}
use Rattle.frame_gate.specs.Runs.{with_packet, divide_on, divided, joined}
use Rattle.frame_gate.specs.laws.WholeDivision.{HaveTs, BeginsAnew, IsClosed, AreClosed, IsDivision, WholeDivision}
use Rattle.frame_gate.proofs.Divisions.{differs-nil}
use Rattle.frame_gate.proofs.Takes.{all_of, all-with}

abbrev of : List (List NumberedPacket) → List NumberedPacket → Divided
of closed un = record { closed = closed; unclosed = un }

neither : (x y : Bool) → (x || y) ≡ false → (x ≡ false) × (y ≡ false)
neither true y e = absurd (cc)
neither false y e = (refl, e)

have_ts-append : (ts : ℕ) (ps qs : List NumberedPacket) → HaveTs ts ps → HaveTs ts qs → HaveTs ts (ps ++ qs)
have_ts-append ts [] qs h k = k
have_ts-append ts (p ∷ ps) qs h k = (h.0, have_ts-append ts ps qs h.1 k)

-- packets of which none differs from a timestamp have it
same_all : (t : ℕ) (qs : List NumberedPacket) → list_any (λ q. not (nat_eq q.ts t)) (full qs) ≡ false → HaveTs t qs
same_all t [] h = tt
same_all t (q ∷ qs) h = by (λ k. same_all t qs k) (is_full q) refl h
  where
    by : (list_any (λ r. not (nat_eq r.ts t)) (full qs) ≡ false → HaveTs t qs) → (b : Bool) → is_full q ≡ b
        → list_any (λ r. not (nat_eq r.ts t)) (cond b (q ∷ full qs) (full qs)) ≡ false → HaveTs t (q ∷ qs)
    by later true is k =
        let both = neither (not (nat_eq q.ts t)) (list_any (λ r. not (nat_eq r.ts t)) (full qs)) k in
        let no : not (nat_eq q.ts t) ≡ false = both.0 in
        let e : q.ts ≡ t = grind (arith, nat_tests) in
        (λ _. e, later both.1)
    by later false is k = (λ full_p. absurd (let x : true ≡ false = sym full_p ∙ is in cc), later k)

-- a non-empty packet that doesn't differ has the timestamp of all
same_ts : (un : List NumberedPacket) (p : NumberedPacket) → is_full p ≡ true → differs un p ≡ false → HaveTs p.ts un
same_ts un p full_p same =
    same_all p.ts un (sym (ap (λ b. b && list_any (λ q. not (nat_eq q.ts p.ts)) (full un)) full_p) ∙ same)

begins-more : (piece after more : List NumberedPacket) → BeginsAnew piece after → BeginsAnew piece (after ++ more)
begins-more piece [] more h = absurd h
begins-more piece (q ∷ qs) more h = h

closed-more : (piece after more : List NumberedPacket) → IsClosed piece after → IsClosed piece (after ++ more)
closed-more piece after more h = record {
  front = h.front;
  last = h.last;
  is = h.is;
  goes_on = h.goes_on;
  ts = h.ts;
  one_ts = h.one_ts;
  reason = elim h.reason [ inl e ↦ inl e | inr e ↦ inr (begins-more piece after more e) ];
}

are_closed-more : (pieces : List (List NumberedPacket)) (un more : List NumberedPacket) → AreClosed pieces un
    → AreClosed pieces (un ++ more)
are_closed-more [] un more h = tt
are_closed-more (piece ∷ pieces) un more h = (
  subst (IsClosed piece) (append_assoc (joined pieces) un more) (closed-more piece (joined pieces ++ un) more h.0),
  are_closed-more pieces un more h.1,
)

joined-over : (pieces : List (List NumberedPacket)) (un more : List NumberedPacket)
    → joined pieces ++ (un ++ more) ≡ joined (pieces ++ un ∷ []) ++ more
joined-over pieces un more =
    sym (ap (λ (xs : List NumberedPacket). xs ++ more)
    (flat_map-append (λ (piece : List NumberedPacket). piece) pieces (un ∷ []))
    ∙ append_assoc (joined pieces) (un ++ []) more
    ∙ ap (λ (xs : List NumberedPacket). joined pieces ++ (xs ++ more)) (append-nil un))

are_closed-push : (pieces : List (List NumberedPacket)) (un more : List NumberedPacket) → AreClosed pieces (un ++ more)
    → IsClosed un more → AreClosed (pieces ++ un ∷ []) more
are_closed-push [] un more h k = (k, tt)
are_closed-push (piece ∷ pieces) un more h k =
    (subst (IsClosed piece) (joined-over pieces un more) h.0, are_closed-push pieces un more h.1 k)

record Snoc (ps : List NumberedPacket) : Type 0 where
  front : List NumberedPacket
  last : NumberedPacket
  is : ps ≡ front ++ last ∷ []

snoc : (p : NumberedPacket) (ps : List NumberedPacket) → Snoc (p ∷ ps)
snoc p [] = record { front = []; last = p; is = refl }
snoc p (q ∷ qs) =
    (let s = snoc q qs in
    record { front = p ∷ s.front; last = s.last; is = ap (λ (xs : List NumberedPacket). p ∷ xs) s.is })

front-goes_on : (front : List NumberedPacket) (last : NumberedPacket) → list_any ends (front ++ last ∷ []) ≡ false
    → list_any ends front ≡ false
front-goes_on front last h =
    (neither (list_any ends front) (list_any ends (last ∷ [])) (sym (list_any-append ends front (last ∷ [])) ∙ h)).0

closed-anew : (un : List NumberedPacket) (p : NumberedPacket) (ts : ℕ) → list_any ends un ≡ false → HaveTs ts un
    → differs un p ≡ true → IsClosed un (p ∷ [])
closed-anew [] p ts goes_on one_ts other = absurd (let x : false ≡ true = sym (differs-nil p) ∙ other in cc)
closed-anew (q ∷ qs) p ts goes_on one_ts other =
    let s = snoc q qs in
    record {
      front = s.front;
      last = s.last;
      is = s.is;
      goes_on = front-goes_on s.front s.last (ap (list_any ends) (sym s.is) ∙ goes_on);
      ts = ts;
      one_ts = one_ts;
      reason = inr other;
    }

-- a division before the packet was made where there is one, and the packet fits
record Waits (d : Divided) (p : NumberedPacket) : Type 0 where
  closed : AreClosed d.closed (d.unclosed ++ p ∷ [])
  goes_on : list_any ends d.unclosed ≡ false
  ts : ℕ
  one_ts : HaveTs ts (d.unclosed ++ p ∷ [])

waits_anew : (run : List NumberedPacket) (d : Divided) (p : NumberedPacket) → IsDivision run d
    → differs d.unclosed p ≡ true → Waits (closes d) p
waits_anew run d p h other = record {
  closed =
      are_closed-push d.closed d.unclosed (p ∷ []) (are_closed-more d.closed d.unclosed (p ∷ []) h.closed)
      (closed-anew d.unclosed p h.ts h.goes_on h.one_ts other);
  goes_on = refl;
  ts = p.ts;
  one_ts = (λ _. refl, tt);
}

waits_same : (run : List NumberedPacket) (d : Divided) (p : NumberedPacket) → IsDivision run d
    → differs d.unclosed p ≡ false → Waits d p
waits_same run d p h same = by (is_full p) refl
  where
    closed : AreClosed d.closed (d.unclosed ++ p ∷ [])
    closed = are_closed-more d.closed d.unclosed (p ∷ []) h.closed

    by : (b : Bool) → is_full p ≡ b → Waits d p
    by true full_p = record {
      closed = closed;
      goes_on = h.goes_on;
      ts = p.ts;
      one_ts = have_ts-append p.ts d.unclosed (p ∷ []) (same_ts d.unclosed p full_p same) (λ _. refl, tt);
    }
    by false empty = record {
      closed = closed;
      goes_on = h.goes_on;
      ts = h.ts;
      one_ts =
          have_ts-append h.ts d.unclosed (p ∷ []) h.one_ts
          (λ full_p. absurd (let x : true ≡ false = sym full_p ∙ empty in cc), tt);
    }

parted-waits : (run : List NumberedPacket) (d : Divided) (p : NumberedPacket) → IsDivision run d → Waits (parted d p) p
parted-waits run d p h =
    elim (differs d.unclosed p) as (λ b. differs d.unclosed p ≡ b → Waits (cond b (closes d) d) p) [
      | true ↦ λ is. waits_anew run d p h is
      | false ↦ λ is. waits_same run d p h is
    ] refl

ended-division : (run : List NumberedPacket) (w : Divided) (p : NumberedPacket) → Waits w p
    → all_of (ended (joins w p) p) ≡ run → IsDivision run (ended (joins w p) p)
ended-division run w p h all = by (ends p) refl all
  where
    piece : List NumberedPacket
    piece = w.unclosed ++ p ∷ []

    by : (b : Bool) → ends p ≡ b → all_of (cond b (closes (joins w p)) (joins w p)) ≡ run
        → IsDivision run (cond b (closes (joins w p)) (joins w p))
    by true is every = record {
      all = every;
      closed =
          are_closed-push w.closed (w.unclosed ++ p ∷ []) []
          (subst (AreClosed w.closed) (sym (append-nil (w.unclosed ++ p ∷ []))) h.closed)
          record {
            front = w.unclosed;
            last = p;
            is = refl;
            goes_on = h.goes_on;
            ts = h.ts;
            one_ts = h.one_ts;
            reason = inl is;
          };
      goes_on = refl;
      ts = 0;
      one_ts = tt;
    }
    by false is every = record {
      all = every;
      closed = h.closed;
      goes_on =
          list_any-append ends w.unclosed (p ∷ [])
          ∙ ap (λ b. b || (ends p || false)) h.goes_on
          ∙ ap (λ b. b || false) is;
      ts = h.ts;
      one_ts = h.one_ts;
    }

division-with : (run : List NumberedPacket) (d : Divided) (p : NumberedPacket) → IsDivision run d
    → IsDivision (run ++ p ∷ []) (with_packet d p)
division-with run d p h =
    ended-division (run ++ p ∷ []) (parted d p) p (parted-waits run d p h)
    (all-with d p ∙ ap (λ (xs : List NumberedPacket). xs ++ p ∷ []) h.all)

division-on : (run : List NumberedPacket) (d : Divided) (ps : List NumberedPacket) → IsDivision run d
    → IsDivision (run ++ ps) (divide_on d ps)
division-on run d [] h = subst (λ (r : List NumberedPacket). IsDivision r d) (sym (append-nil run)) h
division-on run d (p ∷ ps) h =
    subst (λ (r : List NumberedPacket). IsDivision r (divide_on (with_packet d p) ps)) (append_assoc run (p ∷ []) ps)
    (division-on (run ++ p ∷ []) (with_packet d p) ps (division-with run d p h))

-- and no other division is one

none_other : (ts t : ℕ) (un : List NumberedPacket) → HaveTs ts un → t ≡ ts
    → list_any (λ q. not (nat_eq q.ts t)) (full un) ≡ false
none_other ts t [] h same = refl
none_other ts t (q ∷ qs) h same = by (none_other ts t qs h.1 same) (is_full q) refl
  where
    by : list_any (λ r. not (nat_eq r.ts t)) (full qs) ≡ false → (b : Bool) → is_full q ≡ b
        → list_any (λ r. not (nat_eq r.ts t)) (cond b (q ∷ full qs) (full qs)) ≡ false
    by later true is =
        let a : q.ts ≡ ts = h.0 is in
        let e : not (nat_eq q.ts t) ≡ false = grind (arith, nat_tests) in
        ap (λ b. b || list_any (λ r. not (nat_eq r.ts t)) (full qs)) e ∙ later
    by later false is = later

differs-same : (ts : ℕ) (un : List NumberedPacket) (p : NumberedPacket) → HaveTs ts un → (is_full p ≡ true → p.ts ≡ ts)
    → differs un p ≡ false
differs-same ts un p h k = by (is_full p) refl
  where
    by : (b : Bool) → is_full p ≡ b → (b && list_any (λ q. not (nat_eq q.ts p.ts)) (full un)) ≡ false
    by true is = none_other ts p.ts un h (k is)
    by false is = refl

keeps : (closed : List (List NumberedPacket)) (un : List NumberedPacket) (p : NumberedPacket) → differs un p ≡ false
    → ends p ≡ false
    → with_packet (of closed un) p ≡ of closed (un ++ p ∷ [])
keeps closed un p same goes_on =
    let d = of closed un in
    ap (λ b. ended (joins (cond b (closes d) d) p) p) same ∙ ap (λ b. cond b (closes (joins d p)) (joins d p)) goes_on

ends_here : (closed : List (List NumberedPacket)) (un : List NumberedPacket) (p : NumberedPacket) → differs un p ≡ false
    → ends p ≡ true
    → with_packet (of closed un) p ≡ of (closed ++ (un ++ p ∷ []) ∷ []) []
ends_here closed un p same over =
    let d = of closed un in
    ap (λ b. ended (joins (cond b (closes d) d) p) p) same ∙ ap (λ b. cond b (closes (joins d p)) (joins d p)) over

anew : (closed : List (List NumberedPacket)) (un : List NumberedPacket) (p : NumberedPacket) → differs un p ≡ true
    → with_packet (of closed un) p ≡ with_packet (of (closed ++ un ∷ []) []) p
anew closed un p other =
    let d = of closed un in
    let e = of (closed ++ un ∷ []) [] in
    let first : parted d p ≡ e = ap (λ b. cond b (closes d) d) other in
    let second : parted e p ≡ e = ap (λ b. cond b (closes e) e) (differs-nil p) in
    ap (λ x. ended (joins x p) p) (first ∙ sym second)

runs_on : (closed : List (List NumberedPacket)) (un ps : List NumberedPacket) (ts : ℕ) → HaveTs ts un → HaveTs ts ps
    → list_any ends ps ≡ false
    → divide_on (of closed un) ps ≡ of closed (un ++ ps)
runs_on closed un [] ts h k goes_on = ap (of closed) (sym (append-nil un))
runs_on closed un (p ∷ ps) ts h k goes_on =
    let both = neither (ends p) (list_any ends ps) goes_on in
    ap (λ d. divide_on d ps) (keeps closed un p (differs-same ts un p h k.0) both.0)
    ∙ runs_on closed (un ++ p ∷ []) ps ts (have_ts-append ts un (p ∷ []) h (k.0, tt)) k.1 both.1
    ∙ ap (of closed) (append_assoc un (p ∷ []) ps)

have_ts-split : (ts : ℕ) (ps qs : List NumberedPacket) → HaveTs ts (ps ++ qs) → HaveTs ts ps × HaveTs ts qs
have_ts-split ts [] qs h = (tt, h)
have_ts-split ts (p ∷ ps) qs h = (let k = have_ts-split ts ps qs h.1 in ((h.0, k.0), k.1))

-- a closed piece, and then the rest of the run
closed_first : (closed : List (List NumberedPacket)) (piece rest : List NumberedPacket) → IsClosed piece rest
    → divide_on (of closed []) (piece ++ rest) ≡ divide_on (of (closed ++ piece ∷ []) []) rest
closed_first closed piece rest h =
    fold-append with_packet (of closed []) piece rest
    ∙ elim h.reason [ inl over ↦ by_marker over | inr other ↦ by (ends h.last) refl rest other ]
  where
    marked : ends h.last ≡ true → divide_on (of closed []) piece ≡ of (closed ++ piece ∷ []) []
    marked over =
        let split = have_ts-split h.ts h.front (h.last ∷ []) (subst (HaveTs h.ts) h.is h.one_ts) in
        ap (divide_on (of closed [])) h.is
        ∙ fold-append with_packet (of closed []) h.front (h.last ∷ [])
        ∙ ap (λ d. with_packet d h.last) (runs_on closed [] h.front h.ts tt split.0 h.goes_on)
        ∙ ends_here closed h.front h.last (differs-same h.ts h.front h.last split.0 split.1.0) over
        ∙ ap (λ (xs : List NumberedPacket). of (closed ++ xs ∷ []) []) (sym h.is)

    by_marker : ends h.last ≡ true
        → divide_on (divide_on (of closed []) piece) rest ≡ divide_on (of (closed ++ piece ∷ []) []) rest
    by_marker over = ap (λ d. divide_on d rest) (marked over)

    by : (b : Bool) → ends h.last ≡ b → (later : List NumberedPacket) → BeginsAnew piece later
        → divide_on (divide_on (of closed []) piece) later ≡ divide_on (of (closed ++ piece ∷ []) []) later
    by true over later other = ap (λ d. divide_on d later) (marked over)
    by false is [] other = absurd other
    by false is (q ∷ qs) other =
        let goes_on : list_any ends piece ≡ false =
        ap (list_any ends) h.is
        ∙ list_any-append ends h.front (h.last ∷ [])
        ∙ ap (λ b. b || (ends h.last || false)) h.goes_on
        ∙ ap (λ b. b || false) is in
        ap (λ d. divide_on d (q ∷ qs)) (runs_on closed [] piece h.ts tt h.one_ts goes_on)
        ∙ ap (λ d. divide_on d qs) (anew closed piece q other)

division-is : (closed pieces : List (List NumberedPacket)) (un : List NumberedPacket) (ts : ℕ) → AreClosed pieces un
    → list_any ends un ≡ false → HaveTs ts un
    → divide_on (of closed []) (joined pieces ++ un) ≡ of (closed ++ pieces) un
division-is closed [] un ts h goes_on one_ts =
    runs_on closed [] un ts tt one_ts goes_on
    ∙ ap (λ (ps : List (List NumberedPacket)). of ps un) (sym (append-nil closed))
division-is closed (piece ∷ pieces) un ts h goes_on one_ts =
    ap (divide_on (of closed [])) (append_assoc piece (joined pieces) un)
    ∙ closed_first closed piece (joined pieces ++ un) h.0
    ∙ division-is (closed ++ piece ∷ []) pieces un ts h.1 goes_on one_ts
    ∙ ap (λ (ps : List (List NumberedPacket)). of ps un) (append_assoc closed (piece ∷ []) pieces)

pub whole_division : WholeDivision
whole_division run = (
  division-on [] undivided run record { all = refl; closed = tt; goes_on = refl; ts = 0; one_ts = tt },
  λ d h. ap divided (sym h.all) ∙ division-is [] d.closed d.unclosed h.ts h.closed h.goes_on h.one_ts,
)
