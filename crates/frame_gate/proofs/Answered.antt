-- What is answered is the definition's answer.
use Rattle.std.proofs.Common.{◌≡◌, ℕ, zero, suc, ◌+◌, ◌-◌, ◌%◌, ◌<◌, ◌≤◌, Bool, true, false, cond, nat_lt, nat_le, max}
use Rattle.std.proofs.Common.{List, [], ◌∷◌, ◌++◌, map, set, Option, None, Some, refl, sym, ap, ◌∙◌, arith, subst}
use Rattle.std.proofs.Common.{append-nil, length, inl, inr}
use Rattle.std.specs.Prelude.{is_some, unwrap_or}
use Rattle.std.specs.Option.{option_copied}
use Rattle.std.proofs.Common.{Bor}
use Rattle.std.proofs.lemmas.Bool.Decides.{nat_tests}
use Rattle.frame_gate.specs.Packets.{NumberedPacket, ext_of}
use Rattle.frame_gate.specs.Frame.{WholeFrame}
use Rattle.frame_gate.specs.declared.packet.Place.{Place}
use Rattle.frame_gate.specs.declared.packet.Place.TheVariants.{Taken, Late, Duplicate}
use Rattle.frame_gate.specs.declared.walk.Walk.{Walk}
use Rattle.frame_gate.specs.Runs.{divided, frames_in, row}
use Rattle.frame_gate.specs.inner.Cells.{held, of_number, ArePlaced, MayForget, Forgets}
use Rattle.frame_gate.specs.inner.Walks.{Stands}
use Rattle.frame_gate.specs.Epochs.{Epoch, packet_at, greatest, next_of, frames_of, placed, resynced, opened, place_of}
use Rattle.frame_gate.specs.Epochs.{taking, if_taken, epoch_after, top, missing_above}
use Rattle.frame_gate.specs.inner.Ties.{Tied, begun_at}
use Rattle.frame_gate.specs.inner.Kept.{Kept, PreparedOf}
use Rattle.frame_gate.specs.Admits.{IsAt, Answers, Takes, CommitsAt, Commits}
use Rattle.std.proofs.lemmas.Bool.{cases_lt}
use Rattle.frame_gate.proofs.Newcomers.{placed-set, from-set}
use Rattle.frame_gate.proofs.Forgetting.{tied-alike, held-kept, held-placed, left_over, left_from}
use Rattle.frame_gate.proofs.Rows.{row-none}
use Rattle.frame_gate.proofs.Cuts.{begun_stands}
use Rattle.frame_gate.proofs.Taken.{greatest-push}

pub resynced-taken : (most : ℕ) (e : Epoch) (n : ℕ) → (resynced most e n).taken ≡ e.taken
resynced-taken zero e n = refl
resynced-taken (suc most) e n =
    elim (nat_le (next_of e + 256) n) as (λ b. (cond b (resynced most (placed e n) n) e).taken ≡ e.taken)
    [ true ↦ resynced-taken most (placed e n) n | false ↦ refl ]

pub top-greatest : (ps : List NumberedPacket) → unwrap_or (top ps) 0 ≡ greatest ps
top-greatest [] = refl
top-greatest (p ∷ ps) = refl

top-push : (ps : List NumberedPacket) (p : NumberedPacket) → top (ps ++ p ∷ []) ≡ Some (greatest (ps ++ p ∷ []))
top-push [] p = refl
top-push (q ∷ qs) p = refl

abbrev of : List NumberedPacket → ℕ → List WholeFrame → Epoch
of taken cut earlier = record { taken = taken; cut = cut; earlier = earlier }

pub opened-taken : (taken : List NumberedPacket) (cut : ℕ) (earlier : List WholeFrame) (p : NumberedPacket)
    → (opened (of taken cut earlier) p).taken ≡ taken
opened-taken [] cut earlier p = refl
opened-taken (q ∷ qs) cut earlier p = refl

-- nothing is taken: nothing runs
run-nil : (cut n : ℕ) → row (packet_at []) cut n ≡ []
run-nil cut n = row-none (packet_at []) cut n refl

opened_first : (cells : List (Option NumberedPacket)) (cut : ℕ) (earlier : List WholeFrame) (p : NumberedPacket)
    → ((n : ℕ) → held cells None n ≡ None)
    → Tied (held cells None) (frames_of (of [] cut earlier)) (opened (of [] cut earlier) p) (begun_at p.number) []
opened_first cells cut earlier p empty =
    let frames : frames_of (of [] cut earlier) ++ [] ≡ earlier =
    append-nil (frames_of (of [] cut earlier))
    ∙ ap (λ (r : List NumberedPacket). earlier ++ frames_in (divided r)) (run-nil cut (greatest [] + 1 - cut))
    ∙ append-nil earlier in
    record {
      stands =
          subst (λ (r : List NumberedPacket).
          Stands (held cells None) p.number (frames_of (of [] cut earlier)) earlier (divided r) (begun_at p.number) [])
          (sym (run-nil p.number (greatest [] + 1 - p.number)))
          (begun_stands (held cells None) (frames_of (of [] cut earlier)) earlier [] p.number frames);
      agrees = λ n a. empty n;
      behind = λ n a. refl;
    }

-- the walk of a gate that was given nothing begins at the first packet; another gate's is its own
pub opened_none : (k : Kept) (taken : List NumberedPacket) (cut : ℕ) (earlier : List WholeFrame) (p : NumberedPacket)
    → IsAt k (of taken cut earlier) → k.greatest ≡ None
    → Tied (held k.cells None) (frames_of (of taken cut earlier)) (opened (of taken cut earlier) p) (begun_at p.number)
    []
opened_none k [] cut earlier p h none =
    opened_first k.cells cut earlier p (λ n. ap (λ o. of_number o n) ((h.empty none).1 (n % 256)))
opened_none k (q ∷ qs) cut earlier p h none =
    absurd (let e : None ≡ Some (greatest (q ∷ qs)) = sym none ∙ h.greatest in cc)

pub place_late : (e : Epoch) (p : NumberedPacket) → p.number < next_of (opened e p) → place_of e p ≡ Late
place_late e p h =
    let b : nat_lt p.number (next_of (opened e p)) ≡ true = grind (arith, nat_tests) in
    ap (λ x. cond x Late (cond (is_some (packet_at e.taken p.number)) Duplicate Taken)) b

place_by : (e : Epoch) (p : NumberedPacket) (b : Bool) → next_of (opened e p) ≤ p.number
    → is_some (packet_at e.taken p.number) ≡ b → place_of e p ≡ cond b Duplicate Taken
place_by e p b h is =
    let f : nat_lt p.number (next_of (opened e p)) ≡ false = grind (arith, nat_tests) in
    ap (λ x. cond x Late (cond (is_some (packet_at e.taken p.number)) Duplicate Taken)) f
    ∙ ap (λ x. cond x Duplicate Taken) is

-- the same walk, with all frames given already
pub rebased : (at : ℕ → Option NumberedPacket) (given : List WholeFrame) (e : Epoch) (w : Walk) (out : List WholeFrame)
    → Tied at given e w out → Tied at (frames_of e) e w []
rebased at given e w out h = record {
  stands = record {
    after = h.stands.after;
    next = h.stands.next;
    first = h.stands.first;
    stamp = h.stands.stamp;
    piece = h.stands.piece;
    frames = append-nil (frames_of e);
  };
  agrees = h.agrees;
  behind = h.behind;
}

-- the answer to a packet that is taken
pub something_new : (k new : Kept) (e : Epoch) (p : NumberedPacket) (r : PreparedOf) (walk : Walk) → IsAt k e
    → Tied (held k.cells None) (frames_of e) (opened e p) walk [] → walk.next ≤ p.number → k.walk.next ≤ p.number
    → length k.cells ≡ 256 → held k.cells None p.number ≡ None
    → Tied (held (set k.cells (p.number % 256) (Some p)) None) (frames_of e)
    (taking (resynced p.number (opened e p) p.number) p) r.walk r.answer.frames
    → r.answer.nacks ≡ map ext_of (missing_above k.greatest r.walk.next p.number)
    → r.answer.pli ≡ nat_le (walk.next + 256) p.number
    → r.answer.place ≡ Taken → r.packet ≡ p → Commits k r new
    → Answers e p r.answer × IsAt new (epoch_after e p)
something_new k new e p r walk h begun above over long free tied nacks pli place packet commits =
    let n = p.number in
    let mid = resynced n (opened e p) n in
    let more = taking mid p in
    let cells = set k.cells (n % 256) (Some p) in
    let same : mid.taken ≡ e.taken = resynced-taken n (opened e p) n ∙ opened-taken e.taken e.cut e.earlier p in
    let none : is_some (packet_at e.taken n) ≡ false =
    ap (λ (ps : List NumberedPacket). is_some (packet_at ps n)) (sym (opened-taken e.taken e.cut e.earlier p))
    ∙ ap is_some (sym (begun.agrees n above) ∙ free) in
    let next : walk.next ≡ next_of (opened e p) = begun.stands.next in
    let is : place_of e p ≡ Taken = place_by e p false (omega arith) none in
    let goes : epoch_after e p ≡ more = ap (λ q. if_taken q more e) is in
    let takes : Takes k r.packet r.walk new = subst (λ q. CommitsAt q k r new) place commits in
    let others : MayForget r.walk.next cells new.cells =
    subst (λ (q : NumberedPacket). MayForget r.walk.next (set k.cells (q.number % 256) (Some q)) new.cells) packet
    takes.others in
    let gone : Forgets k.walk.next r.walk.next cells new.cells =
    subst (λ (q : NumberedPacket). Forgets k.walk.next r.walk.next (set k.cells (q.number % 256) (Some q)) new.cells)
    packet takes.gone in
    let most : unwrap_or k.greatest 0 ≡ greatest mid.taken =
    ap (λ o. unwrap_or o 0) h.greatest ∙ top-greatest e.taken ∙ ap greatest (sym same) in
    let g : max (unwrap_or k.greatest 0) n ≡ greatest (mid.taken ++ p ∷ []) =
    (let x = greatest-push mid.taken p in omega arith) in
    let top_is : new.greatest ≡ Some (max (unwrap_or k.greatest 0) n) =
    takes.greatest ∙ ap (λ (q : NumberedPacket). Some (max (unwrap_or k.greatest 0) q.number)) packet in
    let walked : Tied (held new.cells None) (frames_of more) more r.walk [] =
    tied-alike (held cells None) (held new.cells None) (frames_of more) more r.walk []
    (λ m le. held-kept r.walk.next cells new.cells m others le)
    (rebased (held cells None) (frames_of e) more r.walk r.answer.frames tied) in
    let placed : ArePlaced new.cells = λ i q there.
    placed-set k.cells p long h.placed i q (left_over r.walk.next cells new.cells i q others there) in
    let low = left_from k.walk.next r.walk.next cells new.cells others gone (placed-set k.cells p long h.placed)
    (from-set k.cells p k.walk.next long over (λ i q there. (h.holds i q there).0)) in
    let next_is : new.walk.next ≡ r.walk.next = ap (λ (w : Walk). w.next) takes.walk_is in
    let at : IsAt new more = record {
      tied = subst (λ (w : Walk). Tied (held new.cells None) (frames_of more) more w []) (sym takes.walk_is) walked;
      greatest = top_is ∙ ap Some g ∙ sym (top-push mid.taken p);
      empty = λ nothing. absurd (let x : Some (max (unwrap_or k.greatest 0) n) ≡ None = sym top_is ∙ nothing in cc);
      placed = placed;
      holds = λ i q there.
          let from : r.walk.next ≤ q.number = low i q there in
          let to =
          below_size (held new.cells None) (frames_of more) more r.walk q walked from
          (held-placed new.cells i q placed there) in
          (omega arith, omega arith);
    } in (
      record {
        place = place ∙ sym is;
        frames = ap frames_of goes ∙ sym tied.stands.frames;
        nacks = nacks
            ∙ ap (λ o. map ext_of (missing_above o r.walk.next n)) h.greatest
            ∙ ap (λ m. map ext_of (missing_above (top e.taken) m n)) (tied.stands.next ∙ ap next_of (sym goes))
            ∙ sym (ap (λ q. if_taken q (map ext_of (missing_above (top e.taken) (next_of (epoch_after e p)) n)) []) is);
        pli =
            pli
            ∙ ap (λ m. nat_le (m + 256) n) next
            ∙ sym (ap (λ q. if_taken q (nat_le (next_of (opened e p) + 256) n) false) is);
      },
      subst (IsAt new) (sym goes) at,
    )
  where
    below_size : (at : ℕ → Option NumberedPacket) (given : List WholeFrame) (e : Epoch) (w : Walk) (q : NumberedPacket)
        → Tied at given e w [] → w.next ≤ q.number → at q.number ≡ Some q → q.number < w.next + 256
    below_size at given e w q tied from there = elim (cases_lt q.number (w.next + 256)) [
      | inl lt ↦ lt
      | inr far ↦
          absurd (let x : Some q ≡ None = sym there ∙ tied.agrees q.number from ∙ tied.behind q.number far in cc)
    ]

pub none_there : {X : Type 0} (o : Option X) → is_some o ≡ false → o ≡ None
none_there None h = refl
none_there (Some x) h = cc

pub none_of : (o : Option (Bor NumberedPacket)) → is_some o ≡ false → option_copied o ≡ None
none_of None h = refl
none_of (Some p) h = cc

pub some_copied : (o : Option (Bor NumberedPacket)) → is_some (option_copied o) ≡ is_some o
some_copied None = refl
some_copied (Some p) = refl

pub place_duplicate : (k : Kept) (e : Epoch) (p : NumberedPacket) (walk : Walk)
    → Tied (held k.cells None) (frames_of e) (opened e p) walk [] → walk.next ≤ p.number
    → is_some (held k.cells None p.number) ≡ true → place_of e p ≡ Duplicate
place_duplicate k e p walk begun above there =
    let n = p.number in
    let some : is_some (packet_at e.taken n) ≡ true =
    ap (λ (ps : List NumberedPacket). is_some (packet_at ps n)) (sym (opened-taken e.taken e.cut e.earlier p))
    ∙ ap is_some (sym (begun.agrees n above))
    ∙ there in
    let next : walk.next ≡ next_of (opened e p) = begun.stands.next in
    place_by e p true (omega arith) some

-- The packet is not taken.
abbrev pub IsOther : Place → Type 0
IsOther Taken = ⊥
IsOther Late = Unit {0}
IsOther Duplicate = Unit {0}

not_taken : {X : Type 0} (q : Place) (x y : X) → IsOther q → if_taken q x y ≡ y
not_taken Taken x y other = absurd other
not_taken Late x y other = refl
not_taken Duplicate x y other = refl

other_commits : (q : Place) (k : Kept) (r : PreparedOf) (new : Kept) → IsOther q → CommitsAt q k r new → new ≡ k
other_commits Taken k r new other h = absurd other
other_commits Late k r new other h = h
other_commits Duplicate k r new other h = h

-- the answer to a packet that changes nothing
pub nothing_new : (k new : Kept) (e : Epoch) (p : NumberedPacket) (r : PreparedOf) (q : Place) → IsOther q
    → place_of e p ≡ q → IsAt k e
    → r.answer.place ≡ q → r.answer.frames ≡ [] → r.answer.nacks ≡ [] → r.answer.pli ≡ false → Commits k r new
    → Answers e p r.answer × IsAt new (epoch_after e p)
nothing_new k new e p r q other is h place frames nacks pli commits =
    let n = p.number in
    let on = taking (resynced n (opened e p) n) p in
    let missing = map ext_of (missing_above (top e.taken) (next_of (epoch_after e p)) n) in
    let far = nat_le (next_of (opened e p) + 256) n in
    let stays : epoch_after e p ≡ e = ap (λ z. if_taken z on e) is ∙ not_taken q on e other in
    let left : new ≡ k = other_commits q k r new other (subst (λ z. CommitsAt z k r new) place commits) in (
      record {
        place = place ∙ sym is;
        frames =
            ap frames_of stays
            ∙ sym (append-nil (frames_of e))
            ∙ ap (λ (fs : List WholeFrame). frames_of e ++ fs) (sym frames);
        nacks = nacks ∙ sym (ap (λ z. if_taken z missing []) is ∙ not_taken q missing [] other);
        pli = pli ∙ sym (ap (λ z. if_taken z far false) is ∙ not_taken q far false other);
      },
      subst (IsAt new) (sym stays) (subst (λ x. IsAt x e) (sym left) h),
    )
