-- A gate that gives a number up.
use Rattle.std.proofs.Common.{◌≡◌, ℕ, ◌+◌, ◌<◌, ◌≤◌, Bool, true, false, cond, not, ◌&&◌, nat_le, nat_lt, List, []}
use Rattle.std.proofs.Common.{Option, None, Some, refl, sym, ap, ◌∙◌, arith, subst, inl, inr}
use Rattle.std.specs.Prelude.{is_some, unwrap_or}
use Rattle.std.proofs.lemmas.Bool.{cases_lt}
use Rattle.std.proofs.lemmas.Bool.Decides.{nat_tests}
use Rattle.frame_gate.specs.Packets.{NumberedPacket}
use Rattle.frame_gate.specs.Frame.{WholeFrame}
use Rattle.frame_gate.specs.declared.walk.Walk.{Walk}
use Rattle.frame_gate.specs.inner.Cells.{held, cell, from_on, ArePlaced}
use Rattle.frame_gate.specs.inner.Kept.{Kept, PreparedCutsOf}
use Rattle.frame_gate.specs.inner.Ties.{Tied}
use Rattle.frame_gate.specs.Epochs.{Epoch, packet_at, greatest, next_of, frames_of, resynced, top}
use Rattle.frame_gate.specs.GivenUp.{is_missing, given_up, AnswersGivingUp}
use Rattle.frame_gate.specs.Admits.{IsAt, CommitsCuts}
use Rattle.frame_gate.proofs.Answered.{resynced-taken, top-greatest, rebased}
use Rattle.frame_gate.proofs.Forgetting.{tied-alike, held-kept, held-placed, left_over, left_from}

-- where a gate is at an epoch, it knows which numbers are missing
pub knows_missing : (k : Kept) (e : Epoch) (n : ℕ) → IsAt k e
    → (nat_le k.walk.next n && (nat_lt n (unwrap_or k.greatest 0) && not (is_some (held k.cells None n))))
    ≡ is_missing e n
knows_missing k e n h =
    let next : k.walk.next ≡ next_of e = h.tied.stands.next in
    let most : unwrap_or k.greatest 0 ≡ greatest e.taken = ap (λ o. unwrap_or o 0) h.greatest ∙ top-greatest e.taken in
    elim (cases_lt n k.walk.next) [
      | inl below ↦
          let a : nat_le k.walk.next n ≡ false = grind (arith, nat_tests) in
          let b : nat_le (next_of e) n ≡ false = ap (λ (m : ℕ). nat_le m n) (sym next) ∙ a in
          ap (λ (x : Bool). x && (nat_lt n (unwrap_or k.greatest 0) && not (is_some (held k.cells None n)))) a
          ∙ sym (ap (λ (x : Bool). x && (nat_lt n (greatest e.taken) && not (is_some (packet_at e.taken n)))) b)
      | inr above ↦
          (λ i. nat_le (next i) n && (nat_lt n (most i) && not (is_some (h.tied.agrees n above i))))
    ]

given_up-missing : (e : Epoch) (n : ℕ) → is_missing e n ≡ true → given_up e n ≡ resynced (n + 256) e (n + 256)
given_up-missing e n is = ap (λ b. cond b (resynced (n + 256) e (n + 256)) e) is

given_up-other : (e : Epoch) (n : ℕ) → is_missing e n ≡ false → given_up e n ≡ e
given_up-other e n is = ap (λ b. cond b (resynced (n + 256) e (n + 256)) e) is

-- the gate after the cuts
cut_at : (k new : Kept) (e f : Epoch) (r : PreparedCutsOf) → IsAt k e → f.taken ≡ e.taken
    → Tied (held k.cells None) (frames_of e) f r.walk r.answer.frames
    → (k.greatest ≡ None → r.walk.next ≡ k.walk.next) → CommitsCuts k r new → IsAt new f
cut_at k new e f r h same tied stays commits =
    let walked : Tied (held new.cells None) (frames_of f) f r.walk [] =
    tied-alike (held k.cells None) (held new.cells None) (frames_of f) f r.walk []
    (λ m le. held-kept r.walk.next k.cells new.cells m commits.others le)
    (rebased (held k.cells None) (frames_of e) f r.walk r.answer.frames tied) in
    let placed : ArePlaced new.cells = λ i q there.
    h.placed i q (left_over r.walk.next k.cells new.cells i q commits.others there) in
    let low =
    left_from k.walk.next r.walk.next k.cells new.cells commits.others commits.gone h.placed
    (λ i q there. (h.holds i q there).0) in
    let next_is : new.walk.next ≡ r.walk.next = ap (λ (w : Walk). w.next) commits.walk_is in
    record {
      tied = subst (λ (w : Walk). Tied (held new.cells None) (frames_of f) f w []) (sym commits.walk_is) walked;
      greatest = commits.greatest ∙ h.greatest ∙ ap top (sym same);
      empty = λ nothing.
          let none : k.greatest ≡ None = sym commits.greatest ∙ nothing in
          (next_is ∙ stays none ∙ (h.empty none).0, (λ i. emptied i ((h.empty none).1 i)));
      placed = placed;
      holds = λ i q there.
          let from : r.walk.next ≤ q.number = low i q there in
          let to =
          below_size (held new.cells None) (frames_of f) f r.walk q walked from
          (held-placed new.cells i q placed there) in
          (omega arith, omega arith);
    }
  where
    emptied : (i : ℕ) → cell k.cells i ≡ None → cell new.cells i ≡ None
    emptied i was = elim (commits.others i) [
      | inl is ↦ is ∙ was
      | inr is ↦ is ∙ ap (from_on r.walk.next) was
    ]

    below_size : (at : ℕ → Option NumberedPacket) (given : List WholeFrame) (e : Epoch) (w : Walk) (q : NumberedPacket)
        → Tied at given e w [] → w.next ≤ q.number → at q.number ≡ Some q → q.number < w.next + 256
    below_size at given e w q tied from there = elim (cases_lt q.number (w.next + 256)) [
      | inl lt ↦ lt
      | inr far ↦
          absurd (let x : Some q ≡ None = sym there ∙ tied.agrees q.number from ∙ tied.behind q.number far in cc)
    ]

-- a missing number is given up
pub gave_up : (k new : Kept) (e : Epoch) (n : ℕ) (r : PreparedCutsOf) → IsAt k e → is_missing e n ≡ true
    → Tied (held k.cells None) (frames_of e) (resynced (n + 256) e (n + 256)) r.walk r.answer.frames
    → r.answer.pli ≡ true → n < r.walk.next → CommitsCuts k r new
    → AnswersGivingUp e n r.answer × IsAt new (given_up e n)
gave_up k new e n r h is tied pli over commits =
    let f = resynced (n + 256) e (n + 256) in
    let goes : given_up e n ≡ f = given_up-missing e n is in
    let next : r.walk.next ≡ next_of (given_up e n) = tied.stands.next ∙ ap next_of (sym goes) in (
      record {
        frames = ap frames_of goes ∙ sym tied.stands.frames;
        pli = pli ∙ sym is;
        decided = λ yes. omega arith;
      },
      subst (IsAt new) (sym goes)
          (cut_at k new e f r h (resynced-taken (n + 256) e (n + 256)) tied (λ none. absurd (nothing none)) commits),
    )
  where
    nothing : k.greatest ≡ None → ⊥
    nothing none =
        let most : greatest e.taken ≡ 0 =
        sym (ap (λ o. unwrap_or o 0) h.greatest ∙ top-greatest e.taken) ∙ ap (λ o. unwrap_or o 0) none in
        let all : (nat_le (next_of e) n && (nat_lt n (greatest e.taken) && not (is_some (packet_at e.taken n))))
        ≡ true =
        is in
        let low : n < greatest e.taken = grind (arith, nat_tests) in
        omega arith

-- another number changes nothing
pub gave_nothing : (k new : Kept) (e : Epoch) (n : ℕ) (r : PreparedCutsOf) → IsAt k e → is_missing e n ≡ false
    → r.walk ≡ k.walk → r.answer.frames ≡ [] → r.answer.pli ≡ false → CommitsCuts k r new
    → AnswersGivingUp e n r.answer × IsAt new (given_up e n)
gave_nothing k new e n r h is walk frames pli commits =
    let goes : given_up e n ≡ e = given_up-other e n is in
    let tied : Tied (held k.cells None) (frames_of e) e r.walk r.answer.frames =
    subst (λ (w : Walk). Tied (held k.cells None) (frames_of e) e w r.answer.frames) (sym walk)
    (subst (λ (fs : List WholeFrame). Tied (held k.cells None) (frames_of e) e k.walk fs) (sym frames) h.tied) in (
      record {
        frames = ap frames_of goes ∙ sym tied.stands.frames;
        pli = pli ∙ sym is;
        decided = λ yes. absurd (let x : true ≡ false = sym yes ∙ pli in cc);
      },
      subst (IsAt new) (sym goes) (cut_at k new e e r h refl tied (λ none. ap (λ (w : Walk). w.next) walk) commits),
    )

-- no cuts change nothing
pub no_cuts : (k new : Kept) (e : Epoch) (r : PreparedCutsOf) → IsAt k e → r.walk ≡ k.walk → r.answer.frames ≡ []
    → CommitsCuts k r new → IsAt new e
no_cuts k new e r h walk frames commits =
    let tied : Tied (held k.cells None) (frames_of e) e r.walk r.answer.frames =
    subst (λ (w : Walk). Tied (held k.cells None) (frames_of e) e w r.answer.frames) (sym walk)
    (subst (λ (fs : List WholeFrame). Tied (held k.cells None) (frames_of e) e k.walk fs) (sym frames) h.tied) in
    cut_at k new e e r h refl tied (λ none. ap (λ (w : Walk). w.next) walk) commits
