use Rattle.std.proofs.Common.{◌≡◌, ◌⊎◌, ℕ, ◌^◌, ◌+◌, ◌-◌, ◌<◌, ◌≤◌, List, length, take, drop, arith, refl, inl, inr}
use Rattle.std.proofs.Common.{subst, length-take, length-drop}
use Rattle.script_text.proofs.Known.{Appends-more, Appends-then_keeps, cut_at}
use Rattle.std.proofs.lemmas.Bool.{cases_lt}
use Rattle.script_text.proofs.sending.send.Goals as goal
use Rattle.script_text.proofs.sending.send.Goals.{in-Octets, in-Interrupted}

-- the octets behind a place
abbrev behind : ℕ → List ℕ → List ℕ
behind at octets = take (length octets - at) (drop at octets)

calls_more : (O N : Type 0) (at n : ℕ) (octets : List ℕ) → at < length octets → n ≤ length (behind at octets)
    → (at ≡ length octets) ⊎ O → (O → n < length (behind at octets) → N) → (at + n ≡ length octets) ⊎ N
calls_more O N at n octets lt le (inl e) f = absurd (omega arith)
calls_more O N at n octets lt le (inr o) f =
    elim (cases_lt n (length (behind at octets))) [
      | inl less ↦ inr (f o less)
      | inr all ↦ inl (omega (arith, length-take (length octets - at) (drop at octets), length-drop at octets))
    ]

calls_waiting : (O N : Type 0) (at len : ℕ) → at < len → (at ≡ len) ⊎ O → (O → N) → N
calls_waiting O N at len lt (inl e) f = absurd (omega arith)
calls_waiting O N at len lt (inr o) f = f o

split_more : (S : Type 0) (at n : ℕ) (octets : List ℕ) → at < length octets → (n ≡ length (behind at octets)) ⊎ S
    → S ⊎ (at + n ≡ 0) ⊎ (at + n ≡ length octets)
split_more S at n octets lt (inr s) = inl s
split_more S at n octets lt (inl whole) =
    inr (inr (omega (arith, length-take (length octets - at) (drop at octets), length-drop at octets)))

pub returns-else-at-octets-2-clause-write : goal.returns-else-at-octets-2-clause-write
returns-else-at-octets-2-clause-write g c = λ e.
    let all : c.loop.counter ≡ 2 ^ 32 = omega arith in
    inr (inr (
      c.args.writer.now,
      subst (λ (n : ℕ). g.T.TextSink.goes_on n c.args.writer.now c.loop.writer) all
          (calls_waiting _ _ c.loop.at (length c.args.octets.now) c.if-at-octets-2.false c.loop.invariant.calls
          (λ o. o)),
    ))

pub returns-else-at-octets-2-clause-sends : goal.returns-else-at-octets-2-clause-sends
returns-else-at-octets-2-clause-sends g c =
    (take c.loop.at c.args.octets.now, c.loop.invariant.sent, cut_at c.args.octets.now c.loop.at c.if-at-octets-2.false)

pub returns-else-at-eq0-clause-sends : goal.returns-else-at-eq0-clause-sends
returns-else-at-eq0-clause-sends g c = (
  take c.loop.at c.args.octets.now,
  Appends-then_keeps _ _ _ _ c.loop.invariant.sent c.in-OutOfMemory.ensures.portion,
  cut_at c.args.octets.now c.loop.at c.if-at-octets.false,
)

pub returns-in-Failed-clause-sends : goal.returns-in-Failed-clause-sends
returns-in-Failed-clause-sends g c = (
  take c.loop.at c.args.octets.now,
  Appends-then_keeps _ _ _ _ c.loop.invariant.sent c.in-Failed.ensures.portion,
  cut_at c.args.octets.now c.loop.at c.if-at-octets.false,
)

pub loop-preserved : goal.loop-preserved
loop-preserved g c =
    elim c.match-write_some.branch [
      | in-Octets w ↦
          record {
            small =
                rw w.at-is (omega (
                  arith,
                  w.in-Octets.ensures.portion.0,
                  length-take (length c.args.octets.now - c.loop.at) (drop c.loop.at c.args.octets.now),
                ));
            sent =
                rw w.at-is (Appends-more _ _ _ c.args.octets.now c.loop.at w.in-Octets.n c.loop.invariant.sent
                w.in-Octets.ensures.portion.1);
            calls =
                rw w.at-is (calls_more _ _ c.loop.at w.in-Octets.n c.args.octets.now c.if-at-octets.false
                w.in-Octets.ensures.portion.0 c.loop.invariant.calls
                (λ o less. w.in-Octets.ensures.counted c.loop.counter c.args.writer.now o less));
            split =
                rw w.at-is (split_more _ c.loop.at w.in-Octets.n c.args.octets.now c.if-at-octets.false
                (w.in-Octets.ensures.whole w.in-Octets.n refl));
          }
      | in-Interrupted w ↦
          record {
            small = rw w.at-is c.loop.invariant.small;
            sent = rw w.at-is (Appends-then_keeps _ _ _ _ c.loop.invariant.sent w.in-Interrupted.ensures.portion);
            calls =
                rw w.at-is (inr (calls_waiting _ _ c.loop.at (length c.args.octets.now) c.if-at-octets.false
                c.loop.invariant.calls (λ o. w.in-Interrupted.ensures.counted c.loop.counter c.args.writer.now o tt)));
            split = rw w.at-is c.loop.invariant.split;
          }
    ]
