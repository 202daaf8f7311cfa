use Rattle.std.proofs.Common.{◌≡◌, ◌<◌, ◌+◌, ◌%◌, sym, ap, ◌∙◌, arith, inl, inr}
use Rattle.std.proofs.lemmas.Bool.{cases_lt}
use Rattle.frame_gate.specs.inner.Cells.{cell, from_on}
use Rattle.frame_gate.proofs.Forgetting.{or_from_on, gone_or}
use Rattle.frame_gate.proofs.Newcomers.{eq_cases}
use Rattle.frame_gate.proofs.cells.forget_between.Goals as goal

pub loop-k-preserved : goal.loop-k-preserved
loop-k-preserved g c =
    let to = c.args.to in
    let first = c.args.cells.now in
    let old = c.loop-k.cells in
    let new = c.forget.new.cells in
    let k = c.loop-k.k in
    let here = (c.args.from + k) % 256 in
    record {
      len = c.forget.ensures.len;
      others = λ i. elim (eq_cases i here) [
        | inl same ↦
            or_from_on to (cell first i) (cell old i) (cell new i) (c.loop-k.invariant.others i)
            (inr (ap (cell new) same ∙ c.forget.ensures.here ∙ ap (λ j. from_on to (cell old j)) (sym same)))
        | inr other ↦
            or_from_on to (cell first i) (cell old i) (cell new i) (c.loop-k.invariant.others i)
            (inl (c.forget.ensures.others i other))
      ];
      gone = λ j lt.
          let i = (c.args.from + j) % 256 in
          elim (eq_cases i here) [
            | inl same ↦
                gone_or to (cell first i) (cell old i) (cell new i) (c.loop-k.invariant.others i)
                (ap (cell new) same ∙ c.forget.ensures.here ∙ ap (λ m. from_on to (cell old m)) (sym same))
            | inr other ↦
                let before : j < k = elim (cases_lt j k) [
                  | inl below ↦ below
                  | inr above ↦ absurd (let e : j ≡ k = omega arith in other (ap (λ m. (c.args.from + m) % 256) e))
                ] in
                c.forget.ensures.others i other ∙ c.loop-k.invariant.gone j before
          ];
    }
