use Rattle.std.proofs.Common.{◌≡◌, reverse, drop, length, sym, ap, ◌∙◌, arith}
use Rattle.std.specs.Prelude.{◌≢◌, Some}
use Rattle.std.proofs.lemmas.Result.{on_ok_weaker, IfErr-weaker}
use Rattle.desk_edit.specs.InForce.{in_force, numbers_rise}
use Rattle.desk_edit.specs.Reverts.{is_made}
use Rattle.desk_edit.specs.declared.refusal.Refusal.TheVariants.{OutOfMemory}
use Rattle.desk_calls.specs.Edits.{fits, after}
use Rattle.desk_calls.specs.inner.Touching.{away_of, late_refused, is_newest}
use Rattle.desk_calls.proofs.RevertLemmas.{behind_kept, kept_few}
use Rattle.desk_calls.proofs.Reverted.{late_missing, late_conflict, late_last}
use Rattle.desk_calls.proofs.Newest.{newest_fits, newest_leads, newest_free}
use Rattle.desk_calls.proofs.desk.Desk.edits_without.Goals as goal

pub returns-in-Ok-clause-fits : goal.returns-in-Ok-clause-fits
returns-in-Ok-clause-fits g c =
    let d = c.args.self.now in
    let n = c.args.number in
    let calls = c.calls-calls.ensures in
    let is = ap (λ es. is_newest n (reverse es)) (sym calls.calls) ∙ sym c.is_newest.ensures ∙ c.if-is_newest.true in
    let back = c.in-Ok.ensures.ok in
    ap (fits d.desk) back.3
    ∙ newest_fits d n back.1 back.0 calls.called (ap numbers_rise (sym calls.calls) ∙ calls.rise) is
    (sym c.history.ensures.done ∙ back.2)

pub returns-in-Ok-clause-does : goal.returns-in-Ok-clause-does
returns-in-Ok-clause-does g c =
    let d = c.args.self.now in
    let n = c.args.number in
    let calls = c.calls-calls.ensures in
    let is = ap (λ es. is_newest n (reverse es)) (sym calls.calls) ∙ sym c.is_newest.ensures ∙ c.if-is_newest.true in
    let back = c.in-Ok.ensures.ok in
    ap (after d.desk) back.3
    ∙ newest_leads d n back.1 back.0 calls.called (ap numbers_rise (sym calls.calls) ∙ calls.rise) is
    (sym c.history.ensures.done ∙ back.2)

pub returns-in-Ok-clause-free : goal.returns-in-Ok-clause-free
returns-in-Ok-clause-free g c =
    let n = c.args.number in
    let calls = c.calls-calls.ensures in
    let is = ap (λ es. is_newest n (reverse es)) (sym calls.calls) ∙ sym c.is_newest.ensures ∙ c.if-is_newest.true in
    let back = c.in-Ok.ensures.ok in
    newest_free c.args.self.now n back.1 back.0 calls.called (ap numbers_rise (sym calls.calls) ∙ calls.rise) is
    (sym c.history.ensures.done ∙ back.2)

pub returns-then-not-is_there-clause-why : goal.returns-then-not-is_there-clause-why
returns-then-not-is_there-clause-why g c =
    let h = c.args.self.now.history in
    let n = c.args.number in
    λ other.
    late_missing h.start c.args.self.now.desk h.done n
    (ap (λ es. is_made n (in_force es)) (sym c.calls-calls.ensures.calls)
    ∙ sym c.in-Ok-is_in_force.ensures
    ∙ c.if-not-is_there.true)

pub split_at-requires : goal.split_at-requires
split_at-requires g c =
    let h = c.args.self.now.history in
    omega (arith, c.requires, ap length c.calls-calls.ensures.calls, kept_few c.args.number h.done)

pub rows_as_if-requires-clause-past : goal.rows_as_if-requires-clause-past
rows_as_if-requires-clause-past g c =
    let h = c.args.self.now.history in
    ap reverse c.split_at.ensures.back
    ∙ (λ i. reverse (drop (c.requires i) (c.calls-calls.ensures.calls i)))
    ∙ behind_kept c.args.number h.done

pub edits_to-requires-clause-past : goal.edits_to-requires-clause-past
edits_to-requires-clause-past g c =
    let h = c.args.self.now.history in
    ap reverse c.split_at.ensures.back
    ∙ (λ i. reverse (drop (c.requires i) (c.calls-calls.ensures.calls i)))
    ∙ behind_kept c.args.number h.done

pub returns-in-Ok-rows_as_if-clause-free : goal.returns-in-Ok-rows_as_if-clause-free
returns-in-Ok-rows_as_if-clause-free g c =
    let d = c.args.self.now in
    let n = c.args.number in
    let there =
    ap (λ es. is_made n (in_force es)) (sym c.calls-calls.ensures.calls)
    ∙ sym c.in-Ok-is_in_force.ensures
    ∙ c.if-not-is_there.false in
    on_ok_weaker c.edits_to.result
    (λ away. late_last d.history.start d.desk d.history.done n there c.in-Ok-rows_as_if.ensures.free ∙ away)
    c.edits_to.ensures.free

pub returns-in-Ok-rows_as_if-clause-why : goal.returns-in-Ok-rows_as_if-clause-why
returns-in-Ok-rows_as_if-clause-why g c =
    let d = c.args.self.now in
    let n = c.args.number in
    let there =
    ap (λ es. is_made n (in_force es)) (sym c.calls-calls.ensures.calls)
    ∙ sym c.in-Ok-is_in_force.ensures
    ∙ c.if-not-is_there.false in
    IfErr-weaker c.edits_to.result (λ why. why ≢ OutOfMemory → away_of d n ≡ Some why)
    (λ why. why ≢ OutOfMemory → late_refused d n ≡ Some why)
    (λ why away other.
    late_last d.history.start d.desk d.history.done n there c.in-Ok-rows_as_if.ensures.free ∙ away other)
    c.edits_to.ensures.first

pub returns-in-Err-rows_as_if-clause-why : goal.returns-in-Err-rows_as_if-clause-why
returns-in-Err-rows_as_if-clause-why g c =
    let d = c.args.self.now in
    let n = c.args.number in
    let there =
    ap (λ es. is_made n (in_force es)) (sym c.calls-calls.ensures.calls)
    ∙ sym c.in-Ok-is_in_force.ensures
    ∙ c.if-not-is_there.false in
    λ other.
    late_conflict d.history.start d.desk d.history.done n c.in-Err-rows_as_if.why there
    (c.in-Err-rows_as_if.ensures.first other)
