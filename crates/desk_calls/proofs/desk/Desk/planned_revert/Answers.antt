use Rattle.std.proofs.Common.{◌≡◌, false, nat_eq, sym, ap, ◌∙◌, arith}
use Rattle.std.proofs.lemmas.Bool.Decides.{nat_tests}
use Rattle.std.proofs.lemmas.Result.{on_ok_weaker, IfErr-weaker}
use Rattle.std.specs.Prelude.{◌<◌, ◌≢◌, Some, length, reverse}
use Rattle.desk_edit.specs.Asked.CallOf.{Revert}
use Rattle.desk_edit.specs.declared.refusal.Refusal.TheVariants.{OutOfMemory}
use Rattle.desk_edit.specs.Calls.{call_limit}
use Rattle.desk_edit.specs.InForce.{stay}
use Rattle.desk_edit.specs.Reverts.{early_revert_refused}
use Rattle.desk_calls.specs.Desk.{IsReason}
use Rattle.desk_calls.specs.inner.Touching.{late_refused}
use Rattle.desk_calls.proofs.Reverted.{judged_early, judged_full, judged_late, judged_free, behind_early}
use Rattle.desk_calls.proofs.desk.Desk.planned_revert.Goals as goal

pub returns-in-Err-clause-why : goal.returns-in-Err-clause-why
returns-in-Err-clause-why g c =
    let n = c.args.number in
    judged_early c.args.self.now n c.in-Err.why
    (ap (λ es. early_revert_refused es n) (sym c.calls.ensures.calls) ∙ c.in-Err.ensures.why)

pub returns-then-log_is_full-clause-why : goal.returns-then-log_is_full-clause-why
returns-then-log_is_full-clause-why g c =
    let n = c.args.number in
    judged_full c.args.self.now n
    (ap (λ es. early_revert_refused es n) (sym c.calls.ensures.calls) ∙ c.in-Ok.ensures.free)
    (ap (λ v. nat_eq v call_limit) (sym c.version.ensures.version)
    ∙ sym c.log_is_full.ensures
    ∙ c.if-log_is_full.true)

pub edits_without-requires : goal.edits_without-requires
edits_without-requires g c =
    c.in-Ok.ensures.base ∙ ap (λ es. length (stay c.args.number (reverse es))) c.calls.ensures.calls

pub returns-clause-free : goal.returns-clause-free
returns-clause-free g c =
    let n = c.args.number in
    let early =
    ap (λ es. early_revert_refused es n) (sym c.calls.ensures.calls) ∙ c.in-Ok.ensures.free in
    let room =
    ap (λ v. nat_eq v call_limit) (sym c.version.ensures.version)
    ∙ sym c.log_is_full.ensures
    ∙ c.if-log_is_full.false in
    on_ok_weaker c.edits_without.result (λ late. judged_free c.args.self.now n early room late)
    c.edits_without.ensures.free

pub returns-clause-early : goal.returns-clause-early
returns-clause-early g c =
    let n = c.args.number in
    let early =
    ap (λ es. early_revert_refused es n) (sym c.calls.ensures.calls) ∙ c.in-Ok.ensures.free in
    let room =
    ap (λ v. nat_eq v call_limit) (sym c.version.ensures.version)
    ∙ sym c.log_is_full.ensures
    ∙ c.if-log_is_full.false in
    on_ok_weaker c.edits_without.result (λ late. behind_early c.args.self.now n false early room)
    c.edits_without.ensures.free

pub returns-clause-limit : goal.returns-clause-limit
returns-clause-limit g c =
    let room : nat_eq c.args.self.now.version call_limit ≡ false =
    ap (λ v. nat_eq v call_limit) (sym c.version.ensures.version)
    ∙ sym c.log_is_full.ensures
    ∙ c.if-log_is_full.false in
    let few : c.args.self.now.version < call_limit =
    grind (arith, nat_tests, c.version.ensures.version, c.version.ensures.limit, room) in
    on_ok_weaker c.edits_without.result (λ late. few) c.edits_without.ensures.free

pub returns-clause-why : goal.returns-clause-why
returns-clause-why g c =
    let n = c.args.number in
    let d = c.args.self.now in
    let early =
    ap (λ es. early_revert_refused es n) (sym c.calls.ensures.calls) ∙ c.in-Ok.ensures.free in
    let room =
    ap (λ v. nat_eq v call_limit) (sym c.version.ensures.version)
    ∙ sym c.log_is_full.ensures
    ∙ c.if-log_is_full.false in
    IfErr-weaker c.edits_without.result (λ why. why ≢ OutOfMemory → late_refused d n ≡ Some why)
    (λ why. IsReason d (Revert n) why) (λ why late. judged_late d n why early room late) c.edits_without.ensures.why
