use Rattle.std.proofs.Common.{◌≡◌, length, sym, ap, subst, ◌∙◌, refl, Some, inl}
use Rattle.desk_edit.specs.Asked.{asked_by}
use Rattle.desk_edit.specs.declared.refusal.Refusal.TheVariants.{OutOfMemory}
use Rattle.operator_desk.specs.declared.answer.Answer.{Answer}
use Rattle.operator_desk.specs.declared.answer.Answer.TheVariants.{Refused}
use Rattle.operator_desk.specs.declared.answer.Why.TheVariants.{Told, LogTaken}
use Rattle.operator_desk.specs.LegalLogs.{after_log}
use Rattle.operator_desk.specs.Seats.{SeatOf}
use Rattle.operator_desk.specs.Answers.{IsAnswered, IsEnded}
use Rattle.operator_desk.specs.inner.DeskInner.{InnerOf}
use Rattle.operator_desk.specs.inner.Tokens.{shown}
use Rattle.operator_desk.proofs.LogLemmas.{accepted-log}
use Rattle.operator_desk.proofs.AnswerLemmas.{refused, wants_memory, taken, anyway}
use Rattle.operator_desk.proofs.desk_inner.DeskInner.answer.Goals as goal

pub returns-in-Some : goal.returns-in-Some
returns-in-Some g c =
    let held = c.self.invariant.3 in
    let log = shown c.self.inside.entries.items in
    let is_log : log ≡ c.args.self.now.log = ap (λ (h : InnerOf). h.log) c.self.view_is in
    let is = c.seat.view_is in
    let seat = c.seat.inside in
    let call = asked_by c.args.call in
    let at = c.version-at.result in
    let number : at ≡ length log =
    c.version-at.ensures.version ∙ (held.called.version ∙ accepted-log g.H.DeskBrand.start log) in
    let new : SeatOf = record {
      op = seat.op;
      seen = shown seat.seen.items;
      count = seat.mine.amount;
      beyond = Some c.in-Some.token.value;
    } in
    let told = refused g.H.DeskBrand.start c.args.seat.now new log call at LogTaken (c.requires.seen ∙ sym is_log)
    (ap (λ (s : SeatOf). s.op) is) (ap (λ (s : SeatOf). s.seen) is) (ap (λ (s : SeatOf). s.count) is)
    number held.legal refl in
    let P : Answer → Type 0 =
    IsAnswered g.H.DeskBrand.start g.H.DeskBrand.publisher c.args.seat.now new call c.args.stamp in
    let r = c.taken_answer.result in
    record {
      answer = taken c.self.inside.ended r (Refused at LogTaken) P c.taken_answer.ensures told;
      ended = anyway r (IsEnded g.H.DeskBrand.start c.args.seat.now new call) (at, told);
    }

pub returns-in-Err-clause-answer : goal.returns-in-Err-clause-answer
returns-in-Err-clause-answer g c =
    let held = c.self.invariant.3 in
    let log = shown c.self.inside.entries.items in
    let is_log : log ≡ c.args.self.now.log = ap (λ (h : InnerOf). h.log) c.self.view_is in
    let seat = c.args.seat.now in
    let number : c.version-at.result ≡ length log =
    c.version-at.ensures.version ∙ (held.called.version ∙ accepted-log g.H.DeskBrand.start log) in
    let told = c.in-Err.ensures.told (after_log g.H.DeskBrand.start log) held.called in
    subst (IsAnswered g.H.DeskBrand.start g.H.DeskBrand.publisher seat seat (asked_by c.args.call) c.args.stamp)
    (sym c.refused.ensures)
    (refused g.H.DeskBrand.start seat seat log (asked_by c.args.call) c.version-at.result (Told c.in-Err.why)
    (c.requires.seen ∙ sym is_log) refl refl refl number held.legal (inl told))

pub returns-in-Err-edit_of-clause-answer : goal.returns-in-Err-edit_of-clause-answer
returns-in-Err-edit_of-clause-answer g c =
    let held = c.self.invariant.3 in
    let log = shown c.self.inside.entries.items in
    let is_log : log ≡ c.args.self.now.log = ap (λ (h : InnerOf). h.log) c.self.view_is in
    let seat = c.args.seat.now in
    let number : c.version-at.result ≡ length log =
    c.version-at.ensures.version ∙ (held.called.version ∙ accepted-log g.H.DeskBrand.start log) in
    let free = c.in-Ok.ensures.free (after_log g.H.DeskBrand.start log) held.called in
    subst (IsAnswered g.H.DeskBrand.start g.H.DeskBrand.publisher seat seat (asked_by c.args.call) c.args.stamp)
    (sym c.refused-in-Err-edit_of.ensures)
    (refused g.H.DeskBrand.start seat seat log (asked_by c.args.call) c.version-at.result (Told OutOfMemory)
    (c.requires.seen ∙ sym is_log) refl refl refl number held.legal
    (wants_memory g.H.DeskBrand.start log seat.beyond (asked_by c.args.call) free))
