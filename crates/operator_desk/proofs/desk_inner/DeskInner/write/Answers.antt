use Rattle.std.proofs.Common.{◌≡◌, true, false, ◌<◌, ◌+◌, ◌++◌, ◌∷◌, [], length, vec_len, vec_capacity, rules, sym, ap}
use Rattle.std.proofs.Common.{subst, ◌∙◌, arith, refl, None, Some, length-append}
use Rattle.std.specs.Prelude.{slice_get}
use Rattle.call_history.specs.Lists.{ListsOf, with_call}
use Rattle.desk_edit.specs.Asked.{CallOf, asked_by}
use Rattle.desk_edit.specs.declared.refusal.Refusal.TheVariants.{OutOfMemory}
use Rattle.desk_edit.specs.Calls.{call_limit, refusal_of, after_call}
use Rattle.desk_calls.specs.Desk.{Does}
use Rattle.desk_calls.specs.Edits.{fits}
use Rattle.desk_calls.specs.Following.{HasCalled}
use Rattle.published_desk.specs.Published.{NoticeOf, after_lists}
use Rattle.operator_desk.specs.declared.answer.Why.TheVariants.{Told, LogTaken}
use Rattle.operator_desk.specs.Entry.{EntryOf}
use Rattle.operator_desk.specs.LegalLogs.{after_log, IsLegal}
use Rattle.operator_desk.specs.OwnCalls.{numbers}
use Rattle.operator_desk.specs.PastCalls.{lists_in}
use Rattle.operator_desk.specs.Published.{AreDesks}
use Rattle.operator_desk.specs.Seats.{SeatOf}
use Rattle.operator_desk.specs.declared.answer.Answer.{Answer}
use Rattle.operator_desk.specs.declared.answer.Answer.TheVariants.{Refused}
use Rattle.operator_desk.specs.Answers.{IsAnswered, Tells}
use Rattle.operator_desk.specs.inner.DeskInner.{InnerOf, IsInner, Leads}
use Rattle.operator_desk.specs.inner.Tokens.{shown, shown_next}
use Rattle.operator_desk.proofs.LogLemmas.{accepted-log, desks-all, held-push, own_numbers}
use Rattle.operator_desk.proofs.TokenLemmas.{tokens-push, none_shown, length-shown, shown-push, is_there}
use Rattle.operator_desk.proofs.AnswerLemmas.{refused, accepted, taken, answered, wants_memory}
use Rattle.operator_desk.proofs.PastLemmas.{made, lists-push}
use Rattle.operator_desk.proofs.desk_inner.DeskInner.write.Given
use Rattle.operator_desk.proofs.desk_inner.DeskInner.write.Goals as goal

-- the publisher's desk is the one that the edits fit
pub stage-requires-clause-fit : goal.stage-requires-clause-fit
stage-requires-clause-fit g c =
    let held = c.self.invariant.3 in
    let edition = c.self.inside.publisher in
    let start = g.H.DeskBrand.start in
    let fit = subst (λ (h : InnerOf). fits h.desk.desk c.args.edits ≡ true) (sym c.self.view_is) c.requires.fit in
    let now = desks-all start (shown c.self.inside.entries.items) edition.lists held.desks ∙ sym held.called.desk in
    ap (λ d. fits (after_lists d edition.lists) c.args.edits) held.first ∙ (ap (λ d. fits d c.args.edits) now ∙ fit)

pub write-requires : goal.write-requires
write-requires g c =
    let i = c.self.invariant in
    let held = i.3 in
    let entries = c.self.inside.entries.items in
    let version : c.args.self.now.desk.version < call_limit = c.requires.ready.1 in
    let desk : c.self.inside.desk.version ≡ c.args.self.now.desk.version =
    ap (λ (h : InnerOf). h.desk.version) c.self.view_is in
    let many : c.self.inside.desk.version ≡ length (shown entries) =
    held.called.version ∙ accepted-log g.H.DeskBrand.start (shown entries) in
    let at : c.len-end.result ≡ length entries = search rules in
    let long : length c.self.inside.log.now ≡ call_limit = ap length i.0 ∙ i.1 in
    omega (arith, version, desk, many, at, long, length-shown entries)

pub push_reserved-requires : goal.push_reserved-requires
push_reserved-requires g c =
    let tokens = c.self.invariant.2 in
    let there =
    is_there g.H.DeskBrand.cells c.len-end.result c.in-Ok.token.of
    (subst (λ cs. slice_get cs c.len-end.result ≡ Some c.in-Ok.token.of) c.self.invariant.0 c.in-Ok.ensures.ok.0) in
    let at = c.len-end.ensures in
    omega (arith, there, at, tokens.few)

pub push_reserved-requires-in-Ok : goal.push_reserved-requires-in-Ok
push_reserved-requires-in-Ok g c =
    let tokens = c.seat.invariant.0 in
    let there =
    is_there g.H.DeskBrand.cells c.len-end.result c.in-Ok.token.of
    (subst (λ cs. slice_get cs c.len-end.result ≡ Some c.in-Ok.token.of) c.self.invariant.0 c.in-Ok.ensures.ok.0) in
    let same : shown c.seat.inside.seen.items ≡ shown c.self.inside.entries.items =
    ap (λ (s : SeatOf). s.seen) c.seat.view_is ∙ (c.requires.seen ∙ sym (ap (λ (h : InnerOf). h.log) c.self.view_is)) in
    let long : length c.seat.inside.seen.items ≡ length c.self.inside.entries.items =
    sym (length-shown c.seat.inside.seen.items) ∙ (ap length same ∙ length-shown c.self.inside.entries.items) in
    let seat_len : vec_len c.seat.inside.seen ≡ length c.seat.inside.seen.items = search rules in
    let len : c.len-end.result ≡ length c.self.inside.entries.items = search rules in
    omega (arith, there, len, long, seat_len, tokens.few)

-- the entry of the call
abbrev entry_of : (g : Given.Over) → goal.After-add g → EntryOf
entry_of g c = record { op = c.seat.inside.op; call = asked_by c.args.call; stamp = c.args.stamp }

value : (g : Given.Over) (c : goal.After-add g) → c.in-Ok.token.value ≡ entry_of g c
value g c = c.in-Ok.ensures.ok.1 ∙ c.new.ensures

cell : (g : Given.Over) (c : goal.After-add g)
    → slice_get g.H.DeskBrand.cells (length c.self.inside.entries.items) ≡ Some c.in-Ok.token.of
cell g c =
    let len : c.len-end.result ≡ length c.self.inside.entries.items = search rules in
    subst (λ n. slice_get g.H.DeskBrand.cells n ≡ Some c.in-Ok.token.of) len
    (subst (λ cs. slice_get cs c.len-end.result ≡ Some c.in-Ok.token.of) c.self.invariant.0 c.in-Ok.ensures.ok.0)

-- the desk's log after the call
longer : (g : Given.Over) (c : goal.After-add g)
    → shown c.push_reserved.new.self.items ≡ shown c.self.inside.entries.items ++ entry_of g c ∷ []
longer g c =
    shown-push c.self.inside.entries.items c.push_reserved.new.self.items c.again-in-Ok.result (entry_of g c)
    c.push_reserved.ensures.items (c.again-in-Ok.ensures.1 ∙ value g c)

-- the seat has seen what the desk has
same : (g : Given.Over) (c : goal.After-add g)
    → shown c.seat.inside.seen.items ≡ shown c.self.inside.entries.items
same g c =
    ap (λ (s : SeatOf). s.seen) c.seat.view_is ∙ (c.requires.seen ∙ sym (ap (λ (h : InnerOf). h.log) c.self.view_is))

-- what the seat has seen after the call
seen : (g : Given.Over) (c : goal.After-add g)
    → shown c.push_reserved-in-Ok.new.self.items ≡ shown c.seat.inside.seen.items ++ entry_of g c ∷ []
seen g c =
    shown-push c.seat.inside.seen.items c.push_reserved-in-Ok.new.self.items c.in-Ok.token (entry_of g c)
    c.push_reserved-in-Ok.ensures.items (value g c)

-- what was committed is the call
asked : (g : Given.Over) (c : goal.After-add g) → asked_by c.call.result.now ≡ asked_by c.args.call
asked g c = c.call.ensures ∙ ap (λ (e : EntryOf). e.call) (c.read-entry.ensures ∙ value g c)

abbrev before : (g : Given.Over) → goal.After-add g → InnerOf
before g c =
    record {
      log = shown c.self.inside.entries.items;
      desk = c.self.inside.desk;
      edition = c.self.inside.publisher;
      beyond = shown_next c.self.inside.next;
      total = c.self.inside.calls.total;
    }

abbrev after_all : (g : Given.Over) → goal.After-add g → InnerOf
after_all g c =
    record {
      log = shown c.push_reserved.new.self.items;
      desk = c.commit-no.new.self;
      edition = c.publish.new.self;
      beyond = shown_next c.self.inside.next;
      total = c.add.new.self.total;
    }

held : (g : Given.Over) (c : goal.After-add g)
    → IsInner g.H.DeskBrand.start g.H.DeskBrand.publisher (after_all g c)
held g c =
    let start = g.H.DeskBrand.start in
    let call = asked_by c.args.call in
    let is = c.self.view_is in
    let old = c.self.invariant.3 in
    let log = shown c.self.inside.entries.items in
    let free = subst (λ (h : InnerOf). refusal_of (after_log start h.log) call ≡ None) (sym is) c.requires.free in
    let called =
    subst (λ (k : CallOf). HasCalled c.commit-no.new.self (after_call (after_log start log) k)) (asked g c)
    (c.commit-no.ensures.history (after_log start log) old.called) in
    let does =
    subst (λ (k : CallOf). Does c.self.inside.desk c.commit-no.new.self k) (asked g c) c.commit-no.ensures.does in
    let leads =
    subst (λ (h : InnerOf). Leads h.desk call c.args.edits) (sym is) c.requires.leads c.commit-no.new.self does in
    held-push start g.H.DeskBrand.publisher (before g c) (after_all g c) c.stage.new.self (entry_of g c) c.args.edits
    old free called leads c.stage.ensures.staged c.in-Some.ensures.published c.publish.ensures.same
    c.publish.ensures.none (longer g c) c.add.ensures.total

legal : (g : Given.Over) (c : goal.After-add g)
    → IsLegal g.H.DeskBrand.start (shown c.push_reserved-in-Ok.new.self.items)
legal g c =
    subst (IsLegal g.H.DeskBrand.start) (longer g c ∙ sym (seen g c ∙ ap (λ l. l ++ entry_of g c ∷ []) (same g c)))
    (held g c).legal

-- the call stands in the lists of the longer log
noted : (g : Given.Over) (c : goal.After-add g)
    → c.note.new.self.lists ≡ lists_in (shown c.push_reserved.new.self.items)
noted g c =
    let start = g.H.DeskBrand.start in
    let log = shown c.self.inside.entries.items in
    let entry = entry_of g c in
    let is : c.read-entry.result.now ≡ entry = c.read-entry.ensures ∙ value g c in
    let number : c.commit-no.result ≡ length log + 1 =
    c.commit-no.ensures.version.0 ∙ ap (λ n. n + 1) (c.self.invariant.3.called.version ∙ accepted-log start log) in
    let told : c.accepted.result ≡ made (length log + 1) entry =
    c.accepted.ensures
    ∙ (ap (λ (e : EntryOf). made c.commit-no.result e) is ∙ ap (λ n. made n entry) number) in
    let call : asked_by c.call-in-Ok.result.now ≡ entry.call =
    c.call-in-Ok.ensures ∙ ap (λ (e : EntryOf). e.call) is in
    let same : c.reserve.new.self.lists ≡ lists_in log = c.reserve.ensures.same ∙ c.self.invariant.6 in
    c.note.ensures.lists
    ∙ (ap (λ (k : CallOf). with_call c.reserve.new.self.lists k c.accepted.result) call
    ∙ (ap (λ (l : ListsOf). with_call l entry.call c.accepted.result) same
    ∙ (lists-push log entry c.accepted.result told ∙ ap lists_in (sym (longer g c)))))

pub invariant_of-self-in-Ok : goal.invariant_of-self-in-Ok
invariant_of-self-in-Ok g c =
    let i = c.self.invariant in
    let none : c.self.inside.next ≡ None =
    none_shown c.self.inside.next (ap (λ (h : InnerOf). h.beyond) c.self.view_is ∙ c.requires.beyond) in
    let tokens =
    tokens-push g.H.DeskBrand.cells c.self.inside.entries.items c.push_reserved.new.self.items c.again-in-Ok.result
    (vec_capacity c.self.inside.entries) (vec_capacity c.push_reserved.new.self) c.self.inside.next c.self.inside.next
    i.2 (cell g c ∙ ap Some (sym c.again-in-Ok.ensures.0)) c.push_reserved.ensures.items
    c.push_reserved.ensures.capacity none in
    (i.0, i.1, tokens, held g c, i.4, i.5, noted g c)

pub invariant_of-seat-in-Ok : goal.invariant_of-seat-in-Ok
invariant_of-seat-in-Ok g c =
    let seat = c.seat.inside in
    let old = shown seat.seen.items in
    let long : length c.self.inside.entries.items ≡ length seat.seen.items =
    sym (length-shown c.self.inside.entries.items) ∙ (ap length (sym (same g c)) ∙ length-shown seat.seen.items) in
    let tokens =
    tokens-push g.H.DeskBrand.cells seat.seen.items c.push_reserved-in-Ok.new.self.items c.in-Ok.token
    (vec_capacity seat.seen) (vec_capacity c.push_reserved-in-Ok.new.self) seat.next None c.seat.invariant.0
    (subst (λ n. slice_get g.H.DeskBrand.cells n ≡ Some c.in-Ok.token.of) long (cell g c))
    c.push_reserved-in-Ok.ensures.items c.push_reserved-in-Ok.ensures.capacity refl in
    let own = ap (numbers seat.op) (seen g c) ∙ own_numbers seat.op old (entry_of g c) refl in
    let count =
    ap length own
    ∙ (length-append (numbers seat.op old) ((length old + 1) ∷ [])
    ∙ (ap (λ n. n + 1) c.seat.invariant.2 ∙ sym c.add.ensures.amount)) in
    (tokens, legal g c, count, c.add.ensures.parts ∙ c.seat.invariant.3)

pub returns-in-Some-clause-answer : goal.returns-in-Some-clause-answer
returns-in-Some-clause-answer g c =
    let start = g.H.DeskBrand.start in
    let seat = c.seat.inside in
    let was = c.args.seat.now in
    let view = c.seat.view_is in
    let call = asked_by c.args.call in
    let log = shown c.self.inside.entries.items in
    let pushed = shown c.push_reserved-in-Ok.new.self.items in
    let new : SeatOf = record { op = seat.op; seen = pushed; count = c.add.new.share.amount; beyond = None } in
    let who : seat.op ≡ was.op = ap (λ (s : SeatOf). s.op) view in
    let goes : pushed ≡ log ++ record { op = was.op; call = call; stamp = c.args.stamp } ∷ [] =
    seen g c
    ∙ (ap (λ l. l ++ entry_of g c ∷ []) (same g c)
    ∙ ap (λ n. log ++ (let e : EntryOf = record { op = n; call = call; stamp = c.args.stamp } in e) ∷ []) who) in
    let number : c.commit-no.result ≡ length log + 1 =
    c.commit-no.ensures.version.0 ∙ ap (λ n. n + 1) (c.self.invariant.3.called.version ∙ accepted-log start log) in
    let counted = subst (λ (s : SeatOf). length (numbers s.op s.seen) ≡ s.count) view c.seat.invariant.2 in
    let count : c.add.new.share.amount ≡ was.count + 1 = c.add.ensures.amount ∙ ap (λ (s : SeatOf). s.count + 1) view in
    let told = c.tell-notice.ensures in
    let lists =
    subst (λ ls. AreDesks start pushed ls) (sym (ap (λ (n : NoticeOf). n.lists) told))
    (subst (λ l. AreDesks start l c.publish.new.self.lists)
    (longer g c ∙ sym (seen g c ∙ ap (λ l. l ++ entry_of g c ∷ []) (same g c))) (held g c).desks) in
    let tells : Tells start g.H.DeskBrand.publisher pushed c.tell-notice.result =
    (ap (λ (n : NoticeOf). n.publisher) told ∙ (held g c).named, lists) in
    accepted start g.H.DeskBrand.publisher was new log call c.args.stamp c.commit-no.result c.tell-notice.result
    (c.requires.seen ∙ sym (ap (λ (h : InnerOf). h.log) c.self.view_is)) who goes number (legal g c) counted count tells

pub returns-in-Err-clause-answer : goal.returns-in-Err-clause-answer
returns-in-Err-clause-answer g c =
    let held = c.self.invariant.3 in
    let log = shown c.self.inside.entries.items in
    let is_log : log ≡ c.args.self.now.log = ap (λ (h : InnerOf). h.log) c.self.view_is in
    let is = c.seat.view_is in
    let seat = c.seat.inside in
    let call = asked_by c.args.call in
    let at = c.version-at.result in
    let number : at ≡ length log =
    c.version-at.ensures.version ∙ (held.called.version ∙ accepted-log g.H.DeskBrand.start log) in
    let new : SeatOf = record {
      op = seat.op;
      seen = shown seat.seen.items;
      count = seat.mine.amount;
      beyond = Some c.in-Err.token.value;
    } in
    let told = refused g.H.DeskBrand.start c.args.seat.now new log call at LogTaken (c.requires.seen ∙ sym is_log)
    (ap (λ (s : SeatOf). s.op) is) (ap (λ (s : SeatOf). s.seen) is) (ap (λ (s : SeatOf). s.count) is)
    number held.legal refl in
    let P : Answer → Type 0 =
    IsAnswered g.H.DeskBrand.start g.H.DeskBrand.publisher c.args.seat.now new call c.args.stamp in
    taken false c.taken_answer.result (Refused at LogTaken) P c.taken_answer.ensures told

pub returns-in-Err-clause-ended : goal.returns-in-Err-clause-ended
returns-in-Err-clause-ended g c =
    answered c.taken_answer.result (Refused c.version-at.result LogTaken) _ c.taken_answer.ensures

pub returns-then-is_err-clause-answer : goal.returns-then-is_err-clause-answer
returns-then-is_err-clause-answer g c =
    let held = c.self.invariant.3 in
    let log = shown c.self.inside.entries.items in
    let start = g.H.DeskBrand.start in
    let is_log : log ≡ c.args.self.now.log = ap (λ (h : InnerOf). h.log) c.self.view_is in
    let seat = c.args.seat.now in
    let call = asked_by c.args.call in
    let at = c.version-at.result in
    let number : at ≡ length log = c.version-at.ensures.version ∙ (held.called.version ∙ accepted-log start log) in
    let free = subst (λ l. refusal_of (after_log start l) call ≡ None) (sym is_log) c.requires.free in
    subst (IsAnswered start g.H.DeskBrand.publisher seat seat call c.args.stamp) (sym c.refused.ensures)
    (refused start seat seat log call at (Told OutOfMemory) (c.requires.seen ∙ sym is_log) refl refl refl number
    held.legal (wants_memory start log seat.beyond call free))
