use Rattle.std.proofs.lemmas.List.{nil_from_length}
use Rattle.std.proofs.Common.{◌≡◌, ◌+◌, ◌≤◌, ◌++◌, ◌∷◌, [], length, rules, sym, ap, subst, ◌∙◌, append_assoc}
use Rattle.std.proofs.Common.{append-nil, length-append, arith}
use Rattle.std.specs.List.{All, sum_by}
use Rattle.std.proofs.lemmas.List.Elements.{All-push, All-head, All-rest, All-same}
use Rattle.std.proofs.lemmas.List.Sums.{sum_by-append}
use mathlib.Core.List.{IsPrefix}
use Rattle.operator_desk.specs.Seats.{SeatOf}
use Rattle.operator_desk.specs.inner.DeskInner.{InnerOf}
use Rattle.operator_desk.specs.inner.Tokens.{shown}
use Rattle.operator_desk.proofs.SeatLemmas.{enough}
use Rattle.operator_desk.proofs.TokenLemmas.{length-shown}
use Rattle.operator_desk.proofs.desk_inner.DeskInner.settle.Goals as goal

pub give_back-requires-clause-few : goal.give_back-requires-clause-few
give_back-requires-clause-few g c =
    let log = c.args.self.log in
    let P : SeatOf → Type 0 = λ s. length s.seen ≤ length log in
    let entries = c.self.inside.entries.items in
    let is : length (shown entries) ≡ length log = ap (λ (h : InnerOf). length h.log) c.self.view_is in
    let seat = c.in-Some.seat in
    let rest = c.next.new.self.rest.items in
    let few : P seat =
    All-head P seat rest (All-same P (seat ∷ rest) c.loop-seat.seat-iterator.rest.items (sym c.in-Some.ensures.steps.0)
    c.loop-seat.invariant.few) in
    omega (arith, few, is, length-shown entries)

pub loop-seat-preserved : goal.loop-seat-preserved
loop-seat-preserved g c =
    let inv = c.loop-seat.invariant in
    let log = c.args.self.log in
    let is : shown c.self.inside.entries.items ≡ log = ap (λ (h : InnerOf). h.log) c.self.view_is in
    let seat = c.in-Some.seat in
    let begins : IsPrefix seat.seen log = subst (λ l. IsPrefix seat.seen l) is c.give_back.ensures.begins in
    record {
      all =
          append_assoc c.loop-seat.yielded (seat ∷ []) c.next.new.self.rest.items
          ∙ (ap (λ r. c.loop-seat.yielded ++ r) (sym c.in-Some.ensures.steps.0) ∙ inv.all);
      parts =
          c.give_back.ensures.parts ∙ (ap (λ n. n + 1) inv.parts ∙ sym (length-append c.loop-seat.yielded (seat ∷ [])));
      apart = c.give_back.ensures.apart;
      amount =
          omega (
            arith,
            c.give_back.ensures.amount,
            inv.amount,
            sum_by-append (λ (s : SeatOf). s.count) c.loop-seat.yielded (seat ∷ []),
          );
      begins = All-push (λ (s : SeatOf). IsPrefix s.seen log) c.loop-seat.yielded seat inv.begins begins;
      few =
          All-rest (λ (s : SeatOf). length s.seen ≤ length log) seat c.next.new.self.rest.items
          c.loop-seat.seat-iterator.rest.items c.in-Some.ensures.steps.0 inv.few;
    }

pub returns-clause-begins : goal.returns-clause-begins
returns-clause-begins g c =
    let rest = c.loop-seat.seat-iterator.rest in
    let empty : length rest.items ≡ 0 = search rules in
    let none = nil_from_length rest.items empty in
    let done : c.loop-seat.yielded ≡ c.args.seats.items =
    sym (append-nil c.loop-seat.yielded)
    ∙ (ap (λ r. c.loop-seat.yielded ++ r) (sym none) ∙ c.loop-seat.invariant.all) in
    subst (λ xs. All (λ (s : SeatOf). IsPrefix s.seen c.args.self.log) xs) done c.loop-seat.invariant.begins

pub returns-clause-sum : goal.returns-clause-sum
returns-clause-sum g c =
    let inv = c.loop-seat.invariant in
    let rest = c.loop-seat.seat-iterator.rest in
    let empty : length rest.items ≡ 0 = search rules in
    let none = nil_from_length rest.items empty in
    let done : c.loop-seat.yielded ≡ c.args.seats.items =
    sym (append-nil c.loop-seat.yielded) ∙ (ap (λ r. c.loop-seat.yielded ++ r) (sym none) ∙ inv.all) in
    let many = ap length done in
    let whole : c.loop-seat.rest.parts ≡ g.H.Ledger.parts =
    omega (
      arith,
      inv.parts,
      inv.apart,
      many,
      enough g.H.DeskBrand.seats c.args.seats.items c.requires.all,
      c.requires.parts,
    ) in
    let is : shown c.self.inside.entries.items ≡ c.args.self.log = ap (λ (h : InnerOf). h.log) c.self.view_is in
    ap length (sym is)
    ∙ (c.self.invariant.3.counted
    ∙ (sym (c.audit.ensures.whole whole) ∙ (inv.amount ∙ ap (sum_by (λ (s : SeatOf). s.count)) done)))
