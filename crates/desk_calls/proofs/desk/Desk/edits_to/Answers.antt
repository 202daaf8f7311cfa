use Rattle.std.specs.Prelude.{◌∷◌}
use Rattle.std.proofs.Common.{◌≡◌, true, [], None, Some, sym, ap, ◌∙◌}
use Rattle.std.proofs.lemmas.Result.{IfOk-weaker}
use Rattle.desk_rows.specs.Desk.{Desk}
use Rattle.desk_rows.specs.Exchange.{fits as one_fits, after as one_after}
use Rattle.desk_edit.specs.AsIf.{moved_keys}
use Rattle.desk_edit.specs.InForce.{numbers_rise}
use Rattle.desk_calls.specs.Edits.{fits, after}
use Rattle.desk_calls.specs.Desk.{desk_without}
use Rattle.desk_calls.specs.inner.Touching.{away_of}
use Rattle.desk_calls.proofs.Planned.{free_of, only_memory}
use Rattle.desk_calls.proofs.Reverted.{one_bridge, leads_without, elsewhere_is}
use Rattle.desk_calls.proofs.desk.Desk.edits_to.Goals as goal

pub difference-requires : goal.difference-requires
difference-requires g c =
    let d = c.args.self.now in
    ap (λ (x : Desk). x.bridge_ssrc) c.requires.rows
    ∙ one_bridge d c.args.number c.calls-calls.ensures.called
    ∙ sym (ap (λ (x : Desk). x.bridge_ssrc) c.rows-now.ensures.rows)

pub returns-in-Ok-no_other_moves-clause-fits : goal.returns-in-Ok-no_other_moves-clause-fits
returns-in-Ok-no_other_moves-clause-fits g c =
    let d = c.args.self.now in
    let edit = c.in-Ok.edit in
    let now = c.rows-now.ensures.rows in
    let calls = c.calls-calls.ensures in
    IfOk-weaker c.in_list.result (λ es. es ≡ edit ∷ []) (λ es. fits d.desk es ≡ true)
    (λ es one.
    (leads_without d c.args.number c.args.rows.now edit es (ap numbers_rise (sym calls.calls) ∙ calls.rise) one
    c.requires.rows (ap (λ x. one_fits x edit) (sym now) ∙ c.in-Ok.ensures.fits)
    (ap (λ x. one_after x edit) (sym now) ∙ c.in-Ok.ensures.leads)).0)
    c.in_list.ensures.list

pub returns-in-Ok-no_other_moves-clause-does : goal.returns-in-Ok-no_other_moves-clause-does
returns-in-Ok-no_other_moves-clause-does g c =
    let d = c.args.self.now in
    let edit = c.in-Ok.edit in
    let now = c.rows-now.ensures.rows in
    let calls = c.calls-calls.ensures in
    IfOk-weaker c.in_list.result (λ es. es ≡ edit ∷ []) (λ es. after d.desk es ≡ desk_without d c.args.number)
    (λ es one.
    (leads_without d c.args.number c.args.rows.now edit es (ap numbers_rise (sym calls.calls) ∙ calls.rise) one
    c.requires.rows (ap (λ x. one_fits x edit) (sym now) ∙ c.in-Ok.ensures.fits)
    (ap (λ x. one_after x edit) (sym now) ∙ c.in-Ok.ensures.leads)).1)
    c.in_list.ensures.list

pub returns-in-Ok-no_other_moves-clause-free : goal.returns-in-Ok-no_other_moves-clause-free
returns-in-Ok-no_other_moves-clause-free g c =
    let d = c.args.self.now in
    let edits = c.done.ensures ∙ c.history.ensures.done in
    let keys = c.deref.ensures.value
    ∙ c.in-Ok-moved_keys.ensures
    ∙ ap (λ x. moved_keys x c.args.rows.now) c.rows-now.ensures.rows in
    free_of c.in_list.result (λ es. es ≡ c.in-Ok.edit ∷ []) (away_of d c.args.number ≡ None)
    (λ es one.
    sym (elsewhere_is d c.args.number c.args.past.now c.done.result.now c.args.rows.now c.deref.result.now
    c.calls-calls.ensures.called c.requires.past edits c.requires.rows keys)
    ∙ c.in-Ok-no_other_moves.ensures.free)
    c.in_list.ensures.list

pub returns-in-Ok-no_other_moves-clause-first : goal.returns-in-Ok-no_other_moves-clause-first
returns-in-Ok-no_other_moves-clause-first g c =
    only_memory c.in_list.result (λ why. away_of c.args.self.now c.args.number ≡ Some why) c.in_list.ensures.memory

pub returns-in-Err-clause-first : goal.returns-in-Err-clause-first
returns-in-Err-clause-first g c =
    let d = c.args.self.now in
    let edits = c.done.ensures ∙ c.history.ensures.done in
    let keys = c.deref.ensures.value
    ∙ c.in-Ok-moved_keys.ensures
    ∙ ap (λ x. moved_keys x c.args.rows.now) c.rows-now.ensures.rows in
    λ other.
    sym (elsewhere_is d c.args.number c.args.past.now c.done.result.now c.args.rows.now c.deref.result.now
    c.calls-calls.ensures.called c.requires.past edits c.requires.rows keys)
    ∙ c.in-Err.ensures.first other
