use Rattle.std.proofs.Common.{◌≡◌, ℕ, ap, List, [], ◌∷◌, Some, refl, sym, map, subst, length, set, ◌<◌, ◌-◌, ◌^◌, ◌∙◌}
use Rattle.std.specs.Prelude.{slice_get}
use Rattle.std.proofs.lemmas.Result.{on_err_weaker}
use Rattle.std.proofs.lemmas.List.{set-get_or}
use Rattle.std.proofs.lemmas.Result.{IfOk-weaker}
use Rattle.std.proofs.lemmas.Option.{slice_get_read}
use Rattle.desk_rows.specs.Desk.{Desk}
use Rattle.media_items.specs.Inputs.{input_of}
use Rattle.bridge_core.specs.Sent.{sent_of}
use Rattle.bridge_core.specs.LaneState.{LaneOf, Handles}
use Rattle.bridge_core.specs.Steps.{CoreOf, Step, Takes}
use Rattle.bridge_core.proofs.StepLaws.{handled, still_placed}
use Rattle.bridge_core.proofs.bridge.Core.item.Given.{Over}
use Rattle.bridge_core.proofs.bridge.Core.item.Goals as goal

there : (g : Over) (c : goal.After-self-1 g)
    → slice_get c.self.inside.lanes.items c.args.lane ≡ Some c.index_mut.result.now
there g c =
    let within : c.args.lane < length c.self.inside.lanes.items =
    subst (λ (core : CoreOf). c.args.lane < length core.lanes) (sym c.self.view_is) c.requires.lane in
    slice_get_read _ _ _ _ refl within c.index_mut.ensures.value

pub invariant_of-self : goal.invariant_of-self
invariant_of-self g c =
    still_placed c.self.inside.ingress.asker c.self.inside.lanes.items _ c.args.lane c.index_mut.result.now
    c.step.new.self c.self.invariant (there g c) c.step.ensures.place.0 c.step.ensures.place.1 c.step.ensures.place.2
    refl

pub returns-clause-takes : goal.returns-clause-takes
returns-clause-takes g c =
    let was = c.self.inside in
    let old : CoreOf =
    record {
      version = was.desk.version;
      history = was.desk.history;
      desk = was.desk.desk;
      done = was.desk.done;
      undone = was.desk.undone;
      lanes = was.lanes.items;
      ingress = was.ingress;
    } in
    let new : CoreOf =
    record {
      version = was.desk.version;
      history = was.desk.history;
      desk = was.desk.desk;
      done = was.desk.done;
      undone = was.desk.undone;
      lanes = set was.lanes.items c.args.lane c.step.new.self;
      ingress = was.ingress;
    } in
    IfOk-weaker c.step.result _ _ (λ sent does.
    subst
    (λ (core : CoreOf). Takes core new (Step.item c.args.lane (input_of c.args.item.now)) (map sent_of sent.items ∷ []))
    c.self.view_is
    (handled old new c.args.lane c.index_mut.result.now c.step.new.self (input_of c.args.item.now)
    (map sent_of sent.items) c.self.invariant (there g c)
    (subst
    (λ (n : ℕ).
    Handles c.index_mut.result.now c.step.new.self n was.desk.desk (input_of c.args.item.now) (map sent_of sent.items))
    c.version.ensures.version
    (subst
    (λ (d : Desk).
    Handles c.index_mut.result.now c.step.new.self c.version.result d (input_of c.args.item.now)
    (map sent_of sent.items))
    c.rows-rows.ensures.rows does))
    refl refl refl)) c.step.ensures.sends

pub returns-clause-spent : goal.returns-clause-spent
returns-clause-spent g c =
    let here : slice_get c.args.self.now.lanes c.args.lane ≡ Some c.index_mut.result.now =
    subst (λ (core : CoreOf). slice_get core.lanes c.args.lane ≡ Some c.index_mut.result.now) c.self.view_is
    (there g c) in
    let one : (state : LaneOf) → slice_get c.args.self.now.lanes c.args.lane ≡ Some state
    → c.index_mut.result.now ≡ state = λ state at.
    (let both : Some c.index_mut.result.now ≡ Some state = sym here ∙ at in cc) in (
      λ is state at. subst (λ (s : LaneOf). s.handled ≡ 2 ^ 64 - 1) (one state at) (c.step.ensures.spent.0 is),
      λ all. c.step.ensures.spent.1 (all c.index_mut.result.now here),
    )

pub returns-clause-err : goal.returns-clause-err
returns-clause-err g c =
    let was = c.self.inside in
    let lanes = was.lanes.items in
    let core = λ (ls : List LaneOf).
    let k : CoreOf =
    record {
      version = was.desk.version;
      history = was.desk.history;
      desk = was.desk.desk;
      done = was.desk.done;
      undone = was.desk.undone;
      lanes = ls;
      ingress = was.ingress;
    } in
    k in
    on_err_weaker c.step.result (λ same.
    ap core (ap (set lanes c.args.lane) (same ∙ c.index_mut.ensures.value) ∙ set-get_or lanes c.args.lane _)
    ∙ c.self.view_is) c.step.ensures.err
