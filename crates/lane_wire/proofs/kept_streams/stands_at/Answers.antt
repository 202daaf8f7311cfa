use Rattle.std.proofs.Common.{◌≡◌, ◌∙◌, nat_eq, true, false, slice_get, Some, refl, sym, ap}
use Rattle.std.specs.Option.{option_map}
use Rattle.std.specs.Bool.{OnTrue}
use Rattle.std.proofs.lemmas.Bool.{eqb-true}
use Rattle.lane_wire.specs.inner.Places.{Stands}
use Rattle.lane_wire.proofs.kept_streams.stands_at.Goals as goal

pub returns-in-Some : goal.returns-in-Some
returns-in-Some c =
    let ssrc = c.args.ssrc in
    let found = c.in-Some.found.now in
    let kept = c.in-Some.field-0-1.now in
    let es = c.args.streams.now.entries in
    let there : slice_get es c.args.place ≡ Some (found, kept) =
    sym c.get_index.ensures.entry ∙ ap (option_map (λ p. (p.0.now, p.1.now))) c.in-Some.is in
    (elim (nat_eq found ssrc) as (λ y. nat_eq found ssrc ≡ y → OnTrue y (Stands ssrc c.args.place es)) [
      | true ↦ λ t. (kept, there ∙ ap (λ s. Some (s, kept)) (eqb-true found ssrc t))
      | false ↦ λ t. tt
    ]) refl
