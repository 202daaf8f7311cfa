use Rattle.std.proofs.Common.{◌∙◌, nat_eq, Some, sym, ap}
use Rattle.std.proofs.lemmas.Bool.{eqb-true}
use Rattle.lane_wire.proofs.Places.{key_passes}
use Rattle.lane_wire.proofs.kept_streams.place_by_ssrc.Goals as goal

pub returns-clause-found : goal.returns-clause-found
returns-clause-found c =
    let ssrc = c.args.ssrc in
    let found = c.in_ok-place.field-0-1.now in
    let kept = c.in_ok-place.field-0-2.now in
    let passes = key_passes (nat_eq ssrc) c.args.streams.now.entries found (sym c.in_ok-place.ensures.key) in
    (kept, c.in_ok-place.ensures.entry ∙ ap (λ s. Some (s, kept)) (sym (eqb-true ssrc found passes)))
