use Rattle.std.proofs.Common.{◌≡◌, ◌∙◌, List, slice_get, slice_set, ap, ⊎_elim, inl, inr, arith}
use Rattle.media_workers.specs.Ports.{PortOf, accept}
use Rattle.media_workers.specs.declared.parcel.Parcel.TheVariants.{End}
use Rattle.media_workers.proofs.BridgeLemmas.{put_whole}
use Rattle.media_workers.proofs.bridge.Bridge.push_end.Goals as goal

pub returns : goal.returns
returns g c = record {
  ended = λ port is.
      let lane = c.args.lane in
      let all : c.deref_mut.result.now ≡ c.args.self.now = c.deref_mut.ensures.value ∙ c.self.view_is in
      let now =
      put_whole c.self.inside.ports.len c.end_at.new.ports c.self.inside.ports.items
      (omega (arith, c.end_at.auto.ports, c.deref_mut.ensures.len)) in
      ⊎_elim
      (λ (same : c.end_at.new.ports ≡ c.deref_mut.result.now). inl (now ∙ (same ∙ all)))
      (λ (changed : c.end_at.new.ports ≡ slice_set c.deref_mut.result.now lane (accept End port)).
      inr (now
      ∙ (changed ∙ ap (λ (xs : List (PortOf g.row.P.Denot g.row.S.Denot)). slice_set xs lane (accept End port)) all)))
      (c.end_at.ensures port (ap (λ (xs : List (PortOf g.row.P.Denot g.row.S.Denot)). slice_get xs lane) all ∙ is));
}
