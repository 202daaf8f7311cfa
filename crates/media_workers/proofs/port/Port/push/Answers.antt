use Rattle.std.proofs.Common.{◌≡◌, Bool, false, refl, sym, subst, List}
use Rattle.rtrb.specs.Ring.{sent}
use Rattle.media_workers.specs.Parcels.{works}
use Rattle.media_workers.specs.Ports.{PortOf, accept}
use Rattle.media_workers.specs.inner.Threads.{IsWhole}
use Rattle.media_workers.proofs.ThreadLemmas.{IsPair-sent, whole_pushed, accepts}
use Rattle.media_workers.proofs.port.Port.push.Goals as goal

pub invariant_of-self : goal.invariant_of-self
invariant_of-self g c =
    let inside = c.self.inside in
    let whole = subst (λ (b : Bool). IsWhole (sent inside.parcels) b) c.if-self.false c.self.invariant.3 in
    let pushed = whole_pushed (sent inside.parcels) c.args.parcel c.ends-last.result c.ends-last.ensures whole in (
      IsPair-sent inside.parcels c.push.new.self inside.thread.promise.consumer.value c.self.invariant.0
          c.push.ensures.ring,
      c.self.invariant.1,
      c.self.invariant.2,
      subst (λ (ps : List _). IsWhole ps c.ends-last.result) (sym c.in-Ok.ensures.ok.0) pushed,
    )

pub returns-in-Ok-clause-ok : goal.returns-in-Ok-clause-ok
returns-in-Ok-clause-ok g c =
    let inside = c.self.inside in
    let old : PortOf g.row.P.Denot g.row.S.Denot = record {
      lane = inside.thread.promise.lane.value;
      pace = inside.thread.promise.pace.value;
      sink = inside.thread.promise.sink.value;
      accepted = works (sent inside.parcels);
      closed = inside.closed;
    } in
    subst (λ (v : PortOf g.row.P.Denot g.row.S.Denot). (v.closed ≡ false) × (record {
      lane = inside.thread.promise.lane.value;
      pace = inside.thread.promise.pace.value;
      sink = inside.thread.promise.sink.value;
      accepted = works (sent c.push.new.self);
      closed = c.ends-last.result;
    } ≡ accept c.args.parcel v)) c.self.view_is (
      c.if-self.false,
      accepts old (sent inside.parcels) (sent c.push.new.self) c.args.parcel c.ends-last.result refl c.if-self.false
          c.ends-last.ensures c.in-Ok.ensures.ok.0,
    )
