use Rattle.std.proofs.Common.{◌++◌, map, sym, ◌∙◌, ap, subst}
use Rattle.rtrb.specs.Ring.{sent, received, known_items}
use Rattle.bridge_core.specs.Sent.{sent_of}
use Rattle.media_workers.specs.Ports.{PortOf}
use Rattle.media_workers.specs.LaneRuns.{Ran, Traffic, versioned, Hears, run_end}
use Rattle.media_workers.proofs.ThreadLemmas.{port_ended, port_told}
use Rattle.media_workers.proofs.port.Port.finish.Goals as goal

pub returns-clause-ended : goal.returns-clause-ended
returns-clause-ended g c =
    let kept = c.join-end.ensures.told.run in
    let inv = c.self.invariant in
    let down = c.slots_beside.ensures in
    let ran : Traffic = record { parcels = kept.parcels; egress = kept.egress } in
    let shown : Traffic =
    record { parcels = received c.slots_beside.new.self; egress = g.S.Sink.taken c.join-end.result.sink } in
    port_ended c.args.self (g.P.Pace.answers c.args.self.pace) ran shown
    (known_items c.slots_beside.new.self) (sent c.self.inside.parcels) c.self.inside.closed (run_end c.join-end.result)
    (subst
    (λ (p : PortOf g.row.P.Denot g.row.S.Denot).
    Ran p.lane (g.P.Pace.answers p.pace) ran.parcels (map sent_of ran.egress) (run_end c.join-end.result))
    c.self.view_is kept.ran)
    (down.looked.1 ∙ (kept.received ∙ ap (λ w. w ++ kept.parcels) inv.1))
    (kept.taken ∙ ap (λ w. w ++ kept.egress) inv.2)
    (down.fifo ∙ down.producer.1)
    inv.3
    (ap (λ (p : PortOf g.row.P.Denot g.row.S.Denot). p.accepted) (sym c.self.view_is))

pub returns-clause-fed : goal.returns-clause-fed
returns-clause-fed g c taker fed =
    c.join-end.ensures.fed taker
    (subst (λ (p : PortOf g.row.P.Denot g.row.S.Denot). g.S.Sink.feeds p.sink taker) (sym c.self.view_is) fed)

pub returns-clause-told : goal.returns-clause-told
returns-clause-told g c =
    let kept = c.join-end.ensures.told.run in
    let inv = c.self.invariant in
    let down = c.slots_beside.ensures in
    let sink = c.join-end.result.sink in
    let ran : Traffic = record { parcels = kept.parcels; egress = kept.egress } in
    let shown : Traffic = record { parcels = received c.slots_beside.new.self; egress = g.S.Sink.taken sink } in
    let run =
    subst
    (λ (p : PortOf g.row.P.Denot g.row.S.Denot).
    (r : Ran p.lane (g.P.Pace.answers p.pace) ran.parcels (map sent_of ran.egress) (run_end c.join-end.result))
    × Hears g.S.Sink.heard p.sink sink (map versioned r.served))
    c.self.view_is (kept.ran, c.join-end.ensures.told.heard) in
    let both =
    port_told c.args.self (g.P.Pace.answers c.args.self.pace) ran shown
    (known_items c.slots_beside.new.self) (sent c.self.inside.parcels) c.self.inside.closed (run_end c.join-end.result)
    (Hears g.S.Sink.heard c.args.self.sink sink) run.0 run.1
    (down.looked.1 ∙ (kept.received ∙ ap (λ w. w ++ kept.parcels) inv.1))
    (kept.taken ∙ ap (λ w. w ++ kept.egress) inv.2)
    (down.fifo ∙ down.producer.1)
    inv.3
    (ap (λ (p : PortOf g.row.P.Denot g.row.S.Denot). p.accepted) (sym c.self.view_is)) in
    record { ended = both.0; heard = both.1 }
