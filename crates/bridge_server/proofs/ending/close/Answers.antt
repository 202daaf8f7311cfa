use Rattle.std.proofs.Common.{◌∙◌, Some, length, ap, refl, sym, subst}
use Rattle.std.proofs.lemmas.List.{length-map}
use Rattle.operator_desk.specs.LegalLogs.{calls_of}
use Rattle.media_front.specs.FedLanes.{ports_in}
use Rattle.lane_wire.specs.Logs.{taken_list}
use Rattle.event_loop.specs.Runs.{front_at}
use Rattle.lane_wire.specs.declared.wire_sink.LaneSent.{LaneSent}
use Rattle.bridge_server.proofs.RoundLemmas.{reads}
use Rattle.bridge_server.proofs.RunLemmas.{as_many, have_ended, one_run, whole_run}
use Rattle.bridge_server.proofs.ending.close.Goals as goal

pub compare-requires : goal.compare-requires
compare-requires g c = record {
  ended = have_ended _ (λ s. s.taken) g.H.Setup.who g.H.Setup.lanes g.H.DeskBrand.start
      g.H.DeskBrand.publisher _ (c.parts_of-media.result.0).feed c.close-ends.result.items
      c.parts_of-media.ensures.set_up.begun c.close-ends.ensures.ended c.requires.publisher;
}

pub compare_front-requires : goal.compare_front-requires
compare_front-requires g c known is =
    reads g.H.Setup.who g.H.DeskBrand.start g.H.DeskBrand.publisher (c.parts_of-media.result.0) known
    c.parts_of-media.result.2
    (c.parts_of-media.ensures.left known is)
    ∙ sym c.requires.publisher

pub returns-clause-one : goal.returns-clause-one
returns-clause-one g c log legal tells =
    let who = g.H.Setup.who in
    let start = g.H.DeskBrand.start in
    let feed = (c.parts_of-media.result.0).feed in
    let ends = c.close-ends.result.items in
    let ended = c.close-ends.ensures.ended in
    let last = c.args.last.now in
    one_run _ (λ s. s.taken) c.in_ok-sent.sent.items who g.H.Setup.lanes start g.H.DeskBrand.publisher log last feed
    ends c.in_ok-sent.ensures.taken c.parts_of-media.ensures.set_up.begun c.requires.first legal tells ended
    (c.lanes_saw_what_they_know.ensures (ports_in feed) ends ended last.lists c.in_ok-compare.ensures.known)
    (c.the_running_headline.ensures.holds start log (ports_in feed) ends)
    (c.the_running_headline.ensures.sent start log (ports_in feed) ends)

pub returns-clause-whole : goal.returns-clause-whole
returns-clause-whole g c log legal tells =
    let who = g.H.Setup.who in
    let start = g.H.DeskBrand.start in
    let publisher = g.H.DeskBrand.publisher in
    let front = c.parts_of-media.result.0 in
    let left = c.parts_of-media.result.2 in
    let ends = c.close-ends.result.items in
    let ended = c.close-ends.ensures.ended in
    let last = c.args.last.now in
    let dropped = c.in_ok-dropped.dropped.items in
    let knew = c.in_ok-compare_front.ensures.known in
    let has = c.parts_of-media.ensures.left knew.0 knew.1 in
    whole_run _ (λ s. s.taken) c.in_ok-sent.sent.items who g.H.Setup.lanes start publisher log last front ends
    c.in_ok-sent.ensures.taken c.in_ok-sent.ensures.asked c.parts_of-media.ensures.set_up.begun c.requires.first legal
    tells ended
    (c.lanes_saw_what_they_know.ensures (ports_in front.feed) ends ended last.lists c.in_ok-compare.ensures.known)
    knew.0 left has knew.2 dropped c.in_ok-dropped.ensures
    (λ turns all. c.fronts_that_ran.ensures has.first (front_at has.last (Some knew.0)) turns all)
    (λ turns done h lanes. c.lanes_that_ran.ensures turns (has.first).history has.last done start log ends h lanes)

pub returns-clause-dropped : goal.returns-clause-dropped
returns-clause-dropped g c =
    let feed = (c.parts_of-media.result.0).feed in
    let dropped = c.in_ok-dropped.dropped in
    dropped.ok.0 ∙ (ap length c.in_ok-dropped.ensures ∙ (length-map feed (λ x. x.dropped)
    ∙ (as_many _ (λ s. s.taken) g.H.Setup.who g.H.Setup.lanes g.H.DeskBrand.start
    g.H.DeskBrand.publisher feed c.close-ends.result.items c.parts_of-media.ensures.set_up.begun
    c.close-ends.ensures.ended).0))

pub returns-clause-sent : goal.returns-clause-sent
returns-clause-sent g c =
    let feed = (c.parts_of-media.result.0).feed in
    let ends = c.close-ends.result.items in
    let sent = c.in_ok-sent.sent in
    sent.ok.0 ∙ (sym (length-map sent.items (λ (lane : LaneSent). taken_list lane.taken))
    ∙ (ap length c.in_ok-sent.ensures.taken ∙ (length-map ends (λ end. end.sink.taken)
    ∙ (as_many _ (λ s. s.taken) g.H.Setup.who g.H.Setup.lanes g.H.DeskBrand.start g.H.DeskBrand.publisher feed ends
    c.parts_of-media.ensures.set_up.begun c.close-ends.ensures.ended).1)))
