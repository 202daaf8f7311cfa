use Rattle.std.proofs.Common.{◌≡◌, ◌∙◌, ℕ, List, length, All, refl, ap, sym, subst}
use Rattle.sender_feedback.specs.Upstream.{Asker}
use Rattle.media_front.specs.Prices.{pli_octets}
use Rattle.published_desk.specs.Published.{ReaderOf}
use Rattle.media_front.specs.FedLanes.{lanes_in}
use Rattle.media_front.specs.Fronts.{FrontOf}
use Rattle.media_workers.specs.LaneRuns.{LaneNow}
use Rattle.bridge_server.specs.OneRun.{IsSetUp}
use Rattle.bridge_server.specs.inner.Running.{IsNewMedia}
use Rattle.bridge_server.proofs.RunLemmas.{lanes_begun}
use denote.Exit.{yes}
use denote.Param.Send.{param_send, arg_send}
use Rattle.lane_wire.specs.contracts.wire_sink.WireSink as WireSink
use Rattle.bridge_server.specs.contracts.sinks.LaneSocket as LaneSocket
use Rattle.bridge_server.specs.contracts.sinks.LaneSocketLaneWire.TheImpl.{ghosts}
use Rattle.bridge_server.proofs.SinkLemmas.{socket_send, sink_send}
use Rattle.bridge_server.proofs.opening.media_of.Goals as goal

pub start-requires-send-S : goal.start-requires-send-S
start-requires-send-S g c κs within =
    let W = LaneSocket.the_row in
    param_send 2 _ (arg_send _ yes (WireSink.the_row W ghosts) (sink_send W ghosts socket_send))

pub start-requires-clause-publisher : goal.start-requires-clause-publisher
start-requires-clause-publisher g c κs within k d low =
    ap (λ (reader : ReaderOf). reader.publisher) (c.requires.readers k d low)

pub returns-in-Ok : goal.returns-in-Ok
returns-in-Ok g c =
    let here = c.args.settings.now in
    let who = g.H.Setup.who in
    let many = g.H.Setup.lanes in
    let start = g.H.DeskBrand.start in
    let publisher = g.H.DeskBrand.publisher in
    let lanes = lanes_in c.in-Ok.feed in
    let named : All (λ (lane : LaneNow). lane.state.who ≡ who) lanes =
    subst (λ (w : Asker). All (λ (lane : LaneNow). lane.state.who ≡ w) lanes) c.requires.who c.in-Ok.ensures.who in
    let count : length c.args.readers.items ≡ many = sym c.args.readers.ok.0 ∙ c.requires.lanes in
    let copy = c.in_ok-try_clone.field-0 in
    let same : ◌≡◌ {A = Asker} (record { ssrc = copy.bridge_ssrc; cname = copy.cname })
    (record { ssrc = here.bridge_ssrc; cname = here.cname }) =
    ap (λ (s : ℕ). record { ssrc = s; cname = copy.cname }) c.in_ok-try_clone.ensures.0
    ∙ ap (λ (n : List ℕ). record { ssrc = here.bridge_ssrc; cname = n }) c.in_ok-try_clone.ensures.1 in
    record {
      set_up = subst (IsSetUp who many start publisher) (sym c.new-in-Ok.ensures)
          (record {
            begun =
                lanes_begun who many publisher start lanes c.args.readers.items c.in-Ok.ensures.new named
                c.in-Ok.ensures.readers
                count c.requires.readers;
            asker = c.in_ok-ingress.ensures.asker ∙ (same ∙ c.requires.who);
          });
      new = subst (λ (f : FrontOf _ _). IsNewMedia f) (sym c.new-in-Ok.ensures)
          (record {
            feed = c.in-Ok.ensures.fresh;
            limiter = c.in_ok-limiter.ensures;
            limited = refl;
            sources = c.in_ok-ingress.ensures.knows;
          });
    }

pub new-requires-in-Ok : goal.new-requires-in-Ok
new-requires-in-Ok g c =
    let here = c.args.settings.now in
    let copy = c.in_ok-try_clone.field-0 in
    let same : ◌≡◌ {A = Asker} (record { ssrc = copy.bridge_ssrc; cname = copy.cname })
    (record { ssrc = here.bridge_ssrc; cname = here.cname }) =
    ap (λ (s : ℕ). record { ssrc = s; cname = copy.cname }) c.in_ok-try_clone.ensures.0
    ∙ ap (λ (n : List ℕ). record { ssrc = here.bridge_ssrc; cname = n }) c.in_ok-try_clone.ensures.1 in
    record { cost = c.in_ok-cost.ensures ∙ ap pli_octets (sym (c.in_ok-ingress.ensures.asker ∙ same)) }
