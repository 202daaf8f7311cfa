use Rattle.std.proofs.Common.{◌≡◌, ◌∙◌, ◌∷◌, ℕ, List, length, map, sym, ap, subst}
use Rattle.std.proofs.lemmas.List.{length-map}
use Rattle.media_items.specs.Inputs.{Input}
use Rattle.bridge_core.specs.Sent.{Sent}
use Rattle.operator_desk.specs.LegalLogs.{calls_of}
use Rattle.media_workers.specs.LaneRuns.{Versioned}
use Rattle.lane_laws.specs.Learnt.{handled, merged}
use Rattle.lane_laws.specs.OneList.{IsOneList, SendByVersions, sent_by}
use Rattle.media_front.specs.FedLanes.{FedLane, ports_in}
use Rattle.whole_laws.specs.Given.{given_by_turns}
use Rattle.whole_laws.specs.Whole.{LaneLeft, HandledBeginning}
use Rattle.whole_laws.proofs.KeptLemmas.{turns_begin}
use Rattle.whole_laws.proofs.WholeLemmas.{zip_by}
use Rattle.whole_laws.proofs.laws.lanes_that_ran.Goals as goal

pub returns : goal.returns
returns g c turns first last done start log ends h lanes renewed dropped sent asked =
    let answers = g.P.Pace.answers in
    let taken = g.S.Sink.taken in
    let feed = last.front.feed in
    let inputs = Input.renew ∷ given_by_turns turns first last done in
    let items = handled answers taken (ports_in feed) ends h.ended in
    let many : length (ports_in feed) ≡ length lanes =
    length-map feed (λ x. x.port)
    ∙ (sym (length-map feed (λ x. x.dropped))
    ∙ (sym (ap length dropped) ∙ length-map lanes (λ (l : LaneLeft). l.dropped))) in
    record {
      items = items;
      handled =
          zip_by (λ (l : LaneLeft). l.dropped) (λ x. x.dropped)
          (λ (n : ℕ) (own : List Versioned). HandledBeginning inputs n own) lanes feed items dropped
          (turns_begin answers taken turns first last done ends h.ended renewed);
      one =
          subst (λ (all : List (List Sent)). IsOneList (h.new).0 (length lanes) start (calls_of log) all (merged h))
          (sym sent)
          (subst (λ (n : ℕ). IsOneList (h.new).0 n start (calls_of log) (sent_by taken ends) (merged h)) many
          (c.the_running_headline.ensures.holds start log (ports_in feed) ends h));
      by_versions =
          subst (SendByVersions start (calls_of log)) (sym sent)
          (c.the_running_headline.ensures.sent start log (ports_in feed) ends h);
      asked = asked;
    }
