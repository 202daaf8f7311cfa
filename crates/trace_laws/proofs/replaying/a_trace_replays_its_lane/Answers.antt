use Rattle.std.proofs.Common.{ℕ, List, length, sym, ap, ◌∙◌, subst}
use Rattle.std.specs.Prelude.{filter}
use Rattle.desk_edit.specs.Asked.{CallOf}
use Rattle.desk_edit.specs.Calls.{no_calls}
use Rattle.desk_calls.specs.Accepted.{AreAccepted}
use Rattle.sender_feedback.specs.Upstream.{Asker}
use Rattle.bridge_core.specs.Lanes.{is_lanes}
use Rattle.operator_desk.specs.LegalLogs.{calls_of}
use Rattle.operator_desk.specs.PastCalls.{made_of}
use Rattle.lane_laws.specs.Merges.{UpTo}
use Rattle.lane_laws.specs.Replays.{sent_alone}
use Rattle.script_text.specs.Bridge.{first_desk}
use Rattle.trace_laws.proofs.MadeCalls.{made_is, made_many}
use Rattle.trace_laws.proofs.replaying.a_trace_replays_its_lane.Goals as goal

pub returns : goal.returns
returns g c who log ports ends h is written said place port end at ends_at =
    let start = first_desk who in
    let r = c.a_lane_is_replayed.ensures start log ports ends h place port end at ends_at in
    let items = r.0 in
    let calls = made_of log in
    let legal = subst (AreAccepted (no_calls start)) (made_is log) h.after.legal in
    let few = subst (λ (n : ℕ). UpTo n items) (made_many log) r.2.few in (
      items,
      r.1,
      record {
        heard = r.2.heard;
        sent = λ given decoding.
            r.2.sent
            ∙ (ap (λ (w : Asker). filter (is_lanes place (length ports)) (sent_alone w start (calls_of log) items)) is
            ∙ (ap (λ (cs : List CallOf). filter (is_lanes place (length ports)) (sent_alone who start cs items))
            (made_is log)
            ∙ ap (filter (is_lanes place (length ports)))
            (sym
            (c.a_trace_sends_what_its_lane_sent.ensures decoding place who calls items written said given legal
            r.2.order few))));
      },
    )
