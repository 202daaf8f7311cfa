use Rattle.std.proofs.Common.{[], ◌∷◌, length, refl, subst}
use Rattle.desk_edit.specs.Calls.{no_calls}
use Rattle.media_items.specs.Inputs.{Input}
use Rattle.bridge_core.specs.Steps.{Step}
use Rattle.bridge_core.specs.Headline.{AreGood}
use Rattle.bridge_core.specs.Events.{steps_of}
use Rattle.bridge_core.specs.WholeRuns.{IsKept}
use Rattle.bridge_core.proofs.Shares.{note_share, loss_share}
use Rattle.bridge_core.proofs.WholeRunLaws.{played, good_before, good_desk}
use Rattle.bridge_core.proofs.laws.the_headline.Goals as goal

pub returns-clause-undone : goal.returns-clause-undone
returns-clause-undone c first middle last commands replies accepts undoes =
    c.commands_come_back.ensures.back first middle last commands replies accepts undoes

pub returns-clause-holds : goal.returns-clause-holds
returns-clause-holds c start events sent first last h taken called plays =
    let steps = steps_of (no_calls start) events in
    let who = first.ingress.asker in
    let lanes = length first.lanes in
    let run = played start [] (no_calls start) events sent first last taken called plays in
    record {
      given = run.0;
      lists = λ ssrc. c.streams_are_routed_lists.ensures who lanes start steps ssrc h run.1;
      mix_lists = λ ssrc. c.mixes_are_mix_lists.ensures who lanes start steps ssrc h run.1;
      no_gap = λ name. c.streams_have_no_gap.ensures who lanes start steps name h run.1;
      kept = λ before after lane input is.
          let all : AreGood before = good_before before (Step.item lane input ∷ after) (subst AreGood is run.1) in
          let desk = good_desk start before h all in
          elim input as (λ (input : Input). IsKept who lanes start before lane input) [
            | Input.frame f ↦ record {
              chosen = (c.packets_are_chosen.ensures who lanes lane start before f desk).0;
              whole = λ ssrc r mine at. c.frames_go_whole.ensures who lanes lane start before f ssrc r desk mine at;
            }
            | Input.audio sound ↦ refl
            | Input.tick moment ↦ record {
              heard = (c.mixes_are_heard.ensures who lanes lane start before moment desk).0;
              whole = λ m sound mine its hears_it.
                  c.all_who_hear_get_it.ensures who lanes lane start before moment m sound desk mine its hears_it;
            }
            | Input.nack request ↦ c.resends_lead_back.ensures who lanes lane start before request h all
            | Input.block told ↦
                record {
                  given = note_share who lanes lane start before told;
                  each = (c.notes_lead_back.ensures who lanes lane start before told h all).0;
                }
            | Input.pli loss ↦
                record {
                  given = loss_share who lanes lane start before loss;
                  each = (c.picture_losses_go_to_the_chosen.ensures who lanes lane start before loss).0;
                }
            | Input.report moment ↦
                record {
                  given = refl;
                  each = (c.reports_count_first_sendings.ensures who lanes lane start before moment h all).0;
                }
            | Input.renew ↦ refl
          ];
    }

pub returns-clause-lanes : goal.returns-clause-lanes
returns-clause-lanes c who few many start events ssrc some others =
    c.lane_count_does_not_matter.ensures.every_lane who few many start (steps_of (no_calls start) events) ssrc some
    others
