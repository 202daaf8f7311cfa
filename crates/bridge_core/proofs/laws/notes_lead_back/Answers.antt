use Rattle.bridge_core.proofs.Telling.{all_notes_lead}
use Rattle.bridge_core.proofs.laws.notes_lead_back.Goals as goal

pub returns : goal.returns
returns c who lanes lane start before told h all = (
  all_notes_lead who lanes lane start before told c.found_is_what_was_sent.ensures.found
      c.found_is_what_was_sent.ensures.all
      (c.streams_are_routed_lists.ensures who lanes start before told.block.ssrc h all),
  tt,
)
