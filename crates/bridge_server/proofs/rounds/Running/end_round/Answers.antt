use Rattle.std.proofs.Common.{◌∙◌, Option, Some, None, sym, subst}
use Rattle.event_loop.specs.Runs.{FrontAt}
use Rattle.event_loop.specs.declared.running.BegunRound.{BegunRound}
use Rattle.bridge_server.specs.OneRun.{HaveBegun}
use Rattle.bridge_server.specs.inner.Running.{HasComeTo}
use Rattle.bridge_server.proofs.RoundLemmas.{ended, under_way}
use Rattle.bridge_server.proofs.rounds.Running.end_round.Goals as goal

pub invariant_of-self-2 : goal.invariant_of-self-2
invariant_of-self-2 g c =
    let run = c.self.invariant in
    let old = c.self.inside.rounds in
    let new = c.end_round.new.self in
    let begun = subst (λ (b : Option BegunRound). HasComeTo run.first old.state old.reader b)
    (sym c.take.ensures.value ∙ c.in-Some.is) run.ran in
    record {
      set_up = record {
        begun = subst (HaveBegun g.H.Setup.who g.H.Setup.lanes g.H.DeskBrand.start g.H.DeskBrand.publisher)
            (sym c.end_round.ensures.lanes) run.set_up.begun;
        asker = c.end_round.ensures.asker ∙ run.set_up.asker;
      };
      first = run.first;
      fresh = run.fresh;
      ran = subst (λ (b : Option BegunRound). HasComeTo run.first new.state new.reader b) (sym c.take.ensures.after)
          (ended c.end_round.result run.first new.state new.reader
          (c.end_round.ensures.run run.first (under_way run.first old.state old.reader c.in-Some.begun begun))
          c.end_round.ensures.over);
    }
