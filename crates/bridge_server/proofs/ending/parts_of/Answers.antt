use Rattle.std.proofs.Common.{◌∙◌, Some, ap, sym, subst}
use Rattle.event_loop.specs.Logs.{read_list, tried_list}
use Rattle.event_loop.specs.Runs.{HasRun, Whole, front_at}
use Rattle.event_loop.specs.Turns.{History}
use Rattle.bridge_server.proofs.RoundLemmas.{at_hand}
use Rattle.bridge_server.proofs.ending.parts_of.Goals as goal

pub returns-clause-left : goal.returns-clause-left
returns-clause-left g c reader is =
    let run = c.running.invariant in
    let rounds = c.running.inside.rounds in
    let here = c.inlet.view_is in
    record {
      first = run.first;
      fresh = run.fresh;
      last = c.into_state.result;
      ran = subst (λ (h : History _ _). HasRun Whole run.first (front_at h (Some reader))) (sym c.into_state.ensures)
          (at_hand run.first rounds.state rounds.reader c.running.inside.begun reader run.ran
          (sym c.take-reader.ensures.value ∙ is));
      same = ap (λ (h : History _ _). h.front) (sym here);
      read = ap (λ (h : History _ _). h.came) (sym here) ∙ ap read_list (sym c.into_log.ensures);
      told = ap (λ (h : History _ _). h.told) (sym here) ∙ sym c.into_log-2.ensures;
      tried = ap (λ (h : History _ _). h.tried) (sym here)
          ∙ ap (λ l. Some (tried_list l)) (sym c.into_log-3.ensures);
    }
