use Rattle.std.proofs.Common.{◌≡◌, Bool, ◌∷◌, [], ◌++◌, ℕ, List, take, refl, ap, sym, subst, ◌∙◌}
use Rattle.std.specs.Bool.{MatchBool}
use Rattle.std.specs.declared.alloc.Global.{Global}
use Rattle.ingress.specs.declared.received.Received.{Received}
use Rattle.bridge_stats.specs.declared.others.Limited.{Limited}
use Rattle.bridge_stats.specs.declared.taken.TakenIn.{TakenIn}
use Rattle.bridge_stats.specs.Noted.{taken_of}
use Rattle.bridge_stats.specs.Paths.{AreReported}
use Rattle.media_front.specs.Fronts.{Arrival}
use Rattle.event_loop.specs.Counted.{all_pass}
use Rattle.event_loop.specs.Came.{datagram, other, nothing, came_by}
use Rattle.event_loop.specs.Turns.{History, HaveDone, TakesArrival, history, passed, took, lost}
use Rattle.event_loop.proofs.TurnLemmas.{done_one}
use Rattle.event_loop.proofs.StepLemmas.{passed_at, err_if_ok}
use Rattle.event_loop.proofs.state.FrontState.take_next.Goals as goal

pub returns-in-Other-clause-done : goal.returns-in-Other-clause-done
returns-in-Other-clause-done g c =
    let a = c.self.inside in
    let came = g.I.Inlet.came a.inlet in
    let told = g.C.Watch.told a.watch in
    let tried = g.W.Wire.attempts a.wire in
    let more = g.I.Inlet.came c.read.new.self in
    let new = history a.media more told tried a.ticked a.stats a.kept in (
      passed other ∷ [],
      subst (λ (h : History g.row.P.Denot g.row.S.Denot). HaveDone (passed other ∷ []) h new) c.self.view_is
          (passed_at a.media came more told told tried a.ticked a.stats a.kept other
          (c.in_ok-from.ensures.ok ∙ ap (λ r. came ++ came_by r c.read.new.chunk.items ∷ []) c.in-Other.is) refl),
      refl,
    )

pub returns-in-Nothing-clause-done : goal.returns-in-Nothing-clause-done
returns-in-Nothing-clause-done g c =
    let a = c.self.inside in
    let came = g.I.Inlet.came a.inlet in
    let told = g.C.Watch.told a.watch in
    let tried = g.W.Wire.attempts a.wire in
    let more = g.I.Inlet.came c.read.new.self in
    let new = history a.media more told tried a.ticked a.stats a.kept in (
      passed nothing ∷ [],
      subst (λ (h : History g.row.P.Denot g.row.S.Denot). HaveDone (passed nothing ∷ []) h new) c.self.view_is
          (passed_at a.media came more told told tried a.ticked a.stats a.kept nothing
          (c.in_ok-from.ensures.ok ∙ ap (λ r. came ++ came_by r c.read.new.chunk.items ∷ []) c.in-Nothing.is) refl),
      refl,
    )

pub returns-in_err-moment-clause-done : goal.returns-in_err-moment-clause-done
returns-in_err-moment-clause-done g c =
    let a = c.self.inside in
    let came = g.I.Inlet.came a.inlet in
    let told = g.C.Watch.told a.watch in
    let tried = g.W.Wire.attempts a.wire in
    let more = g.I.Inlet.came c.read.new.self in
    let later = g.C.Watch.told c.now.new.self in
    let new = history a.media more later tried a.ticked a.stats a.kept in
    let one = datagram c.in-Datagram.from (take c.in-Datagram.octets c.read.new.chunk.items) in (
      passed one ∷ [],
      subst (λ (h : History g.row.P.Denot g.row.S.Denot). HaveDone (passed one ∷ []) h new) c.self.view_is
          (passed_at a.media came more told later tried a.ticked a.stats a.kept one
          (c.in_ok-from.ensures.ok ∙ ap (λ r. came ++ came_by r c.read.new.chunk.items ∷ []) c.in-Datagram.is)
          c.in_err-moment.ensures.err),
      err_if_ok _ c.from_residual-in_err-moment.result c.from_residual-in_err-moment.ensures.0,
    )

pub returns-in_err-received-clause-done : goal.returns-in_err-received-clause-done
returns-in_err-received-clause-done g c =
    let a = c.self.inside in
    let came = g.I.Inlet.came a.inlet in
    let told = g.C.Watch.told a.watch in
    let tried = g.W.Wire.attempts a.wire in
    let arrival : Arrival =
    record {
      desk = c.args.rows.now;
      from = c.in-Datagram.from;
      moment = c.in_ok-moment.moment;
      octets = take c.in-Datagram.octets c.deref.result.now;
    } in
    let turn = lost c.catch_up.result arrival in
    let old = history a.media came told tried a.ticked a.stats a.kept in
    let new =
    history c.datagram.new.self (g.I.Inlet.came c.read.new.self) (g.C.Watch.told c.now.new.self)
    (g.W.Wire.attempts c.datagram.new.wire) c.catch_up.new.ticked a.stats a.kept in (
      turn ∷ [],
      subst (λ (h : History g.row.P.Denot g.row.S.Denot). HaveDone (turn ∷ []) h new) c.self.view_is
          (done_one turn old new (record {
            read = record {
              came = c.in_ok-from.ensures.ok
                  ∙ (ap (λ r. came ++ came_by r c.read.new.chunk.items ∷ []) c.in-Datagram.is
                  ∙ ap (λ (l : List ℕ). came ++ datagram c.in-Datagram.from (take c.in-Datagram.octets l) ∷ [])
                  (sym c.deref.ensures.value));
              told = c.in_ok-moment.ensures.ok;
              rising = c.in_ok-moment.ensures.rising;
            };
            mid = c.catch_up.new.media;
            time =
                record {
                  right = c.catch_up.ensures.late;
                  ticked = c.catch_up.ensures.last;
                  caught = c.catch_up.ensures.did;
                };
            ingress = c.in_err-received.ensures.ingress;
            same = c.in_err-received.ensures.err;
            asker = c.datagram.ensures.asker;
            tried = c.in_err-received.ensures.unsent;
            stats = refl;
            kept = refl;
          })),
      err_if_ok _ c.from_residual-in_err-received.result c.from_residual-in_err-received.ensures.0,
    )

pub returns-clause-done : goal.returns-clause-done
returns-clause-done g c =
    let a = c.self.inside in
    let came = g.I.Inlet.came a.inlet in
    let told = g.C.Watch.told a.watch in
    let tried = g.W.Wire.attempts a.wire in
    let arrival : Arrival =
    record {
      desk = c.args.rows.now;
      from = c.in-Datagram.from;
      moment = c.in_ok-moment.moment;
      octets = take c.in-Datagram.octets c.deref.result.now;
    } in
    let received = c.in_ok-received.received in
    let is = c.in_ok-received.ensures.received in
    let mid = c.catch_up.new.media in
    let counted : TakenIn = taken_of received in
    let ended = c.ended_by-ended.result in
    let turn = took c.catch_up.result arrival received.outcome ended in
    let old = history a.media came told tried a.ticked a.stats a.kept in
    let new =
    history c.datagram.new.self (g.I.Inlet.came c.read.new.self) (g.C.Watch.told c.now.new.self)
    (g.W.Wire.attempts c.datagram.new.wire) c.catch_up.new.ticked c.note.new.self a.kept in
    let does : TakesArrival c.catch_up.result arrival received.outcome ended old new = record {
      read = record {
        came = c.in_ok-from.ensures.ok
            ∙ (ap (λ r. came ++ came_by r c.read.new.chunk.items ∷ []) c.in-Datagram.is
            ∙ ap (λ (l : List ℕ). came ++ datagram c.in-Datagram.from (take c.in-Datagram.octets l) ∷ [])
            (sym c.deref.ensures.value));
        told = c.in_ok-moment.ensures.ok;
        rising = c.in_ok-moment.ensures.rising;
      };
      mid = mid;
      time =
          record { right = c.catch_up.ensures.late; ticked = c.catch_up.ensures.last; caught = c.catch_up.ensures.did };
      takes = c.in_ok-received.ensures.takes;
      ends = c.ended_by-ended.ensures arrival mid.ingress c.datagram.new.self.ingress is;
      same = c.datagram.ensures.same;
      asker = c.datagram.ensures.asker;
      counted =
          record {
            taken = counted;
            is =
                record {
                  found = is.found;
                  none = is.none;
                  rest = ap (λ (r : Received Global). taken_of r) is.rest;
                  heard = is.heard;
                };
            noted = c.note.ensures.noted;
            reports =
                subst (λ (p : Bool).
                MatchBool p
                (AreReported arrival.desk counted.outcome counted.from counted.moment arrival.octets a.stats.reports
                c.note.new.self.reports)
                (c.note.new.self.reports ≡ a.stats.reports))
                (c.all_pass-all_pass.ensures
                ∙ (ap (λ (l : Limited). all_pass l c.limited.result) c.limited-before.ensures
                ∙ ap (λ (l : Limited). all_pass mid.limited l) c.limited.ensures))
                (c.note.ensures.reports arrival.octets is.reports);
          };
      kept = refl;
    } in (
      turn ∷ [],
      subst (λ (h : History g.row.P.Denot g.row.S.Denot). HaveDone (turn ∷ []) h new) c.self.view_is
          (done_one turn old new does),
      (
        c.catch_up.result,
        arrival,
        refl,
        ap (λ (r : Received Global). r.from) is.rest,
        ap (λ (r : Received Global). r.moment) is.rest,
        refl,
      ),
    )
