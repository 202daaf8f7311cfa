use Rattle.std.proofs.Common.{◌++◌}
use Rattle.event_loop.proofs.TurnLemmas.{done_both}
use Rattle.event_loop.proofs.StepLemmas.{err_on_ok, on_ok_map, are_due}
use Rattle.event_loop.proofs.rounds.Rounds.take_due.Goals as goal

pub returns-in_err-want_pictures : goal.returns-in_err-want_pictures
returns-in_err-want_pictures g c =
    let b = c.in_ok-beat.ensures in
    let p = c.want_pictures.ensures in (
      b.0 ++ p.0,
      done_both b.0 p.0 _ _ _ b.1 p.1,
      err_on_ok _ c.from_residual-in_err-want_pictures.result c.from_residual-in_err-want_pictures.ensures.0,
    )

pub returns : goal.returns
returns g c =
    let b = c.in_ok-beat.ensures in
    let p = c.in_ok-want_pictures.ensures in
    let r = c.report.ensures in (
      b.0 ++ (p.0 ++ r.0),
      done_both b.0 (p.0 ++ r.0) _ _ _ b.1 (done_both p.0 r.0 _ _ _ p.1 r.1),
      on_ok_map c.report.result
          (λ k. are_due c.args.version c.args.rows.now c.args.now b.0 p.0 r.0 b.2.0 k.0 b.2.1 p.2 k.1) r.2,
    )
