use Rattle.std.proofs.Common.{◌<◌, ℕ, inl, inr, refl, sym, subst, length-append, vec_capacity}
use Rattle.lane_wire.proofs.on_socket.try_parts.Goals as goal

pub returns-in-Ok : goal.returns-in-Ok
returns-in-Ok g c = inl (c.in-Ok.answer, c.in-Ok.ensures.sent, c.came_of.ensures)

pub returns-in-Err : goal.returns-in-Err
returns-in-Err g c =
    inr (
      c.in-Err.ensures.none,
      refl,
      subst (λ (n : ℕ). vec_capacity c.args.whole.now < n) (sym (length-append c.args.first.now c.args.rest.now))
          c.in-Err.ensures.full,
    )
