use Rattle.std.proofs.Common.{true, false, refl, ap, subst, rules}
use Rattle.operator_connection.specs.Connection.{CallerOf, Connection, NotesStop, connection}
use Rattle.operator_connection.specs.Deeds.{look_failed, looked_at}
use Rattle.operator_connection.proofs.caller.Caller.begin.Goals as goal

pub returns-in_err-now : goal.returns-in_err-now
returns-in_err-now g c = (
  look_failed c.in_ok-wait.field-0,
  search rules,
  (
    c.wait.new.self.connection,
    c.in_ok-wait.ensures,
    (c.moment.new.self.connection, c.in_err-now.ensures, refl),
  ),
)

pub returns-then-load : goal.returns-then-load
returns-then-load g c =
    let b = c.self.inside in
    let stopped = connection (g.L.CallerLine.acts b.line) c.note_stop.new.self b.ready b.heard in
    let stop = c.note_stop.ensures in (
      looked_at c.in_ok-wait.field-0 c.in_ok-now.now true,
      refl,
      (
        c.wait.new.self.connection,
        c.in_ok-wait.ensures,
        (
          c.moment.new.self.connection,
          c.in_ok-now.ensures,
          (
            stopped,
            subst (λ (s : Connection). NotesStop c.in_ok-now.now s stopped)
                (ap (λ (v : CallerOf). v.connection) c.self.view_is) (record {
                  acts = refl;
                  ready = refl;
                  standing = stop.standing;
                  since = stop.since;
                  silent =
                      record { kept = stop.lines; waiting = stop.outgoing; heeded = refl };
                }),
            refl,
          ),
        ),
      ),
    )

pub returns-else-load : goal.returns-else-load
returns-else-load g c = (
  looked_at c.in_ok-wait.field-0 c.in_ok-now.now false,
  refl,
  (
    c.wait.new.self.connection,
    c.in_ok-wait.ensures,
    (c.moment.new.self.connection, c.in_ok-now.ensures, refl),
  ),
)
