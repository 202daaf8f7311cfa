-- So far no call is a newer one: those that are left decide.
use Rattle.std.proofs.Common.{◌≡◌, drop, map}
use Rattle.desk_http.specs.Newer.{newer_call}
use Rattle.desk_http.proofs.newer.newer_call.Given as goal

abbrev pub invariant-loop-logged : goal.invariant-loop-logged
invariant-loop-logged l =
    newer_call l.call (map (λ x. x.now) (drop l.logged-index l.log)) ≡ newer_call l.call (map (λ x. x.now) l.log)
