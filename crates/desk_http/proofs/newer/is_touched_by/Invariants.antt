-- So far no part touches the row: those that are left decide.
use Rattle.std.proofs.Common.{◌≡◌, drop, map}
use Rattle.desk_http.specs.Newer.{is_touched_by}
use Rattle.desk_http.proofs.newer.is_touched_by.Given as goal

abbrev pub invariant-loop-part : goal.invariant-loop-part
invariant-loop-part l =
    is_touched_by (map (λ x. x.now) (drop l.part-index l.parts)) l.command
    ≡ is_touched_by (map (λ x. x.now) l.parts) l.command
