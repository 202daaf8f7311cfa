-- So far no part is about a row that is touched: those that are left decide.
use Rattle.std.proofs.Common.{◌≡◌, drop, map}
use Rattle.desk_http.specs.Newer.{are_touched_by}
use Rattle.desk_http.proofs.newer.are_touched_by.Given as goal

abbrev pub invariant-loop-part : goal.invariant-loop-part
invariant-loop-part l =
    are_touched_by (map (λ x. x.now) l.others) (map (λ x. x.now) (drop l.part-index l.parts))
    ≡ are_touched_by (map (λ x. x.now) l.others) (map (λ x. x.now) l.parts)
