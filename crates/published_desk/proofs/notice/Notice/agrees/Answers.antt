use Rattle.std.proofs.Common.{◌≤◌, ap, subst, arith, length, List}
use mathlib.Core.List.{IsPrefix}
use Rattle.desk_rows.specs.Edit.{EditOf}
use Rattle.published_desk.proofs.Prefixes.{prefix_shorter}
use Rattle.published_desk.proofs.notice.Notice.agrees.Goals as goal

pub returns : goal.returns
returns c =
    let both = c.learn.new.self.log in
    let this : IsPrefix c.self.inside.seen.log both =
    subst (λ (l : List (List EditOf)). IsPrefix l both) (ap (λ s. s.log) c.again-both.ensures) c.learn.ensures.2 in
    let less : length c.earlier.inside.seen.log ≤ length c.self.inside.seen.log =
    omega
    (arith, c.requires.earlier, ap (λ n. length n.lists) c.self.view_is, ap (λ n. length n.lists) c.earlier.view_is) in
    rw (← c.self.view_is, ← c.earlier.view_is)
    (prefix_shorter c.earlier.inside.seen.log c.self.inside.seen.log both c.learn.ensures.3 this less)
