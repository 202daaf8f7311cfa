use Rattle.std.specs.Prelude.{◌+◌}
use Rattle.desk_rows.specs.declared.row.Row.TheVariants.{Member}
use Rattle.desk_rows.specs.declared.row.Member.{Member as MemberRow}
use Rattle.desk_rows.specs.laws.Words.{nat_eq, ap, sym, ◌∙◌, count_by, go_count, come_count}
use Rattle.reversible_rows.specs.declared.judging.counting.Test.TheVariants.{Makes}
use Rattle.reversible_rows.specs.inner.Tests.{passes}
use Rattle.desk_rows.proofs.Counts.{rows_count}
use Rattle.reversible_rows.proofs.OverlayLemmas.{one_is}
use Rattle.reversible_rows.proofs.judging.overlay.Overlay.has_one.Goals as goal

pub returns : goal.returns
returns g c =
    let x = c.args.self.now.of in
    let p = passes (Makes c.args.claim) in
    let members = c.count_members.ensures ∙ ap (count_by (λ (m : MemberRow). p (Member m))) c.members.ensures.members in
    let others = c.count_rows.ensures ∙ ap (count_by p) c.others.ensures.rows in
    (λ i. nat_eq ((members i + others i) + c.count_coming.ensures.count i) (1 + c.count_going.ensures.count i))
    ∙ ap (λ n. nat_eq (n + come_count p x.edit.now) (1 + go_count p x.edit.now)) (sym (rows_count p x.rows.now))
    ∙ one_is p x.rows.now x.edit.now x.good x.apt
