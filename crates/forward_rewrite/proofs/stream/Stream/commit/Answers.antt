use Rattle.std.proofs.Common.{ap, sym, ◌∙◌, ◌≡◌, subst, refl, ℕ}
use Rattle.forward_rewrite.specs.Streams.{StreamOf, PreparedOf}
use Rattle.forward_rewrite.specs.inner.Row.{Follows}
use Rattle.forward_rewrite.proofs.Rows.{may_go_on, kept-lead}
use Rattle.forward_rewrite.proofs.stream.Stream.commit.Goals as goal

pub push_sent-requires-clause-goes_on : goal.push_sent-requires-clause-goes_on
push_sent-requires-clause-goes_on g c =
    let first : c.prepared.inside.first ≡ c.self.inside.next =
    ap (λ (p : PreparedOf). p.first) c.prepared.view_is
    ∙ c.requires
    ∙ sym (ap (λ (s : StreamOf). s.next) c.self.view_is) in
    may_go_on c.self.inside.window c.prepared.inside.entries.items c.prepared.inside.first c.prepared.inside.next
    (subst (λ (n : ℕ). Follows c.self.inside.window n) (sym first) c.self.invariant.follows) c.prepared.invariant

pub invariant_of-self : goal.invariant_of-self
invariant_of-self g c =
    let first : c.prepared.inside.first ≡ c.self.inside.next =
    ap (λ (p : PreparedOf). p.first) c.prepared.view_is
    ∙ c.requires
    ∙ sym (ap (λ (s : StreamOf). s.next) c.self.view_is) in
    kept-lead c.self.inside.window c.self.inside.window c.push_sent.new.window c.prepared.inside.entries.items
    c.self.inside.next c.prepared.inside.first c.prepared.inside.next c.self.invariant refl first c.prepared.invariant
    c.push_sent.ensures
