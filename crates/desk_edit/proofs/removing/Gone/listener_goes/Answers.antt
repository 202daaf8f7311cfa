use Rattle.std.specs.Prelude.{◌&&◌}
use Rattle.desk_edit.proofs.Words.{not, sym, ap, ◌∙◌, ne_eqb, has}
use Rattle.desk_rows.specs.declared.key.Key.TheVariants as keys
use Rattle.desk_edit.proofs.removing.Gone.listener_goes.Goals as goal
use Rattle.desk_edit.proofs.GoneLemmas.{name_goes_at, no_member_goes, own_listener}

pub returns-else-number-member : goal.returns-else-number-member
returns-else-number-member g c =
    let d = c.args.self.now.going.rows.now in
    let n = c.in-Member.number in
    let other = ne_eqb n c.args.member c.if-number-member.false in
    other ∙ sym (ap (λ b. b && has d (keys.Member n)) other)
    ∙ sym (ap (λ k. name_goes_at d k (keys.Member c.args.member)) c.in-Member.is ∙ own_listener d n c.args.member)

pub returns-else-not-self : goal.returns-else-not-self
returns-else-not-self g c =
    let x = c.args.self.now in
    ap not c.if-not-self.false
    ∙ sym (no_member_goes x.going.rows.now x.going.key x.going.good x.low (x.members c.if-not-self.false) c.args.member)
