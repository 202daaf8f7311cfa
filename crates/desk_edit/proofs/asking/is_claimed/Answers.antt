use Rattle.std.specs.Prelude.{◌||◌}
use Rattle.desk_edit.proofs.Words.{sym, ap, ◌∙◌, list_any, makes, is_claimed}
use Rattle.desk_rows.specs.declared.row.Row.TheVariants as rows
use Rattle.desk_rows.specs.declared.claim.Claim.TheVariants as claims
use Rattle.desk_edit.proofs.asking.is_claimed.Goals as goal
use Rattle.desk_edit.proofs.Claimed.{ssrc_claimed}

pub returns-else-is_stream : goal.returns-else-is_stream
returns-else-is_stream g c =
    let d = c.args.rows.now in
    c.any_member_claims-else-is_stream.ensures
    ∙ (λ i. list_any (λ m. makes (c.in-Ssrc.is i) (rows.Member m)) (c.members-else-is_stream.ensures.members i))
    ∙ sym (ap (λ b. b || list_any (λ m. makes (claims.Ssrc c.in-Ssrc.ssrc) (rows.Member m)) d.members)
    (sym c.is_stream.ensures.there ∙ c.if-is_stream.false))
    ∙ sym (ssrc_claimed d c.is_stream.ensures.good c.in-Ssrc.ssrc) ∙ sym (ap (is_claimed d) c.in-Ssrc.is)
