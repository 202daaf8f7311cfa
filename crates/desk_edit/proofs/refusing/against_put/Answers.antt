use Rattle.std.specs.Prelude.{◌++◌}
use Rattle.std.specs.Option.{option_or}
use Rattle.desk_edit.proofs.Words.{cond, Some, sym, ap, ◌∙◌, names, first_case, lacking, rule_cases, full_cases}
use Rattle.desk_edit.proofs.Words.{audio_cases}
use Rattle.desk_edit.specs.Refusals.{rate_cases}
use Rattle.desk_edit.specs.declared.refusal.Reason.TheVariants as reasons
use Rattle.desk_edit.proofs.refusing.against_put.Goals as goal
use Rattle.desk_edit.proofs.Cases.{first_of_both}

pub returns : goal.returns
returns g c =
    let d = c.args.rows.now in
    let r = c.args.row.now in
    let full_one = full_cases d r in
    let fills = audio_cases d r ++ rate_cases d r in
    let more = full_one ++ fills in
    let rest = lacking d (names r) ++ (rule_cases d r ++ more) in
    let last =
    c.or_next-last.ensures
    ∙ (λ i. option_or (c.fills_room.ensures i) (c.mismatches.ensures i))
    ∙ sym (first_of_both (audio_cases d r) (rate_cases d r)) in
    let full =
    c.or_next-full.ensures ∙ (λ i. option_or (c.fills_table.ensures i) (last i)) ∙ sym (first_of_both full_one fills) in
    let rules =
    c.or_next.ensures
    ∙ (λ i. option_or (c.breaks_rules.ensures i) (full i))
    ∙ sym (first_of_both (rule_cases d r) more) in
    let lacks = c.lacks_any.ensures ∙ ap (λ ks. first_case (lacking d ks)) c.names.ensures in
    c.or_next-2.ensures
    ∙ (λ i. option_or (lacks i) (rules i))
    ∙ sym (first_of_both (lacking d (names r)) (rule_cases d r ++ more))
    ∙ sym (ap (λ b. cond b (Some reasons.Exists) (first_case rest)) (sym c.is_there.ensures ∙ c.if-is_there.false))
