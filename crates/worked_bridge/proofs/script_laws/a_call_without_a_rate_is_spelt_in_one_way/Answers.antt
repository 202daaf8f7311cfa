use Rattle.std.proofs.Common.{sym, subst, ◌∙◌}
use Rattle.desk_edit.specs.Asked.{asked_by}
use Rattle.desk_text.specs.Words.{words_of}
use Rattle.desk_text.specs.Calls.{SpellCall}
use Rattle.worked_bridge.proofs.Spoken.{spoken, same_words, member_words}
use Rattle.worked_bridge.proofs.script_laws.a_call_without_a_rate_is_spelt_in_one_way.Goals as goal

pub returns-clause-undo : goal.returns-clause-undo
returns-clause-undo c last one_is other_is =
    let one = c.call_lines.ensures.spelled _ _ (spoken c.args.first.now (asked_by c.in-Ok.one) c.in-Ok.ensures.call) in
    let other =
    c.call_lines.ensures.spelled _ _
    (spoken c.args.second.now (asked_by c.in-Ok-parse_desk.other) c.in-Ok-parse_desk.ensures.call) in
    same_words c.args.first.now c.args.second.now (subst (SpellCall (words_of c.args.first.now)) one_is one.0
    ∙ sym (subst (SpellCall (words_of c.args.second.now)) other_is other.0))

pub returns-clause-member : goal.returns-clause-member
returns-clause-member c m one_is other_is =
    let one = c.call_lines.ensures.spelled _ _ (spoken c.args.first.now (asked_by c.in-Ok.one) c.in-Ok.ensures.call) in
    let other =
    c.call_lines.ensures.spelled _ _
    (spoken c.args.second.now (asked_by c.in-Ok-parse_desk.other) c.in-Ok-parse_desk.ensures.call) in
    same_words c.args.first.now c.args.second.now (member_words _ m
    (subst (SpellCall (words_of c.args.first.now)) one_is one.0)
    ∙ sym (member_words _ m (subst (SpellCall (words_of c.args.second.now)) other_is other.0)))
