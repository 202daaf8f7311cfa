use Rattle.std.proofs.Common.{◌∙◌}
use Rattle.std.proofs.lemmas.Result.{IfOk-weaker}
use Rattle.desk_groups.specs.Making.{lists_of}
use Rattle.desk_groups.proofs.Groups.{made_again}
use Rattle.desk_groups.proofs.grouping.groups_of.Goals as goal

pub returns-clause-accepted : goal.returns-clause-accepted
returns-clause-accepted g c =
    IfOk-weaker c.grouped.result _ _ (λ groups cut.
    (made_again c.good_desks_stay_good.ensures c.args.rows.now c.members-members.ensures.good _
    (c.deref.ensures.value ∙ c.in_ok-commands.ensures) (lists_of groups.items) cut).accepted) c.grouped.ensures

pub returns-clause-again : goal.returns-clause-again
returns-clause-again g c =
    IfOk-weaker c.grouped.result _ _ (λ groups cut.
    (made_again c.good_desks_stay_good.ensures c.args.rows.now c.members-members.ensures.good _
    (c.deref.ensures.value ∙ c.in_ok-commands.ensures) (lists_of groups.items) cut).again) c.grouped.ensures

pub returns-clause-accepted_beside : goal.returns-clause-accepted_beside
returns-clause-accepted_beside g c =
    IfOk-weaker c.grouped.result _ _ (λ groups cut.
    (made_again c.good_desks_stay_good.ensures c.args.rows.now c.members-members.ensures.good _
    (c.deref.ensures.value ∙ c.in_ok-commands.ensures) (lists_of groups.items) cut).behind.accepted) c.grouped.ensures

pub returns-clause-beside : goal.returns-clause-beside
returns-clause-beside g c =
    IfOk-weaker c.grouped.result _ _ (λ groups cut.
    (made_again c.good_desks_stay_good.ensures c.args.rows.now c.members-members.ensures.good _
    (c.deref.ensures.value ∙ c.in_ok-commands.ensures) (lists_of groups.items) cut).behind.beside) c.grouped.ensures

pub returns-clause-few : goal.returns-clause-few
returns-clause-few g c =
    IfOk-weaker c.grouped.result _ _ (λ groups cut.
    (made_again c.good_desks_stay_good.ensures c.args.rows.now c.members-members.ensures.good _
    (c.deref.ensures.value ∙ c.in_ok-commands.ensures) (lists_of groups.items) cut).behind.few) c.grouped.ensures

pub returns-clause-sized : goal.returns-clause-sized
returns-clause-sized g c =
    IfOk-weaker c.grouped.result _ _ (λ groups cut.
    (made_again c.good_desks_stay_good.ensures c.args.rows.now c.members-members.ensures.good _
    (c.deref.ensures.value ∙ c.in_ok-commands.ensures) (lists_of groups.items) cut).behind.sized) c.grouped.ensures
