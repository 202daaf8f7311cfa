use Rattle.std.specs.Prelude.{◌&&◌}
use Rattle.desk_rows.specs.laws.Words.{ap, sym, ◌∙◌, places_rise, can_put, take_at}
use Rattle.desk_rows.proofs.ExchangeLemmas.{taken_few, put_places}
use Rattle.reversible_rows.proofs.judging.exchange.can_move.Goals as goal

pub overflow_sub-members : goal.overflow_sub-members
overflow_sub-members c =
    taken_few c.args.taken.now c.args.members.now (sym c.can_be_taken.ensures ∙ c.if-not-can_be_taken.false)

pub returns : goal.returns
returns c =
    let ms = c.args.members.now in
    let can = sym c.can_be_taken.ensures ∙ c.if-not-can_be_taken.false in
    c.can_be_put.ensures ∙ ap (λ b. places_rise c.args.put.now && b) (put_places c.args.taken.now ms c.args.put.now can)
    ∙ ap (λ b. b && (places_rise c.args.put.now && can_put c.args.put.now (take_at c.args.taken.now ms))) (sym can)
