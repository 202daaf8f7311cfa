use Rattle.std.proofs.Common.{Some, None, refl, sym, ◌∙◌, subst}
use Rattle.operator_connection.specs.Connection.{CallerOf}
use Rattle.operator_connection.specs.Deeds.{first_seated, round_seated}
use Rattle.operator_connection.specs.Talks.{IsTurn}
use Rattle.operator_connection.proofs.CallerLemmas.{round_cut, round_whole, heard_turn, other_turn}
use Rattle.operator_connection.proofs.caller.Caller.round.Goals as goal

pub returns-in-Some : goal.returns-in-Some
returns-in-Some g c =
    let deeds = first_seated (Some c.in-Some.now) in (
      deeds,
      subst (λ (v : CallerOf). IsTurn v.connection.heeded deeds) c.self.view_is
          (heard_turn c.self.inside.heard (Some c.in-Some.now) (sym c.is_some.ensures ∙ c.if-is_some.true)),
      (
        (c.args.desk.now, c.moment.new.self.connection),
        (refl, c.in-Some.ensures),
        ((c.answer_at.new.desk, c.answer_at.new.self.connection), c.answer_at.ensures, refl),
      ),
    )

pub returns-in_default : goal.returns-in_default
returns-in_default g c = (
  first_seated None,
  subst (λ (v : CallerOf). IsTurn v.connection.heeded (first_seated None)) c.self.view_is
      (heard_turn c.self.inside.heard None (sym c.is_some.ensures ∙ c.if-is_some.true)),
  ((c.args.desk.now, c.moment.new.self.connection), (refl, c.in_default.ensures), refl),
)

pub returns-in-Some-begin : goal.returns-in-Some-begin
returns-in-Some-begin g c =
    let b = c.begin.ensures in (
      round_seated b.0,
      subst (λ (v : CallerOf). IsTurn v.connection.heeded (round_seated b.0)) c.self.view_is
          (other_turn c.self.inside.heard b.0 (sym c.is_some.ensures ∙ c.if-is_some.false)),
      round_whole g.D.LineDesk.replies g.D.LineDesk.shows b.0 c.in-Some-begin.now c.args.desk.now c.read.new.desk
          c.tell_news.new.desk _ _ _ _ _ b.2 (sym b.1 ∙ c.in-Some-begin.is) c.read.ensures c.tell_news.ensures
          c.write.ensures,
    )

pub returns-in_default-begin : goal.returns-in_default-begin
returns-in_default-begin g c =
    let b = c.begin.ensures in (
      round_seated b.0,
      subst (λ (v : CallerOf). IsTurn v.connection.heeded (round_seated b.0)) c.self.view_is
          (other_turn c.self.inside.heard b.0 (sym c.is_some.ensures ∙ c.if-is_some.false)),
      round_cut g.D.LineDesk.replies g.D.LineDesk.shows b.0 c.args.desk.now _ _ b.2 (sym b.1 ∙ c.in_default-begin.is),
    )
