use Rattle.std.proofs.Common.{ℕ, List, take, ◌++◌, inl, refl, sym, subst, ◌∙◌}
use Rattle.operator_lines.specs.Fed.{Kept, Brings, StandsFor, texts}
use Rattle.operator_connection.specs.Connection.{CallerOf, connection}
use Rattle.operator_connection.specs.Deeds.{GreetsOctets}
use Rattle.operator_connection.specs.Greeting.{GreetsAll}
use Rattle.operator_connection.specs.declared.greeting.Greeted.{Greeted}
use Rattle.operator_connection.specs.declared.greeting.Greeted.TheVariants as greeted
use Rattle.operator_connection.proofs.CallerLemmas.{stopped_at}
use Rattle.operator_connection.proofs.caller.Caller.hear_without_seat.Goals as goal

pub returns-in-Stopped : goal.returns-in-Stopped
returns-in-Stopped g c =
    let was = c.self.inside in
    let said = c.hear_without_seat-heard.new.self in
    let heard = c.in-Ok.ensures in
    let lines = texts c.in-Ok.field-0.fed.lines.items in
    let stop = c.note_stop.ensures in
    let new = connection (g.L.CallerLine.acts was.line) c.note_stop.new.self was.ready was.heard in
    subst (λ (v : CallerOf). GreetsOctets c.args.now (take c.args.count v.chunk) v.connection new) c.self.view_is
    (record {
      greeted =
          inl (record {
            greeted = greeted.Stopped;
            lines = lines;
            too_long = c.in-Ok.field-0.fed.too_long;
            standing = said.standing;
            brings =
                subst
                (λ (l : List ℕ).
                (before : List ℕ) → StandsFor was.talk.lines before
                → Brings before (take c.args.count l) lines c.in-Ok.field-0.fed.too_long)
                c.deref.ensures.value heard.brought;
            stands = λ before stands.
                subst (λ (k : Kept). StandsFor k (before ++ take c.args.count was.chunk.items)) (sym stop.lines)
                (subst (λ (l : List ℕ). StandsFor said.lines (before ++ take c.args.count l)) c.deref.ensures.value
                (heard.kept before stands));
            greets =
                subst
                (λ (o : List ℕ).
                GreetsAll lines c.in-Ok.field-0.fed.too_long greeted.Stopped was.talk.outgoing o was.talk.standing
                said.standing)
                (sym stop.outgoing)
                (subst
                (λ (how : Greeted).
                GreetsAll lines c.in-Ok.field-0.fed.too_long how was.talk.outgoing said.outgoing was.talk.standing
                said.standing)
                c.in-Stopped.is heard.heard);
            after = stop.standing;
            heeded = refl;
          });
      at =
          record {
            acts = refl;
            ready = refl;
            since = stop.since ∙ stopped_at said.standing c.args.now said.since c.hear_without_seat-heard.ensures.since;
          };
    })
