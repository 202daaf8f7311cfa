use Rattle.std.proofs.Common.{◌∙◌, ap, ℕ, Option, sym, subst, IfOk}
use Rattle.rtcp_codec.specs.View.{packets_of}
use Rattle.topology.specs.Looking.{member_from}
use Rattle.ingress.specs.declared.outcome.Outcome.TheVariants.{Unknown}
use Rattle.ingress.specs.inner.Effects.{effect_of}
use Rattle.ingress.specs.Taking.{of_member}
use Rattle.ingress.specs.Ingresses.{Moves}
use Rattle.ingress.proofs.Read.{stays}
use Rattle.ingress.proofs.AboutLemmas.{about_only}
use Rattle.ingress.proofs.ReceivedLemmas.{none_began}
use Rattle.ingress.proofs.ingress.Ingress.control.Goals as goal

pub returns-in-None-clause-moves : goal.returns-in-None-clause-moves
returns-in-None-clause-moves g c =
    stays _ Unknown c.args.self.now
    (λ voice s.
    of_member (member_from c.args.rows.now c.args.from.now) c.args.from.now c.args.moment
    (packets_of c.args.packets.now) s)
    c.only.ensures.effect
    (λ voice s.
    ap (λ m. of_member m c.args.from.now c.args.moment (packets_of c.args.packets.now) s)
    (sym c.member_from.ensures ∙ c.in-None.is))

pub returns-in-Some-clause-moves : goal.returns-in-Some-clause-moves
returns-in-Some-clause-moves g c =
    subst (λ (m : Option ℕ).
    IfOk c.heard.result (λ effect.
    Moves c.args.self.now c.heard.new.self (effect_of effect)
    (λ voice s. of_member m c.args.from.now c.args.moment (packets_of c.args.packets.now) s)))
    (sym c.in-Some.is ∙ c.member_from.ensures) (c.heard.ensures.moves c.in-Some.field-0)

pub returns-in-None-clause-about : goal.returns-in-None-clause-about
returns-in-None-clause-about g c = about_only c.args.from.now _ _ c.only.ensures.effect

pub returns-in-None-clause-begins : goal.returns-in-None-clause-begins
returns-in-None-clause-begins g c = c.only.ensures.begins ∙ none_began c.args.self.now.epochs
