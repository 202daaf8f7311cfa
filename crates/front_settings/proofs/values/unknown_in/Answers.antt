use Rattle.std.proofs.Common.{Some, ap, sym, ◌∙◌}
use Rattle.front_settings.specs.Settings.{is_known}
use Rattle.front_settings.proofs.SettingsLemmas.{first_unknown, first_is_least, known_more, unknown_next}
use Rattle.front_settings.proofs.values.unknown_in.Goals as goal

pub loop-key-preserved : goal.loop-key-preserved
loop-key-preserved c = (
  tt,
  tt,
  c.loop-key.invariant.2 ∙ (ap first_unknown c.in-Some.ensures.steps
      ∙ known_more c.in-Some.key.now _
      (sym (ap is_known c.as_bytes.ensures.value) ∙ (sym c.is_known.ensures ∙ c.if-not-is_known.false))),
)

pub returns-then-not-is_known : goal.returns-then-not-is_known
returns-then-not-is_known c =
    ap Some c.as_str.ensures.value
    ∙ (sym (unknown_next c.in-Some.key.now _
    (sym (ap is_known c.as_bytes.ensures.value) ∙ (sym c.is_known.ensures ∙ c.if-not-is_known.true)))
    ∙ (sym (ap first_unknown c.in-Some.ensures.steps)
    ∙ (sym c.loop-key.invariant.2 ∙ first_is_least _ c.keys-key-items.ensures.ordered)))

pub returns : goal.returns
returns c =
    sym (ap first_unknown c.in-None.ensures.steps.0)
    ∙ (sym c.loop-key.invariant.2 ∙ first_is_least _ c.keys-key-items.ensures.ordered)
