use Rattle.std.proofs.Common.{◌∙◌, sym}
use Rattle.std.proofs.lemmas.Option.{same_Some}
use Rattle.front_settings.proofs.SettingsLemmas.{blank_is_empty}
use Rattle.front_settings.proofs.reading.settings.Goals as goal

pub returns-in-Ok-clause-memory : goal.returns-in-Ok-clause-memory
returns-in-Ok-clause-memory c = λ short blank.
    c.from_table.ensures.memory short (same_Some _ _ (sym c.in-Ok.ensures.ok ∙ blank_is_empty c.args.text.now blank))
