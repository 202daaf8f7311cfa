use Rattle.std.proofs.Common.{◌≡◌}
use Rattle.std.specs.BTreeMap.{keys}
use Rattle.front_settings.proofs.SettingsLemmas.{first_unknown}
use Rattle.front_settings.proofs.values.unknown_in.Given as goal

-- the keys so far are known
abbrev pub invariant-loop-key : goal.invariant-loop-key
invariant-loop-key l =
    (goal.iterator-loop-key).can_next l.key-iterator × (goal.iterator-loop-key).is_finite l.key-iterator
    × (first_unknown (keys l.table) ≡ first_unknown l.key-iterator)
