use Rattle.std.proofs.Common.{◌≡◌, ◌++◌, take}
use Rattle.std.specs.List.{flat_map}
use Rattle.operator_lines.specs.Help.{form_line}
use Rattle.operator_lines.proofs.helping.append_forms.Given as goal

-- what is out so far
abbrev pub invariant-loop-topic : goal.invariant-loop-topic
invariant-loop-topic l = l.out.items ≡ l.fn.out.items ++ flat_map form_line (take l.topic-index l.topics)
