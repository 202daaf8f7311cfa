-- The first words of lines.
use Rattle.std.proofs.Common.{◌≡◌, not, eqb, true, arith}
use Rattle.std.specs.List.{list_all}
use Rattle.script_text.specs.declared.name.LineKind.{LineKind}
use Rattle.script_text.specs.Requests.{kind_text}

pub kind_free : (k : LineKind) → list_all (λ b. not (eqb b 32)) (kind_text k) ≡ true
kind_free k = grind arith
