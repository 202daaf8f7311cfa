-- What is written and what is left make the whole value.
use Rattle.std.proofs.Common.{◌≡◌, ◌++◌, drop}
use Rattle.desk_http.specs.Metrics.{escaped}
use Rattle.desk_http.proofs.labelling.append_escaped.Given as goal

abbrev pub invariant-loop-octet : goal.invariant-loop-octet
invariant-loop-octet l = l.out.items ++ escaped (drop l.octet-index l.text) ≡ l.fn.out.items ++ escaped l.text
