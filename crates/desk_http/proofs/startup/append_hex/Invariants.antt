-- What is written and what is left make the whole text.
use Rattle.std.proofs.Common.{◌≡◌, ◌++◌, drop}
use Rattle.desk_http.specs.Startup.{hex_text}
use Rattle.desk_http.proofs.startup.append_hex.Given as goal

abbrev pub invariant-loop-octet : goal.invariant-loop-octet
invariant-loop-octet l = l.text.items ++ hex_text (drop l.octet-index l.octets) ≡ l.fn.text.items ++ hex_text l.octets
