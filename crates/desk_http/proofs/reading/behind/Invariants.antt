-- What is behind the words that are left is what is behind all of them.
use Rattle.std.proofs.Common.{◌≡◌, ◌-◌}
use denote.Text.{Utf8}
use denote.Shadow.{shadow}
use Rattle.desk_http.specs.Readings.{behind}
use Rattle.desk_http.proofs.reading.behind.Given as goal

abbrev pub invariant-loop-at : goal.invariant-loop-at
invariant-loop-at l = shadow (Utf8 l.rest) × (behind (l.count - l.at) l.rest ≡ behind l.count l.fn.line)
