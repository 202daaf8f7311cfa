use Rattle.std.proofs.Common.{◌≡◌, take}
use Rattle.std.specs.Prelude.{fold}
use Rattle.udp_table.specs.inner.Steps.{kept_with}
use Rattle.udp_table.proofs.reader.TableReader.feed.Given as goal

abbrev pub invariant-loop-octet : goal.invariant-loop-octet
invariant-loop-octet l = l.self ≡ fold kept_with l.fn.self (take l.octet-index l.octets)
