-- What is written and what is left make the whole data.
use Rattle.std.proofs.Common.{◌≡◌, ◌++◌, drop}
use Rattle.std.specs.List.{flat_map}
use Rattle.desk_http.specs.Events.{data_octet}
use Rattle.desk_http.proofs.events.append_data.Given as goal

abbrev pub invariant-loop-octet : goal.invariant-loop-octet
invariant-loop-octet l =
    l.out.items ++ flat_map data_octet (drop l.octet-index l.told) ≡ l.fn.out.items ++ flat_map data_octet l.told
