use Rattle.std.proofs.Common.{◌≡◌, ◌++◌, take}
use Rattle.event_loop.specs.Logs.{begun_octets, tried_list}
use Rattle.event_loop.proofs.logs.TryLog.octets.Given as goal

-- the octets so far are noted
abbrev pub invariant-loop-octet : goal.invariant-loop-octet
invariant-loop-octet l = record {
  more : begun_octets l.self ≡ begun_octets l.fn.self ++ take l.octet-index l.octets;
  same : tried_list l.self ≡ tried_list l.fn.self;
}
