use Rattle.std.proofs.Common.{◌≡◌, take}
use Rattle.operator_connection.specs.LineLogs.{offered_octets, act_list}
use Rattle.operator_connection.proofs.line_log.LineLog.note_write.Given as goal

-- the octets so far are noted
abbrev pub invariant-loop-octet : goal.invariant-loop-octet
invariant-loop-octet l = record {
  more : offered_octets l.self ≡ take l.octet-index l.octets;
  same : act_list l.self ≡ act_list l.fn.self;
}
