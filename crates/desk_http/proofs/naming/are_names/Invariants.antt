-- So far all are names: those that are left decide.
use Rattle.std.proofs.Common.{◌≡◌, drop}
use Rattle.json.specs.Value.{members_view}
use Rattle.desk_http.specs.Names.{are_names}
use Rattle.desk_http.proofs.naming.are_names.Given as goal

abbrev pub invariant-loop-member : goal.invariant-loop-member
invariant-loop-member l = are_names (members_view (drop l.member-index l.members)) ≡ are_names (members_view l.members)
