-- A desk by the lists that the code has at hand. No public clause cites it.
use Rattle.std.specs.Prelude.{ℕ, List}
use Rattle.desk_rows.specs.declared.row.Member.{Member}
use Rattle.desk_rows.specs.declared.row.Row.{Row}
use Rattle.desk_rows.specs.Desk.{Desk}

abbrev pub desk_of : ℕ → List Member → List Row → Desk
desk_of bridge_ssrc members others = record { bridge_ssrc = bridge_ssrc; members = members; others = others }
