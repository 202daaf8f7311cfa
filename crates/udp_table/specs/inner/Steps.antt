-- What is kept, octet by octet.
use Rattle.std.specs.Prelude.{ℕ, [], Option, Result, nat_eq, if◌then◌else◌}
use Rattle.udp_table.specs.Table.{longer, line_tells, or_else}
use Rattle.udp_table.specs.Kept.{Kept}
use Rattle.udp_table.specs.declared.fault.TableFault.{TableFault}

-- what was told, or else what the present line tells
abbrev pub told_or : Kept → Option (Result ℕ TableFault)
told_or k = or_else k.told (line_tells k.inode k.rest)

-- what is kept with one more octet
abbrev pub kept_with : Kept → ℕ → Kept
kept_with k octet =
    if nat_eq octet 10 then record { inode = k.inode; told = told_or k; rest = [] }
    else record { inode = k.inode; told = k.told; rest = longer k.rest octet }
