-- The tests by which rows are counted. No public clause cites them.
use Rattle.std.specs.Prelude.{Bool}
use Rattle.desk_rows.specs.declared.row.Row.{Row}
use Rattle.reversible_rows.specs.declared.judging.counting.Test.{Test}
use Rattle.reversible_rows.specs.declared.judging.counting.Test.TheVariants.{IsOf, Makes}
use Rattle.desk_rows.specs.Row.{makes}
use Rattle.desk_rows.specs.Kinds.{is_of}

abbrev pub passes : Test → Row → Bool
passes (IsOf kind) r = is_of kind r
passes (Makes claim) r = makes claim r
