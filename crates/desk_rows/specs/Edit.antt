-- Edits of a desk.
use Rattle.std.specs.Prelude.{List}
use Rattle.desk_rows.specs.declared.row.Row.{Row}
use Rattle.desk_rows.specs.declared.edit.Placed.{Placed}
use Rattle.desk_rows.specs.Order.{with_rows}

-- rows that an edit takes or puts: members with their places, and other rows
pub record PartOf : Type 0 where
  pub members : List Placed
  pub others : List Row

-- other rows that are replaced, and the rows in their stead
pub record ReplacedOf : Type 0 where
  pub old : List Row
  pub new : List Row

-- the rows taken, with places before; the rows put, with places after; the other rows replaced
pub record EditOf : Type 0 where
  pub taken : PartOf
  pub put : PartOf
  pub replaced : ReplacedOf

-- the edit that takes this one back
abbrev pub inverse : EditOf → EditOf
inverse e = record { taken = e.put; put = e.taken; replaced = record { old = e.replaced.new; new = e.replaced.old } }

-- the other rows that go, in order
abbrev pub outs : EditOf → List Row
outs e = with_rows e.replaced.old e.taken.others

-- the other rows that come, in order
abbrev pub ins : EditOf → List Row
ins e = with_rows e.replaced.new e.put.others
