-- What is kept of the table between two pieces (own).
use Rattle.std.specs.Prelude.{◌≡◌, ℕ, List, Option, Result}
use Rattle.udp_table.specs.Table.{Cut, cut, first_told}
use Rattle.udp_table.specs.declared.fault.TableFault.{TableFault}

-- the inode of the socket, what its line told, if that has come, and what stands behind the last LF
pub record Kept : Type 0 where
  pub inode : ℕ
  pub told : Option (Result ℕ TableFault)
  pub rest : List ℕ

-- kept of a text in these lines
pub record IsReadOf (c : Cut) (k : Kept) : Type 0 where
  pub told : k.told ≡ first_told k.inode c.ended
  pub rest : k.rest ≡ c.rest

-- kept of this text
abbrev pub HasBeenFed : Kept → List ℕ → Type 0
HasBeenFed k text = IsReadOf (cut text) k
