-- What is kept of a stream between two pieces, and the answer to the next piece.
use Rattle.std.specs.Prelude.{◌≡◌, ℕ, Bool, false, List, ◌++◌, map}
use Rattle.std.specs.declared.vec.Vec.{Vec}
use Rattle.operator_lines.specs.Cut.{Cut, cut, too_long_in, lines_of, is_too_long}

-- what stands behind the last LF, as long as no line is too long, and whether one is
pub record Kept : Type 0 where
  pub pending : List ℕ
  pub too_long : Bool

-- the octets of each line
abbrev pub texts : {A : Type 0} → List (Vec ℕ A) → List (List ℕ)
texts lines = map (λ line. line.items) lines

-- kept of a stream in these parts
pub record Stands (c : Cut) (k : Kept) : Type 0 where
  pub long : k.too_long ≡ too_long_in c
  pub pending : k.too_long ≡ false → k.pending ≡ c.rest

-- kept of this stream
abbrev pub StandsFor : Kept → List ℕ → Type 0
StandsFor k before = Stands (cut before) k

-- the answer to these octets after that stream: the lines that they add to it, and whether one is too long now
pub record Brings (before octets : List ℕ) (lines : List (List ℕ)) (too_long : Bool) : Type 0 where
  pub new_lines : lines_of (before ++ octets) ≡ lines_of before ++ lines
  pub is_long : too_long ≡ is_too_long (before ++ octets)
