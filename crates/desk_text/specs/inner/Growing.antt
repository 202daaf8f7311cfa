-- What the functions that print say to one another.
use Rattle.std.specs.Prelude.{◌≡◌, ℕ, ◌+◌, ◌<◌, ◌≤◌, List, ◌++◌, length, vec_len, vec_capacity, Result, Ok, Err}
use Rattle.std.specs.declared.vec.Vec.{Vec}
use Rattle.std.specs.declared.alloc.AllocError.{AllocError}

-- octets that are held, how many they are, and for how many there is capacity
pub record TextBuffer : Type 0 where
  pub items : List ℕ
  pub len : ℕ
  pub capacity : ℕ

-- what a vector holds
abbrev pub buffer_of : {A : Type 0} → Vec ℕ A → TextBuffer
buffer_of v = record { items = v.items; len = vec_len v; capacity = vec_capacity v }

-- a text was appended, or a front of it, as the capacity was short
abbrev pub Grows : TextBuffer → TextBuffer → List ℕ → Result (Unit {0}) AllocError → Type 0
Grows old new text (Ok u) =
    (new.items ≡ old.items ++ text) × (new.len ≡ old.len + length text) × (old.capacity ≤ new.capacity)
Grows old new text (Err e) =
    (front : List ℕ) × (new.items ≡ old.items ++ front) × (old.capacity < old.len + length text)
