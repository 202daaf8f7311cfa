-- Addresses: four numbers below 256 with dots between, a colon, and a port (own).
use Rattle.std.specs.Prelude.{◌≡◌, ℕ, ◌≤◌, length, List, [], ◌∷◌, slice_index, Option, Some, None}
use Rattle.rtp_codec.specs.declared.address.Address.{Address}
use Rattle.desk_text.specs.Words.{cut_of}
use Rattle.desk_text.specs.Numbers.{decimal_of}

-- the numbers of an address are in range
pub record IsAddress (a : Address) : Type 0 where
  pub parts : length a.ip ≡ 4
  pub octets : (k : ℕ) → slice_index a.ip k ≤ 255
  pub port : a.port ≤ 65535

-- a value, if there is one: what follows is read only behind it
infixl 10 ◌>>=◌
abbrev pub ◌>>=◌ : {A B : Type 0} → Option A → (A → Option B) → Option B
(Some x) >>= f = f x
None >>= f = None

-- the number before the first such octet, and what stands behind it
unfoldable pub field_of : ℕ → List ℕ → Option (ℕ × List ℕ)
field_of octet text = do
  parts ← cut_of octet text
  n ← decimal_of 255 parts.0
  Some (n, parts.1)

-- the address that a word spells: 46 is the dot, 58 the colon
unfoldable pub address_of : List ℕ → Option Address
address_of word = do
  a ← field_of 46 word
  b ← field_of 46 a.1
  c ← field_of 46 b.1
  d ← field_of 58 c.1
  port ← decimal_of 65535 d.1
  Some (record { ip = a.0 ∷ b.0 ∷ c.0 ∷ d.0 ∷ []; port = port })
