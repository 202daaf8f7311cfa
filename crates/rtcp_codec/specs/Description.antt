-- Source descriptions and their octets (RFC 3550 section 6.5).
use Rattle.std.specs.Prelude.{◌≡◌, ℕ, ◌+◌, ◌-◌, ◌%◌, ◌^◌, ◌<◌, ◌≤◌, List, [], ◌∷◌, ◌++◌, length, replicate, ⊤}
use Rattle.std.specs.List.{flat_map, AllByRecursion}
use Rattle.std.specs.Int.{w32, to_be_bytes}

-- an item: its type and its text
pub record Item : Type 0 where
  pub kind : ℕ
  pub text : List ℕ

-- a source and its items
pub record Chunk : Type 0 where
  pub ssrc : ℕ
  pub items : List Item

-- an item's type, the length of its text, the text
abbrev pub item_octets : Item → List ℕ
item_octets i = i.kind ∷ length i.text ∷ i.text

-- the named parts of a chunk: the source, the items, the null that ends them
abbrev pub chunk_octets : Chunk → List ℕ
chunk_octets c = to_be_bytes w32 c.ssrc ++ (flat_map item_octets c.items ++ 0 ∷ [])

-- the octets from so many on to the next boundary of 32 bits: none to three
pub record IsFill (size : ℕ) (fill : List ℕ) : Type 0 where
  pub short : length fill < 4
  pub whole : (size + length fill) % 4 ≡ 0

-- octets with null fill to the next boundary of 32 bits
abbrev pub filled : List ℕ → List ℕ
filled octets = octets ++ replicate ((4 - length octets % 4) % 4) 0

-- the octets begin with the chunks, each up to its boundary
abbrev pub Describe : List Chunk → List ℕ → Type 0
Describe [] octets = ⊤
Describe (c ∷ cs) octets =
    (fill rest : List ℕ) × (octets ≡ chunk_octets c ++ (fill ++ rest))
    × IsFill (length (chunk_octets c)) fill × Describe cs rest

-- the longest text whose length one octet can tell
abbrev pub most_text : ℕ
most_text = 255

-- texts that their lengths can tell
abbrev pub TextsFit : List Item → Type 0
TextsFit items = AllByRecursion (λ i. length i.text ≤ most_text) items

-- items that a null can end
abbrev pub ItemsTold : List Item → Type 0
ItemsTold items = AllByRecursion (λ i. 0 < i.kind) items

-- an item that can be told from the end of the list, and whose text its length can count
pub record FitsItem (i : Item) : Type 0 where
  pub kind : 0 < i.kind
  pub octet : i.kind < 2 ^ 8
  pub text : length i.text < 2 ^ 8

-- a chunk whose source fits its field, of items that fit theirs
pub record FitsChunk (c : Chunk) : Type 0 where
  pub ssrc : c.ssrc < 2 ^ 32
  pub items : AllByRecursion FitsItem c.items

-- the octets begin with so many chunks
abbrev pub HasChunks : ℕ → List ℕ → Type 0
HasChunks n octets =
    (chunks : List Chunk) × (length chunks ≡ n) × AllByRecursion FitsChunk chunks × Describe chunks octets
