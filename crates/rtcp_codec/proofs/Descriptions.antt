-- Items and chunks are read in one way, and where they can't be read there are none.
use Rattle.std.proofs.Common.{◌≡◌, ℕ, suc, ◌+◌, ◌%◌, ◌<◌, ◌≤◌, List, [], ◌∷◌, ◌++◌, length, get_or, take, drop, refl}
use Rattle.std.proofs.Common.{sym, ap, subst, ◌∙◌, append_assoc, arith, length-append, inl, inr}
use Rattle.std.specs.Int.{w32, to_be_bytes}
use Rattle.std.proofs.lemmas.Bool.{cases_lt}
use Rattle.std.proofs.lemmas.List.{take-append-drop, length-take}
use Rattle.std.specs.List.{flat_map, AllByRecursion}
use Rattle.rtcp_codec.specs.Description.{Item, Chunk, item_octets, chunk_octets, IsFill, Describe, FitsItem, FitsChunk}
use Rattle.rtcp_codec.specs.Description.{HasChunks}
use Rattle.rtcp_codec.specs.inner.Reading.{HasItems, HasChunk}
use Rattle.rtcp_codec.proofs.Lists.{front_of, same_split, same_number}

parts_of : (k l m n : ℕ) (a b : List ℕ) → k ∷ l ∷ a ≡ m ∷ n ∷ b → (k ≡ m) × (l ≡ n) × (a ≡ b)
parts_of k l m n a b e = (cc, cc, cc)

same_item : (i j : Item) (a b : List ℕ) → item_octets i ++ a ≡ item_octets j ++ b → (i ≡ j) × (a ≡ b)
same_item i j a b e =
    let p = parts_of i.kind (length i.text) j.kind (length j.text) (i.text ++ a) (j.text ++ b) e in
    let s = same_split i.text j.text a b p.1 p.2 in
    let made : ℕ → List ℕ → Item = λ kind text. record { kind = kind; text = text } in
    (ap (λ (k : ℕ). made k i.text) p.0 ∙ ap (λ (t : List ℕ). made j.kind t) s.0, s.1)

no_item_is_null : (i : Item) (a rest : List ℕ) → FitsItem i → item_octets i ++ a ≡ 0 ∷ rest → ⊥
no_item_is_null i a rest fits e =
    let k : i.kind ≡ 0 = ap (λ (l : List ℕ). get_or l 0 0) e in omega (arith, fits.kind)

-- items up to a null are read in one way
pub same_items : (is js : List Item) (a b : List ℕ) → AllByRecursion FitsItem is → AllByRecursion FitsItem js
    → flat_map item_octets is ++ 0 ∷ a ≡ flat_map item_octets js ++ 0 ∷ b → (is ≡ js) × (a ≡ b)
same_items [] [] a b h k e = (refl, cc)
same_items (i ∷ is) (j ∷ js) a b h k e =
    let f = sym (front_of item_octets i is (0 ∷ a)) ∙ e ∙ front_of item_octets j js (0 ∷ b) in
    let s = same_item i j (flat_map item_octets is ++ 0 ∷ a) (flat_map item_octets js ++ 0 ∷ b) f in
    let r = same_items is js a b h.1 k.1 s.1 in
    (ap (λ (x : Item). x ∷ is) s.0 ∙ ap (λ (l : List Item). j ∷ l) r.0, r.1)
same_items [] (j ∷ js) a b h k e =
    absurd
    (no_item_is_null j (flat_map item_octets js ++ 0 ∷ b) a k.0 (sym (front_of item_octets j js (0 ∷ b)) ∙ sym e))
same_items (i ∷ is) [] a b h k e =
    absurd (no_item_is_null i (flat_map item_octets is ++ 0 ∷ a) b h.0 (sym (front_of item_octets i is (0 ∷ a)) ∙ e))

-- behind an item stand the others
pub items_behind : (i : Item) (octets after : List ℕ) → FitsItem i → octets ≡ item_octets i ++ after → HasItems octets
    → HasItems after
items_behind i octets after fits e ([], rest, all, h) = absurd (no_item_is_null i after rest fits (sym e ∙ h))
items_behind i octets after fits e (j ∷ js, rest, all, h) =
    let s =
    same_item i j after (flat_map item_octets js ++ 0 ∷ rest) (sym e ∙ h ∙ front_of item_octets j js (0 ∷ rest)) in
    (js, rest, all.1, s.1)

-- an item that isn't whole is none
pub no_items : (octets : List ℕ) → (0 < length octets → 0 < get_or octets 0 0) → length octets < 2 + get_or octets 1 0
    → HasItems octets → ⊥
no_items octets kind short ([], rest, all, h) =
    let first : get_or octets 0 0 ≡ 0 = ap (λ (l : List ℕ). get_or l 0 0) h in
    let len : length octets ≡ suc (length rest) = ap length h in
    omega (arith, kind (omega arith))
no_items octets kind short (j ∷ js, rest, all, h) =
    let f = h ∙ front_of item_octets j js (0 ∷ rest) in
    let second : get_or octets 1 0 ≡ length j.text = ap (λ (l : List ℕ). get_or l 1 0) f in
    let len : length octets ≡ suc (suc (length (j.text ++ (flat_map item_octets js ++ 0 ∷ rest)))) = ap length f in
    omega (arith, length-append j.text (flat_map item_octets js ++ 0 ∷ rest))

same_drop : (n k : ℕ) (text rest : List ℕ) → rest ≡ drop (2 + n) (k ∷ n ∷ text) → drop n text ≡ rest
same_drop n k text rest e =
    let two : 2 + n ≡ suc (suc n) = omega arith in
    sym (e ∙ ap (λ (m : ℕ). drop m (k ∷ n ∷ text)) two)

-- an item stands at the front
pub item_at : (octets rest : List ℕ) → ((i : ℕ) → get_or octets i 0 < 256) → (0 < length octets → 0 < get_or octets 0 0)
    → 2 + get_or octets 1 0 ≤ length octets → 2 ≤ length octets → rest ≡ drop (2 + get_or octets 1 0) octets
    → (i : Item) × FitsItem i × (octets ≡ item_octets i ++ rest)
item_at (k ∷ n ∷ text) rest bytes kind whole long behind =
    let front = take n text in
    let few : length front ≡ n = omega (arith, length-take n text) in (
      record { kind = k; text = front },
      record { kind = kind (omega arith); octet = bytes 0; text = omega (arith, few, bytes 1) },
      ap (λ (l : List ℕ). k ∷ n ∷ l) (sym (take-append-drop n text))
          ∙ ap (λ (m : ℕ). k ∷ m ∷ (front ++ drop n text)) (sym few)
          ∙ ap (λ (l : List ℕ). item_octets (record { kind = k; text = front }) ++ l) (same_drop n k text rest behind),
    )
item_at (k ∷ []) rest bytes kind whole long behind = absurd (omega arith)
item_at [] rest bytes kind whole long behind = absurd (omega arith)

-- the parts of the item at the front
pub item_parts : (octets front rest text after : List ℕ) (n : ℕ) → front ≡ take 2 octets → rest ≡ drop 2 octets
    → n ≡ get_or front 1 0 → text ≡ take n rest → after ≡ drop n rest → 2 + get_or octets 1 0 ≤ length octets
    → octets ≡ get_or front 0 0 ∷ length text ∷ (text ++ after)
item_parts (k ∷ m ∷ more) front rest text after n f r is t a whole =
    let second : n ≡ m = is ∙ ap (λ (l : List ℕ). get_or l 1 0) f in
    let first : get_or front 0 0 ≡ k = ap (λ (l : List ℕ). get_or l 0 0) f in
    let few : length text ≡ m = omega (arith, ap length t, ap length r, length-take n rest, second) in
    let joined : text ++ after ≡ more = rw (t, a) (take-append-drop n rest ∙ r) in
    rw (first, few, joined) refl
item_parts (k ∷ []) front rest text after n f r is t a whole = absurd (omega arith)
item_parts [] front rest text after n f r is t a whole = absurd (omega arith)

-- what has items and doesn't begin with a null begins with a whole item
pub item_is_whole : (octets : List ℕ) → (0 < length octets → 0 < get_or octets 0 0) → HasItems octets
    → 2 + get_or octets 1 0 ≤ length octets
item_is_whole octets kind h =
    elim (cases_lt (length octets) (2 + get_or octets 1 0)) [
      | inl short ↦ absurd (no_items octets kind short h)
      | inr long ↦ long
    ]

-- ---- chunks

chunk_front : (c : Chunk) (rest : List ℕ)
    → chunk_octets c ++ rest ≡ to_be_bytes w32 c.ssrc ++ (flat_map item_octets c.items ++ 0 ∷ rest)
chunk_front c rest =
    append_assoc (to_be_bytes w32 c.ssrc) (flat_map item_octets c.items ++ 0 ∷ []) rest
    ∙ ap (λ (l : List ℕ). to_be_bytes w32 c.ssrc ++ l) (append_assoc (flat_map item_octets c.items) (0 ∷ []) rest)

-- a chunk is read in one way
pub same_chunk : (c d : Chunk) (a b : List ℕ) → FitsChunk c → FitsChunk d → chunk_octets c ++ a ≡ chunk_octets d ++ b
    → (c ≡ d) × (a ≡ b)
same_chunk c d a b h k e =
    let n =
    same_number c.ssrc d.ssrc (flat_map item_octets c.items ++ 0 ∷ a) (flat_map item_octets d.items ++ 0 ∷ b) h.ssrc
    k.ssrc (sym (chunk_front c a) ∙ e ∙ chunk_front d b) in
    let s = same_items c.items d.items a b h.items k.items n.1 in
    let made : ℕ → List Item → Chunk = λ ssrc items. record { ssrc = ssrc; items = items } in
    (ap (λ (m : ℕ). made m c.items) n.0 ∙ ap (λ (l : List Item). made d.ssrc l) s.0, s.1)

-- a chunk's items stand behind its source
pub items_stand : (ssrc : ℕ) (octets rest : List ℕ) → octets ≡ to_be_bytes w32 ssrc ++ rest → HasChunk octets
    → HasItems rest
items_stand ssrc octets rest e (c, more, fits, h) =
    let s =
    same_split (to_be_bytes w32 ssrc) (to_be_bytes w32 c.ssrc) rest (flat_map item_octets c.items ++ 0 ∷ more) refl
    (sym e ∙ h ∙ chunk_front c more) in
    (c.items, more, fits.items, s.1)

pub chunk_long : (octets : List ℕ) → HasChunk octets → 4 ≤ length octets
chunk_long octets (c, rest, fits, h) = omega (arith, ap length (h ∙ chunk_front c rest))

pub same_fill : (size : ℕ) (fill other : List ℕ) → IsFill size fill → IsFill size other → length fill ≡ length other
same_fill size fill other h k = omega (arith, h.short, h.whole, k.short, k.whole)

-- behind a chunk and its fill stand the others
pub chunks_behind : (c : Chunk) (fill octets after : List ℕ) (n : ℕ) → FitsChunk c
    → IsFill (length (chunk_octets c)) fill → octets ≡ chunk_octets c ++ (fill ++ after) → HasChunks (suc n) octets
    → HasChunks n after
chunks_behind c fill octets after n fits is e ([], len, all, h) = absurd (omega arith)
chunks_behind c fill octets after n fits is e (d ∷ ds, len, all, h) =
    let s = same_chunk c d (fill ++ after) (h.0 ++ h.1) fits all.0 (sym e ∙ h.2) in
    let other : IsFill (length (chunk_octets c)) h.0 =
    subst (λ (x : Chunk). IsFill (length (chunk_octets x)) h.0) (sym s.0) h.3 in
    let f = same_split fill h.0 after h.1 (same_fill (length (chunk_octets c)) fill h.0 is other) s.1 in
    (ds, omega arith, all.1, subst (Describe ds) (sym f.1) h.4)

-- where there are chunks, there is a first
pub chunk_stands : (octets : List ℕ) (n : ℕ) → HasChunks (suc n) octets → HasChunk octets
chunk_stands octets n ([], len, all, h) = absurd (omega arith)
chunk_stands octets n (d ∷ ds, len, all, h) = (d, h.0 ++ h.1, all.0, h.2)

-- where there is no chunk, there are none
pub no_chunks : (octets : List ℕ) (n : ℕ) → (HasChunk octets → ⊥) → HasChunks (suc n) octets → ⊥
no_chunks octets n none ([], len, all, h) = omega arith
no_chunks octets n none (d ∷ ds, len, all, h) = none (d, h.0 ++ h.1, all.0, h.2)

-- ---- chunks so far

-- chunks that stand before others
pub Describe-more : (cs : List Chunk) (c : Chunk) (octets rest after fill : List ℕ)
    → ((more : List Chunk) → Describe more rest → Describe (cs ++ more) octets) → IsFill (length (chunk_octets c)) fill
    → rest ≡ chunk_octets c ++ (fill ++ after) →
    (more : List Chunk) → Describe more after → Describe ((cs ++ c ∷ []) ++ more) octets
Describe-more cs c octets rest after fill so_far is e more h =
    subst (λ (l : List Chunk). Describe l octets) (sym (append_assoc cs (c ∷ []) more))
    (so_far (c ∷ more) (fill, after, e, is, h))

-- ---- what the code finds

length_take_mod : (rest : List ℕ) → length (take (length rest % 4) rest) ≡ length rest % 4
length_take_mod rest = omega (arith, length-take (length rest % 4) rest)

-- a chunk up to its boundary
pub chunk_parts : (c : Chunk) (octets items rest fill after : List ℕ) → length octets % 4 ≡ 0
    → octets ≡ to_be_bytes w32 c.ssrc ++ items → items ≡ flat_map item_octets c.items ++ 0 ∷ rest
    → fill ≡ take (length rest % 4) rest → after ≡ drop (length rest % 4) rest →
    (f : List ℕ) × IsFill (length (chunk_octets c)) f × (octets ≡ chunk_octets c ++ (f ++ after))
chunk_parts c octets items rest fill after words first second front back =
    let joined : fill ++ after ≡ rest = rw (front, back) (take-append-drop (length rest % 4) rest) in
    let whole : octets ≡ chunk_octets c ++ rest =
    first ∙ ap (λ (l : List ℕ). to_be_bytes w32 c.ssrc ++ l) second ∙ sym (chunk_front c rest) in
    let size : length octets ≡ length (chunk_octets c) + length rest =
    ap length whole ∙ length-append (chunk_octets c) rest in
    let few : length fill ≡ length rest % 4 = ap length front ∙ length_take_mod rest in (
      fill,
      record { short = omega arith; whole = omega (arith, size, few, words) },
      whole ∙ ap (λ (l : List ℕ). chunk_octets c ++ l) (sym joined),
    )
