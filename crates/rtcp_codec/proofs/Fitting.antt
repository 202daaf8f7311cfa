-- What fits the fields of a packet: by its types, counts, lengths and meaning, or part by part.
use Rattle.std.proofs.Common.{◌≡◌, ℕ, ◌%◌, ◌^◌, ◌<◌, ◌≤◌, List, [], ◌∷◌, ◌++◌, length, Option, Some, None, ap, arith}
use Rattle.std.proofs.Common.{length-append}
use Rattle.std.specs.Prelude.{IfSome}
use Rattle.std.specs.Int.{w32, to_be_bytes}
use Rattle.std.specs.List.{AllByRecursion}
use Rattle.rtcp_codec.specs.declared.report.ReportBlock.{ReportBlock}
use Rattle.rtcp_codec.specs.Description.{Item, Chunk, FitsItem, FitsChunk, TextsFit, ItemsTold, most_text}
use Rattle.rtcp_codec.specs.Packet.{Packet, Sender, Receiver, Sdes, Bye, App, Nack, Pli, Other, count_of, most_count}
use Rattle.rtcp_codec.specs.Packet.{FitsTypes, FitsTypesOfChunk, CountFits, PartsFit, MeaningFits, IsBody}
use Rattle.rtcp_codec.specs.Report.{FitsBlock, FitsLost}
use Rattle.rtcp_codec.specs.inner.Reading.{IsSoundBlock, FitsFields}

all_map : {X : Type 0} (P Q : X → Type 0) → ((x : X) → P x → Q x) → (xs : List X) → AllByRecursion P xs
    → AllByRecursion Q xs
all_map P Q f [] h = tt
all_map P Q f (x ∷ xs) h = (f x h.0, all_map P Q f xs h.1)

all_both : {X : Type 0} (P Q R : X → Type 0) → ((x : X) → P x → Q x → R x) → (xs : List X) → AllByRecursion P xs
    → AllByRecursion Q xs → AllByRecursion R xs
all_both P Q R f [] h k = tt
all_both P Q R f (x ∷ xs) h k = (f x h.0 k.0, all_both P Q R f xs h.1 k.1)

-- ---- from the four to the parts

sound_blocks : (bs : List ReportBlock) → AllByRecursion FitsBlock bs → AllByRecursion (λ b. FitsLost b.lost) bs
    → AllByRecursion IsSoundBlock bs
sound_blocks = all_both FitsBlock (λ b. FitsLost b.lost) IsSoundBlock (λ b h k. record { numbers = h; lost = k })

items_fit : (is : List Item) → AllByRecursion (λ i. i.kind < 2 ^ 8) is → TextsFit is → ItemsTold is
    → AllByRecursion FitsItem is
items_fit [] h k l = tt
items_fit (i ∷ is) h k l = (record { kind = l.0; octet = h.0; text = omega (arith, k.0) }, items_fit is h.1 k.1 l.1)

chunks_fit : (cs : List Chunk) → AllByRecursion FitsTypesOfChunk cs → AllByRecursion (λ c. TextsFit c.items) cs
    → AllByRecursion (λ c. ItemsTold c.items) cs → AllByRecursion FitsChunk cs
chunks_fit [] h k l = tt
chunks_fit (c ∷ cs) h k l =
    (record { ssrc = h.0.ssrc; items = items_fit c.items h.0.kinds k.0 l.0 }, chunks_fit cs h.1 k.1 l.1)

reason_fits : (r : Option (List ℕ)) → IfSome r (λ text. length text ≤ most_text)
    → IfSome r (λ text. length text < 2 ^ 8)
reason_fits None h = tt
reason_fits (Some text) h = omega (arith, h)

pub fields_fit : (p : Packet) → FitsTypes p → CountFits p → PartsFit p → MeaningFits p → FitsFields p
fields_fit (Sender s n t c o bs) types counted lengths meaning =
    (types.0, types.1, types.2, types.3, types.4, sound_blocks bs types.5 meaning)
fields_fit (Receiver s bs) types counted lengths meaning = (types.0, sound_blocks bs types.1 meaning)
fields_fit (Sdes cs) types counted lengths meaning = chunks_fit cs types lengths meaning
fields_fit (Bye ns r) types counted lengths meaning = (types, reason_fits r lengths)
fields_fit (App t s m c) types counted lengths meaning = types
fields_fit (Nack s m ws) types counted lengths meaning = (types.0, types.1, counted, types.2)
fields_fit (Pli s m) types counted lengths meaning = types
fields_fit (Other t n b) types counted lengths meaning = (types, meaning)

pub few : (p : Packet) → CountFits p → count_of p ≤ most_count
few (Sender s n t c o bs) h = h
few (Receiver s bs) h = h
few (Sdes cs) h = h
few (Bye ns r) h = h
few (App t s m c) h = h
few (Nack s m ws) h = omega arith
few (Pli s m) h = omega arith
few (Other t n b) h = h

-- ---- and back, for a packet that stands in a body

chunk_types : (c : Chunk) → FitsChunk c → FitsTypesOfChunk c
chunk_types c h =
    record { ssrc = h.ssrc; kinds = all_map FitsItem (λ i. i.kind < 2 ^ 8) (λ i f. f.octet) c.items h.items }

texts_fit : (c : Chunk) → FitsChunk c → TextsFit c.items
texts_fit c h = all_map FitsItem (λ i. length i.text ≤ most_text) (λ i f. omega (arith, f.text)) c.items h.items

items_told : (c : Chunk) → FitsChunk c → ItemsTold c.items
items_told c h = all_map FitsItem (λ i. 0 < i.kind) (λ i f. f.kind) c.items h.items

reason_told : (r : Option (List ℕ)) → IfSome r (λ text. length text < 2 ^ 8)
    → IfSome r (λ text. length text ≤ most_text)
reason_told None h = tt
reason_told (Some text) h = omega (arith, h)

types_of : (p : Packet) → FitsFields p → FitsTypes p
types_of (Sender s n t c o bs) f = (f.0, f.1, f.2, f.3, f.4, all_map IsSoundBlock FitsBlock (λ b h. h.numbers) bs f.5)
types_of (Receiver s bs) f = (f.0, all_map IsSoundBlock FitsBlock (λ b h. h.numbers) bs f.1)
types_of (Sdes cs) f = all_map FitsChunk FitsTypesOfChunk chunk_types cs f
types_of (Bye ns r) f = f.0
types_of (App t s m c) f = f
types_of (Nack s m ws) f = (f.0, f.1, f.3)
types_of (Pli s m) f = f
types_of (Other t n b) f = f.0

counts_of : (p : Packet) → FitsFields p → count_of p ≤ most_count → CountFits p
counts_of (Sender s n t c o bs) f h = h
counts_of (Receiver s bs) f h = h
counts_of (Sdes cs) f h = h
counts_of (Bye ns r) f h = h
counts_of (App t s m c) f h = h
counts_of (Nack s m ws) f h = f.2
counts_of (Pli s m) f h = tt
counts_of (Other t n b) f h = h

lengths_of : (p : Packet) (body : List ℕ) → FitsFields p → IsBody p body → length body % 4 ≡ 0 → PartsFit p
lengths_of (Sender s n t c o bs) body f is words = tt
lengths_of (Receiver s bs) body f is words = tt
lengths_of (Sdes cs) body f is words = all_map FitsChunk (λ c. TextsFit c.items) texts_fit cs f
lengths_of (Bye ns r) body f is words = reason_told r f.1
lengths_of (App t s m c) body f is words =
    omega
    (arith, ap length is, length-append (to_be_bytes w32 s ++ m) c, length-append (to_be_bytes w32 s) m, f.1, words)
lengths_of (Nack s m ws) body f is words = tt
lengths_of (Pli s m) body f is words = tt
lengths_of (Other t n b) body f is words = omega (arith, ap length is, words)

meaning_of : (p : Packet) → FitsFields p → MeaningFits p
meaning_of (Sender s n t c o bs) f = all_map IsSoundBlock (λ b. FitsLost b.lost) (λ b h. h.lost) bs f.5
meaning_of (Receiver s bs) f = all_map IsSoundBlock (λ b. FitsLost b.lost) (λ b h. h.lost) bs f.1
meaning_of (Sdes cs) f = all_map FitsChunk (λ c. ItemsTold c.items) items_told cs f
meaning_of (Bye ns r) f = tt
meaning_of (App t s m c) f = tt
meaning_of (Nack s m ws) f = tt
meaning_of (Pli s m) f = tt
meaning_of (Other t n b) f = f.1

pub record Sized (p : Packet) : Type 0 where
  pub types : FitsTypes p
  pub counted : CountFits p
  pub lengths : PartsFit p
  pub meaning : MeaningFits p

pub sizes : (p : Packet) (body : List ℕ) → FitsFields p → count_of p ≤ most_count → IsBody p body → length body % 4 ≡ 0
    → Sized p
sizes p body f h is words =
    record {
      types = types_of p f;
      counted = counts_of p f h;
      lengths = lengths_of p body f is words;
      meaning = meaning_of p f;
    }
