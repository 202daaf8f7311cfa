-- Lines that hand the lane an item ask for nothing else, and may be longer than others.
use Rattle.std.proofs.Common.{◌≡◌, ◌≤◌, ◌<◌, ◌+◌, ℕ, ℤ, Bool, true, false, List, [], ◌∷◌, ◌++◌, length, take, codes}
use Rattle.std.proofs.Common.{Option, Some, None, Result, Ok, Err, refl, sym, ap, ◌∙◌, subst, if◌then◌else◌, arith}
use Rattle.std.proofs.Common.{inl, inr}
use Rattle.std.specs.Str.{bytes_eq}
use Rattle.std.proofs.lemmas.Bool.{cases_Bool}
use Rattle.std.proofs.lemmas.Slice.Eq.{bytes_eq-Decides}
use Rattle.frame_gate.specs.declared.frame.FrameFault.{FrameFault}
use Rattle.frame_gate.specs.Frame.{SourcePacket, fault_of}
use Rattle.rtp_codec.specs.declared.address.Address.{Address}
use Rattle.media_items.specs.Frame.{SourceFrame}
use Rattle.media_items.specs.Inputs.{Input}
use Rattle.sender_feedback.specs.Upstream.{Asker}
use Rattle.desk_text.specs.declared.fault.Fault.{Fault}
use Rattle.desk_text.specs.declared.fault.Fault.TheVariants.{UnknownWord, BadNumber}
use Rattle.desk_text.specs.declared.value.Value.{Value}
use Rattle.desk_text.specs.declared.value.Field.TheVariants as fields
use Rattle.desk_text.specs.Lines.{limit_of}
use Rattle.desk_text.specs.Words.{◌>>=◌, words_of, word_at, none_left, value_or}
use Rattle.desk_text.specs.Numbers.{decimal_of}
use Rattle.desk_text.specs.Values.{values_of, number_at, address_at}
use Rattle.script_text.specs.declared.name.ItemKind.{ItemKind}
use Rattle.script_text.specs.declared.name.ItemKind.TheVariants as kinds
use Rattle.script_text.specs.Requests.{Request, Nothing, Begin, Desk, Item, Rx, Wait, Report, Show, some_packets}
use Rattle.script_text.specs.Requests.{sighted, framed, frame_of, words_request}
use Rattle.script_text.specs.ItemLines.{item_word, item_kind_of, item_front_of, clock_of, samples_at, spelt_sound}
use Rattle.script_text.specs.ItemLines.{numbers_at}
use Rattle.script_text.specs.ItemLines.{nack_of, lost_of, block_fields, block_of, handed_alone, item_with, item_request}
use Rattle.script_text.specs.ItemLines.{later_request}
use Rattle.script_text.specs.Decodings.{Decoding, DecodesRequest}

-- ---- what is asked for is an item

-- what is read is an item, or a fault
abbrev pub IsItem : Result Request (ℕ × Fault) → Type 0
IsItem (Ok Nothing) = ⊥
IsItem (Ok (Begin who renews)) = ⊥
IsItem (Ok (Desk op call)) = ⊥
IsItem (Ok (Item item)) = Unit {0}
IsItem (Ok (Rx moment from octets)) = ⊥
IsItem (Ok (Wait moment from ssrc)) = ⊥
IsItem (Ok (Report moment)) = ⊥
IsItem (Ok Show) = ⊥
IsItem (Err e) = Unit {0}

item_then : {A : Type 0} (r : Result A (ℕ × Fault)) (f : A → Result Request (ℕ × Fault)) → ((x : A) → IsItem (f x))
    → IsItem (r >>= f)
item_then (Ok x) f h = h x
item_then (Err e) f h = tt

framed_item : (place : ℕ) (sighting : SourceFrame) (fault : Option FrameFault) → IsItem (framed place sighting fault)
framed_item place sighting None = tt
framed_item place sighting (Some fault) = tt

frame_item : (sighted : List SourcePacket → SourceFrame) (words : List (List ℕ)) → IsItem (frame_of 8 sighted words)
unfolding frame_of
frame_item sighted words =
    item_then (some_packets 8 words) _ (λ packets. framed_item 8 (sighted packets) (fault_of packets))

sound_item : (from : Address) (ssrc : ℕ) (words : List (List ℕ)) → IsItem (spelt_sound from ssrc words)
unfolding spelt_sound
sound_item from ssrc words =
    item_then (word_at 5 words) _
    (λ word. item_then (value_or 5 BadNumber (clock_of word.0)) _ (λ rate.
    item_then (values_of 6 (fields.U32 ∷ []) word.1) _ (λ ts.
    item_then (word_at 7 ts.1) _ (λ hex.
    item_then (samples_at 7 rate hex.0) _ (λ samples. item_then (none_left 8 hex.1) _ (λ end. tt))))))

nack_item : (from : Address) (ssrc : ℕ) (words : List (List ℕ)) → IsItem (nack_of from ssrc words)
unfolding nack_of
nack_item from ssrc words =
    item_then (word_at 5 words) _
    (λ hex. item_then (numbers_at 5 hex.0) _ (λ numbers. item_then (none_left 6 hex.1) _ (λ end. tt)))

block_item : (from : Address) (ssrc : ℕ) (words : List (List ℕ)) → IsItem (block_of from ssrc words)
unfolding block_of
block_item from ssrc words =
    item_then (word_at 5 words) _
    (λ share. item_then (value_or 5 BadNumber (decimal_of 255 share.0)) _ (λ fraction.
    item_then (word_at 6 share.1) _ (λ count.
    item_then (value_or 6 BadNumber (lost_of count.0)) _ (λ lost.
    item_then (values_of 7 block_fields count.1) _ (λ read. item_then (none_left 11 read.1) _ (λ end. tt))))))

alone_item : (place : ℕ) (input : Input) (words : List (List ℕ)) → IsItem (handed_alone place input words)
alone_item place input words = item_then (none_left place words) _ (λ end. tt)

with_item : (kind : ItemKind) (vs : List Value) (words : List (List ℕ)) → IsItem (item_with kind vs words)
with_item kinds.Frame vs words = frame_item (sighted vs) words
with_item kinds.Audio vs words = sound_item (address_at 0 vs) (number_at 1 vs) words
with_item kinds.Tick vs words = alone_item 4 _ words
with_item kinds.Nack vs words = nack_item (address_at 0 vs) (number_at 1 vs) words
with_item kinds.Block vs words = block_item (address_at 0 vs) (number_at 1 vs) words
with_item kinds.Pli vs words = alone_item 5 _ words
with_item kinds.Report vs words = alone_item 4 _ words
with_item kinds.Renew vs words = alone_item 3 _ words

pub items_asked : (words : List (List ℕ)) → IsItem (item_request words)
unfolding item_request
items_asked words =
    item_then (word_at 2 words) _
    (λ word. item_then (value_or 2 UnknownWord (item_kind_of word.0)) _ (λ kind.
    item_then (values_of 3 (item_front_of kind) word.1) _ (λ read. with_item kind read.0 read.1)))

-- an item needs no decoding
item_heard : (decoding : Decoding) (r : Result Request (ℕ × Fault)) → IsItem r → DecodesRequest decoding r
item_heard decoding (Ok Nothing) h = absurd h
item_heard decoding (Ok (Begin who renews)) h = absurd h
item_heard decoding (Ok (Desk op call)) h = absurd h
item_heard decoding (Ok (Item item)) h = tt
item_heard decoding (Ok (Rx moment from octets)) h = absurd h
item_heard decoding (Ok (Wait moment from ssrc)) h = absurd h
item_heard decoding (Ok (Report moment)) h = absurd h
item_heard decoding (Ok Show) h = absurd h
item_heard decoding (Err e) h = tt

-- what a later line asks for that is no item, its words ask for
item_or : (b : Bool) (words all : List (List ℕ)) (r : Request) → (IsItem (Ok r) → ⊥)
    → (if b then item_request words else words_request all) ≡ Ok r → words_request all ≡ Ok r
item_or true words all r other e = absurd (other (subst IsItem e (items_asked words)))
item_or false words all r other e = e

pub not_item : (words : List (List ℕ)) (r : Request) → (IsItem (Ok r) → ⊥) → later_request words ≡ Ok r
    → words_request words ≡ Ok r
not_item [] r other e = e
not_item (word ∷ words) r other e = item_or (bytes_eq word item_word) words (word ∷ words) r other e

-- ---- how long a line may be

limit_by : Bool → ℕ
limit_by b = if b then 8388608 else 65536

either_limit : (b : Bool) → (if b then 8388608 else 65536) ≤ 8388608
either_limit true = omega arith
either_limit false = omega arith

least_limit : (b : Bool) → 65536 ≤ (if b then 8388608 else 65536)
least_limit true = omega arith
least_limit false = omega arith

pub limit_most : (line : List ℕ) → limit_of line ≤ 8388608
limit_most line = either_limit (bytes_eq (take 5 line) (codes "item "))

pub limit_least : (line : List ℕ) → 65536 ≤ limit_of line
limit_least line = least_limit (bytes_eq (take 5 line) (codes "item "))

first_words : (line : List ℕ) → take 5 line ≡ codes "item "
    → (words : List (List ℕ)) × (words_of line ≡ item_word ∷ words)
first_words [] e = absurd cc
first_words (a ∷ []) e = absurd cc
first_words (a ∷ b ∷ []) e = absurd cc
first_words (a ∷ b ∷ c ∷ []) e = absurd cc
first_words (a ∷ b ∷ c ∷ d ∷ []) e = absurd cc
first_words (a ∷ b ∷ c ∷ d ∷ x ∷ rest) e =
    let all : a ∷ b ∷ c ∷ d ∷ x ∷ [] ≡ codes "item " = e in
    let is : a ∷ b ∷ c ∷ d ∷ x ∷ rest ≡ codes "item " ++ rest = ap (λ t. t ++ rest) all in
    (words_of rest, ap words_of is)

-- a line whose first word isn't `item` is as long as others
pub limit_other : (line word : List ℕ) (words : List (List ℕ)) → words_of line ≡ word ∷ words
    → bytes_eq word item_word ≡ false → limit_of line ≡ 65536
limit_other line word words cut other =
    elim (cases_Bool (bytes_eq (take 5 line) (codes "item "))) [
      | inr isnt ↦ rw isnt refl
      | inl is ↦
          let f = first_words line ((bytes_eq-Decides (take 5 line) (codes "item ")).0 is) in
          let both : word ∷ words ≡ item_word ∷ f.0 = sym cut ∙ f.1 in
          let same : word ≡ item_word = cc in
          let yes : bytes_eq word item_word ≡ true = rw same refl in
          absurd cc
    ]
