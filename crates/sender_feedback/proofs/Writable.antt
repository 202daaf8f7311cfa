-- What goes up to a source can be written.
use Rattle.std.proofs.Common.{◌≡◌, ℕ, ℤ, ◌+◌, ◌-◌, ◌*◌, ◌%◌, ◌≤◌, Bool, true, false, List, [], ◌∷◌, ◌++◌, length, map}
use Rattle.std.proofs.Common.{replicate, inr, refl, ap, subst, ◌∙◌, arith, length-append}
use Rattle.std.specs.Prelude.{Result, Ok, Err, IfOk}
use Rattle.std.specs.List.{flat_map, AllByRecursion}
use Rattle.std.proofs.lemmas.List.{length-map, length-replicate}
use Rattle.std.proofs.lemmas.List.Concat.{flat_map-cons}
use Rattle.rtcp_codec.specs.declared.nack.NackWord.{NackWord}
use Rattle.rtcp_codec.specs.Packet.{Receiver, Nack, Pli, fields, FitsTypes}
use Rattle.rtcp_codec.specs.CanonicalName.{named}
use Rattle.rtcp_codec.specs.Description.{filled}
use Rattle.rtcp_codec.specs.Nack.{word_octets, numbers_of, numbers_named, FitsWord}
use Rattle.rtcp_codec.specs.Compound.{Part, IsPart, packets_in, IsCompound}
use Rattle.rtcp_codec.specs.WriteFault.{IsWritable, AreWritable}
use Rattle.sender_feedback.specs.Upstream.{Asker, seq_of, most_words, nack_of, pli_of, upstream_packets}

-- ---- how long the parts are

pub filled-length : (octets : List ℕ) → length (filled octets) ≡ length octets + (4 - length octets % 4) % 4
filled-length octets =
    length-append octets (replicate ((4 - length octets % 4) % 4) 0)
    ∙ ap (λ n. length octets + n) (length-replicate ((4 - length octets % 4) % 4) 0)

words-length : (ws : List NackWord) → length (flat_map word_octets ws) ≡ 4 * length ws
words-length [] = refl
words-length (w ∷ ws) = ap length (flat_map-cons word_octets w ws) ∙ omega (arith, words-length ws)

-- ---- what goes up can be written

receiver_writable : (ssrc : ℕ) → IsWritable (Receiver ssrc [])
receiver_writable ssrc =
    record {
      counted = omega arith;
      lengths = record { parts = tt; words = omega (arith, filled-length (fields (Receiver ssrc []))) };
      meaning = tt;
    }

nack_writable : (ssrc source : ℕ) (w : NackWord) (ws : List NackWord) → length (w ∷ ws) ≤ most_words
    → IsWritable (Nack ssrc source (w ∷ ws))
nack_writable ssrc source w ws few = record {
  counted = omega arith;
  lengths =
      record {
        parts = tt;
        words = omega (arith, few, filled-length (fields (Nack ssrc source (w ∷ ws))), words-length (w ∷ ws));
      };
  meaning = tt;
}

pli_writable : (ssrc source : ℕ) → IsWritable (Pli ssrc source)
pli_writable ssrc source =
    record {
      counted = tt;
      lengths = record { parts = tt; words = omega (arith, filled-length (fields (Pli ssrc source))) };
      meaning = tt;
    }

plis_writable : (asker source : ℕ) (pli : Bool) → AllByRecursion IsWritable (pli_of asker source pli)
plis_writable asker source true = (pli_writable asker source, tt)
plis_writable asker source false = tt

asked_writable : (asker source : ℕ) (words : List NackWord) (pli : Bool) → length words ≤ most_words
    → AllByRecursion IsWritable (nack_of asker source words ++ pli_of asker source pli)
asked_writable asker source [] pli few = plis_writable asker source pli
asked_writable asker source (w ∷ ws) pli few = (nack_writable asker source w ws few, plis_writable asker source pli)

pub upstream_writable : (asker : Asker) (source : ℕ) (words : List NackWord) (pli : Bool)
    → IsWritable (named asker.ssrc asker.cname) → length words ≤ most_words
    → AreWritable (upstream_packets asker source words pli)
upstream_writable asker source words pli name few = record {
  report = inr refl;
  each = (receiver_writable asker.ssrc, (name, asked_writable asker.ssrc source words pli few));
}

-- ---- the words

one_or_more : (pid blp : ℕ) → 1 ≤ length (numbers_of pid blp)
unfolding numbers_of
one_or_more pid blp = omega arith

-- each word names a number or more
few_words : (words : List NackWord) → length words ≤ length (numbers_named words)
few_words [] = omega arith
few_words (w ∷ ws) =
    let first : 1 ≤ length (numbers_of w.pid w.blp) = one_or_more w.pid w.blp in
    omega (
      arith,
      ap length (flat_map-cons (λ (v : NackWord). numbers_of v.pid v.blp) w ws),
      length-append (numbers_of w.pid w.blp) (numbers_named ws),
      first,
      few_words ws,
    )

-- no more words than numbers
pub as_few : (exts : List ℤ) (words : List NackWord) → numbers_named words ≡ map seq_of exts
    → length words ≤ length exts
as_few exts words names = omega (arith, few_words words, ap length names, length-map exts seq_of)

-- each packet of a compound fits its types
types_in : (parts : List Part) → AllByRecursion IsPart parts → AllByRecursion FitsTypes (packets_in parts)
types_in [] h = tt
types_in (p ∷ ps) h = (h.0.types, types_in ps h.1)

words_in : (asker : Asker) (source : ℕ) (words : List NackWord) (pli : Bool)
    → AllByRecursion FitsTypes (upstream_packets asker source words pli) → AllByRecursion FitsWord words
words_in asker source [] pli h = tt
words_in asker source (w ∷ ws) pli h = h.1.1.0.2

-- words that stand in a compound fit their fields
pub words_fit : (asker : Asker) (source : ℕ) (words : List NackWord) (pli : Bool) (octets : List ℕ)
    → IsCompound (upstream_packets asker source words pli) octets → AllByRecursion FitsWord words
words_fit asker source words pli octets k =
    words_in asker source words pli (subst (AllByRecursion FitsTypes) k.packets (types_in k.parts k.each))

-- ---- two clauses on an `Ok`

pub if_ok_both : {X Y : Type 0} (r : Result X Y) (P Q R : X → Type 0) → ((x : X) → P x → Q x → R x) → IfOk r P
    → IfOk r Q → IfOk r R
if_ok_both (Ok x) P Q R f p q = f x p q
if_ok_both (Err e) P Q R f p q = tt
