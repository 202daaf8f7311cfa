-- What a voice says.
use Rattle.std.proofs.Common.{◌≡◌, ℕ, ℤ, pos, negsuc, ◌<◌, ◌^◌, Bool, true, false, not, ◌&&◌, ◌⊎◌, inl, inr, List, []}
use Rattle.std.proofs.Common.{◌∷◌, map, arith, refl, ap}
use Rattle.std.proofs.lemmas.Bool.{cases_lt}
use Rattle.std.specs.List.{AllByRecursion}
use Rattle.rtcp_codec.specs.declared.nack.NackWord.{NackWord}
use Rattle.rtcp_codec.specs.Nack.{IsPacking}
use Rattle.rtcp_codec.specs.Compound.{written}
use Rattle.sender_feedback.specs.Upstream.{Asker, seq_of, upstream_packets}
use Rattle.ingress.specs.Taking.{Voice, IsVoice, asking}

seq_fits : (ext : ℤ) → seq_of ext < 2 ^ 16
seq_fits (pos n) = omega arith
seq_fits (negsuc n) = omega arith

pub all_seqs : (exts : List ℤ) → AllByRecursion (λ n. n < 2 ^ 16) (map seq_of exts)
all_seqs [] = tt
all_seqs (e ∷ es) = (seq_fits e, all_seqs es)

pub asking_is : (voice : Voice) (asker : Asker) (source : ℕ) (nacks : List ℤ) (pli : Bool) → voice.asker ≡ asker
    → asking voice source nacks pli ≡ written (upstream_packets asker source (voice.words (map seq_of nacks)) pli)
unfolding asking
asking_is voice asker source nacks pli same =
    ap (λ a. written (upstream_packets a source (voice.words (map seq_of nacks)) pli)) same

-- something is asked
pub some_asked : (empty pli : Bool) → (empty ≡ true × pli ≡ true) ⊎ (empty ≡ false) → (empty && not pli) ≡ false
some_asked true true h = refl
some_asked false pli h = refl
some_asked true false h = elim h [ inl both ↦ cc | inr other ↦ cc ]

-- numbers are all of 16 bits, or they aren't
all_or_not : (numbers : List ℕ)
    → AllByRecursion (λ n. n < 2 ^ 16) numbers ⊎ (AllByRecursion (λ n. n < 2 ^ 16) numbers → ⊥)
all_or_not [] = inl tt
all_or_not (x ∷ xs) = elim (cases_lt x (2 ^ 16)) [
  | inl lt ↦ elim (all_or_not xs) [ inl rest ↦ inl (lt, rest) | inr other ↦ inr (λ h. other h.1) ]
  | inr le ↦ inr (λ h. omega (arith, le, h.0))
]

-- numbers of 16 bits have words
abbrev HaveWords : Type 0
HaveWords =
    (numbers : List ℕ) → AllByRecursion (λ n. n < 2 ^ 16) numbers → (words : List NackWord) × IsPacking numbers words

words_by : HaveWords → (numbers : List ℕ)
    → AllByRecursion (λ n. n < 2 ^ 16) numbers ⊎ (AllByRecursion (λ n. n < 2 ^ 16) numbers → ⊥) → List NackWord
words_by have numbers (inl h) = (have numbers h).0
words_by have numbers (inr other) = []

words_are : (have : HaveWords) (numbers : List ℕ)
    (d : AllByRecursion (λ n. n < 2 ^ 16) numbers ⊎ (AllByRecursion (λ n. n < 2 ^ 16) numbers → ⊥))
    → AllByRecursion (λ n. n < 2 ^ 16) numbers
    → IsPacking numbers (words_by have numbers d)
unfolding words_by
words_are have numbers (inl h) fit = (have numbers h).1
words_are have numbers (inr other) fit = absurd (other fit)

pub the_voice : HaveWords → (asker : Asker) → (voice : Voice) × IsVoice voice × (voice.asker ≡ asker)
the_voice have asker = (
  record { asker = asker; words = λ numbers. words_by have numbers (all_or_not numbers) },
  (λ numbers fit. words_are have numbers (all_or_not numbers) fit),
  refl,
)
