-- Values are read one after another.
use Rattle.std.proofs.Common.{◌≡◌, ℕ, suc, ◌+◌, ◌<◌, ◌≤◌, List, [], ◌∷◌, ◌++◌, length, map, take, drop, get_or}
use Rattle.std.proofs.Common.{drop-cons, Some, None, Result, Ok, Err, refl, sym, ap, ◌∙◌, append_assoc, arith}
use Rattle.std.proofs.lemmas.List.{append-nil, take_more, take_all, map-append}
use Rattle.std.proofs.lemmas.Grind.{common_steps}
use Rattle.desk_text.specs.declared.fault.Fault.{Fault}
use Rattle.desk_text.specs.declared.value.Field.{Field}
use Rattle.desk_text.specs.declared.value.Value.{Value}
use Rattle.desk_text.specs.declared.fault.ParseFault.{ParseFault}
use Rattle.desk_text.specs.declared.fault.ParseFault.TheVariants as errors
use Rattle.desk_text.specs.Words.{◌>>=◌, Fails, word_at}
use Rattle.desk_text.specs.Values.{field_of, value_of, fault_of, values_of}

-- what is read of a line: values, and the words behind them
abbrev pub Reading : Type 0
Reading = Result (List Value × List (List ℕ)) (ℕ × Fault)

-- these values, and behind them those that are read
abbrev pub behind : List Value → Reading → Reading
behind vs (Ok read) = Ok (vs ++ read.0, read.1)
behind vs (Err e) = Err e

pub behind_none : (r : Reading) → r ≡ behind [] r
behind_none (Ok read) = refl
behind_none (Err e) = refl

behind_more : (vs : List Value) (v : Value) (r : Reading)
    → behind vs (r >>= λ others. Ok (v ∷ others.0, others.1)) ≡ behind (vs ++ v ∷ []) r
behind_more vs v (Ok read) = ap (λ (t : List Value). Ok (t, read.1)) (sym (append_assoc vs (v ∷ []) read.0))
behind_more vs v (Err e) = refl

at_place : (shape : List Field) (k : ℕ) (d : Field) → k < length shape
    → drop k shape ≡ get_or shape k d ∷ drop (k + 1) shape
at_place shape k d lt = let e : k + 1 ≡ suc k = omega arith in rw e (drop-cons shape k d lt)

past_end : (shape : List Field) (k : ℕ) → length shape ≤ k → drop k shape ≡ []
past_end shape k le = grind (arith, common_steps)

-- one more value was read
pub reads_on : (all : Reading) (vs : List Value) (at : ℕ) (shape : List Field) (k : ℕ) (d : Field)
    (words : List (List ℕ)) (word : List ℕ) (rest : List (List ℕ)) (v : Value)
    → all ≡ behind vs (values_of at (drop k shape) words) → k < length shape → word_at at words ≡ Ok (word, rest)
    → Some v ≡ value_of (get_or shape k d) word
    → all ≡ behind (vs ++ v ∷ []) (values_of (at + 1) (drop (k + 1) shape) rest)
unfolding values_of
reads_on all vs at shape k d words word rest v h lt found is =
    h
    ∙ (ap (λ (s : List Field). behind vs (values_of at s words)) (at_place shape k d lt)
    ∙ (rw (found, sym is) (behind_more vs v (values_of (at + 1) (drop (k + 1) shape) rest))))

-- the word spells no value of its field
pub reads_bad : (all : Reading) (vs : List Value) (at : ℕ) (shape : List Field) (k : ℕ) (d : Field)
    (words : List (List ℕ)) (word : List ℕ) (rest : List (List ℕ))
    → all ≡ behind vs (values_of at (drop k shape) words) → k < length shape → word_at at words ≡ Ok (word, rest)
    → None ≡ value_of (get_or shape k d) word
    → all ≡ Err (at, fault_of (get_or shape k d))
unfolding values_of
reads_bad all vs at shape k d words word rest h lt found is =
    h ∙ (ap (λ (s : List Field). behind vs (values_of at s words)) (at_place shape k d lt) ∙ (rw (found, sym is) refl))

-- there is no word
pub reads_none : (all : Reading) (vs : List Value) (at : ℕ) (shape : List Field) (k : ℕ) (d : Field)
    (words : List (List ℕ)) (e : ParseFault)
    → all ≡ behind vs (values_of at (drop k shape) words) → k < length shape → Fails e (word_at at words) → Fails e all
unfolding values_of
reads_none all vs at shape k d words errors.OutOfMemory h lt none = tt
reads_none all vs at shape k d words (errors.Line place fault) h lt none =
    h ∙ (ap (λ (s : List Field). behind vs (values_of at s words)) (at_place shape k d lt) ∙ (rw none refl))

-- all was read
pub reads_all : (all : Reading) (vs : List Value) (at : ℕ) (shape : List Field) (k : ℕ) (words : List (List ℕ))
    → all ≡ behind vs (values_of at (drop k shape) words) → length shape ≤ k → all ≡ Ok (vs, words)
unfolding values_of
reads_all all vs at shape k words h le =
    h
    ∙ (ap (λ (s : List Field). behind vs (values_of at s words)) (past_end shape k le)
    ∙ ap (λ (t : List Value). Ok (t, words)) (append-nil vs))

-- the fields of the values so far
pub fields_on : (vs : List Value) (v : Value) (shape : List Field) (k : ℕ) (d : Field) → k < length shape
    → map field_of vs ≡ take k shape → field_of v ≡ get_or shape k d → map field_of (vs ++ v ∷ []) ≡ take (k + 1) shape
fields_on vs v shape k d lt h is =
    map-append field_of vs (v ∷ []) ∙ (rw (h, is) (sym (take_more shape k d lt)))

pub fields_all : (vs : List Value) (shape : List Field) (k : ℕ) → length shape ≤ k → map field_of vs ≡ take k shape
    → map field_of vs ≡ shape
fields_all vs shape k le h = h ∙ take_all k shape le
