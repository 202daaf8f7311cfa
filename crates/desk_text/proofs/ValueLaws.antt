-- A value's word is what is printed of the value.
use Rattle.std.proofs.Common.{◌≡◌, ℕ, get_or, ◌+◌, ◌<◌, ◌≤◌, ◌^◌, List, [], ◌∷◌, ◌++◌, Option, Some, None, Result, Ok}
use Rattle.std.proofs.Common.{Err, refl, ap, ◌∙◌, subst, arith, Bool, true, codes, map, inl, inr}
use Rattle.std.specs.Option.{option_map}
use Rattle.std.specs.List.{find}
use Rattle.std.specs.Str.{bytes_eq}
use Rattle.std.specs.Fmt.{decimal}
use Rattle.std.proofs.lemmas.Slice.Eq.{bytes_eq-Decides}
use Rattle.std.proofs.lemmas.Bool.{cases_Bool}
use Rattle.desk_rows.specs.declared.row.Codec.TheVariants.{Pcmu, L16}
use Rattle.desk_rows.specs.declared.row.Media.TheVariants.{Audio, Video}
use Rattle.desk_text.specs.declared.fault.Fault.{Fault}
use Rattle.desk_text.specs.declared.value.Field.{Field}
use Rattle.desk_text.specs.declared.value.Field.TheVariants as fields
use Rattle.desk_text.specs.declared.value.Value.{Value}
use Rattle.desk_text.specs.declared.value.Value.TheVariants as values
use Rattle.desk_text.specs.Words.{◌>>=◌, word_at, value_or}
use Rattle.desk_text.specs.Numbers.{decimal_of}
use Rattle.desk_text.specs.Addresses.{address_of}
use Rattle.desk_text.specs.Kinds.{codec_text, codec_of, media_text, media_of}
use Rattle.desk_text.specs.Values.{field_of, value_text, Fits, AllFit, value_of, values_of}
use Rattle.desk_text.proofs.NumberLemmas.{spelled, read}
use Rattle.desk_text.proofs.AddressLemmas.{address_spelled, address_again}
use Rattle.desk_text.proofs.Joined.{Free, AllFree, free_test, free_append, free_number}

some_of : {A : Type 0} (x y : A) → Some x ≡ Some y → x ≡ y
some_of x y e = cc

map_some : {A B : Type 0} (f : A → B) (o : Option A) (y : B) → option_map f o ≡ Some y
    → (x : A) × (o ≡ Some x) × (f x ≡ y)
map_some f None y e = absurd cc
map_some f (Some x) y e = (x, refl, some_of _ _ e)

-- what a table finds has passed its test
pub found : {A : Type 0} (test : A → Bool) (xs : List A) (y : A) → find test xs ≡ Some y → test y ≡ true
found test [] y e = absurd cc
found {A} test (x ∷ xs) y e =
    elim (cases_Bool (test x)) [
      | inl is ↦ let same : x ≡ y = some_of x y (rw is at e) in subst (λ (z : A). test z ≡ true) same is
      | inr isnt ↦ found test xs y (rw isnt at e)
    ]

-- what a table of texts finds is written so
pub found_text : {A : Type 0} (text : A → List ℕ) (word : List ℕ) (xs : List A) (y : A)
    → find (λ x. bytes_eq word (text x)) xs ≡ Some y → word ≡ text y
found_text text word xs y e = (bytes_eq-Decides word (text y)).0 (found (λ x. bytes_eq word (text x)) xs y e)

-- what a word that was read says of its value
abbrev pub Back : Field → List ℕ → Value → Type 0
Back f word v = (word ≡ value_text v) × (field_of v ≡ f) × Fits v

by_number : (max : ℕ) → max < 2 ^ 64 → (make : ℕ → Value) (f : Field) (word : List ℕ) (v : Value)
    → ((n : ℕ) → (word ≡ decimal n) × (n ≤ max) → Back f word (make n)) → option_map make (decimal_of max word) ≡ Some v
    → Back f word v
by_number max small make f word v h e =
    let m = map_some make (decimal_of max word) v e in
    subst (λ (x : Value). Back f word x) m.2 (h m.0 (spelled max m.0 word small m.1))

value_back : (f : Field) (word : List ℕ) (v : Value) → value_of f word ≡ Some v → Back f word v
value_back fields.U16 word v e = by_number 65535 (omega arith) values.U16 fields.U16 word v (λ n s. (s.0, refl, s.1)) e
value_back fields.U32 word v e =
    by_number 4294967295 (omega arith) values.U32 fields.U32 word v (λ n s. (s.0, refl, s.1)) e
value_back fields.U64 word v e =
    by_number 18446744073709551615 (omega arith) values.U64 fields.U64 word v (λ n s. (s.0, refl, s.1)) e
value_back fields.Operator word v e =
    by_number 15 (omega arith) values.Operator fields.Operator word v (λ n s. (s.0, refl, s.1)) e
value_back fields.Address word v e =
    let m = map_some values.Address (address_of word) v e in
    let b = address_spelled word m.0 m.1 in
    subst (λ (x : Value). Back fields.Address word x) m.2 (b.0, refl, b.1)
value_back fields.Codec word v e =
    let m = map_some values.Codec (codec_of word) v e in
    subst (λ (x : Value). Back fields.Codec word x) m.2 (found_text codec_text word (Pcmu ∷ L16 ∷ []) m.0 m.1, refl, tt)
value_back fields.Media word v e =
    let m = map_some values.Media (media_of word) v e in
    subst (λ (x : Value). Back fields.Media word x) m.2
    (found_text media_text word (Audio ∷ Video ∷ []) m.0 m.1, refl, tt)

pub value_again : (v : Value) → Fits v → value_of (field_of v) (value_text v) ≡ Some v
value_again (values.U16 n) h = ap (option_map values.U16) (read 65535 n (omega arith) h)
value_again (values.U32 n) h = ap (option_map values.U32) (read 4294967295 n (omega arith) h)
value_again (values.U64 n) h = ap (option_map values.U64) (read 18446744073709551615 n (omega arith) h)
value_again (values.Operator n) h = ap (option_map values.Operator) (read 15 n (omega arith) h)
value_again (values.Address a) h = ap (option_map values.Address) (address_again a h)
value_again (values.Codec Pcmu) h = refl
value_again (values.Codec L16) h = refl
value_again (values.Media Audio) h = refl
value_again (values.Media Video) h = refl

-- no value's word has a space
free_value : (v : Value) → Fits v → Free 32 (value_text v)
free_value (values.U16 n) h = free_number n (omega arith)
free_value (values.U32 n) h = free_number n (omega arith)
free_value (values.U64 n) h = free_number n (omega arith)
free_value (values.Operator n) h = free_number n (omega arith)
free_value (values.Address a) h =
    let part : (k : ℕ) → Free 32 (decimal (get_or a.ip k 0)) = λ k.
    free_number (get_or a.ip k 0) (omega (arith, h.octets k)) in
    let dot : Free 32 (codes ".") = (refl, tt) in
    let join = free_append 32 in
    join _ _
    (join _ _
    (join _ _ (join _ _ (join _ _ (join _ _ (join _ _ (join _ _ (part 0) dot) (part 1)) dot) (part 2)) dot) (part 3))
    (refl, tt))
    (free_number a.port (omega (arith, h.port)))
free_value (values.Codec Pcmu) h = free_test 32 (codes "pcmu") refl
free_value (values.Codec L16) h = free_test 32 (codes "l16") refl
free_value (values.Media Audio) h = free_test 32 (codes "audio") refl
free_value (values.Media Video) h = free_test 32 (codes "video") refl

pub free_values : (vs : List Value) → AllFit vs → AllFree 32 (map value_text vs)
free_values [] h = tt
free_values (v ∷ vs) h = (free_value v h.0, free_values vs h.1)

-- ---- values one after another

pub bind_ok : {A B : Type 0} (r : Result A (ℕ × Fault)) (f : A → Result B (ℕ × Fault)) (y : B) → (r >>= f) ≡ Ok y
    → (x : A) × (r ≡ Ok x) × (f x ≡ Ok y)
bind_ok (Ok x) f y e = (x, refl, e)
bind_ok (Err x) f y e = absurd cc

pub word_back : (place : ℕ) (words : List (List ℕ)) (x : List ℕ × List (List ℕ)) → word_at place words ≡ Ok x
    → words ≡ x.0 ∷ x.1
word_back place [] x e = absurd cc
word_back place (w ∷ ws) x e = let is : (w, ws) ≡ x = cc in ap (λ (p : List ℕ × List (List ℕ)). p.0 ∷ p.1) is

pub or_back : {A : Type 0} (place : ℕ) (fault : Fault) (o : Option A) (x : A) → value_or place fault o ≡ Ok x
    → o ≡ Some x
or_back place fault None x e = absurd cc
or_back place fault (Some y) x e = cc

-- what words that were read say of the values
abbrev pub AllBack : List Field → List (List ℕ) → List Value × List (List ℕ) → Type 0
AllBack shape words x = (words ≡ map value_text x.0 ++ x.1) × (map field_of x.0 ≡ shape) × AllFit x.0

pub values_back : (place : ℕ) (shape : List Field) (words : List (List ℕ)) (x : List Value × List (List ℕ))
    → values_of place shape words ≡ Ok x → AllBack shape words x
unfolding values_of
values_back place [] words x e =
    let is : ([], words) ≡ x = cc in subst (λ (y : List Value × List (List ℕ)). AllBack [] words y) is (refl, refl, tt)
values_back place (f ∷ shape) words x e =
    let w = bind_ok (word_at place words) _ x e in
    let v = bind_ok (value_or place _ (value_of f w.0.0)) _ x w.2 in
    let o = bind_ok (values_of (place + 1) shape w.0.1) _ x v.2 in
    let b = value_back f w.0.0 v.0 (or_back place _ (value_of f w.0.0) v.0 v.1) in
    let r = values_back (place + 1) shape w.0.1 o.0 o.1 in
    let is : (v.0 ∷ o.0.0, o.0.1) ≡ x = cc (o.2) in
    subst (λ (y : List Value × List (List ℕ)). AllBack (f ∷ shape) words y) is (
      word_back place words w.0 w.1
          ∙ (ap (λ (t : List ℕ). t ∷ w.0.1) b.0 ∙ ap (λ (t : List (List ℕ)). value_text v.0 ∷ t) r.0),
      ap (λ (t : Field). t ∷ map field_of o.0.0) b.1 ∙ ap (λ (t : List Field). f ∷ t) r.1,
      (b.2, r.2),
    )

pub values_again : (place : ℕ) (vs : List Value) (words : List (List ℕ)) → AllFit vs
    → values_of place (map field_of vs) (map value_text vs ++ words) ≡ Ok (vs, words)
unfolding values_of
values_again place [] words h = refl
values_again place (v ∷ vs) words h = rw (value_again v h.0, values_again (place + 1) vs words h.1) refl
