-- The laws of the words of commands, once for all commands.
use Rattle.std.proofs.Common.{◌≡◌, ℕ, suc, ◌+◌, ◌<◌, ◌≤◌, List, [], ◌∷◌, ◌++◌, length, drop, drop-cons, false, Some}
use Rattle.std.proofs.Common.{None, Ok, refl, sym, ap, ◌∙◌, subst, map, arith, not, eqb, true, inl, inr}
use Rattle.std.specs.List.{list_all}
use Rattle.std.proofs.lemmas.Bool.{cases_lt}
use Rattle.std.proofs.lemmas.Grind.{common_steps}
use Rattle.std.proofs.lemmas.List.{append-nil}
use Rattle.desk_edit.specs.declared.command.Command.{Command}
use Rattle.desk_text.specs.declared.fault.Fault.TheVariants.{UnknownWord}
use Rattle.desk_text.specs.declared.value.Field.{Field}
use Rattle.desk_text.specs.declared.value.Field.TheVariants as fields
use Rattle.desk_text.specs.declared.value.Value.{Value}
use Rattle.desk_text.specs.declared.value.Value.TheVariants as values
use Rattle.desk_text.specs.declared.name.Name.{Name}
use Rattle.desk_text.specs.declared.name.Head.{Head}
use Rattle.desk_text.specs.Words.{word_at, none_left, value_or}
use Rattle.desk_rows.specs.Values.{as_codec, as_media}
use Rattle.desk_text.specs.Values.{field_of, in_row, value_text, AllFit, values_of, value_at, number_in, address_in}
use Rattle.desk_text.specs.Calls.{name_text, all_names, name_of, shape_of, Spelt, fields_of, command_with, with_rate}
use Rattle.desk_text.specs.Calls.{command_of, command_words, SpellCommand, IsCommand, is_slash, head_text, head_of}
use Rattle.desk_text.proofs.Joined.{AllFree, free_test}
use Rattle.desk_text.proofs.ValueLaws.{found_text, free_values, bind_ok, word_back, or_back, values_back, values_again}

-- ---- the tables

name_again : (n : Name) → name_of (name_text n) ≡ Some n
name_again n = grind arith

name_free : (n : Name) → list_all (λ b. not (eqb b 32)) (name_text n) ≡ true
name_free n = grind arith

-- no name begins a call of another kind, or is the word between commands
pub name_no_head : (n : Name) → head_of (name_text n) ≡ None
name_no_head n = grind arith

pub name_no_slash : (n : Name) → is_slash (name_text n) ≡ false
name_no_slash n = grind arith

pub head_free : (h : Head) → list_all (λ b. not (eqb b 32)) (head_text h) ≡ true
head_free h = grind arith

rebuilds : (c : Command) → command_with (fields_of c).name (fields_of c).values ≡ c
rebuilds c = grind arith

shaped : (c : Command) → map field_of (fields_of c).values ≡ shape_of (fields_of c).name
shaped c = grind arith

-- a value of a field, read from a value
unfoldable pub with_field : Field → Value → Value
with_field fields.U16 v = values.U16 (number_in v)
with_field fields.U32 v = values.U32 (number_in v)
with_field fields.U64 v = values.U64 (number_in v)
with_field fields.Operator v = values.Operator (number_in v)
with_field fields.Address v = values.Address (address_in v)
with_field fields.Codec v = values.Codec (as_codec (in_row v))
with_field fields.Media v = values.Media (as_media (in_row v))

-- values of fields, read from values from a place on
unfoldable pub read_from : ℕ → List Field → List Value → List Value
read_from k [] vs = []
read_from k (f ∷ shape) vs = with_field f (value_at k vs) ∷ read_from (k + 1) shape vs

says : (n : Name) (vs : List Value)
    → let read = read_from 0 (shape_of n) vs in fields_of (command_with n read) ≡ record { name = n; values = read }
unfolding read_from with_field
says n vs = grind arith

-- ---- values of fields

same_field : (v : Value) → with_field (field_of v) v ≡ v
unfolding with_field
same_field v = grind arith

none_mapped : (vs : List Value) → map field_of vs ≡ [] → [] ≡ vs
none_mapped [] h = refl
none_mapped (v ∷ vs) h = absurd cc

at_place : (vs : List Value) (k : ℕ) → k < length vs → drop k vs ≡ value_at k vs ∷ drop (k + 1) vs
at_place vs k lt = let e : k + 1 ≡ suc k = omega arith in rw e (drop-cons vs k (values.U64 0) lt)

past_end : (vs : List Value) (k : ℕ) → length vs ≤ k → drop k vs ≡ []
past_end vs k le = grind (arith, common_steps)

read_drop : (k : ℕ) (shape : List Field) (vs : List Value) → map field_of (drop k vs) ≡ shape
    → read_from k shape vs ≡ drop k vs
unfolding read_from
read_drop k [] vs h = none_mapped (drop k vs) h
read_drop k (f ∷ shape) vs h =
    elim (cases_lt k (length vs)) [
      | inl lt ↦
          let at = at_place vs k lt in
          let both : field_of (value_at k vs) ∷ map field_of (drop (k + 1) vs) ≡ f ∷ shape =
          ap (map field_of) (sym at) ∙ h in
          let first : field_of (value_at k vs) ≡ f = cc in
          let others : map field_of (drop (k + 1) vs) ≡ shape = cc in
          ap (λ (g : Field). with_field g (value_at k vs) ∷ read_from (k + 1) shape vs) (sym first)
          ∙ (ap (λ (v : Value). v ∷ read_from (k + 1) shape vs) (same_field (value_at k vs))
          ∙ (ap (λ (t : List Value). value_at k vs ∷ t) (read_drop (k + 1) shape vs others) ∙ sym at))
      | inr le ↦
          let none : [] ≡ f ∷ shape = ap (map field_of) (sym (past_end vs k le)) ∙ h in
          absurd cc
    ]

pub read_all : (shape : List Field) (vs : List Value) → map field_of vs ≡ shape → read_from 0 shape vs ≡ vs
read_all shape vs h = read_drop 0 shape vs h

-- values of a name's fields are what the call says
pub says_back : (n : Name) (vs : List Value) → map field_of vs ≡ shape_of n
    → fields_of (command_with n vs) ≡ record { name = n; values = vs }
says_back n vs h =
    subst (λ (t : List Value). fields_of (command_with n t) ≡ record { name = n; values = t })
    (read_all (shape_of n) vs h) (says n vs)

-- words spell a name with values
abbrev Spells : List (List ℕ) → Spelt → Type 0
Spells words s =
    (behind : List (List ℕ)) × (words ≡ name_text s.name ∷ behind) × (with_rate s.name behind ≡ map value_text s.values)

pub none_back : (place : ℕ) (words : List (List ℕ)) → none_left place words ≡ Ok tt → words ≡ []
none_back place [] e = refl
none_back place (w ∷ ws) e = absurd cc

-- ---- commands

-- the words of a command name the rate of its room
rated : (c : Command)
    → with_rate (fields_of c).name (map value_text (fields_of c).values) ≡ map value_text (fields_of c).values
rated c = grind arith

-- a command's words spell it
pub command_spelt : (c : Command) → SpellCommand (command_words c) c
command_spelt c = (map value_text (fields_of c).values, refl, rated c)

values_read : (place : ℕ) (c : Command) → IsCommand c
    → values_of place (shape_of (fields_of c).name) (map value_text (fields_of c).values)
    ≡ Ok ((fields_of c).values, [])
values_read place c h =
    let vs = (fields_of c).values in
    let texts = map value_text vs in
    subst (λ (shape : List Field). values_of place shape texts ≡ Ok (vs, [])) (shaped c)
    (subst (λ (ws : List (List ℕ)). values_of place (map field_of vs) ws ≡ Ok (vs, [])) (append-nil texts)
    (values_again place vs [] h))

-- words that spell a command are read as the command
pub command_again : (place : ℕ) (words : List (List ℕ)) (c : Command) → SpellCommand words c → IsCommand c
    → command_of place words ≡ Ok c
unfolding command_of
command_again place words c spelt h =
    rw (spelt.1, name_again (fields_of c).name, spelt.2, values_read (place + 1) c h, rebuilds c) refl

-- words that are read as a command spell it
pub command_back : (place : ℕ) (words : List (List ℕ)) (c : Command) → command_of place words ≡ Ok c
    → SpellCommand words c × IsCommand c
unfolding command_of
command_back place words c e =
    let w = bind_ok (word_at place words) _ c e in
    let n = bind_ok (value_or place UnknownWord (name_of w.0.0)) _ c w.2 in
    let r = bind_ok (values_of (place + 1) (shape_of n.0) (with_rate n.0 w.0.1)) _ c n.2 in
    let l = bind_ok (none_left (place + 1 + length (shape_of n.0)) r.0.1) _ c r.2 in
    let is : command_with n.0 r.0.0 ≡ c = cc (l.2) in
    let b = values_back (place + 1) (shape_of n.0) (with_rate n.0 w.0.1) r.0 r.1 in
    let said : fields_of c ≡ record { name = n.0; values = r.0.0 } = ap fields_of (sym is) ∙ says_back n.0 r.0.0 b.1 in
    let name : w.0.0 ≡ name_text n.0 =
    found_text name_text w.0.0 all_names n.0 (or_back place UnknownWord (name_of w.0.0) n.0 n.1) in
    let none : r.0.1 ≡ [] = none_back _ r.0.1 l.1 in
    let filled : with_rate n.0 w.0.1 ≡ map value_text r.0.0 =
    b.0 ∙ (ap (λ (t : List (List ℕ)). map value_text r.0.0 ++ t) none ∙ append-nil (map value_text r.0.0)) in
    let text : words ≡ name_text n.0 ∷ w.0.1 = word_back place words w.0 w.1 ∙ ap (λ (t : List ℕ). t ∷ w.0.1) name in (
      subst (λ (s : Spelt). Spells words s) (sym said) (w.0.1, text, filled),
      subst (λ (s : Spelt). AllFit s.values) (sym said) b.2,
    )

pub command_free : (c : Command) → IsCommand c → AllFree 32 (command_words c)
command_free c h =
    (free_test 32 (name_text (fields_of c).name) (name_free (fields_of c).name), free_values (fields_of c).values h)
