-- The laws of the words of groups.
use Rattle.std.proofs.Common.{◌≡◌, ℕ, ◌+◌, List, [], ◌∷◌, length, false, Some, None, Ok, refl, sym, ap, ◌∙◌, subst, map}
use Rattle.std.proofs.Common.{inl, inr}
use Rattle.std.specs.List.{All, slice_split}
use Rattle.std.proofs.lemmas.Bool.{cases_Bool}
use Rattle.std.proofs.lemmas.List.Elements.{All-cons, All-nil}
use Rattle.std.proofs.lemmas.List.Splits.{slice_split_at, slice_split_none}
use Rattle.std.proofs.lemmas.Slice.Eq.{bytes_eq-Decides}
use Rattle.desk_edit.specs.declared.command.Command.{Command}
use Rattle.desk_text.specs.declared.value.Field.{Field}
use Rattle.desk_text.specs.declared.value.Field.TheVariants as fields
use Rattle.desk_text.specs.declared.value.Value.{Value}
use Rattle.desk_text.specs.Addresses.{address_of, field_of as number_before}
use Rattle.desk_text.specs.Values.{field_of, value_text, value_of, Fits, AllFit}
use Rattle.desk_text.specs.Calls.{name_text, fields_of, command_of, command_words, IsCommand, slash, is_slash}
use Rattle.desk_text.specs.Calls.{commands_of, group_words, SpellCommands, AreCommands}
use Rattle.desk_text.proofs.Joined.{AllFree, free_test, free_append_all}
use Rattle.desk_text.proofs.ValueLaws.{bind_ok, value_again}
use Rattle.desk_text.proofs.CommandLaws.{name_no_slash, command_spelt, command_again, command_back, command_free}

-- ---- no word of a command is a `/`

-- which spells no value
slash_none : (f : Field) → value_of f slash ≡ None
unfolding address_of number_before
slash_none fields.U16 = refl
slash_none fields.U32 = refl
slash_none fields.U64 = refl
slash_none fields.Operator = refl
slash_none fields.Address = refl
slash_none fields.Codec = refl
slash_none fields.Media = refl

value_no_slash : (v : Value) → Fits v → is_slash (value_text v) ≡ false
value_no_slash v h =
    elim (cases_Bool (is_slash (value_text v))) [
      | inl is ↦
          let same : value_text v ≡ slash = (bytes_eq-Decides (value_text v) slash).0 is in
          let both : Some v ≡ None =
          sym (value_again v h) ∙ (ap (value_of (field_of v)) same ∙ slash_none (field_of v)) in
          absurd cc
      | inr isnt ↦ isnt
    ]

abbrev NoSlash : List ℕ → Type 0
NoSlash w = is_slash w ≡ false

values_no_slash : (vs : List Value) → AllFit vs → All NoSlash (map value_text vs)
values_no_slash [] h = All-nil NoSlash
values_no_slash (v ∷ vs) h =
    All-cons NoSlash (value_text v) (map value_text vs) (value_no_slash v h.0) (values_no_slash vs h.1)

command_no_slash : (c : Command) → IsCommand c → All NoSlash (command_words c)
command_no_slash c h =
    All-cons NoSlash (name_text (fields_of c).name) (map value_text (fields_of c).values)
    (name_no_slash (fields_of c).name) (values_no_slash (fields_of c).values h)

-- ---- groups

-- the parts of the words of commands spell the commands
pub group_spelt : (c : Command) (cs : List Command) → AreCommands (c ∷ cs)
    → SpellCommands (slice_split is_slash (group_words (c ∷ cs))) (c ∷ cs)
group_spelt c [] h =
    subst (λ (parts : List (List (List ℕ))). SpellCommands parts (c ∷ []))
    (sym (slice_split_none is_slash (command_words c) (command_no_slash c h.0))) (command_spelt c, tt)
group_spelt c (d ∷ cs) h =
    subst (λ (parts : List (List (List ℕ))). SpellCommands parts (c ∷ d ∷ cs))
    (sym (slice_split_at is_slash (command_words c) slash (group_words (d ∷ cs)) (command_no_slash c h.0) refl))
    (command_spelt c, group_spelt d cs h.1)

-- parts that spell commands are read as the commands
pub commands_again : (place : ℕ) (parts : List (List (List ℕ))) (cs : List Command) → SpellCommands parts cs
    → AreCommands cs → commands_of place parts ≡ Ok cs
unfolding commands_of
commands_again place [] [] spelt h = refl
commands_again place [] (c ∷ cs) spelt h = absurd spelt
commands_again place (part ∷ parts) [] spelt h = absurd spelt
commands_again place (part ∷ parts) (c ∷ cs) spelt h =
    rw (command_again place part c spelt.0 h.0, commands_again (place + length part + 1) parts cs spelt.1 h.1) refl

-- parts that are read as commands spell them
pub commands_back : (place : ℕ) (parts : List (List (List ℕ))) (cs : List Command) → commands_of place parts ≡ Ok cs
    → SpellCommands parts cs × AreCommands cs
unfolding commands_of
commands_back place [] cs e =
    let is : [] ≡ cs = cc in subst (λ (t : List Command). SpellCommands [] t × AreCommands t) is (tt, tt)
commands_back place (part ∷ parts) cs e =
    let c = bind_ok (command_of place part) _ cs e in
    let o = bind_ok (commands_of (place + length part + 1) parts) _ cs c.2 in
    let is : c.0 ∷ o.0 ≡ cs = cc (o.2) in
    let b = command_back place part c.0 c.1 in
    let r = commands_back (place + length part + 1) parts o.0 o.1 in
    subst (λ (t : List Command). SpellCommands (part ∷ parts) t × AreCommands t) is ((b.0, r.0), (b.1, r.1))

pub group_free : (cs : List Command) → AreCommands cs → AllFree 32 (group_words cs)
group_free [] h = tt
group_free (c ∷ []) h = command_free c h.0
group_free (c ∷ d ∷ cs) h =
    free_append_all 32 (command_words c) (slash ∷ group_words (d ∷ cs)) (command_free c h.0)
    (free_test 32 slash refl, group_free (d ∷ cs) h.1)
