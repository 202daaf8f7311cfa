-- The laws of the lines of calls.
use Rattle.std.proofs.Common.{◌≡◌, ℕ, ◌+◌, List, [], ◌∷◌, ◌++◌, Option, Some, None, Ok, refl, sym, ap, ◌∙◌, subst}
use Rattle.std.proofs.Common.{map, take, codes}
use Rattle.std.specs.List.{join_with_byte, slice_split}
use Rattle.desk_edit.specs.declared.command.Command.{Command}
use Rattle.desk_edit.specs.Asked.{CallOf}
use Rattle.desk_edit.specs.Asked.CallOf.{Apply, Group, Undo, Redo, Revert}
use Rattle.desk_text.specs.declared.value.Field.TheVariants as fields
use Rattle.desk_text.specs.declared.value.Value.{Value}
use Rattle.desk_text.specs.declared.value.Value.TheVariants as values
use Rattle.desk_text.specs.declared.name.Head.{Head}
use Rattle.desk_text.specs.declared.name.Head.TheVariants as heads
use Rattle.desk_text.specs.Words.{words_of, word_at, none_left}
use Rattle.desk_text.specs.Values.{field_of, value_text, Fits, AllFit, values_of, number_at}
use Rattle.desk_text.specs.Calls.{name_text, fields_of, command_of, SpellCommand, is_slash, commands_of, group_words}
use Rattle.desk_text.specs.Calls.{SpellCommands, AreCommands, head_text, all_heads, head_of, last_of, headed, single}
use Rattle.desk_text.specs.Calls.{call_by, call_of, call_words, SpellCall, call_line, IsCall}
use Rattle.desk_text.proofs.Joined.{AllFree, free_test, parts_joined}
use Rattle.desk_text.proofs.PartLemmas.{some_parts}
use Rattle.desk_text.proofs.ValueLaws.{found_text, free_values, bind_ok, word_back, values_back, values_again}
use Rattle.desk_text.proofs.CommandLaws.{name_no_head, head_free, none_back, command_spelt, command_again}
use Rattle.desk_text.proofs.CommandLaws.{command_back, command_free}
use Rattle.desk_text.proofs.GroupLaws.{group_spelt, commands_again, commands_back, group_free}

-- ---- undo and redo

last_again : (place last : ℕ) → Fits (values.U64 last) → last_of place (value_text (values.U64 last) ∷ []) ≡ Ok last
unfolding last_of
last_again place last h = rw (values_again place (values.U64 last ∷ []) [] (h, tt)) refl

number_of_call : (vs : List Value) → map field_of vs ≡ fields.U64 ∷ [] → AllFit vs
    → (last : ℕ) × (vs ≡ values.U64 last ∷ []) × Fits (values.U64 last)
number_of_call [] h fit = absurd cc
number_of_call (values.U64 last ∷ []) h fit = (last, refl, fit.0)
number_of_call (values.U64 last ∷ v ∷ vs) h fit = absurd cc
number_of_call (values.Operator op ∷ vs) h fit = absurd cc
number_of_call (values.U16 n ∷ vs) h fit = absurd cc
number_of_call (values.U32 n ∷ vs) h fit = absurd cc
number_of_call (values.Address a ∷ vs) h fit = absurd cc
number_of_call (values.Codec codec ∷ vs) h fit = absurd cc
number_of_call (values.Media media ∷ vs) h fit = absurd cc

last_back : (place : ℕ) (words : List (List ℕ)) (last : ℕ) → last_of place words ≡ Ok last
    → (words ≡ value_text (values.U64 last) ∷ []) × Fits (values.U64 last)
unfolding last_of
last_back place words last e =
    let r = bind_ok (values_of place (fields.U64 ∷ []) words) _ last e in
    let l = bind_ok (none_left (place + 1) r.0.1) _ last r.2 in
    let is : number_at 0 r.0.0 ≡ last = cc (l.2) in
    let b = values_back place (fields.U64 ∷ []) words r.0 r.1 in
    let n = number_of_call r.0.0 b.1 b.2 in
    let none : r.0.1 ≡ [] = none_back _ r.0.1 l.1 in
    let same : n.0 ≡ last = ap (λ (vs : List Value). number_at 0 vs) (sym n.1) ∙ is in (
      b.0
          ∙ (ap (λ (t : List (List ℕ)). map value_text r.0.0 ++ t) none
          ∙ (ap (λ (vs : List Value). map value_text vs ++ []) n.1
          ∙ ap (λ (m : ℕ). value_text (values.U64 m) ∷ []) same)),
      subst (λ (m : ℕ). Fits (values.U64 m)) same n.2,
    )

-- ---- calls

-- the words of a call spell it
pub call_spelt : (c : CallOf) → IsCall c → SpellCall (call_words c) c
call_spelt (Apply c) h = command_spelt c
call_spelt (Group []) h = absurd h
call_spelt (Group (c ∷ cs)) h = (group_words (c ∷ cs), refl, group_spelt c cs h)
call_spelt (Undo last) h = refl
call_spelt (Redo last) h = refl
call_spelt (Revert number) h = refl

-- words that spell a command begin no other call
command_begins : (base : ℕ) (words : List (List ℕ)) (c : Command) → SpellCommand words c
    → call_of base words ≡ single (base + 1) words
unfolding call_of
command_begins base words c spelt = rw (spelt.1, name_no_head (fields_of c).name) refl

-- words that spell a call are read as the call
pub call_again : (base : ℕ) (words : List (List ℕ)) (c : CallOf) → SpellCall words c → IsCall c
    → call_of base words ≡ Ok c
unfolding call_of single headed
call_again base words (Apply c) spelt h =
    command_begins base words c spelt ∙ rw (command_again (base + 1) words c spelt h) refl
call_again base words (Group []) spelt h = absurd h
call_again base words (Group (c ∷ cs)) spelt h =
    rw (spelt.1, commands_again (base + 1 + 1) (slice_split is_slash spelt.0) (c ∷ cs) spelt.2 h) refl
call_again base words (Undo last) spelt h = rw (spelt, last_again (base + 1 + 1) last h) refl
call_again base words (Redo last) spelt h = rw (spelt, last_again (base + 1 + 1) last h) refl
call_again base words (Revert number) spelt h = rw (spelt, last_again (base + 1 + 1) number h) refl

-- words spell a call, whose numbers are in range
abbrev IsOf : List (List ℕ) → CallOf → Type 0
IsOf words c = SpellCall words c × IsCall c

group_back : (behind : List (List ℕ)) (cs : List Command) → SpellCommands (slice_split is_slash behind) cs
    → AreCommands cs → IsOf (head_text heads.Group ∷ behind) (Group cs)
group_back behind [] spelt h =
    let rest = some_parts is_slash behind in
    absurd (subst (λ (parts : List (List (List ℕ))). SpellCommands parts []) rest.2 spelt)
group_back behind (c ∷ cs) spelt h = ((behind, refl, spelt), h)

headed_back : (h : Head) (place : ℕ) (behind : List (List ℕ)) (c : CallOf) → headed h place behind ≡ Ok c
    → IsOf (head_text h ∷ behind) c
unfolding headed
headed_back heads.Undo place behind c e =
    let l = bind_ok (last_of (place + 1) behind) _ c e in
    let is : Undo l.0 ≡ c = cc (l.2) in
    let b = last_back (place + 1) behind l.0 l.1 in
    subst (IsOf (head_text heads.Undo ∷ behind)) is (ap (λ (t : List (List ℕ)). head_text heads.Undo ∷ t) b.0, b.1)
headed_back heads.Redo place behind c e =
    let l = bind_ok (last_of (place + 1) behind) _ c e in
    let is : Redo l.0 ≡ c = cc (l.2) in
    let b = last_back (place + 1) behind l.0 l.1 in
    subst (IsOf (head_text heads.Redo ∷ behind)) is (ap (λ (t : List (List ℕ)). head_text heads.Redo ∷ t) b.0, b.1)
headed_back heads.Revert place behind c e =
    let l = bind_ok (last_of (place + 1) behind) _ c e in
    let is : Revert l.0 ≡ c = cc (l.2) in
    let b = last_back (place + 1) behind l.0 l.1 in
    subst (IsOf (head_text heads.Revert ∷ behind)) is
    (ap (λ (t : List (List ℕ)). head_text heads.Revert ∷ t) b.0, b.1)
headed_back heads.Group place behind c e =
    let cs = bind_ok (commands_of (place + 1) (slice_split is_slash behind)) _ c e in
    let is : Group cs.0 ≡ c = cc (cs.2) in
    let b = commands_back (place + 1) (slice_split is_slash behind) cs.0 cs.1 in
    subst (IsOf (head_text heads.Group ∷ behind)) is (group_back behind cs.0 b.0 b.1)

single_back : (place : ℕ) (words : List (List ℕ)) (c : CallOf) → single place words ≡ Ok c → IsOf words c
unfolding single
single_back place words c e =
    let one = bind_ok (command_of place words) _ c e in
    let is : Apply one.0 ≡ c = cc (one.2) in
    subst (IsOf words) is (command_back place words one.0 one.1)

-- words that are read as a call spell it
pub call_back : (base : ℕ) (words : List (List ℕ)) (c : CallOf) → call_of base words ≡ Ok c
    → SpellCall words c × IsCall c
unfolding call_of
call_back base words c e =
    let w = bind_ok (word_at (base + 1) words) _ c e in
    by (head_of w.0.0) w.0 (word_back (base + 1) words w.0 w.1) refl w.2
  where
    by : (h : Option Head) (w : List ℕ × List (List ℕ)) → words ≡ w.0 ∷ w.1 → head_of w.0 ≡ h
        → call_by h (base + 1) words w.1 ≡ Ok c → IsOf words c
    by None w is none e = single_back (base + 1) words c e
    by (Some h) w is found e =
        let text : head_text h ∷ w.1 ≡ words =
        ap (λ (t : List ℕ). t ∷ w.1) (sym (found_text head_text w.0 all_heads h found)) ∙ sym is in
        subst (λ (ws : List (List ℕ)). IsOf ws c) text (headed_back h (base + 1) w.1 c e)

pub words_free : (c : CallOf) → IsCall c → AllFree 32 (call_words c)
words_free (Apply c) h = command_free c h
words_free (Group []) h = absurd h
words_free (Group (c ∷ cs)) h = (free_test 32 (head_text heads.Group) (head_free heads.Group), group_free (c ∷ cs) h)
words_free (Undo last) h =
    (free_test 32 (head_text heads.Undo) (head_free heads.Undo), free_values (values.U64 last ∷ []) (h, tt))
words_free (Redo last) h =
    (free_test 32 (head_text heads.Redo) (head_free heads.Redo), free_values (values.U64 last ∷ []) (h, tt))
words_free (Revert number) h =
    (free_test 32 (head_text heads.Revert) (head_free heads.Revert), free_values (values.U64 number ∷ []) (h, tt))

-- a call has a first word
first_word : (c : CallOf) → (w : List ℕ) × (ws : List (List ℕ)) × (call_words c ≡ w ∷ ws)
first_word (Apply c) = (name_text (fields_of c).name, map value_text (fields_of c).values, refl)
first_word (Group cs) = (head_text heads.Group, group_words cs, refl)
first_word (Undo last) = (head_text heads.Undo, value_text (values.U64 last) ∷ [], refl)
first_word (Redo last) = (head_text heads.Redo, value_text (values.U64 last) ∷ [], refl)
first_word (Revert number) = (head_text heads.Revert, value_text (values.U64 number) ∷ [], refl)

words_again : (c : CallOf) → IsCall c → words_of (call_line c) ≡ call_words c
words_again c h =
    let first = first_word c in
    let f = subst (AllFree 32) first.2 (words_free c h) in
    ap (λ (ws : List (List ℕ)). words_of (join_with_byte 32 ws)) first.2
    ∙ (parts_joined 32 first.0 first.1 f.0 f.1 ∙ sym first.2)

-- a call's line is read as the call
pub line_again : (c : CallOf) → IsCall c → call_of 0 (words_of (call_line c)) ≡ Ok c
line_again c h = ap (call_of 0) (words_again c h) ∙ call_again 0 (call_words c) c (call_spelt c h) h

-- ---- a call that may want memory

-- words of which the first is `group`
pub begins_group : (place : ℕ) (words : List (List ℕ)) (word : List ℕ) (rest : List (List ℕ)) (head : Head)
    → word_at place words ≡ Ok (word, rest) → Some head ≡ head_of word → head ≡ heads.Group
    → take 1 words ≡ codes "group" ∷ []
begins_group place words word rest head found is same =
    ap (take 1) (word_back place words (word, rest) found)
    ∙ ap (λ (t : List ℕ). t ∷ []) (found_text head_text word all_heads head (sym is) ∙ ap head_text same)
