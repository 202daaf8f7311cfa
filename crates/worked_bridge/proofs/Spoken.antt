-- What texts spell.
use Rattle.std.proofs.Common.{rules, ◌≡◌, ◌==◌, ℕ, Bool, true, false, nat_lt, if◌then◌else◌, List, [], ◌∷◌, length, Ok}
use Rattle.std.proofs.Common.{Err, sym, ap, subst, ◌∙◌}
use Rattle.std.specs.Prelude.{Result, OnOk, codes}
use Rattle.std.specs.List.{join_with_byte}
use Rattle.std.proofs.lemmas.List.Splits.{join_with_byte-slice_split}
use Rattle.desk_rows.specs.declared.row.Member.{Member}
use Rattle.desk_edit.specs.declared.command.Command.TheVariants.{AddMember}
use Rattle.desk_edit.specs.Asked.{CallOf}
use Rattle.desk_text.specs.declared.fault.Fault.{Fault}
use Rattle.desk_text.specs.declared.fault.Fault.TheVariants.{LineTooLong}
use Rattle.desk_text.specs.Lines.{line_limit}
use Rattle.desk_text.specs.Words.{words_of}
use Rattle.desk_text.specs.Calls.{command_words, SpellCommand, call_of, spoken_words, spoken_call}

abbrev Fails : {A : Type 0} → Result A (ℕ × Fault) → Type 0
Fails (Ok x) = ⊥
Fails (Err e) = Unit {0}

-- a text with words that spells a call
in_words : (text : List ℕ) (call : CallOf) → call_of 0 (spoken_words text) ≡ Ok call
    → call_of 0 (words_of text) ≡ Ok call
unfolding call_of
in_words [] call is = absurd (subst Fails is tt)
in_words (x ∷ xs) call is =
    let some : (length (x ∷ xs) == 0) ≡ false = search rules in
    ap (λ (b : Bool). call_of 0 (if b then [] else words_of (x ∷ xs))) (sym some) ∙ is

-- it spells one only where it is no longer than a line
within : (long : Bool) (read : Result CallOf (ℕ × Fault)) (call : CallOf)
    → (if long then Err (0, LineTooLong) else read) ≡ Ok call → read ≡ Ok call
within false read call is = is
within true read call is = absurd (subst Fails is tt)

-- a text that spells a call has words
pub spoken : (text : List ℕ) (call : CallOf) → spoken_call text ≡ Ok call → call_of 0 (words_of text) ≡ Ok call
spoken text call is =
    in_words text call (within (nat_lt line_limit (length text)) (call_of 0 (spoken_words text)) call is)

-- texts of the same words are one
pub same_words : (first second : List ℕ) → words_of first ≡ words_of second → first ≡ second
same_words first second same =
    sym (join_with_byte-slice_split 32 first) ∙ (ap (join_with_byte 32) same ∙ join_with_byte-slice_split 32 second)

-- words that spell the addition of a member are its words
pub member_words : (words : List (List ℕ)) (m : Member) → SpellCommand words (AddMember m)
    → words ≡ command_words (AddMember m)
member_words words m spelt = spelt.1 ∙ ap (λ (t : List (List ℕ)). codes "add-member" ∷ t) spelt.2

-- what follows holds too where it went well
pub on_ok : {A E : Type 0} {P Q : Type 0} (r : Result A E) → (P → Q) → OnOk r P → OnOk r Q
on_ok (Ok x) follows p = follows p
on_ok (Err e) follows p = p
