-- The line of a call is read as that call.
use Rattle.std.proofs.Common.{◌≡◌, ℕ, ◌≤◌, false, true, List, [], ◌∷◌, ◌++◌, length, map}
use Rattle.std.proofs.Common.{codes, Result, Ok, refl, ap, ◌∙◌, arith, eqb, nat_lt, slice_index}
use Rattle.std.specs.Fmt.{decimal}
use Rattle.std.specs.List.{list_all, join_with_byte}
use Rattle.std.proofs.Math.Dec.{eqb-suc-zero}
use Rattle.std.proofs.lemmas.Bool.{le-ltb}
use Rattle.desk_rows.specs.declared.row.Codec.{Codec}
use Rattle.desk_rows.specs.declared.row.Media.{Media}
use Rattle.desk_edit.specs.declared.command.Command.{Command}
use Rattle.desk_edit.specs.declared.command.Command.TheVariants as commands
use Rattle.desk_edit.specs.Asked.{CallOf}
use Rattle.desk_edit.specs.Asked.CallOf.{Apply, Group, Undo, Redo, Revert}
use Rattle.desk_text.specs.declared.fault.Fault.{Fault}
use Rattle.desk_text.specs.Kinds.{codec_text, media_text}
use Rattle.desk_text.specs.Lines.{limit_of, is_printable}
use Rattle.desk_text.specs.Words.{words_of}
use Rattle.desk_text.specs.Values.{value_text}
use Rattle.desk_text.specs.Calls.{name_text, fields_of, command_words, IsCommand, slash, group_words, AreCommands}
use Rattle.desk_text.specs.Calls.{call_words, IsCall}
use Rattle.desk_text.proofs.Joined.{parts_joined}
use Rattle.script_text.specs.Requests.{Request, Desk, line_request, words_request, desk_words, desk_line}
use Rattle.script_text.specs.ItemLines.{later_request, request_of}
use Rattle.script_text.proofs.DeskLaws.{desk_again}
use Rattle.trace_laws.proofs.VisibleLemmas.{IsWord, AreWords, is_visible, visible_test, visible_number, visible_address}
use Rattle.trace_laws.proofs.VisibleLemmas.{word_free, words_free, line_printable}

-- ---- the words of a command

name_visible : (c : Command) → list_all is_visible (name_text (fields_of c).name) ≡ true
name_visible c = grind arith

codec_visible : (c : Codec) → list_all is_visible (codec_text c) ≡ true
codec_visible c = grind arith

media_visible : (m : Media) → list_all is_visible (media_text m) ≡ true
media_visible m = grind arith

short : (n : ℕ) → n ≤ 65535 → IsWord (decimal n)
short n h = visible_number n (omega (arith, h))

number : (n : ℕ) → n ≤ 4294967295 → IsWord (decimal n)
number n h = visible_number n (omega (arith, h))

long : (n : ℕ) → n ≤ 18446744073709551615 → IsWord (decimal n)
long n h = visible_number n (omega (arith, h))

one : (n : ℕ) → n ≤ 4294967295 → AreWords (decimal n ∷ [])
one n h = (number n h, tt)

two : (m n : ℕ) → m ≤ 4294967295 → n ≤ 4294967295 → AreWords (decimal m ∷ decimal n ∷ [])
two m n h k = (number m h, one n k)

values_visible : (c : Command) → IsCommand c → AreWords (map value_text (fields_of c).values)
values_visible (commands.AddRoom r) h = two r.room r.rate h.0 h.1.0
values_visible (commands.RemoveRoom room) h = one room h.0
values_visible (commands.AddMember m) h = (
  number m.member h.0,
  (
    number m.room h.1.0,
    (
      visible_address m.address h.1.1.0,
      (
        visible_test (codec_text m.codec) (codec_visible m.codec),
        (
          number m.out_audio h.1.1.1.1.0,
          (short m.first_seq h.1.1.1.1.1.0, one m.first_ts h.1.1.1.1.1.1.0),
        ),
      ),
    ),
  ),
)
values_visible (commands.RemoveMember member) h = one member h.0
values_visible (commands.MoveMember member room) h = two member room h.0 h.1.0
values_visible (commands.AddSource s) h = (
  number s.ssrc h.0,
  (number s.member h.1.0, (visible_test (media_text s.media) (media_visible s.media), tt)),
)
values_visible (commands.RemoveSource ssrc) h = one ssrc h.0
values_visible (commands.AddSlot s) h = (
  number s.out_ssrc h.0,
  (
    number s.member h.1.0,
    (number s.index h.1.1.0, (short s.first_seq h.1.1.1.0, one s.first_ts h.1.1.1.1.0)),
  ),
)
values_visible (commands.RemoveSlot out_ssrc) h = one out_ssrc h.0
values_visible (commands.Subscribe s) h = two s.out_ssrc s.source h.0 h.1.0
values_visible (commands.Unsubscribe out_ssrc) h = one out_ssrc h.0
values_visible (commands.SetGain g) h = (number g.member h.0, two g.source g.q8 h.1.0 h.1.1.0)
values_visible (commands.Mute m) h = one m.source h.0
values_visible (commands.Unmute source) h = one source h.0
values_visible (commands.Pin p) h = two p.room p.source h.0 h.1.0
values_visible (commands.Unpin room) h = one room h.0
values_visible (commands.GiveFloor f) h = two f.room f.member h.0 h.1.0
values_visible (commands.TakeFloor room) h = one room h.0

command_visible : (c : Command) → IsCommand c → AreWords (command_words c)
command_visible c h = (visible_test (name_text (fields_of c).name) (name_visible c), values_visible c h)

-- ---- the words of a call

words_append : (ws vs : List (List ℕ)) → AreWords ws → AreWords vs → AreWords (ws ++ vs)
words_append [] vs h k = k
words_append (w ∷ ws) vs h k = (h.0, words_append ws vs h.1 k)

group_visible : (cs : List Command) → AreCommands cs → AreWords (group_words cs)
group_visible [] h = tt
group_visible (c ∷ []) h = command_visible c h.0
group_visible (c ∷ d ∷ cs) h =
    words_append (command_words c) (slash ∷ group_words (d ∷ cs)) (command_visible c h.0)
    (visible_test slash refl, group_visible (d ∷ cs) h.1)

call_visible : (c : CallOf) → IsCall c → AreWords (call_words c)
call_visible (Apply c) h = command_visible c h
call_visible (Group []) h = absurd h
call_visible (Group (c ∷ cs)) h = (visible_test (codes "group") refl, group_visible (c ∷ cs) h)
call_visible (Undo last) h = (visible_test (codes "undo") refl, (long last h, tt))
call_visible (Redo last) h = (visible_test (codes "redo") refl, (long last h, tt))
call_visible (Revert number) h = (visible_test (codes "revert") refl, (long number h, tt))

-- ---- the line of an operator's call

operator_visible : (op : ℕ) (c : CallOf) → op ≤ 15 → IsCall c
    → AreWords (decimal op ∷ call_words c)
operator_visible op c small h = (visible_number op (omega (arith, small)), call_visible c h)

desk_word : IsWord (codes "desk")
desk_word = visible_test (codes "desk") refl

pub desk_printable : (op : ℕ) (c : CallOf) → op ≤ 15 → IsCall c → list_all is_printable (desk_line op c) ≡ true
desk_printable op c small h =
    line_printable (codes "desk") (decimal op ∷ call_words c) desk_word
    (operator_visible op c small h)

desk_cut : (op : ℕ) (c : CallOf) → op ≤ 15 → IsCall c → words_of (desk_line op c) ≡ desk_words op (call_words c)
desk_cut op c small h =
    let free = words_free (decimal op ∷ call_words c) (operator_visible op c small h) in
    parts_joined 32 (codes "desk") (decimal op ∷ call_words c)
    (word_free (codes "desk") desk_word) (free.0, free.1)

-- it is no line that hands the lane an item
no_item : (ws rest : List (List ℕ)) → ws ≡ codes "desk" ∷ rest → later_request ws ≡ words_request ws
no_item ws rest is = rw is refl

desk_later : (op : ℕ) (c : CallOf) → op ≤ 15 → IsCall c
    → later_request (words_of (desk_line op c)) ≡ Ok (Desk op c)
desk_later op c small h =
    no_item (words_of (desk_line op c)) (decimal op ∷ call_words c) (desk_cut op c small h)
    ∙ desk_again op c small h

-- what a line asks for, by its words, where it is neither too long nor empty, nor a comment
pub words_asked : (asked : Result Request (ℕ × Fault)) (line rest : List ℕ) (x limit : ℕ) → line ≡ x ∷ rest
    → eqb x 35 ≡ false → limit_of line ≡ limit → length line ≤ limit → list_all is_printable line ≡ true
    → line_request asked line ≡ asked
unfolding line_request
words_asked asked line rest x limit is other most few seen =
    let short : nat_lt (limit_of line) (length line) ≡ false = rw most (le-ltb limit (length line) few) in
    let some : eqb (length line) 0 ≡ false = rw is (eqb-suc-zero (length rest)) in
    let first : eqb (slice_index line 0) 35 ≡ false = rw is other in
    rw (short, seen, some, first) refl

desk_begins : (op : ℕ) (c : CallOf)
    → desk_line op c ≡ codes "desk " ++ join_with_byte 32 (decimal op ∷ call_words c)
desk_begins op c = refl

pub desk_read : (op : ℕ) (c : CallOf) → op ≤ 15 → IsCall c → length (desk_line op c) ≤ 65536
    → request_of (desk_line op c) ≡ Ok (Desk op c)
desk_read op c small h few =
    let rest = join_with_byte 32 (decimal op ∷ call_words c) in
    let limit : limit_of (desk_line op c) ≡ 65536 = ap limit_of (desk_begins op c) in
    words_asked (later_request (words_of (desk_line op c))) (desk_line op c) (codes "esk " ++ rest) 100 65536
    (desk_begins op c) refl limit few (desk_printable op c small h)
    ∙ desk_later op c small h
