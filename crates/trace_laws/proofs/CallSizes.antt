-- How long the line of a call is.
use Rattle.std.proofs.Common.{◌≡◌, ℕ, ◌+◌, ◌*◌, ◌≤◌, Bool, true, false, List, [], ◌∷◌, ◌++◌, length, map}
use Rattle.std.proofs.Common.{Option, Some, None, codes, get_or, refl, arith, nat_eq, cond, inl, inr}
use Rattle.std.specs.Fmt.{decimal}
use Rattle.std.specs.List.{join_with_byte}
use Rattle.std.specs.Option.{option_map, option_or}
use Rattle.std.proofs.lemmas.Bool.{cases_lt, lt-ltb}
use Rattle.std.proofs.lemmas.Fmt.{length-decimal-le}
use Rattle.std.proofs.lemmas.List.{length-append}
use Rattle.rtp_codec.specs.declared.address.Address.{Address}
use Rattle.desk_rows.specs.declared.row.Codec.{Codec}
use Rattle.desk_rows.specs.declared.row.Media.{Media}
use Rattle.desk_edit.specs.declared.command.Command.{Command}
use Rattle.desk_edit.specs.declared.command.Command.TheVariants as commands
use Rattle.desk_edit.specs.Asked.{CallOf}
use Rattle.desk_edit.specs.Asked.CallOf.{Apply, Group, Undo, Redo, Revert}
use Rattle.desk_edit.specs.declared.refusal.Refusal.{Refusal}
use Rattle.desk_edit.specs.declared.refusal.GroupRefusal.{GroupRefusal}
use Rattle.desk_edit.specs.declared.refusal.GroupRefusal.TheVariants.{Empty, TooLong}
use Rattle.desk_edit.specs.Reasons.{group_limit, refusal_of_group}
use Rattle.desk_edit.specs.Groups.{size_refused}
use Rattle.desk_edit.specs.Calls.{CallHistory, refusal_of, after_call}
use Rattle.desk_calls.specs.Accepted.{AreAccepted}
use Rattle.rtp_codec.specs.Address.{address_text}
use Rattle.desk_text.specs.Addresses.{IsAddress}
use Rattle.desk_text.specs.Kinds.{codec_text, media_text}
use Rattle.desk_text.specs.Values.{value_text}
use Rattle.desk_text.specs.Calls.{name_text, fields_of, command_words, IsCommand, slash, group_words, AreCommands}
use Rattle.desk_text.specs.Calls.{call_words, IsCall}
use Rattle.script_text.specs.Requests.{desk_line}
use Rattle.call_history.specs.AcceptedCall.{AcceptedOf}
use Rattle.trace_laws.specs.Traces.{IsWithin, AreWithin, asked_calls}

-- ---- words, each with an octet behind it

total : List (List ℕ) → ℕ
total [] = 0
total (w ∷ ws) = length w + 1 + total ws

joined_total : (w : List ℕ) (ws : List (List ℕ)) → length (join_with_byte 32 (w ∷ ws)) + 1 ≡ total (w ∷ ws)
unfolding total
joined_total w [] = omega arith
joined_total w (v ∷ vs) =
    omega (arith, length-append w (32 ∷ join_with_byte 32 (v ∷ vs)), joined_total v vs)

total_both : (ws vs : List (List ℕ)) → total (ws ++ vs) ≡ total ws + total vs
unfolding total
total_both [] vs = omega arith
total_both (w ∷ ws) vs = omega (arith, total_both ws vs)

-- ---- values

octet_few : (n : ℕ) → n ≤ 255 → length (decimal n) ≤ 3
octet_few n h = length-decimal-le 3 n (omega arith) (omega (arith, h)) (omega (arith, h))

short : (n : ℕ) → n ≤ 65535 → length (decimal n) ≤ 5
short n h = length-decimal-le 5 n (omega arith) (omega (arith, h)) (omega (arith, h))

number : (n : ℕ) → n ≤ 4294967295 → length (decimal n) ≤ 10
number n h = length-decimal-le 10 n (omega arith) (omega (arith, h)) (omega (arith, h))

long : (n : ℕ) → n ≤ 18446744073709551615 → length (decimal n) ≤ 20
long n h = length-decimal-le 20 n (omega arith) (omega (arith, h)) (omega (arith, h))

dotted : (a b : List ℕ) (c m n : ℕ) → length a ≤ m → length b ≤ n → length (a ++ (c ∷ []) ++ b) ≤ m + 1 + n
dotted a b c m n h k = omega (arith, h, k, length-append (a ++ c ∷ []) b, length-append a (c ∷ []))

address_few : (a : Address) → IsAddress a → length (address_text a) ≤ 21
address_few a h =
    let part = λ (k : ℕ). octet_few (get_or a.ip k 0) (h.octets k) in
    let all = dotted _ _ 58 15 5
    (dotted _ _ 46 11 3 (dotted _ _ 46 7 3 (dotted _ _ 46 3 3 (part 0) (part 1)) (part 2)) (part 3))
    (short a.port h.port) in
    all

codec_few : (c : Codec) → length (codec_text c) ≤ 4
codec_few c = grind arith

media_few : (m : Media) → length (media_text m) ≤ 5
media_few m = grind arith

name_few : (c : Command) → length (name_text (fields_of c).name) ≤ 13
name_few c = grind arith

-- ---- the words of a command

one : (n : ℕ) → n ≤ 4294967295 → total (decimal n ∷ []) ≤ 85
unfolding total
one n h = omega (arith, number n h)

two : (m n : ℕ) → m ≤ 4294967295 → n ≤ 4294967295 → total (decimal m ∷ decimal n ∷ []) ≤ 85
unfolding total
two m n h k = omega (arith, number m h, number n k)

values_few : (c : Command) → IsCommand c → total (map value_text (fields_of c).values) ≤ 85
unfolding total
values_few (commands.AddRoom r) h = two r.room r.rate h.0 h.1.0
values_few (commands.RemoveRoom room) h = one room h.0
values_few (commands.AddMember m) h =
    omega (
      arith,
      number m.member h.0,
      number m.room h.1.0,
      address_few m.address h.1.1.0,
      codec_few m.codec,
      number m.out_audio h.1.1.1.1.0,
      short m.first_seq h.1.1.1.1.1.0,
      number m.first_ts h.1.1.1.1.1.1.0,
    )
values_few (commands.RemoveMember member) h = one member h.0
values_few (commands.MoveMember member room) h = two member room h.0 h.1.0
values_few (commands.AddSource s) h = omega (arith, number s.ssrc h.0, number s.member h.1.0, media_few s.media)
values_few (commands.RemoveSource ssrc) h = one ssrc h.0
values_few (commands.AddSlot s) h =
    omega (
      arith,
      number s.out_ssrc h.0,
      number s.member h.1.0,
      number s.index h.1.1.0,
      short s.first_seq h.1.1.1.0,
      number s.first_ts h.1.1.1.1.0,
    )
values_few (commands.RemoveSlot out_ssrc) h = one out_ssrc h.0
values_few (commands.Subscribe s) h = two s.out_ssrc s.source h.0 h.1.0
values_few (commands.Unsubscribe out_ssrc) h = one out_ssrc h.0
values_few (commands.SetGain g) h =
    omega (arith, number g.member h.0, number g.source h.1.0, number g.q8 h.1.1.0)
values_few (commands.Mute m) h = one m.source h.0
values_few (commands.Unmute source) h = one source h.0
values_few (commands.Pin p) h = two p.room p.source h.0 h.1.0
values_few (commands.Unpin room) h = one room h.0
values_few (commands.GiveFloor f) h = two f.room f.member h.0 h.1.0
values_few (commands.TakeFloor room) h = one room h.0

command_few : (c : Command) → IsCommand c → total (command_words c) ≤ 99
unfolding total
command_few c h = omega (arith, name_few c, values_few c h)

-- ---- the words of a call

group_few : (cs : List Command) → AreCommands cs → total (group_words cs) ≤ 101 * length cs
unfolding total
group_few [] h = omega arith
group_few (c ∷ []) h = omega (arith, command_few c h.0)
group_few (c ∷ d ∷ cs) h =
    omega (
      arith,
      command_few c h.0,
      group_few (d ∷ cs) h.1,
      total_both (command_words c) (slash ∷ group_words (d ∷ cs)),
    )

call_few : (c : CallOf) → IsCall c → IsWithin c → total (call_words c) ≤ 6500
unfolding total
call_few (Apply c) h within = omega (arith, command_few c h)
call_few (Group []) h within = absurd h
call_few (Group (c ∷ cs)) h within = omega (arith, group_few (c ∷ cs) h, within)
call_few (Undo last) h within = omega (arith, long last h)
call_few (Redo last) h within = omega (arith, long last h)
call_few (Revert number) h within = omega (arith, long number h)

pub desk_few : (op : ℕ) (c : CallOf) → op ≤ 15 → IsCall c → IsWithin c → length (desk_line op c) ≤ 65536
unfolding total
desk_few op c small h within =
    let words = decimal op ∷ call_words c in
    let size : length (desk_line op c) + 1 ≡ total (codes "desk" ∷ words) = joined_total (codes "desk") words in
    omega (arith, size, octet_few op (omega (arith, small)), call_few c h within)

-- ---- accepted calls

size_within : (n : ℕ) → size_refused n ≡ None → n ≤ group_limit
size_within n is =
    elim (cases_lt group_limit n) [
      | inr few ↦ few
      | inl more ↦ absurd (too_many (nat_eq n 0) (rw (lt-ltb group_limit n more) at is))
    ]
  where
    too_many : (none : Bool) → cond none (Some Empty) (Some TooLong) ≡ None → ⊥
    too_many true is = cc
    too_many false is = cc

none_of : (first : Option GroupRefusal) (other : Option Refusal)
    → option_or (option_map refusal_of_group first) other ≡ None → first ≡ None
none_of None other is = refl
none_of (Some why) other is = absurd cc

accepted_within : (h : CallHistory) (c : CallOf) → refusal_of h c ≡ None → IsWithin c
accepted_within h (Apply c) is = tt
accepted_within h (Group cs) is = size_within (length cs) (none_of (size_refused (length cs)) _ is)
accepted_within h (Undo last) is = tt
accepted_within h (Redo last) is = tt
accepted_within h (Revert number) is = tt

pub all_within : (h : CallHistory) (ms : List AcceptedOf) → AreAccepted h (asked_calls ms) → AreWithin ms
all_within h [] ok = tt
all_within h (m ∷ ms) ok = (accepted_within h m.call ok.0, all_within (after_call h m.call) ms ok.1)
