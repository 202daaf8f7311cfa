-- A group of so many commands as are made at once fits on a line.
use Rattle.std.proofs.Common.{◌≡◌, ℕ, ◌+◌, ◌*◌, ◌≤◌, ◌&&◌, true, List, [], ◌∷◌, ◌++◌, length, map}
use Rattle.std.proofs.Common.{codes, get_or, arith, nat_lt, nat_le, length-append}
use Rattle.std.specs.Fmt.{decimal}
use Rattle.std.specs.List.{join_with_byte, AllByRecursion}
use Rattle.std.proofs.lemmas.Bool.{and_parts}
use Rattle.std.proofs.lemmas.Fmt.{length-decimal-le}
use Rattle.rtp_codec.specs.declared.address.Address.{Address}
use Rattle.desk_rows.specs.declared.row.Codec.{Codec}
use Rattle.desk_rows.specs.declared.row.Media.{Media}
use Rattle.desk_edit.specs.declared.command.Command.{Command}
use Rattle.desk_edit.specs.declared.command.Command.TheVariants as commands
use Rattle.desk_edit.specs.Asked.CallOf.{Group}
use Rattle.desk_groups.specs.Making.{made_limit, are_sized}
use Rattle.rtp_codec.specs.Address.{address_text}
use Rattle.desk_text.specs.Addresses.{IsAddress}
use Rattle.desk_text.specs.Kinds.{codec_text, media_text}
use Rattle.desk_text.specs.Values.{value_text}
use Rattle.desk_text.specs.Calls.{name_text, fields_of, command_words, IsCommand, slash, group_words, AreCommands}
use Rattle.desk_text.specs.Calls.{call_line}
use Rattle.operator_lines.specs.Cut.{line_limit}

-- ---- words, each with an octet behind it

total : List (List ℕ) → ℕ
total [] = 0
total (w ∷ ws) = length w + 1 + total ws

joined_total : (w : List ℕ) (ws : List (List ℕ)) → length (join_with_byte 32 (w ∷ ws)) + 1 ≡ total (w ∷ ws)
unfolding total
joined_total w [] = omega arith
joined_total w (v ∷ vs) =
    omega (arith, length-append w (32 ∷ join_with_byte 32 (v ∷ vs)), joined_total v vs)

total_both : (ws vs : List (List ℕ)) → total (ws ++ vs) ≡ total ws + total vs
unfolding total
total_both [] vs = omega arith
total_both (w ∷ ws) vs = omega (arith, total_both ws vs)

-- ---- values

octet_few : (n : ℕ) → n ≤ 255 → length (decimal n) ≤ 3
octet_few n h = length-decimal-le 3 n (omega arith) (omega (arith, h)) (omega (arith, h))

short : (n : ℕ) → n ≤ 65535 → length (decimal n) ≤ 5
short n h = length-decimal-le 5 n (omega arith) (omega (arith, h)) (omega (arith, h))

number : (n : ℕ) → n ≤ 4294967295 → length (decimal n) ≤ 10
number n h = length-decimal-le 10 n (omega arith) (omega (arith, h)) (omega (arith, h))

dotted : (a b : List ℕ) (c m n : ℕ) → length a ≤ m → length b ≤ n → length (a ++ (c ∷ []) ++ b) ≤ m + 1 + n
dotted a b c m n h k = omega (arith, h, k, length-append (a ++ c ∷ []) b, length-append a (c ∷ []))

address_few : (a : Address) → IsAddress a → length (address_text a) ≤ 21
address_few a h =
    let part = λ (k : ℕ). octet_few (get_or a.ip k 0) (h.octets k) in
    let all = dotted _ _ 58 15 5
    (dotted _ _ 46 11 3 (dotted _ _ 46 7 3 (dotted _ _ 46 3 3 (part 0) (part 1)) (part 2)) (part 3))
    (short a.port h.port) in
    all

codec_few : (c : Codec) → length (codec_text c) ≤ 4
codec_few c = grind arith

media_few : (m : Media) → length (media_text m) ≤ 5
media_few m = grind arith

-- ---- the words of a command

-- how many octets a name has at most, and the values with one behind each: the longest command adds a member
name_most : Command → ℕ
name_most (commands.AddMember m) = 10
name_most c = 13

values_most : Command → ℕ
values_most (commands.AddMember m) = 77
values_most c = 74

name_few : (c : Command) → length (name_text (fields_of c).name) ≤ name_most c
unfolding name_most
name_few c = grind arith

one : (n : ℕ) → n ≤ 4294967295 → total (decimal n ∷ []) ≤ 74
unfolding total
one n h = omega (arith, number n h)

two : (m n : ℕ) → m ≤ 4294967295 → n ≤ 4294967295 → total (decimal m ∷ decimal n ∷ []) ≤ 74
unfolding total
two m n h k = omega (arith, number m h, number n k)

values_few : (c : Command) → IsCommand c → total (map value_text (fields_of c).values) ≤ values_most c
unfolding total values_most
values_few (commands.AddRoom r) h = two r.room r.rate h.0 h.1.0
values_few (commands.RemoveRoom room) h = one room h.0
values_few (commands.AddMember m) h =
    omega (
      arith,
      number m.member h.0,
      number m.room h.1.0,
      address_few m.address h.1.1.0,
      codec_few m.codec,
      number m.out_audio h.1.1.1.1.0,
      short m.first_seq h.1.1.1.1.1.0,
      number m.first_ts h.1.1.1.1.1.1.0,
    )
values_few (commands.RemoveMember member) h = one member h.0
values_few (commands.MoveMember member room) h = two member room h.0 h.1.0
values_few (commands.AddSource s) h = omega (arith, number s.ssrc h.0, number s.member h.1.0, media_few s.media)
values_few (commands.RemoveSource ssrc) h = one ssrc h.0
values_few (commands.AddSlot s) h =
    omega (
      arith,
      number s.out_ssrc h.0,
      number s.member h.1.0,
      number s.index h.1.1.0,
      short s.first_seq h.1.1.1.0,
      number s.first_ts h.1.1.1.1.0,
    )
values_few (commands.RemoveSlot out_ssrc) h = one out_ssrc h.0
values_few (commands.Subscribe s) h = two s.out_ssrc s.source h.0 h.1.0
values_few (commands.Unsubscribe out_ssrc) h = one out_ssrc h.0
values_few (commands.SetGain g) h =
    omega (arith, number g.member h.0, number g.source h.1.0, number g.q8 h.1.1.0)
values_few (commands.Mute m) h = one m.source h.0
values_few (commands.Unmute source) h = one source h.0
values_few (commands.Pin p) h = two p.room p.source h.0 h.1.0
values_few (commands.Unpin room) h = one room h.0
values_few (commands.GiveFloor f) h = two f.room f.member h.0 h.1.0
values_few (commands.TakeFloor room) h = one room h.0

both_few : (c : Command) → name_most c + values_most c ≤ 87
unfolding name_most values_most
both_few (commands.AddMember m) = omega arith
both_few c = omega arith

command_few : (c : Command) → IsCommand c → total (command_words c) ≤ 88
unfolding total
command_few c h = omega (arith, name_few c, values_few c h, both_few c)

-- ---- the words of a group

group_few : (cs : List Command) → AreCommands cs → total (group_words cs) ≤ 90 * length cs
unfolding total
group_few [] h = omega arith
group_few (c ∷ []) h = omega (arith, command_few c h.0)
group_few (c ∷ d ∷ cs) h =
    omega (
      arith,
      command_few c h.0,
      group_few (d ∷ cs) h.1,
      total_both (command_words c) (slash ∷ group_words (d ∷ cs)),
    )

line_few : (cs : List Command) → AreCommands cs → length cs ≤ made_limit → length (call_line (Group cs)) ≤ line_limit
unfolding total
line_few cs h few =
    let size : length (call_line (Group cs)) + 1 ≡ total (codes "group" ∷ group_words cs) =
    joined_total (codes "group") (group_words cs) in
    omega (arith, size, group_few cs h, few)

at_most : (m n : ℕ) → nat_le m n ≡ true → m ≤ n
at_most m n h = grind (arith, h)

pub all_short : (groups : List (List Command)) → are_sized groups ≡ true → AllByRecursion AreCommands groups
    → AllByRecursion (λ commands. length (call_line (Group commands)) ≤ line_limit) groups
all_short [] sized h = tt
all_short (g ∷ gs) sized h =
    let both = and_parts (nat_lt 0 (length g) && nat_le (length g) made_limit) (are_sized gs) sized in
    let size = and_parts (nat_lt 0 (length g)) (nat_le (length g) made_limit) both.0 in
    (line_few g h.0 (at_most (length g) made_limit size.1), all_short gs both.1 h.1)
