-- On a good desk gains are small, and a room has few audio sources.
use Rattle.std.proofs.Common.{◌≡◌, ℕ, ◌+◌, ◌≤◌, Bool, true, false, cond, ◌&&◌, not, nat_eq, nat_le, List, [], ◌∷◌, ◌++◌}
use Rattle.std.proofs.Common.{map, length, Option, None, Some, refl, sym, ap, ◌∙◌, arith, eqb-true}
use Rattle.std.specs.Prelude.{filter, count_by, option_map}
use Rattle.std.specs.List.{find, filter_map, cons_option, flat_map, list_all, list_any}
use Rattle.std.proofs.lemmas.Bool.{and_parts}
use Rattle.std.proofs.lemmas.Bool.Decides.{nat_tests}
use Rattle.std.proofs.lemmas.List.{length-append}
use Rattle.std.proofs.Math.Bool.{and_comm}
use Rattle.std.proofs.lemmas.List.Elements.{filter-append, filter_agree}
use Rattle.std.proofs.lemmas.List.Sums.{length-filter}
use Rattle.std.proofs.lemmas.List.Folds.{list_all-append, list_all-map}
use Rattle.desk_rows.specs.declared.row.Row.{Row}
use Rattle.desk_rows.specs.declared.row.Row.TheVariants.{Room, Member, Source, Gain}
use Rattle.desk_rows.specs.declared.row.Member.{Member as MemberRow}
use Rattle.desk_rows.specs.declared.row.Source.{Source as SourceRow}
use Rattle.desk_rows.specs.declared.row.Media.TheVariants.{Audio}
use Rattle.desk_rows.specs.declared.key.Key.TheVariants as keys
use Rattle.desk_rows.specs.Row.{same_media, has_key, names, is_in_range}
use Rattle.desk_rows.specs.Desk.{Desk, good, rows_of, row_at, same_room, is_named_there, is_audio_in, has_few_audio}
use Rattle.desk_rows.specs.Desk.{all_suit, are_together, obeys}
use Rattle.desk_rows.specs.laws.PlaceLaws.{count_next}
use Rattle.desk_rows.specs.laws.Laws.{good_parts}
use Rattle.desk_rows.specs.laws.GetterLaws.{room_with}
use Rattle.topology.specs.declared.hearing.AudioSource.{AudioSource}
use Rattle.topology.specs.Looking.{source_in, is_muted}
use Rattle.topology.specs.Choice.{sources_of}
use Rattle.topology.specs.Mixes.{is_audible, audio_source, audio_sources, gain_in, gain_of, in_room}
use Rattle.topology.proofs.Distinct.{at, Distinct}
use Rattle.topology.proofs.Finding as finding
use Rattle.topology.proofs.Parted.{filter-map, filter-and, all_pass, none_pass, listed as listed_one}
use Rattle.topology.proofs.Parted.{one_of_key, none_found}
use Rattle.topology.proofs.KindRows.{number, its_source, member_row}
use Rattle.topology.proofs.GoodRows.{members_distinct, no_members, each, of_found, found_any}
use Rattle.topology.proofs.RoomsOf.{room_inside}

-- ---- gains

pub gain_small : (d : Desk) (member source : ℕ) → good d ≡ true → gain_of d member source ≤ 1024
gain_small d member source h = by (row_at d (keys.Gain member source)) refl
  where
    at_most : (n : ℕ) → nat_le n 1024 ≡ true → n ≤ 1024
    at_most n e = grind (arith, nat_tests)

    by : (o : Option Row) → row_at d (keys.Gain member source) ≡ o → gain_in o ≤ 1024
    by (Some (Gain g)) e =
        let obeyed = (of_found (obeys d) (keys.Gain member source) (Gain g) (rows_of d) (good_parts d h).obey e).0 in
        let both =
        and_parts (is_in_range (Gain g) && has_few_audio d (Gain g))
        (all_suit d (Gain g) && are_together d (names (Gain g))) obeyed in
        at_most g.q8 (and_parts (is_in_range (Gain g)) (has_few_audio d (Gain g)) both.0).0
    by _ e = omega arith

-- ---- one source is heard from one member

-- what may be heard of these sources from these members
abbrev listed : Desk → List MemberRow → List SourceRow → List AudioSource
listed d ms ss = flat_map (λ m. map (audio_source m) (filter (is_audible d m) ss)) ms

-- the source is audio, and its member was found in the room
abbrev is_there : ℕ → SourceRow → Option MemberRow → Bool
is_there room s None = false
is_there room s (Some m) = same_media s.media Audio && nat_eq m.room room

nothing_listed : (d : Desk) (ms : List MemberRow) → listed d ms [] ≡ []
nothing_listed d [] = refl
nothing_listed d (m ∷ ms) = nothing_listed d ms

-- those of a room are of its members
of_its_members : (d : Desk) (room : ℕ) (ss : List SourceRow) (ms : List MemberRow)
    → filter (in_room room) (listed d ms ss) ≡ listed d (filter (λ m. nat_eq m.room room) ms) ss
of_its_members d room ss [] = refl
of_its_members d room ss (m ∷ ms) =
    filter-append (in_room room) (map (audio_source m) (filter (is_audible d m) ss)) (listed d ms ss)
    ∙ (λ i.
    filter-map (in_room room) (audio_source m) (filter (is_audible d m) ss) i ++ of_its_members d room ss ms i)
    ∙ by (nat_eq m.room room) (filter (λ m. nat_eq m.room room) ms)
  where
    own : List SourceRow
    own = filter (is_audible d m) ss

    by : (b : Bool) (ms : List MemberRow)
        → map (audio_source m) (filter (λ x. b) own) ++ listed d ms ss ≡ listed d (cond b (m ∷ ms) ms) ss
    by true ms = ap (λ zs. map (audio_source m) zs ++ listed d ms ss) (all_pass (λ x. true) own (λ i d lt. refl))
    by false ms = ap (λ zs. map (audio_source m) zs ++ listed d ms ss) (none_pass own)

one_more : (d : Desk) (s : SourceRow) (ss : List SourceRow) (ms : List MemberRow)
    → length (listed d ms (s ∷ ss)) ≡ count_by (λ m. is_audible d m s) ms + length (listed d ms ss)
one_more d s ss [] = omega arith
one_more d s ss (m ∷ ms) =
    let whole = length-append (own (cond (is_audible d m s) (s ∷ kept) kept)) (listed d ms (s ∷ ss)) in
    let rest = length-append (own kept) (listed d ms ss) in
    let front = by (is_audible d m s) in
    omega (arith, whole, rest, front, one_more d s ss ms, count_next (λ m. is_audible d m s) m ms)
  where
    kept : List SourceRow
    kept = filter (is_audible d m) ss

    own : List SourceRow → List AudioSource
    own ss = map (audio_source m) ss

    by : (b : Bool) → length (own (cond b (s ∷ kept) kept)) ≡ cond b 1 0 + length (own kept)
    by true = omega arith
    by false = omega arith

from_one : (d : Desk) (room : ℕ) (s : SourceRow) (ms : List MemberRow) → Distinct number ms
    → count_by (λ m. is_audible d m s) (filter (λ m. nat_eq m.room room) ms)
    ≤ cond (is_there room s (at number s.member ms)) 1 0
from_one d room s ms apart =
    let told =
    sym (length-filter (λ m. is_audible d m s) (filter (λ m. nat_eq m.room room) ms))
    ∙ ap length (sym (filter-and (λ m. is_audible d m s) (λ m. nat_eq m.room room) ms)
    ∙ filter_agree (λ m. is_audible d m s && nat_eq m.room room) (λ m. heard m && nat_eq m.member s.member) agree ms
    ∙ filter-and heard (λ m. nat_eq m.member s.member) ms
    ∙ ap (filter heard) (one_of_key number s.member ms apart)) in
    let one = by (at number s.member ms) in
    omega (arith, told, one)
  where
    heard : MemberRow → Bool
    heard m = nat_eq m.room room && (same_media s.media Audio && not (is_muted d s.ssrc))

    moved : (a b c : Bool) → ((b && c) && a) ≡ ((a && c) && b)
    moved true true c = refl
    moved true false c = and_comm false c
    moved false true c = and_comm c false
    moved false false c = refl

    equal : (a b : ℕ) → nat_eq a b ≡ nat_eq b a
    equal a b = grind (arith, nat_tests)

    agree : (m : MemberRow) → (is_audible d m s && nat_eq m.room room) ≡ (heard m && nat_eq m.member s.member)
    agree m =
        moved (nat_eq m.room room) (nat_eq s.member m.member) (same_media s.media Audio && not (is_muted d s.ssrc))
        ∙ ap (λ b. heard m && b) (equal s.member m.member)

    fits : (m : MemberRow) (a b c : Bool) → length (cond (a && (b && c)) (m ∷ []) []) ≤ cond (b && a) 1 0
    fits m true true true = omega arith
    fits m true true false = omega arith
    fits m true false c = omega arith
    fits m false true c = omega arith
    fits m false false c = omega arith

    by : (o : Option MemberRow) → length (filter heard (listed_one o)) ≤ cond (is_there room s o) 1 0
    by None = omega arith
    by (Some m) = fits m (nat_eq m.room room) (same_media s.media Audio) (not (is_muted d s.ssrc))

-- ---- the sources of a room

its_room : (d : Desk) (room : ℕ) (s : SourceRow) → good d ≡ true
    → is_there room s (at number s.member d.members) ≡ is_audio_in d room (Source s)
its_room d room s g =
    by (at number s.member d.members)
    ∙ sym (ap (λ o. same_media s.media Audio && same_room o (Some room)) (room_inside (row_at d (keys.Member s.member))
    ∙ ap (option_map (λ (m : MemberRow). m.room)) (member_row d s.member (no_members d g))))
  where
    neither : (a : Bool) → false ≡ a && false
    neither true = refl
    neither false = refl

    by : (o : Option MemberRow)
        → is_there room s o ≡ same_media s.media Audio && same_room (option_map (λ m. m.room) o) (Some room)
    by None = neither (same_media s.media Audio)
    by (Some m) = refl

fewer_heard : (d : Desk) (room : ℕ) → good d ≡ true → (ss : List SourceRow)
    → length (listed d (filter (λ m. nat_eq m.room room) d.members) ss)
    ≤ count_by (λ s. is_audio_in d room (Source s)) ss
fewer_heard d room g [] =
    let none = ap length (nothing_listed d (filter (λ m. nat_eq m.room room) d.members)) in omega (arith, none)
fewer_heard d room g (s ∷ ss) =
    let one = from_one d room s d.members (members_distinct d g) in
    let is : ◌≡◌ {A = ℕ} (cond (is_there room s (at number s.member d.members)) 1 0)
    (cond (is_audio_in d room (Source s)) 1 0) =
    ap (λ b. cond b 1 0) (its_room d room s g) in
    omega (
      arith,
      one,
      is,
      one_more d s ss (filter (λ m. nat_eq m.room room) d.members),
      fewer_heard d room g ss,
      count_next (λ s. is_audio_in d room (Source s)) s ss,
    )

no_audio : (d : Desk) (room : ℕ) (r : Row) → source_in r ≡ None → is_audio_in d room r ≡ false
no_audio d room (Source s) e = absurd (cc)
no_audio d room _ e = refl

counted_rows : (d : Desk) (room : ℕ) (rs : List Row)
    → count_by (λ s. is_audio_in d room (Source s)) (filter_map source_in rs) ≡ count_by (is_audio_in d room) rs
counted_rows d room [] = refl
counted_rows d room (r ∷ rs) = by (source_in r) refl (counted_rows d room rs)
  where
    sources : List SourceRow
    sources = filter_map source_in rs

    by : (o : Option SourceRow) → source_in r ≡ o
        → count_by (λ s. is_audio_in d room (Source s)) sources ≡ count_by (is_audio_in d room) rs
        → count_by (λ s. is_audio_in d room (Source s)) (cons_option o sources) ≡ count_by (is_audio_in d room) (r ∷ rs)
    by None e rest =
        (let none : ◌≡◌ {A = ℕ} (cond (is_audio_in d room r) 1 0) 0 = ap (λ b. cond b 1 0) (no_audio d room r e) in
        omega (arith, rest, none, count_next (is_audio_in d room) r rs))
    by (Some s) e rest =
        count_next (λ s. is_audio_in d room (Source s)) s sources
        ∙ ap (λ n. cond (is_audio_in d room (Source s)) 1 0 + n) rest
        ∙ ap (λ q. cond (is_audio_in d room q) 1 0 + count_by (is_audio_in d room) rs) (sym (its_source r s e))
        ∙ sym (count_next (is_audio_in d room) r rs)

-- ---- the room of a member has a row

pub room_small : (d : Desk) (room : ℕ) → good d ≡ true → length (filter (in_room room) (audio_sources d)) ≤ 64
room_small d room g = by (find (λ (m : MemberRow). nat_eq m.room room) d.members) refl
  where
    at_most : (n : ℕ) → nat_le n 64 ≡ true → n ≤ 64
    at_most n e = grind (arith, nat_tests)

    by : (o : Option MemberRow) → find (λ m. nat_eq m.room room) d.members ≡ o
        → length (filter (in_room room) (audio_sources d)) ≤ 64
    by None e =
        let none =
        ap length (of_its_members d room (sources_of d) d.members
        ∙ ap (λ ms. listed d ms (sources_of d)) (none_found (λ m. nat_eq m.room room) d.members e)) in
        omega (arith, none)
    by (Some m) e =
        let named =
        and_parts (list_all (is_named_there d) (map Member d.members)) (list_all (is_named_there d) d.others)
        (sym (list_all-append (is_named_there d) (map Member d.members) d.others) ∙ (good_parts d g).named) in
        let told =
        finding.of_found (λ (m : MemberRow). is_named_there d (Member m) ≡ true) (λ (m : MemberRow). nat_eq m.room room)
        m d.members
        (each (λ (m : MemberRow). is_named_there d (Member m)) d.members
        (sym (list_all-map (is_named_there d) Member d.members) ∙ named.0))
        e in
        let there =
        found_any (keys.Room m.room) (rows_of d)
        (and_parts (list_any (has_key (keys.Room m.room)) (rows_of d)) true told.0).0 in
        let obeyed = of_found (obeys d) (keys.Room m.room) there.0 (rows_of d) (good_parts d g).obey there.1 in
        let is = room_with m.room there.0 obeyed.1 in
        let q = is.0 in
        let rule : obeys d (Room q) ≡ true = sym (ap (obeys d) is.1) ∙ obeyed.0 in
        let both =
        and_parts (is_in_range (Room q) && has_few_audio d (Room q))
        (all_suit d (Room q) && are_together d (names (Room q))) rule in
        let few : nat_le (count_by (is_audio_in d q.room) d.others) 64 ≡ true =
        (and_parts (is_in_range (Room q)) (has_few_audio d (Room q)) both.0).1 in
        let same : q.room ≡ room = is.2 ∙ eqb-true m.room room told.1 in
        let small =
        at_most (count_by (is_audio_in d room) d.others)
        (sym (ap (λ n. nat_le (count_by (is_audio_in d n) d.others) 64) same) ∙ few) in
        let same_length = ap length (of_its_members d room (sources_of d) d.members) in
        omega (arith, small, same_length, fewer_heard d room g (sources_of d), counted_rows d room d.others)
