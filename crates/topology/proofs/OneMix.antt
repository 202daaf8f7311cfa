-- On a good desk no two members have their mixes on one stream, and a mix stays in its room.
use Rattle.std.proofs.Common.{◌≡◌, ℕ, true, false, ◌||◌, nat_eq, List, [], ◌∷◌, ◌++◌, map, Option}
use Rattle.std.proofs.Common.{None, Some, ap, subst, ◌∙◌, eqb-true}
use Rattle.std.specs.Prelude.{filter, option_map}
use Rattle.std.specs.List.{All, AllByRecursion, find, flat_map}
use Rattle.std.proofs.lemmas.List.Elements.{All-nil, All-append, All-map, All-filter, filter_passes}
use Rattle.desk_rows.specs.declared.row.Member.{Member as MemberRow}
use Rattle.desk_rows.specs.declared.claim.Claim.TheVariants as claims
use Rattle.desk_rows.specs.Row.{same_claim}
use Rattle.desk_rows.specs.Desk.{Desk, good}
use Rattle.desk_rows.specs.laws.Equal.{claim_itself}
use Rattle.topology.specs.declared.hearing.AudioSource.{AudioSource}
use Rattle.topology.specs.declared.hearing.MixSource.{MixSource}
use Rattle.topology.specs.Looking.{room_of_member}
use Rattle.topology.specs.Choice.{sources_of}
use Rattle.topology.specs.Mixes.{is_audible, audio_source, audio_sources, in_room, mix_source, room_mix, mix_plan}
use Rattle.topology.specs.Mixes.{mix_member}
use Rattle.topology.proofs.Distinct.{at, Distinct, Found, all_apart}
use Rattle.topology.proofs.KindRows.{number, member_row}
use Rattle.topology.proofs.GoodRows.{Claims, members_apart, members_distinct, no_members}

-- ---- whose mix a stream is

abbrev mix : MemberRow → ℕ
mix m = m.out_audio

-- a member whose mix has this SSRC claims it
its_mix : Claims mix claims.Ssrc
its_mix k m e =
    ap (λ b. b || false)
    (ap (λ n. same_claim (claims.Ssrc k) (claims.Ssrc n)) (eqb-true m.out_audio k e) ∙ claim_itself (claims.Ssrc k))

-- so no two members have one
mixes_apart : (d : Desk) → good d ≡ true → Distinct mix d.members
mixes_apart d g = members_apart mix claims.Ssrc its_mix d g

-- what is true of all is true of one between others
of_all : {X : Type 0} (P : X → Type 0) (xs : List X) (y : X) (ys : List X) → AllByRecursion P (xs ++ y ∷ ys) → P y
of_all P [] y ys all = all.0
of_all P (x ∷ xs) y ys all = of_all P xs y ys all.1

none_behind : {X : Type 0} (key : X → ℕ) (xs : List X) (y : X) (ys : List X) → Distinct key (xs ++ y ∷ ys)
    → at key (key y) ys ≡ None
none_behind key [] y ys apart = apart.0
none_behind key (x ∷ xs) y ys apart = none_behind key xs y ys apart.1

pub one_mix : (d : Desk) (before : List MemberRow) (m : MemberRow) (after : List MemberRow) → good d ≡ true
    → d.members ≡ before ++ m ∷ after → mix_member d m.out_audio ≡ Some m
one_mix d before m after g e =
    of_all (Found mix d.members) before m after
    (subst (AllByRecursion (Found mix d.members)) e (all_apart mix d.members (mixes_apart d g)))

pub no_other_mix : (d : Desk) (before : List MemberRow) (m : MemberRow) (after : List MemberRow) → good d ≡ true
    → d.members ≡ before ++ m ∷ after → find (λ n. nat_eq n.out_audio m.out_audio) after ≡ None
no_other_mix d before m after g e =
    none_behind mix before m after (subst (Distinct mix) e (mixes_apart d g))

-- ---- the room of a mix

-- the source's member is in the source's room
abbrev InItsRoom : Desk → AudioSource → Type 0
InItsRoom d s = room_of_member d s.member ≡ Some s.room

of_members : (d : Desk) → good d ≡ true → (ms : List MemberRow) → AllByRecursion (Found number d.members) ms
    → All (InItsRoom d) (flat_map (λ m. map (audio_source m) (filter (is_audible d m) (sources_of d))) ms)
of_members d g [] each = All-nil (InItsRoom d)
of_members d g (m ∷ ms) each =
    let lives = member_row d m.member (no_members d g) ∙ each.0 in
    All-append (InItsRoom d) (map (audio_source m) (filter (is_audible d m) (sources_of d)))
    (flat_map (λ m. map (audio_source m) (filter (is_audible d m) (sources_of d))) ms)
    (All-map (InItsRoom d) (audio_source m) (filter (is_audible d m) (sources_of d)) (λ k e lt.
    ap (option_map (λ (m : MemberRow). m.room)) lives))
    (of_members d g ms each.1)

-- those of a room, with gains
of_room : (d : Desk) (member room : ℕ) (xs : List AudioSource) → All (InItsRoom d) xs
    → All (λ s. room_of_member d s.member ≡ Some room) (map (mix_source d member) (filter (in_room room) xs))
of_room d member room xs all =
    All-map (λ (s : MixSource). room_of_member d s.member ≡ Some room) (mix_source d member) (filter (in_room room) xs)
    (λ k e lt.
    All-filter (in_room room) (InItsRoom d) xs all k e lt
    ∙ ap Some (eqb-true _ room (filter_passes (in_room room) xs k e lt)))

pub own_room : (d : Desk) (member : ℕ) → good d ≡ true
    → All (λ s. room_of_member d s.member ≡ room_of_member d member) (mix_plan d member)
own_room d member g = by (room_of_member d member)
  where
    by : (o : Option ℕ) → All (λ s. room_of_member d s.member ≡ o) (room_mix d member o)
    by None = All-nil (λ (s : MixSource). room_of_member d s.member ≡ None)
    by (Some room) =
        of_room d member room (audio_sources d)
        (of_members d g d.members (all_apart number d.members (members_distinct d g)))
