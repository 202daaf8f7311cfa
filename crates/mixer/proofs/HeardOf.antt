-- What a member hears of its room is the sum of the others, and they contribute.
use Rattle.std.proofs.Common.{◌≡◌, ℕ, ℤ, pos, ◌+ℤ◌, ◌≤◌, Bool, true, false, not, ◌&&◌, if◌then◌else◌, nat_eq, nat_lt}
use Rattle.std.proofs.Common.{List, [], ◌∷◌, ◌++◌, All, length, map, filter, drop, slice_index_or, ap, sym, ◌∙◌, arith}
use Rattle.std.proofs.Common.{refl}
use Rattle.std.proofs.Math.IntN.{+ℤ_idl}
use Rattle.mix_minus.specs.declared.input.Input.{Input}
use Rattle.mix_minus.specs.Mix.{scaled, heard_sum, contributing}
use Rattle.desk_rows.specs.declared.row.Member.{Member as MemberRow}
use Rattle.desk_rows.specs.Desk.{Desk}
use Rattle.topology.specs.declared.hearing.AudioSource.{AudioSource}
use Rattle.topology.specs.Mixes.{gain_of}
use Rattle.topology.proofs.Parted.{filter-and}
use Rattle.mixer.specs.Hearing.{Voice}
use Rattle.mixer.specs.Hearing as spec
use Rattle.std.proofs.lemmas.List.{length-map}
use Rattle.std.proofs.lemmas.List.Elements.{All-map}
use Rattle.mixer.specs.inner.Rooms.{Plain, plain, plain_voice, is_of, of_room}

-- the voice is another member's
abbrev pub of_another : MemberRow → Voice → Bool
of_another m v = not (nat_eq v.source.member m.member)

-- the gains of voices
abbrev pub gains_for : Desk → MemberRow → List Voice → List ℕ
gains_for d m ws = map (λ (s : AudioSource). gain_of d m.member s.ssrc) (map (λ (v : Voice). v.source) ws)

abbrev pub first : Plain → List Plain → Plain
first d [] = d
first d (p ∷ ps) = p

-- one voice more
more_heard : (own : Bool) (x rest : ℤ) (w : Voice) (ws : List Voice) (f : Voice → ℤ) → f w ≡ x
    → rest ≡ spec.sum_of (map f ws)
    → (if own then pos 0 else x) +ℤ rest ≡ spec.sum_of (map f (if not own then w ∷ ws else ws))
more_heard true x rest w ws f at so = +ℤ_idl rest ∙ so
more_heard false x rest w ws f at so = ap (λ y. y +ℤ rest) (sym at) ∙ ap (λ y. f w +ℤ y) so

more_named : (own loud : Bool) (w : Voice) (ws : List Voice) (p : Voice → Bool) (rest : List ℕ) → p w ≡ loud
    → rest ≡ map (λ (v : Voice). v.source.ssrc) (filter p ws)
    → (if not own && loud then w.source.ssrc ∷ [] else []) ++ rest
    ≡ map (λ (v : Voice). v.source.ssrc) (filter p (if not own then w ∷ ws else ws))
more_named true loud w ws p rest at so = so
more_named false true w ws p rest at so =
    ap (λ l. w.source.ssrc ∷ l) so
    ∙ ap (λ b. map (λ (v : Voice). v.source.ssrc) (if b then w ∷ filter p ws else filter p ws)) (sym at)
more_named false false w ws p rest at so =
    so ∙ ap (λ b. map (λ (v : Voice). v.source.ssrc) (if b then w ∷ filter p ws else filter p ws)) (sym at)

pub heard_of : (d : Desk) (m : MemberRow) (k : ℕ) (inputs : List Input) (ws : List Voice)
    → map plain inputs ≡ map plain_voice ws
    → heard_sum m.member k inputs (gains_for d m ws) ≡ spec.sum_of (map (spec.part_of d m k) (filter (of_another m) ws))
heard_of d m k [] [] same = refl
heard_of d m k [] (w ∷ ws) same = absurd (omega (arith, ap length same))
heard_of d m k (i ∷ is) [] same = absurd (omega (arith, ap length same))
heard_of d m k (i ∷ is) (w ∷ ws) same =
    let head : plain i ≡ plain_voice w = ap (first (plain i)) same in
    let tail : map plain is ≡ map plain_voice ws = ap (drop 1) same in
    let gain = gain_of d m.member w.source.ssrc in
    let rest = heard_sum m.member k is (gains_for d m ws) in
    ap
    (λ (p : Plain).
    (if nat_eq p.member m.member then pos 0 else scaled (slice_index_or p.samples k (pos 0)) gain) +ℤ rest)
    head
    ∙ more_heard (nat_eq w.source.member m.member) (spec.part_of d m k w) rest w (filter (of_another m) ws)
    (spec.part_of d m k) refl (heard_of d m k is ws tail)

and_and : (a b c : Bool) → (a && b && c) ≡ (a && (b && c))
and_and true b c = refl
and_and false b c = refl

pub named_of : (d : Desk) (m : MemberRow) (inputs : List Input) (ws : List Voice)
    → map plain inputs ≡ map plain_voice ws
    → contributing m.member inputs (gains_for d m ws)
    ≡ map (λ (v : Voice). v.source.ssrc) (filter (spec.contributes d m) (filter (of_another m) ws))
named_of d m [] [] same = refl
named_of d m [] (w ∷ ws) same = absurd (omega (arith, ap length same))
named_of d m (i ∷ is) [] same = absurd (omega (arith, ap length same))
named_of d m (i ∷ is) (w ∷ ws) same =
    let head : plain i ≡ plain_voice w = ap (first (plain i)) same in
    let tail : map plain is ≡ map plain_voice ws = ap (drop 1) same in
    let gain = gain_of d m.member w.source.ssrc in
    let rest = contributing m.member is (gains_for d m ws) in
    ap
    (λ (p : Plain).
    (if not (nat_eq p.member m.member) && nat_lt 0 gain && nat_lt 0 p.filled then p.ssrc ∷ [] else []) ++ rest)
    head
    ∙ ap (λ b. (if b then w.source.ssrc ∷ [] else []) ++ rest)
    (and_and (not (nat_eq w.source.member m.member)) (nat_lt 0 gain) (nat_lt 0 w.filled))
    ∙ more_named (nat_eq w.source.member m.member) (spec.contributes d m w) w (filter (of_another m) ws)
    (spec.contributes d m) rest refl (named_of d m is ws tail)

-- the others of the room are those of the member's room
pub others_of : (m : MemberRow) (voices : List Voice) (room : ℕ) → room ≡ m.room
    → filter (of_another m) (of_room room voices) ≡ spec.others m voices
others_of m voices room own =
    ap (λ r. filter (of_another m) (of_room r voices)) own ∙ sym (filter-and (of_another m) (is_of m.room) voices)

pub as_many : (d : Desk) (m : MemberRow) (inputs : List Input) (ws : List Voice) → map plain inputs ≡ map plain_voice ws
    → length (gains_for d m ws) ≡ length inputs
as_many d m inputs ws same =
    length-map (map (λ (v : Voice). v.source) ws) (λ (s : AudioSource). gain_of d m.member s.ssrc)
    ∙ length-map ws (λ (v : Voice). v.source)
    ∙ sym (length-map ws plain_voice) ∙ sym (ap length same) ∙ length-map inputs plain

pub loud : (d : Desk) (m : MemberRow) → ((source : ℕ) → gain_of d m.member source ≤ 1024) → (ws : List Voice)
    → All (λ gain. gain ≤ 1024) (gains_for d m ws)
loud d m small ws =
    All-map (λ gain. gain ≤ 1024) (λ (s : AudioSource). gain_of d m.member s.ssrc) (map (λ (v : Voice). v.source) ws)
    (λ k s l. small (slice_index_or (map (λ (v : Voice). v.source) ws) k s).ssrc)
