-- What a tick sends on the lane's streams, and what it leaves.
use Rattle.std.proofs.Common.{◌≡◌, ℕ, Bool, true, false, nat_eq, is_some, List, [], ◌∷◌, ◌++◌, length, map, filter}
use Rattle.std.proofs.Common.{drop, cond, Option, None, Some, unwrap_or, ap, sym, subst, ◌∙◌, refl, arith, append_assoc}
use Rattle.std.proofs.Common.{append-nil, ◌⊎◌, inl, inr}
use Rattle.std.specs.Option.{option_map, option_and_then}
use Rattle.std.specs.List.{AllByRecursion, flat_map, find}
use Rattle.std.proofs.lemmas.List.Elements.{filter-append}
use Rattle.std.proofs.Math.Seq.{drop-append_seam}
use Rattle.std.proofs.lemmas.Bool.{eqb-true}
use Rattle.desk_rows.specs.declared.row.Member.{Member as MemberRow}
use Rattle.desk_rows.specs.Desk.{Desk}
use Rattle.topology.specs.Mixes.{mix_member}
use Rattle.forward_rewrite.specs.Sending.{Numbered}
use Rattle.forward_rewrite.specs.Mixes.{Sound, MixOf, GivesTick, sounding}
use Rattle.media_items.specs.OwnStreams.{is_mine}
use Rattle.mixer.specs.Hearing.{Given, Voice, tick, member_rate, voices_of, sound_for}
use Rattle.mixer.specs.Mixes.{Hears, Turn, MixSent, hears, turn_of, turns, packets_of, stream_of, mixes_at, to_member}
use Rattle.mixer.specs.Mixes.{sent_by, lanes_own}
use Rattle.mixer.specs.Mixers.{mix_at}
use Rattle.mixer.specs.inner.Ready.{ReadyOf, IsReady, Passes, hears_any, of_lane, hearers, members_of, kept_after}
use Rattle.mixer.specs.inner.Ready.{kept_after_one, sent_of, current}
use Rattle.mixer.proofs.Turns.{turns_tick, Sounds, sounds, Quiet, quiet}

-- a tick on a mixer that was given all this: its voices, its streams before it, and those that have passed it
pub record Here (lane lanes : ℕ) (before : List Given) (d : Desk) (moment : ℕ) (voices : List Voice)
    (streams passed : List (ℕ × MixOf)) : Type 0 where
  pub voices_are : voices ≡ voices_of before d
  pub stand : (ssrc : ℕ) → is_mine lane lanes ssrc ≡ true → mix_at ssrc streams ≡ stream_of ssrc (turns ssrc before)
  pub pass : (ssrc : ℕ) → Passes d moment ssrc (mix_at ssrc streams) (mix_at ssrc passed)
  pub apart : (pre : List MemberRow) (m : MemberRow) (post : List MemberRow) → d.members ≡ pre ++ m ∷ post
      → mix_member d m.out_audio ≡ Some m

abbrev turn_with : Desk → ℕ → Option Hears → ℕ → Turn
turn_with d ssrc h moment = record { heard = h; rate = option_map (member_rate d) (mix_member d ssrc); moment = moment }

abbrev hearing : MemberRow → Sound → Hears
hearing m s = record { member = m; sound = s }

-- ---- one stream

-- the packets that a tick adds, by the turn that it is
added : (ssrc : ℕ) (before : List Given) (d : Desk) (moment : ℕ) (out : List Numbered)
    → packets_of ssrc (turns ssrc before ++ turn_of ssrc before d moment ∷ [])
    ≡ packets_of ssrc (turns ssrc before) ++ out
    → mixes_at ssrc before d moment ≡ out
added ssrc before d moment out is =
    let ps = packets_of ssrc (turns ssrc before) in
    ap (drop (length ps)) (ap (packets_of ssrc) (turns_tick ssrc before d moment) ∙ is) ∙ drop-append_seam ps out

-- a turn of this desk in which this member hears this
heard_turn : (ssrc : ℕ) (before : List Given) (d : Desk) (moment : ℕ) (voices : List Voice) (m : MemberRow)
    (sound : Sound)
    → voices ≡ voices_of before d → mix_member d ssrc ≡ Some m → sound_for voices d m ≡ Some sound
    → turn_of ssrc before d moment ≡ turn_with d ssrc (Some (record { member = m; sound = sound })) moment
heard_turn ssrc before d moment voices m sound are whose hears_it =
    ap (λ (h : Option Hears). turn_with d ssrc h moment)
    (ap (option_and_then (hears before d)) whose
    ∙ ap (option_map (λ (s : Sound). hearing m s)) (ap (λ vs. sound_for vs d m) (sym are) ∙ hears_it))

-- what is ready is the stream's next turn
pub ready_sounds : (lane lanes : ℕ) (before : List Given) (d : Desk) (moment : ℕ) (voices : List Voice)
    (streams passed : List (ℕ × MixOf))
    → Here lane lanes before d moment voices streams passed
    → (r : ReadyOf) → IsReady d voices moment streams r → mix_member d r.member.out_audio ≡ Some r.member
    → is_mine lane lanes r.member.out_audio ≡ true
    → Sounds r.member.out_audio (turns r.member.out_audio before) (turn_of r.member.out_audio before d moment)
    r.prepared.next r.prepared.packet
ready_sounds lane lanes before d moment voices streams passed here r is whose mine =
    let ssrc = r.member.out_audio in
    let ts = turns ssrc before in
    subst (λ t. Sounds ssrc ts t r.prepared.next r.prepared.packet)
    (sym (heard_turn ssrc before d moment voices r.member is.sound here.voices_are whose is.hears))
    (sounds ssrc ts r.member is.sound (option_map (member_rate d) (mix_member d ssrc)) moment r.prepared.next
    r.prepared.packet refl
    (subst (λ o. GivesTick (current o r.member) r.prepared.next (sounding is.sound moment) (r.prepared.packet ∷ []))
    (here.stand ssrc mine) is.gives)
    (subst (λ o. r.prepared.next.ssrc ≡ (current o r.member).ssrc) (here.stand ssrc mine) is.ssrc))

-- where the member hears nothing, or there is none, the stream passes
pub nothing_sounds : (lane lanes : ℕ) (before : List Given) (d : Desk) (moment : ℕ) (voices : List Voice)
    (streams passed : List (ℕ × MixOf))
    → Here lane lanes before d moment voices streams passed
    → (ssrc : ℕ) → is_mine lane lanes ssrc ≡ true → option_and_then (hears before d) (mix_member d ssrc) ≡ None
    → Quiet ssrc (turns ssrc before) (turn_of ssrc before d moment) (mix_at ssrc passed)
nothing_sounds lane lanes before d moment voices streams passed here ssrc mine none =
    let ts = turns ssrc before in
    subst (λ (h : Option Hears). Quiet ssrc ts (turn_with d ssrc h moment) (mix_at ssrc passed)) (sym none)
    (quiet d ssrc moment ts (mix_at ssrc passed)
    (subst (λ o. Passes d moment ssrc o (mix_at ssrc passed)) (here.stand ssrc mine) (here.pass ssrc)))

-- ---- all members

abbrev F : List Given → Desk → ℕ → MemberRow → List MixSent
F before d moment m = map (to_member m) (mixes_at m.out_audio before d moment)

abbrev one_if : Bool → ℕ
one_if true = 1
one_if false = 0

one_is_not_zero : one_if true ≡ one_if false → ⊥
one_is_not_zero e = omega (arith, e)

tells : (b : Bool) → (b ≡ true) ⊎ (b ≡ false)
tells true = inl refl
tells false = inr refl

-- of another lane's stream nothing is kept
none_own : (lane lanes : ℕ) (m : MemberRow) (ps : List Numbered) → is_mine lane lanes m.out_audio ≡ false
    → lanes_own lane lanes (map (to_member m) ps) ≡ []
none_own lane lanes m [] other = refl
none_own lane lanes m (p ∷ ps) other =
    ap
    (λ b.
    cond b (to_member m p ∷ lanes_own lane lanes (map (to_member m) ps)) (lanes_own lane lanes (map (to_member m) ps)))
    other
    ∙ none_own lane lanes m ps other

-- of the lane's own stream the packet is
one_own : (lane lanes : ℕ) (m : MemberRow) (p : Numbered) → is_mine lane lanes m.out_audio ≡ true
    → lanes_own lane lanes (to_member m p ∷ []) ≡ to_member m p ∷ []
one_own lane lanes m p mine = ap (λ b. cond b (to_member m p ∷ []) []) mine

abbrev member_or : MemberRow → List MemberRow → MemberRow
member_or d [] = d
member_or d (m ∷ ms) = m

hearers_other : (d : Desk) (voices : List Voice) (lane lanes : ℕ) (m : MemberRow) (post : List MemberRow)
    → is_mine lane lanes m.out_audio ≡ false → hearers d voices lane lanes (m ∷ post) ≡ hearers d voices lane lanes post
hearers_other d voices lane lanes m post other =
    ap (λ b. filter (hears_any d voices) (cond b (m ∷ of_lane lane lanes post) (of_lane lane lanes post))) other

hearers_mine : (d : Desk) (voices : List Voice) (lane lanes : ℕ) (m : MemberRow) (post : List MemberRow) (b : Bool)
    → is_mine lane lanes m.out_audio ≡ true → hears_any d voices m ≡ b
    → hearers d voices lane lanes (m ∷ post)
    ≡ cond b (m ∷ hearers d voices lane lanes post) (hearers d voices lane lanes post)
hearers_mine d voices lane lanes m post b mine loud =
    ap (λ c. filter (hears_any d voices) (cond c (m ∷ of_lane lane lanes post) (of_lane lane lanes post))) mine
    ∙ ap (λ c. cond c (m ∷ hearers d voices lane lanes post) (hearers d voices lane lanes post)) loud

-- nothing is heard: the sound is none
no_sound : (o : Option Sound) → is_some o ≡ false → o ≡ None
no_sound None e = refl
no_sound (Some s) e = absurd (one_is_not_zero (ap one_if e))

silent_turn : (before : List Given) (d : Desk) (voices : List Voice) (m : MemberRow) (ssrc : ℕ)
    → voices ≡ voices_of before d → mix_member d ssrc ≡ Some m → hears_any d voices m ≡ false
    → option_and_then (hears before d) (mix_member d ssrc) ≡ None
silent_turn before d voices m ssrc are whose hush =
    ap (option_and_then (hears before d)) whose
    ∙ ap (option_map (λ (s : Sound). hearing m s))
    (ap (λ vs. sound_for vs d m) (sym are) ∙ no_sound (sound_for voices d m) hush)

abbrev Own : ℕ → ℕ → MixSent → Bool
Own lane lanes p = is_mine lane lanes p.ssrc

sent_other : (lane lanes : ℕ) (before : List Given) (d : Desk) (moment : ℕ) (m : MemberRow) (post : List MemberRow)
    (out : List MixSent)
    → is_mine lane lanes m.out_audio ≡ false
    → lanes_own lane lanes (flat_map (F before d moment) post) ≡ out
    → lanes_own lane lanes (flat_map (F before d moment) (m ∷ post)) ≡ out
sent_other lane lanes before d moment m post out other rest =
    filter-append (Own lane lanes) (F before d moment m) (flat_map (F before d moment) post)
    ∙ ap (λ xs. xs ++ lanes_own lane lanes (flat_map (F before d moment) post))
    (none_own lane lanes m (mixes_at m.out_audio before d moment) other)
    ∙ rest

sent_silent : (lane lanes : ℕ) (before : List Given) (d : Desk) (moment : ℕ) (m : MemberRow) (post : List MemberRow)
    (out : List MixSent)
    → mixes_at m.out_audio before d moment ≡ []
    → lanes_own lane lanes (flat_map (F before d moment) post) ≡ out
    → lanes_own lane lanes (flat_map (F before d moment) (m ∷ post)) ≡ out
sent_silent lane lanes before d moment m post out none rest =
    filter-append (Own lane lanes) (F before d moment m) (flat_map (F before d moment) post)
    ∙ ap (λ ps. lanes_own lane lanes (map (to_member m) ps) ++ lanes_own lane lanes (flat_map (F before d moment) post))
    none
    ∙ rest

sent_sound : (lane lanes : ℕ) (before : List Given) (d : Desk) (moment : ℕ) (m : MemberRow) (post : List MemberRow)
    (p : Numbered) (out : List MixSent)
    → is_mine lane lanes m.out_audio ≡ true
    → mixes_at m.out_audio before d moment ≡ p ∷ [] → lanes_own lane lanes (flat_map (F before d moment) post) ≡ out
    → lanes_own lane lanes (flat_map (F before d moment) (m ∷ post)) ≡ to_member m p ∷ out
sent_sound lane lanes before d moment m post p out mine one rest =
    filter-append (Own lane lanes) (F before d moment m) (flat_map (F before d moment) post)
    ∙ ap (λ ps. lanes_own lane lanes (map (to_member m) ps) ++ lanes_own lane lanes (flat_map (F before d moment) post))
    one
    ∙ ap (λ xs. xs ++ lanes_own lane lanes (flat_map (F before d moment) post)) (one_own lane lanes m p mine)
    ∙ ap (λ xs. to_member m p ∷ xs) rest

-- what the members after these send
sent_along : (lane lanes : ℕ) (before : List Given) (d : Desk) (moment : ℕ) (voices : List Voice)
    (streams passed : List (ℕ × MixOf))
    → Here lane lanes before d moment voices streams passed
    → (pre post : List MemberRow) (rs : List ReadyOf) → d.members ≡ pre ++ post
    → members_of rs ≡ hearers d voices lane lanes post → AllByRecursion (IsReady d voices moment streams) rs
    → lanes_own lane lanes (flat_map (F before d moment) post) ≡ map sent_of rs
sent_along lane lanes before d moment voices streams passed here pre [] [] split who all = refl
sent_along lane lanes before d moment voices streams passed here pre [] (r ∷ rs) split who all =
    absurd (omega (arith, ap length who))
sent_along lane lanes before d moment voices streams passed here pre (m ∷ post) rs split who all =
    by_lane (tells (is_mine lane lanes m.out_audio)) (tells (hears_any d voices m)) rs who all
    (λ rs' who' all'.
    sent_along lane lanes before d moment voices streams passed here (pre ++ m ∷ []) post rs'
    (split ∙ sym (append_assoc pre (m ∷ []) post)) who' all')
  where
    whose : mix_member d m.out_audio ≡ Some m
    whose = here.apart pre m post split

    by_lane : (is_mine lane lanes m.out_audio ≡ true) ⊎ (is_mine lane lanes m.out_audio ≡ false)
        → (hears_any d voices m ≡ true) ⊎ (hears_any d voices m ≡ false)
        → (rs : List ReadyOf) → members_of rs ≡ hearers d voices lane lanes (m ∷ post)
        → AllByRecursion (IsReady d voices moment streams) rs
        → ((rs' : List ReadyOf) → members_of rs' ≡ hearers d voices lane lanes post
        → AllByRecursion (IsReady d voices moment streams) rs'
        → lanes_own lane lanes (flat_map (F before d moment) post) ≡ map sent_of rs')
        → lanes_own lane lanes (flat_map (F before d moment) (m ∷ post)) ≡ map sent_of rs
    by_lane (inr other) loud rs who all rest =
        sent_other lane lanes before d moment m post (map sent_of rs) other
        (rest rs (who ∙ hearers_other d voices lane lanes m post other) all)
    by_lane (inl mine) (inr hush) rs who all rest =
        sent_silent lane lanes before d moment m post (map sent_of rs)
        (added m.out_audio before d moment [] ((nothing_sounds lane lanes before d moment voices streams passed here
        m.out_audio mine (silent_turn before d voices m m.out_audio here.voices_are whose hush)).packets
        ∙ sym (append-nil _)))
        (rest rs (who ∙ hearers_mine d voices lane lanes m post false mine hush) all)
    by_lane (inl mine) (inl loud) [] who all rest =
        absurd (omega (arith, ap length (who ∙ hearers_mine d voices lane lanes m post true mine loud)))
    by_lane (inl mine) (inl loud) (r ∷ rs) who all rest =
        let both = who ∙ hearers_mine d voices lane lanes m post true mine loud in
        let head : r.member ≡ m = ap (member_or m) both in
        let whose_r : mix_member d r.member.out_audio ≡ Some r.member =
        ap (λ (x : MemberRow). mix_member d x.out_audio) head ∙ whose ∙ ap Some (sym head) in
        let mine_r : is_mine lane lanes r.member.out_audio ≡ true =
        ap (λ (x : MemberRow). is_mine lane lanes x.out_audio) head ∙ mine in
        let one : mixes_at m.out_audio before d moment ≡ r.prepared.packet ∷ [] =
        ap (λ (x : MemberRow). mixes_at x.out_audio before d moment) (sym head)
        ∙ added r.member.out_audio before d moment (r.prepared.packet ∷ [])
        (ready_sounds lane lanes before d moment voices streams passed here r all.0 whose_r mine_r).packets in
        sent_sound lane lanes before d moment m post r.prepared.packet (map sent_of rs) mine one
        (rest rs (ap (drop 1) both) all.1)
        ∙ ap (λ (x : MemberRow). to_member x r.prepared.packet ∷ map sent_of rs) (sym head)

-- what the tick sends on the lane's streams is what was ready
pub tick_sends : (lane lanes : ℕ) (before : List Given) (d : Desk) (moment : ℕ) (voices : List Voice)
    (streams passed : List (ℕ × MixOf))
    → Here lane lanes before d moment voices streams passed
    → (rs : List ReadyOf) → members_of rs ≡ hearers d voices lane lanes d.members
    → AllByRecursion (IsReady d voices moment streams) rs
    → map sent_of rs ≡ lanes_own lane lanes (sent_by before d moment)
tick_sends lane lanes before d moment voices streams passed here rs who all =
    sym (sent_along lane lanes before d moment voices streams passed here [] d.members rs refl who all)

-- ---- what the tick leaves

-- a stream after all that is ready: the last that is its own, or as it was
data Kept (ssrc : ℕ) (rs : List ReadyOf) (P : ReadyOf → Type 0) (kept : Option MixOf) : Type 0 where
  by_one : (r : ReadyOf) → P r → r.member.out_audio ≡ ssrc → kept_after ssrc rs kept ≡ Some r.prepared.next
      → Kept ssrc rs P kept
  as_it_was : AllByRecursion (λ r. nat_eq r.member.out_audio ssrc ≡ false) rs → kept_after ssrc rs kept ≡ kept
      → Kept ssrc rs P kept

kept_of : (ssrc : ℕ) (P : ReadyOf → Type 0) (rs : List ReadyOf) (kept : Option MixOf) → AllByRecursion P rs
    → Kept ssrc rs P kept
kept_of ssrc P [] kept all = as_it_was tt refl
kept_of ssrc P (r ∷ rs) kept all =
    by (tells (nat_eq r.member.out_audio ssrc)) (kept_of ssrc P rs (kept_after_one ssrc r kept) all.1)
  where
    by : (nat_eq r.member.out_audio ssrc ≡ true) ⊎ (nat_eq r.member.out_audio ssrc ≡ false)
        → Kept ssrc rs P (kept_after_one ssrc r kept) → Kept ssrc (r ∷ rs) P kept
    by own (by_one x px at is) = by_one x px at is
    by (inl own) (as_it_was others is) =
        by_one r all.0 (eqb-true r.member.out_audio ssrc own) (is ∙ ap (λ b. cond b (Some r.prepared.next) kept) own)
    by (inr other) (as_it_was others is) =
        as_it_was (other, others) (is ∙ ap (λ b. cond b (Some r.prepared.next) kept) other)

-- those that hear something, without the first of all
fewer : (d : Desk) (voices : List Voice) (lane lanes : ℕ) (x : MemberRow) (ms : List MemberRow) (P : MemberRow → Type 0)
    → AllByRecursion P (hearers d voices lane lanes (x ∷ ms)) → AllByRecursion P (hearers d voices lane lanes ms)
fewer d voices lane lanes x ms P all = by (tells (is_mine lane lanes x.out_audio)) (tells (hears_any d voices x))
  where
    by : (is_mine lane lanes x.out_audio ≡ true) ⊎ (is_mine lane lanes x.out_audio ≡ false)
        → (hears_any d voices x ≡ true) ⊎ (hears_any d voices x ≡ false)
        → AllByRecursion P (hearers d voices lane lanes ms)
    by (inr other) loud = subst (AllByRecursion P) (hearers_other d voices lane lanes x ms other) all
    by (inl mine) (inl loud) = (subst (AllByRecursion P) (hearers_mine d voices lane lanes x ms true mine loud) all).1
    by (inl mine) (inr hush) = subst (AllByRecursion P) (hearers_mine d voices lane lanes x ms false mine hush) all

-- who has this stream and hears something is among those that hear something
listed_one : (d : Desk) (voices : List Voice) (lane lanes ssrc : ℕ) (ms : List MemberRow) (m : MemberRow)
    → find (λ (x : MemberRow). nat_eq x.out_audio ssrc) ms ≡ Some m → is_mine lane lanes ssrc ≡ true
    → hears_any d voices m ≡ true
    → AllByRecursion (λ (x : MemberRow). nat_eq x.out_audio ssrc ≡ false) (hearers d voices lane lanes ms) → ⊥
listed_one d voices lane lanes ssrc [] m found mine loud none =
    absurd (one_is_not_zero (sym (ap (λ o. one_if (is_some o)) found)))
listed_one d voices lane lanes ssrc (x ∷ ms) m found mine loud none =
    by (tells (nat_eq x.out_audio ssrc)) (listed_one d voices lane lanes ssrc ms m)
  where
    by : (nat_eq x.out_audio ssrc ≡ true) ⊎ (nat_eq x.out_audio ssrc ≡ false)
        → (find (λ (y : MemberRow). nat_eq y.out_audio ssrc) ms ≡ Some m → is_mine lane lanes ssrc ≡ true
        → hears_any d voices m ≡ true
        → AllByRecursion (λ (y : MemberRow). nat_eq y.out_audio ssrc ≡ false) (hearers d voices lane lanes ms) → ⊥)
        → ⊥
    by (inl own) later =
        let same : x ≡ m =
        ap (λ o. unwrap_or o x)
        (ap (λ b. cond b (Some x) (find (λ (y : MemberRow). nat_eq y.out_audio ssrc) ms)) (sym own) ∙ found) in
        let mine_x : is_mine lane lanes x.out_audio ≡ true =
        ap (is_mine lane lanes) (eqb-true x.out_audio ssrc own) ∙ mine in
        let head =
        subst (AllByRecursion (λ (y : MemberRow). nat_eq y.out_audio ssrc ≡ false))
        (hearers_mine d voices lane lanes x ms true mine_x (ap (hears_any d voices) same ∙ loud)) none in
        one_is_not_zero (ap one_if (sym own ∙ head.0))
    by (inr other) later =
        later (ap (λ b. cond b (Some x) (find (λ (y : MemberRow). nat_eq y.out_audio ssrc) ms)) (sym other) ∙ found)
        mine loud
        (fewer d voices lane lanes x ms (λ (y : MemberRow). nat_eq y.out_audio ssrc ≡ false) none)

-- ---- all that are ready are the desk's members

all_listed : (d : Desk) (P : MemberRow → Type 0)
    → ((pre : List MemberRow) (m : MemberRow) (post : List MemberRow) → d.members ≡ pre ++ m ∷ post → P m)
    → (pre post : List MemberRow) → d.members ≡ pre ++ post → AllByRecursion P post
all_listed d P each pre [] split = tt
all_listed d P each pre (m ∷ post) split =
    (each pre m post split, all_listed d P each (pre ++ m ∷ []) post (split ∙ sym (append_assoc pre (m ∷ []) post)))

all_filtered : {X : Type 0} (P : X → Type 0) (p : X → Bool) (xs : List X) → AllByRecursion P xs
    → AllByRecursion P (filter p xs)
all_filtered P p [] all = tt
all_filtered {X} P p (x ∷ xs) all = by (p x) (all_filtered P p xs all.1)
  where
    by : (b : Bool) → AllByRecursion P (filter p xs) → AllByRecursion P (cond b (x ∷ filter p xs) (filter p xs))
    by true rest = (all.0, rest)
    by false rest = rest

all_of : (P : MemberRow → Type 0) (rs : List ReadyOf) → AllByRecursion P (members_of rs)
    → AllByRecursion (λ r. P r.member) rs
all_of P [] all = tt
all_of P (r ∷ rs) all = (all.0, all_of P rs all.1)

all_to : (P : MemberRow → Type 0) (rs : List ReadyOf) → AllByRecursion (λ r. P r.member) rs
    → AllByRecursion P (members_of rs)
all_to P [] all = tt
all_to P (r ∷ rs) all = (all.0, all_to P rs all.1)

all_both : (P Q : ReadyOf → Type 0) (rs : List ReadyOf) → AllByRecursion P rs → AllByRecursion Q rs
    → AllByRecursion (λ r. P r × Q r) rs
all_both P Q [] ps qs = tt
all_both P Q (r ∷ rs) ps qs = ((ps.0, qs.0), all_both P Q rs ps.1 qs.1)

-- each stream of the lane stands as the tick leaves it
pub tick_leaves : (lane lanes : ℕ) (before : List Given) (d : Desk) (moment : ℕ) (voices : List Voice)
    (streams passed after : List (ℕ × MixOf))
    → Here lane lanes before d moment voices streams passed
    → (rs : List ReadyOf) → members_of rs ≡ hearers d voices lane lanes d.members
    → AllByRecursion (IsReady d voices moment streams) rs
    → ((ssrc : ℕ) → mix_at ssrc after ≡ kept_after ssrc rs (mix_at ssrc passed))
    → (ssrc : ℕ) → is_mine lane lanes ssrc ≡ true
    → mix_at ssrc after ≡ stream_of ssrc (turns ssrc (before ++ tick d moment ∷ []))
tick_leaves lane lanes before d moment voices streams passed after here rs who all left ssrc mine =
    left ssrc
    ∙ by (kept_of ssrc P rs (mix_at ssrc passed)
    (all_both (IsReady d voices moment streams) (λ r. mix_member d r.member.out_audio ≡ Some r.member) rs all whose))
    ∙ ap (stream_of ssrc) (sym (turns_tick ssrc before d moment))
  where
    W : MemberRow → Type 0
    W m = mix_member d m.out_audio ≡ Some m

    P : ReadyOf → Type 0
    P r = IsReady d voices moment streams r × (mix_member d r.member.out_audio ≡ Some r.member)

    whose : AllByRecursion (λ (r : ReadyOf). mix_member d r.member.out_audio ≡ Some r.member) rs
    whose =
        all_of (λ (m : MemberRow). mix_member d m.out_audio ≡ Some m) rs
        (subst (AllByRecursion (λ (m : MemberRow). mix_member d m.out_audio ≡ Some m)) (sym who)
        (all_filtered _ (hears_any d voices) (of_lane lane lanes d.members) (all_filtered _
        (λ (m : MemberRow). is_mine lane lanes m.out_audio) d.members
        (all_listed d (λ (m : MemberRow). mix_member d m.out_audio ≡ Some m) here.apart [] d.members refl))))

    ts : List Turn
    ts = turns ssrc before ++ turn_of ssrc before d moment ∷ []

    hush : AllByRecursion (λ r. nat_eq r.member.out_audio ssrc ≡ false) rs → (o : Option MemberRow)
        → mix_member d ssrc ≡ o → option_and_then (hears before d) (mix_member d ssrc) ≡ None
    hush others None is = ap (option_and_then (hears before d)) is
    hush others (Some m) is = by_ear (tells (hears_any d voices m))
      where
        by_ear : (hears_any d voices m ≡ true) ⊎ (hears_any d voices m ≡ false)
            → option_and_then (hears before d) (mix_member d ssrc) ≡ None
        by_ear (inl loud) =
            absurd (listed_one d voices lane lanes ssrc d.members m is mine loud
            (subst (AllByRecursion (λ (y : MemberRow). nat_eq y.out_audio ssrc ≡ false)) who
            (all_to (λ (y : MemberRow). nat_eq y.out_audio ssrc ≡ false) rs others)))
        by_ear (inr silent) = silent_turn before d voices m ssrc here.voices_are is silent

    by : Kept ssrc rs P (mix_at ssrc passed) → kept_after ssrc rs (mix_at ssrc passed) ≡ stream_of ssrc ts
    by (by_one r px own is) =
        is ∙ sym (subst (λ n. stream_of n (turns n before ++ turn_of n before d moment ∷ []) ≡ Some r.prepared.next) own
        (ready_sounds lane lanes before d moment voices streams passed here r px.0 px.1
        (ap (is_mine lane lanes) own ∙ mine)).stream)
    by (as_it_was others is) =
        is
        ∙ sym (nothing_sounds lane lanes before d moment voices streams passed here ssrc mine
        (hush others (mix_member d ssrc) refl)).stream
