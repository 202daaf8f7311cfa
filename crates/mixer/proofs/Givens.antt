-- What a mixer was given, once it is given more.
use Rattle.std.proofs.Common.{◌≡◌, ℕ, ◌≤◌, Bool, true, false, cond, List, [], ◌∷◌, ◌++◌, length, map, filter, ap, sym}
use Rattle.std.proofs.Common.{subst, ◌∙◌, arith}
use Rattle.std.proofs.lemmas.List.{map_push, length-map}
use Rattle.desk_rows.specs.declared.row.Member.{Member as MemberRow}
use Rattle.desk_rows.specs.Desk.{Desk}
use Rattle.playout.specs.Playouts.{PlayoutsOf, AudioEvent, Has, HasAlso}
use Rattle.media_items.specs.OwnStreams.{is_mine}
use Rattle.mixer.specs.Hearing.{Given, Voice, to_playouts}
use Rattle.mixer.specs.Mixes.{turns_after, stream_of}
use Rattle.mixer.specs.Mixers.{MixerOf, WasGiven}
use Rattle.mixer.specs.inner.Ready.{ReadyOf, hears_any, of_lane, hearers, members_of}
use Rattle.mixer.proofs.Turns.{turns_between}

-- the playouts have one event more
pub has_more : (old new : PlayoutsOf) (next : Given) (given : List Given) → HasAlso old new (to_playouts next)
    → Has old (map to_playouts given) → Has new (map to_playouts (given ++ next ∷ []))
has_more old new next given also has =
    subst (λ (es : List AudioEvent). Has new es) (sym (map_push to_playouts given next))
    (also (map to_playouts given) has)

-- what is no turn leaves the streams
pub given_between : (old : MixerOf) (new : PlayoutsOf) (next : Given)
    → ((ssrc : ℕ) (before : List Given) → turns_after ssrc before (next ∷ []) ≡ [])
    → HasAlso old.playouts new (to_playouts next)
    → (lane lanes : ℕ) (before : List Given) → WasGiven lane lanes old before
    → WasGiven lane lanes (record { playouts = new; streams = old.streams }) (before ++ next ∷ [])
given_between old new next none also lane lanes before w = record {
  playouts = has_more old.playouts new next before also w.playouts;
  streams = λ ssrc mine.
      w.streams ssrc mine ∙ ap (stream_of ssrc) (sym (turns_between ssrc before next (none ssrc before)));
}

fewer : {X : Type 0} (p : X → Bool) (xs : List X) → length (filter p xs) ≤ length xs
fewer p [] = omega arith
fewer {X} p (x ∷ xs) = by (p x) (fewer p xs)
  where
    by : (b : Bool) → length (filter p xs) ≤ length xs
        → length (cond b (x ∷ filter p xs) (filter p xs)) ≤ length (x ∷ xs)
    by true l = omega (arith, l)
    by false l = omega (arith, l)

-- as many are ready as there are members, at most
pub few_ready : (d : Desk) (voices : List Voice) (lane lanes : ℕ) (rs : List ReadyOf)
    → members_of rs ≡ hearers d voices lane lanes d.members → length rs ≤ length d.members
few_ready d voices lane lanes rs who =
    let all = fewer (hears_any d voices) (of_lane lane lanes d.members) in
    let mine = fewer (λ (m : MemberRow). is_mine lane lanes m.out_audio) d.members in
    omega (arith, sym (length-map rs (λ (r : ReadyOf). r.member)) ∙ ap length who, all, mine)
