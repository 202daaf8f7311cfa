-- The turns of a stream, its packets and its state, tick by tick.
use Rattle.std.proofs.Common.{◌≡◌, ℕ, List, [], ◌∷◌, ◌++◌, Option, None, Some, unwrap_or, ap, sym, subst, ◌∙◌, refl}
use Rattle.std.proofs.Common.{append_assoc, append-nil, ◌⊎◌, inl, inr}
use Rattle.std.specs.Option.{option_map}
use Rattle.desk_rows.specs.declared.row.Member.{Member as MemberRow}
use Rattle.desk_rows.specs.Desk.{Desk}
use Rattle.forward_rewrite.specs.Sending.{Numbered}
use Rattle.forward_rewrite.specs.Mixes.{Sound, MixTick, MixOf, mix_list, mix_state, sounding, silent, GivesTick}
use Rattle.mixer.specs.Hearing.{Given, put, tick, renew, member_rate}
use Rattle.topology.specs.Mixes.{mix_member}
use Rattle.mixer.specs.Mixes.{Hears, Turn, turn_of, turns_after, turns, tick_of, ticks_of, packets_of, stream_of}
use Rattle.mixer.specs.inner.Ready.{Passes, current, last_rate}
use Rattle.mixer.proofs.Ticks.{rate_behind, ticks_push, rate_stands}

-- ---- turns

turns_join : (ssrc : ℕ) (before xs : List Given) (y : Given)
    → turns_after ssrc before (xs ++ y ∷ []) ≡ turns_after ssrc before xs ++ turns_after ssrc (before ++ xs) (y ∷ [])
turns_join ssrc before [] y = ap (λ b. turns_after ssrc b (y ∷ [])) (sym (append-nil before))
turns_join ssrc before (put source address rate ts samples ∷ xs) y =
    let x = put source address rate ts samples in
    turns_join ssrc (before ++ x ∷ []) xs y
    ∙ ap (λ b. turns_after ssrc (before ++ x ∷ []) xs ++ turns_after ssrc b (y ∷ [])) (append_assoc before (x ∷ []) xs)
turns_join ssrc before (tick d moment ∷ xs) y =
    let x = tick d moment in
    ap (λ ts. turn_of ssrc before d moment ∷ ts)
    (turns_join ssrc (before ++ x ∷ []) xs y
    ∙ ap (λ b. turns_after ssrc (before ++ x ∷ []) xs ++ turns_after ssrc b (y ∷ [])) (append_assoc before (x ∷ []) xs))
turns_join ssrc before (renew ∷ xs) y =
    turns_join ssrc (before ++ renew ∷ []) xs y
    ∙ ap (λ b. turns_after ssrc (before ++ renew ∷ []) xs ++ turns_after ssrc b (y ∷ []))
    (append_assoc before (renew ∷ []) xs)

-- a tick is one turn more
pub turns_tick : (ssrc : ℕ) (given : List Given) (d : Desk) (moment : ℕ)
    → turns ssrc (given ++ tick d moment ∷ []) ≡ turns ssrc given ++ turn_of ssrc given d moment ∷ []
turns_tick ssrc given d moment = turns_join ssrc [] given (tick d moment)

-- what comes between ticks is none
pub turns_between : (ssrc : ℕ) (given : List Given) (next : Given) → turns_after ssrc given (next ∷ []) ≡ []
    → turns ssrc (given ++ next ∷ []) ≡ turns ssrc given
turns_between ssrc given next none =
    turns_join ssrc [] given next ∙ ap (λ ts. turns ssrc given ++ ts) none ∙ append-nil (turns ssrc given)

-- ---- one turn more

-- a stream that hasn't begun: it is as if no turn had been
pub record Unbegun (ssrc : ℕ) (ts : List Turn) (t : Turn) : Type 0 where
  pub stream : stream_of ssrc ts ≡ None
  pub packets : packets_of ssrc ts ≡ []
  pub then_stream : stream_of ssrc (ts ++ t ∷ []) ≡ stream_of ssrc (t ∷ [])
  pub then_packets : packets_of ssrc (ts ++ t ∷ []) ≡ packets_of ssrc (t ∷ [])

-- a stream that has begun: the turn is one tick more
pub record Begun (ssrc : ℕ) (ts : List Turn) (t : Turn) : Type 0 where
  pub first_seq : ℕ
  pub first_ts : ℕ
  pub ticks : List MixTick
  pub rate : ℕ
  pub stands : last_rate (mix_state ssrc first_seq first_ts ticks) ≡ rate
  pub stream : stream_of ssrc ts ≡ Some (mix_state ssrc first_seq first_ts ticks)
  pub packets : packets_of ssrc ts ≡ mix_list ssrc first_seq first_ts ticks
  pub then_stream : stream_of ssrc (ts ++ t ∷ [])
      ≡ Some (mix_state ssrc first_seq first_ts (ticks ++ tick_of rate t ∷ []))
  pub then_packets : packets_of ssrc (ts ++ t ∷ []) ≡ mix_list ssrc first_seq first_ts (ticks ++ tick_of rate t ∷ [])

began : (ssrc : ℕ) (h : Hears) (own : Option ℕ) (moment : ℕ) (ts : List Turn) (t : Turn)
    → Begun ssrc (record { heard = Some h; rate = own; moment = moment } ∷ ts) t
began ssrc h own moment ts t =
    let x : Turn = record { heard = Some h; rate = own; moment = moment } in
    record {
      first_seq = h.member.first_seq;
      first_ts = h.member.first_ts;
      ticks = ticks_of (x ∷ ts);
      rate = rate_behind 0 (x ∷ ts);
      stands = rate_stands (tick_of 0 x) ts;
      stream = refl;
      packets = refl;
      then_stream = ap (λ l. Some (mix_state ssrc h.member.first_seq h.member.first_ts l)) (ticks_push 0 (x ∷ ts) t);
      then_packets = ap (mix_list ssrc h.member.first_seq h.member.first_ts) (ticks_push 0 (x ∷ ts) t);
    }

went_on : (ssrc : ℕ) (own : Option ℕ) (moment : ℕ) (ts : List Turn) (t : Turn) → Unbegun ssrc ts t ⊎ Begun ssrc ts t
    → Unbegun ssrc (record { heard = None; rate = own; moment = moment } ∷ ts) t
    ⊎ Begun ssrc (record { heard = None; rate = own; moment = moment } ∷ ts) t
went_on ssrc own moment ts t (inl u) =
    inl (record { stream = u.stream; packets = u.packets; then_stream = u.then_stream; then_packets = u.then_packets })
went_on ssrc own moment ts t (inr b) = inr (record {
  first_seq = b.first_seq;
  first_ts = b.first_ts;
  ticks = b.ticks;
  rate = b.rate;
  stands = b.stands;
  stream = b.stream;
  packets = b.packets;
  then_stream = b.then_stream;
  then_packets = b.then_packets;
})

by_sound : (ssrc : ℕ) (own : Option ℕ) (moment : ℕ) (heard : Option Hears) (ts : List Turn) (t : Turn)
    → Unbegun ssrc ts t ⊎ Begun ssrc ts t
    → Unbegun ssrc (record { heard = heard; rate = own; moment = moment } ∷ ts) t
    ⊎ Begun ssrc (record { heard = heard; rate = own; moment = moment } ∷ ts) t
by_sound ssrc own moment (Some h) ts t rest = inr (began ssrc h own moment ts t)
by_sound ssrc own moment None ts t rest = went_on ssrc own moment ts t rest

pub one_turn : (ssrc : ℕ) (ts : List Turn) (t : Turn) → Unbegun ssrc ts t ⊎ Begun ssrc ts t
one_turn ssrc [] t = inl (record { stream = refl; packets = refl; then_stream = refl; then_packets = refl })
one_turn ssrc (x ∷ ts) t = by_sound ssrc x.rate x.moment x.heard ts t (one_turn ssrc ts t)

-- ---- what a turn makes of the stream and its packets

-- a turn that sounds
pub record Sounds (ssrc : ℕ) (ts : List Turn) (t : Turn) (next : MixOf) (packet : Numbered) : Type 0 where
  pub stream : stream_of ssrc (ts ++ t ∷ []) ≡ Some next
  pub packets : packets_of ssrc (ts ++ t ∷ []) ≡ packets_of ssrc ts ++ packet ∷ []

sound_first : (ssrc : ℕ) (ts : List Turn) (m : MemberRow) (sound : Sound) (own_rate : Option ℕ) (moment : ℕ)
    (next : MixOf) (packet : Numbered)
    → m.out_audio ≡ ssrc
    → GivesTick (mix_state m.out_audio m.first_seq m.first_ts []) next (sounding sound moment) (packet ∷ [])
    → next.ssrc ≡ m.out_audio
    → Unbegun ssrc ts (record { heard = Some (record { member = m; sound = sound }); rate = own_rate; moment = moment })
    → Sounds ssrc ts (record { heard = Some (record { member = m; sound = sound }); rate = own_rate; moment = moment })
    next packet
sound_first ssrc ts m sound own_rate moment next packet own gives same u =
    let step = gives m.first_seq m.first_ts [] refl in
    record {
      stream =
          u.then_stream
          ∙ ap (λ s. Some (mix_state s m.first_seq m.first_ts (sounding sound moment ∷ []))) (sym own ∙ sym same)
          ∙ ap Some (sym step.1);
      packets =
          u.then_packets
          ∙ ap (λ s. mix_list s m.first_seq m.first_ts (sounding sound moment ∷ [])) (sym own)
          ∙ step.0
          ∙ ap (λ ps. ps ++ packet ∷ []) (sym u.packets);
    }

sound_next : (ssrc : ℕ) (ts : List Turn) (m : MemberRow) (sound : Sound) (own_rate : Option ℕ) (moment : ℕ)
    (s next : MixOf) (packet : Numbered)
    → s.ssrc ≡ ssrc
    → GivesTick s next (sounding sound moment) (packet ∷ []) → next.ssrc ≡ s.ssrc → Some s ≡ stream_of ssrc ts
    → Begun ssrc ts (record { heard = Some (record { member = m; sound = sound }); rate = own_rate; moment = moment })
    → Sounds ssrc ts (record { heard = Some (record { member = m; sound = sound }); rate = own_rate; moment = moment })
    next packet
sound_next ssrc ts m sound own_rate moment s next packet own gives same is b =
    let here : s ≡ mix_state ssrc b.first_seq b.first_ts b.ticks = ap (λ o. unwrap_or o s) (is ∙ b.stream) in
    let step =
    gives b.first_seq b.first_ts b.ticks (here ∙ ap (λ n. mix_state n b.first_seq b.first_ts b.ticks) (sym own)) in
    let more = b.ticks ++ sounding sound moment ∷ [] in
    record {
      stream =
          b.then_stream
          ∙ ap (λ n. Some (mix_state n b.first_seq b.first_ts more)) (sym own ∙ sym same)
          ∙ ap Some (sym step.1);
      packets =
          b.then_packets
          ∙ ap (λ n. mix_list n b.first_seq b.first_ts more) (sym own)
          ∙ step.0
          ∙ ap (λ n. mix_list n b.first_seq b.first_ts b.ticks ++ packet ∷ []) own
          ∙ ap (λ ps. ps ++ packet ∷ []) (sym b.packets);
    }

-- a turn that sounds, on the stream as it stands
pub sounds : (ssrc : ℕ) (ts : List Turn) (m : MemberRow) (sound : Sound) (own_rate : Option ℕ) (moment : ℕ)
    (next : MixOf) (packet : Numbered)
    → m.out_audio ≡ ssrc
    → GivesTick (current (stream_of ssrc ts) m) next (sounding sound moment) (packet ∷ [])
    → next.ssrc ≡ (current (stream_of ssrc ts) m).ssrc
    → Sounds ssrc ts (record { heard = Some (record { member = m; sound = sound }); rate = own_rate; moment = moment })
    next packet
sounds ssrc ts m sound own_rate moment next packet own gives same = by (one_turn ssrc ts t)
  where
    t : Turn
    t = record { heard = Some (record { member = m; sound = sound }); rate = own_rate; moment = moment }

    by : Unbegun ssrc ts t ⊎ Begun ssrc ts t → Sounds ssrc ts t next packet
    by (inl u) = sound_first ssrc ts m sound own_rate moment next packet own
        (subst (λ o. GivesTick (current o m) next (sounding sound moment) (packet ∷ [])) u.stream gives)
        (subst (λ o. next.ssrc ≡ (current o m).ssrc) u.stream same) u
    by (inr b) =
        sound_next ssrc ts m sound own_rate moment (mix_state ssrc b.first_seq b.first_ts b.ticks) next packet refl
        (subst (λ o. GivesTick (current o m) next (sounding sound moment) (packet ∷ [])) b.stream gives)
        (subst (λ o. next.ssrc ≡ (current o m).ssrc) b.stream same) (sym b.stream) b

-- a turn that doesn't sound
pub record Quiet (ssrc : ℕ) (ts : List Turn) (t : Turn) (kept : Option MixOf) : Type 0 where
  pub stream : stream_of ssrc (ts ++ t ∷ []) ≡ kept
  pub packets : packets_of ssrc (ts ++ t ∷ []) ≡ packets_of ssrc ts

-- a turn of this desk in which nothing is heard
abbrev pub hushed : Desk → ℕ → ℕ → Turn
hushed d ssrc moment = record { heard = None; rate = option_map (member_rate d) (mix_member d ssrc); moment = moment }

quiet_first : (d : Desk) (ssrc moment : ℕ) (ts : List Turn) (kept : Option MixOf) → Passes d moment ssrc None kept
    → Unbegun ssrc ts (hushed d ssrc moment) → Quiet ssrc ts (hushed d ssrc moment) kept
quiet_first d ssrc moment ts None passes u = record { stream = u.then_stream; packets = u.then_packets ∙ sym u.packets }
quiet_first d ssrc moment ts (Some n) passes u = absurd passes

quiet_next : (d : Desk) (ssrc moment : ℕ) (ts : List Turn) (kept : Option MixOf)
    (b : Begun ssrc ts (hushed d ssrc moment))
    → Passes d moment ssrc (Some (mix_state ssrc b.first_seq b.first_ts b.ticks)) kept
    → Quiet ssrc ts (hushed d ssrc moment) kept
quiet_next d ssrc moment ts None b passes = absurd passes
quiet_next d ssrc moment ts (Some n) b passes =
    let own = option_map (member_rate d) (mix_member d ssrc) in
    let step = passes.gives b.first_seq b.first_ts b.ticks refl in
    let same : silent (unwrap_or own b.rate) moment
    ≡ silent (unwrap_or own (last_rate (mix_state ssrc b.first_seq b.first_ts b.ticks))) moment =
    ap (λ r. silent (unwrap_or own r) moment) (sym b.stands) in
    let more =
    b.ticks ++ silent (unwrap_or own (last_rate (mix_state ssrc b.first_seq b.first_ts b.ticks))) moment ∷ [] in
    record {
      stream = b.then_stream ∙ ap (λ x. Some (mix_state ssrc b.first_seq b.first_ts (b.ticks ++ x ∷ []))) same
          ∙ ap (λ k. Some (mix_state k b.first_seq b.first_ts more)) (sym passes.ssrc) ∙ ap Some (sym step.1);
      packets = b.then_packets ∙ ap (λ x. mix_list ssrc b.first_seq b.first_ts (b.ticks ++ x ∷ [])) same
          ∙ step.0 ∙ append-nil (mix_list ssrc b.first_seq b.first_ts b.ticks) ∙ sym b.packets;
    }

pub quiet : (d : Desk) (ssrc moment : ℕ) (ts : List Turn) (kept : Option MixOf)
    → Passes d moment ssrc (stream_of ssrc ts) kept → Quiet ssrc ts (hushed d ssrc moment) kept
quiet d ssrc moment ts kept passes = by (one_turn ssrc ts (hushed d ssrc moment))
  where
    by : Unbegun ssrc ts (hushed d ssrc moment) ⊎ Begun ssrc ts (hushed d ssrc moment)
        → Quiet ssrc ts (hushed d ssrc moment) kept
    by (inl u) = quiet_first d ssrc moment ts kept (subst (λ o. Passes d moment ssrc o kept) u.stream passes) u
    by (inr b) = quiet_next d ssrc moment ts kept b (subst (λ o. Passes d moment ssrc o kept) b.stream passes)
