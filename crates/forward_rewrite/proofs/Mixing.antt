-- One more tick of a mix.
use Rattle.std.proofs.Common.{◌≡◌, ℕ, ◌+◌, ◌%◌, ◌^◌, Bool, true, false, cond, List, [], ◌∷◌, ◌++◌, length, Option, None}
use Rattle.std.proofs.Common.{Some, refl, sym, ap, ◌∙◌, arith, rules, length-append, append-nil, append_assoc}
use Rattle.std.specs.Prelude.{not, is_some, option_map, sum_by}
use Rattle.std.specs.List.{last_or}
use Rattle.rtp_codec.specs.declared.writing.Header.{Header}
use Rattle.rtp_codec.specs.Packet.{written}
use Rattle.std.proofs.lemmas.List.Elements.{filter_map-append}
use Rattle.std.proofs.lemmas.List.Sums.{sum_by-append, sum_by-cons, sum_by_push}
use Rattle.media_items.specs.Formats.{rate_of, pt_of, tick_at}
use Rattle.forward_rewrite.specs.declared.tick_time.TickTime.{TickTime}
use Rattle.forward_rewrite.specs.Sending.{Numbered}
use Rattle.forward_rewrite.specs.Mixes.{Sound, MixTick, MixOf, payload_of, mix_packet, packets_in, mixed, mixed_from}
use Rattle.forward_rewrite.specs.Mixes.{begun, mix_list, units_of, advance, sounds, sounded, time_of, mix_state}
use Rattle.forward_rewrite.specs.Mixes.{HasMixed, GivesTick}
use Rattle.forward_rewrite.specs.inner.MixCounters.{next_ts, time_at, next_packet, after_sound, after_silence}
use Rattle.forward_rewrite.specs.laws.MixLaws.{SendsMore}

abbrev pub tick_of : Option Sound → ℕ → ℕ → MixTick
tick_of sound rate moment = record { sound = sound; rate = rate; moment = moment }

-- whether the last of them sounded
abbrev pub ended : Bool → List MixTick → Bool
ended spoke [] = spoke
ended spoke (x ∷ xs) = ended (is_some x.sound) xs

pub units-cons : (x : MixTick) (xs : List MixTick) → units_of (x ∷ xs) ≡ tick_at x.rate + units_of xs
units-cons x xs = sum_by-cons (λ (t : MixTick). tick_at t.rate) x xs

units_push : (xs : List MixTick) (x : MixTick) → units_of (xs ++ x ∷ []) ≡ units_of xs + tick_at x.rate
units_push xs x = sum_by_push (λ (t : MixTick). tick_at t.rate) xs x

-- the ticks of a list behind what was sent before it
behind : (ssrc number ts : ℕ) (spoke : Bool) (sent : List Numbered) (xs ys : List MixTick)
    → (let n = number + length sent in let rest = mixed ssrc n ts spoke xs in
    mixed ssrc n ts spoke (xs ++ ys) ≡ rest ++ mixed ssrc (n + length rest) (ts + units_of xs) (ended spoke xs) ys
    → sent ++ mixed ssrc n ts spoke (xs ++ ys)
    ≡ (sent ++ rest) ++ mixed ssrc (number + length (sent ++ rest)) (ts + units_of xs) (ended spoke xs) ys)
behind ssrc number ts spoke sent xs ys e =
    let n = number + length sent in
    let rest = mixed ssrc n ts spoke xs in
    let long = length-append sent rest in
    let same : n + length rest ≡ number + length (sent ++ rest) = omega (arith, long) in
    ap (λ ps. sent ++ ps) e
    ∙ sym (append_assoc sent rest (mixed ssrc (n + length rest) (ts + units_of xs) (ended spoke xs) ys))
    ∙ ap (λ k. (sent ++ rest) ++ mixed ssrc k (ts + units_of xs) (ended spoke xs) ys) same

at_zero : (ssrc number ts : ℕ) (spoke : Bool) (ys : List MixTick)
    → mixed ssrc number ts spoke ys ≡ mixed ssrc (number + 0) (ts + 0) spoke ys
at_zero ssrc number ts spoke ys =
    ap (λ n. mixed ssrc n ts spoke ys) (omega arith) ∙ ap (λ t. mixed ssrc (number + 0) t spoke ys) (omega arith)

pub mixed-append : (ssrc number ts : ℕ) (spoke : Bool) (xs ys : List MixTick)
    → mixed ssrc number ts spoke (xs ++ ys)
    ≡ mixed ssrc number ts spoke xs
    ++ mixed ssrc (number + length (mixed ssrc number ts spoke xs)) (ts + units_of xs) (ended spoke xs) ys
mixed-append ssrc number ts spoke [] ys = at_zero ssrc number ts spoke ys
mixed-append ssrc number ts spoke (x ∷ xs) ys =
    let here = ts + tick_at x.rate in
    let sent = packets_in ssrc number here (not spoke) x.sound in
    let all = mixed ssrc number ts spoke (x ∷ xs) in
    let units = units-cons x xs in
    let same : here + units_of xs ≡ ts + units_of (x ∷ xs) = omega (arith, units) in
    behind ssrc number here (is_some x.sound) sent xs ys
    (mixed-append ssrc (number + length sent) here (is_some x.sound) xs ys)
    ∙ ap (λ t. all ++ mixed ssrc (number + length all) t (ended (is_some x.sound) xs) ys) same

pub from-append : (ssrc first_seq first_ts : ℕ) (x : MixTick) (xs ys : List MixTick)
    → (let all = mixed_from ssrc first_seq first_ts (x ∷ xs) in
    mixed_from ssrc first_seq first_ts (x ∷ xs ++ ys)
    ≡ all ++ mixed ssrc (first_seq + length all) (first_ts + units_of xs) (ended (is_some x.sound) xs) ys)
from-append ssrc first_seq first_ts x xs ys =
    let sent = packets_in ssrc first_seq first_ts true x.sound in
    behind ssrc first_seq first_ts (is_some x.sound) sent xs ys
    (mixed-append ssrc (first_seq + length sent) first_ts (is_some x.sound) xs ys)

-- the ticks from the first sound on, after those from the first sound on before
abbrev pub begun_then : List MixTick → List MixTick → List MixTick
begun_then [] ticks = begun ticks
begun_then (b ∷ bs) ticks = b ∷ bs ++ ticks

pub begun-append : (before ticks : List MixTick) → begun (before ++ ticks) ≡ begun_then (begun before) ticks
begun-append [] ticks = refl
begun-append (x ∷ xs) ticks =
    elim (is_some x.sound)
    as (λ b. cond b (x ∷ xs ++ ticks) (begun (xs ++ ticks)) ≡ begun_then (cond b (x ∷ xs) (begun xs)) ticks)
    [ true ↦ refl | false ↦ begun-append xs ticks ]

abbrev begun_more : List MixTick → MixTick → List MixTick
begun_more bs tick = begun_then bs (tick ∷ [])

pub ended-last : (o : Option MixTick) (ticks : List MixTick) → ended (sounded o) ticks ≡ sounded (last_or o ticks)
ended-last o [] = refl
ended-last o (x ∷ xs) = ended-last (Some x) xs

-- what goes out in one more tick, from what came before since the first sound
abbrev one_more : ℕ → ℕ → ℕ → List MixTick → MixTick → List Numbered
one_more ssrc first_seq first_ts bs tick =
    packets_in ssrc (first_seq + length (mixed_from ssrc first_seq first_ts bs))
    (first_ts + advance (begun_more bs tick)) (not (sounded (last_or None bs))) tick.sound

more_from : (ssrc first_seq first_ts : ℕ) (bs : List MixTick) (sound : Option Sound) (rate moment : ℕ)
    → mixed_from ssrc first_seq first_ts (begun_more bs (tick_of sound rate moment))
    ≡ mixed_from ssrc first_seq first_ts bs ++ one_more ssrc first_seq first_ts bs (tick_of sound rate moment)
more_from ssrc first_seq first_ts [] None rate moment = refl
more_from ssrc first_seq first_ts [] (Some sound) rate moment =
    ap (λ n. mix_packet ssrc n first_ts true sound ∷ []) (omega arith)
    ∙ ap (λ t. mix_packet ssrc (first_seq + 0) t true sound ∷ []) (omega arith)
more_from ssrc first_seq first_ts (b ∷ bs) sound rate moment =
    let tick = tick_of sound rate moment in
    let sent = mixed_from ssrc first_seq first_ts (b ∷ bs) in
    let n = first_seq + length sent in
    let t = first_ts + units_of bs + tick_at rate in
    let spoke = ended (is_some b.sound) bs in
    let units = units_push bs tick in
    let same : t ≡ first_ts + units_of (bs ++ tick ∷ []) = omega (arith, units) in
    from-append ssrc first_seq first_ts b bs (tick ∷ [])
    ∙ ap (λ ps. sent ++ ps) (append-nil (packets_in ssrc n t (not spoke) sound)
    ∙ ap (λ u. packets_in ssrc n u (not spoke) sound) same
    ∙ ap (λ s. packets_in ssrc n (first_ts + units_of (bs ++ tick ∷ [])) (not s) sound) (ended-last (Some b) bs))

pub list_more : (ssrc first_seq first_ts : ℕ) (before : List MixTick) (sound : Option Sound) (rate moment : ℕ)
    → SendsMore ssrc first_seq first_ts before (tick_of sound rate moment)
list_more ssrc first_seq first_ts before sound rate moment =
    let tick = tick_of sound rate moment in
    let longer = begun-append before (tick ∷ []) in
    let sent = mix_list ssrc first_seq first_ts before in
    ap (mixed_from ssrc first_seq first_ts) longer
    ∙ more_from ssrc first_seq first_ts (begun before) sound rate moment
    ∙ ap
    (λ xs.
    sent
    ++ packets_in ssrc (first_seq + length sent) (first_ts + advance xs) (not (sounded (last_or None (begun before))))
    sound)
    (sym longer)

last-more : (o : Option MixTick) (ticks : List MixTick) (tick : MixTick) → last_or o (ticks ++ tick ∷ []) ≡ Some tick
last-more o [] tick = refl
last-more o (x ∷ xs) tick = last-more (Some x) xs tick

last-there : (x : MixTick) (xs : List MixTick) → is_some (option_map time_of (last_or (Some x) xs)) ≡ true
last-there x [] = refl
last-there x (y ∷ ys) = last-there y ys

abbrev time_in : List MixTick → Option TickTime
time_in bs = option_map time_of (last_or None bs)

-- the timestamp of one more tick
ts_more : (first_ts : ℕ) (bs : List MixTick) (sound : Option Sound) (rate moment : ℕ)
    → (let ts = (first_ts + advance bs) % 2 ^ 32 in cond (is_some (time_in bs)) ((ts + tick_at rate) % 2 ^ 32) ts)
    ≡ (first_ts + advance (begun_more bs (tick_of sound rate moment))) % 2 ^ 32
ts_more first_ts [] None rate moment = refl
ts_more first_ts [] (Some sound) rate moment = refl
ts_more first_ts (b ∷ bs) sound rate moment =
    let ts = (first_ts + units_of bs) % 2 ^ 32 in
    let units = units_push bs (tick_of sound rate moment) in
    ap (λ there. cond there ((ts + tick_at rate) % 2 ^ 32) ts) (last-there b bs) ∙ omega (arith, units)

-- only the number modulo 2 ^ 16 and the timestamp modulo 2 ^ 32 count
packet_alike : (ssrc number ts : ℕ) (marker : Bool) (sound : Sound)
    → mix_packet ssrc number ts marker sound ≡ mix_packet ssrc (number % 2 ^ 16) (ts % 2 ^ 32) marker sound
packet_alike ssrc number ts marker sound =
    let made : ℕ → ℕ → Numbered = λ n t.
    (let header : Header = record { marker = marker; pt = pt_of sound.format; seq = n; ts = t; ssrc = ssrc } in
    record { number = n; bytes = written header sound.csrcs (payload_of sound) }) in
    let n : number % 2 ^ 16 ≡ number % 2 ^ 16 % 2 ^ 16 = omega arith in
    let t : ts % 2 ^ 32 ≡ ts % 2 ^ 32 % 2 ^ 32 = omega arith in
    ap (λ k. made k (ts % 2 ^ 32)) n ∙ ap (λ k. made (number % 2 ^ 16 % 2 ^ 16) k) t

abbrev sounding_tick : Sound → ℕ → MixTick
sounding_tick sound moment = tick_of (Some sound) (rate_of sound.format) moment

pub sound_list : (ssrc first_seq first_ts : ℕ) (before : List MixTick) (sound : Sound) (moment : ℕ)
    → mix_list ssrc first_seq first_ts (before ++ sounding_tick sound moment ∷ [])
    ≡ mix_list ssrc first_seq first_ts before ++ next_packet (mix_state ssrc first_seq first_ts before) sound ∷ []
sound_list ssrc first_seq first_ts before sound moment =
    let sent = mix_list ssrc first_seq first_ts before in
    let bs = begun before in
    let tick = sounding_tick sound moment in
    let marker = not (sounded (last_or None bs)) in
    let number = first_seq + length sent in
    let ts : next_ts (mix_state ssrc first_seq first_ts before) (rate_of sound.format)
    ≡ (first_ts + advance (begun (before ++ tick ∷ []))) % 2 ^ 32 =
    ts_more first_ts bs (Some sound) (rate_of sound.format) moment
    ∙ ap (λ xs. (first_ts + advance xs) % 2 ^ 32) (sym (begun-append before (tick ∷ []))) in
    list_more ssrc first_seq first_ts before (Some sound) (rate_of sound.format) moment
    ∙ ap (λ p. sent ++ p ∷ []) (packet_alike ssrc number (first_ts + advance (begun (before ++ tick ∷ []))) marker sound
    ∙ ap (λ t. mix_packet ssrc (number % 2 ^ 16) t marker sound) (sym ts))

pub silence_list : (ssrc first_seq first_ts : ℕ) (before : List MixTick) (rate moment : ℕ)
    → mix_list ssrc first_seq first_ts (before ++ tick_of None rate moment ∷ [])
    ≡ mix_list ssrc first_seq first_ts before
silence_list ssrc first_seq first_ts before rate moment =
    list_more ssrc first_seq first_ts before None rate moment ∙ append-nil (mix_list ssrc first_seq first_ts before)

-- with a sound
sound_last : (bs : List MixTick) (sound : Sound) (rate moment : ℕ)
    → last_or None (begun_more bs (tick_of (Some sound) rate moment)) ≡ Some (tick_of (Some sound) rate moment)
sound_last [] sound rate moment = refl
sound_last (b ∷ bs) sound rate moment = last-more (Some b) bs (tick_of (Some sound) rate moment)

-- with silence
silence_spoke : (bs : List MixTick) (rate moment : ℕ)
    → false ≡ sounded (last_or None (begun_more bs (tick_of None rate moment)))
silence_spoke [] rate moment = refl
silence_spoke (b ∷ bs) rate moment = ap sounded (sym (last-more (Some b) bs (tick_of None rate moment)))

silence_time : (bs : List MixTick) (rate moment : ℕ)
    → cond (is_some (time_in bs)) (Some (time_at rate moment)) None ≡ time_in (begun_more bs (tick_of None rate moment))
silence_time [] rate moment = refl
silence_time (b ∷ bs) rate moment =
    ap (λ there. cond there (Some (time_at rate moment)) None) (last-there b bs)
    ∙ ap (option_map time_of) (sym (last-more (Some b) bs (tick_of None rate moment)))

-- a mix stream by its fields
same_fields : (ssrc n n' ts ts' : ℕ) (spoke spoke' : Bool) (packets packets' octets octets' : ℕ)
    (last last' : Option TickTime)
    → n ≡ n' → ts ≡ ts' → spoke ≡ spoke' → packets ≡ packets' → octets ≡ octets' → last ≡ last'
    → (let old : MixOf =
    record { ssrc = ssrc; next = n; ts = ts; spoke = spoke; packets = packets; octets = octets; last = last } in
    let new : MixOf =
    record { ssrc = ssrc; next = n'; ts = ts'; spoke = spoke'; packets = packets'; octets = octets'; last = last' } in
    old ≡ new)
same_fields ssrc n n' ts ts' spoke spoke' packets packets' octets octets' last last' a b c d e f = search rules

abbrev octets_in : List MixTick → ℕ
octets_in ticks = sum_by (λ sound. length (payload_of sound)) (sounds ticks)

octets_more : (before : List MixTick) (tick : MixTick)
    → octets_in (before ++ tick ∷ []) ≡ octets_in before + octets_in (tick ∷ [])
octets_more before tick =
    ap (sum_by (λ sound. length (payload_of sound))) (filter_map-append (λ (t : MixTick). t.sound) before (tick ∷ []))
    ∙ sum_by-append (λ sound. length (payload_of sound)) (sounds before) (sounds (tick ∷ []))

pub sound_state : (ssrc first_seq first_ts : ℕ) (before : List MixTick) (sound : Sound) (moment : ℕ)
    → after_sound (mix_state ssrc first_seq first_ts before) sound moment
    ≡ mix_state ssrc first_seq first_ts (before ++ sounding_tick sound moment ∷ [])
sound_state ssrc first_seq first_ts before sound moment =
    let tick = sounding_tick sound moment in
    let bs = begun before in
    let longer = begun-append before (tick ∷ []) in
    let sent = mix_list ssrc first_seq first_ts before in
    let all = mix_list ssrc first_seq first_ts (before ++ tick ∷ []) in
    let count : length all ≡ length sent + 1 =
    ap length (sound_list ssrc first_seq first_ts before sound moment)
    ∙ length-append sent (next_packet (mix_state ssrc first_seq first_ts before) sound ∷ []) in
    let last : last_or None (begun (before ++ tick ∷ [])) ≡ Some tick =
    ap (last_or None) longer ∙ sound_last bs sound (rate_of sound.format) moment in
    let octets : octets_in (before ++ tick ∷ []) ≡ octets_in before + (0 + length (payload_of sound)) =
    octets_more before tick in
    same_fields ssrc _ _ _ _ _ _ _ _ _ _ _ _
    (omega (arith, count))
    (ts_more first_ts bs (Some sound) (rate_of sound.format) moment
    ∙ ap (λ xs. (first_ts + advance xs) % 2 ^ 32) (sym longer))
    (ap sounded (sym last)) (omega (arith, count)) (omega (arith, octets)) (ap (option_map time_of) (sym last))

pub silence_state : (ssrc first_seq first_ts : ℕ) (before : List MixTick) (rate moment : ℕ)
    → after_silence (mix_state ssrc first_seq first_ts before) rate moment
    ≡ mix_state ssrc first_seq first_ts (before ++ tick_of None rate moment ∷ [])
silence_state ssrc first_seq first_ts before rate moment =
    let tick = tick_of None rate moment in
    let bs = begun before in
    let count = ap length (sym (silence_list ssrc first_seq first_ts before rate moment)) in
    let octets : octets_in (before ++ tick ∷ []) ≡ octets_in before + 0 = octets_more before tick in
    let longer = sym (begun-append before (tick ∷ [])) in
    same_fields ssrc _ _ _ _ _ _ _ _ _ _ _ _
    (ap (λ n. (first_seq + n) % 2 ^ 16) count)
    (ts_more first_ts bs None rate moment ∙ ap (λ xs. (first_ts + advance xs) % 2 ^ 32) longer)
    (silence_spoke bs rate moment ∙ ap (λ xs. sounded (last_or None xs)) longer)
    (ap (λ n. n % 2 ^ 32) count)
    (omega (arith, octets))
    (silence_time bs rate moment ∙ ap time_in longer)

-- the new stream has had one more tick, under its own SSRC
mixed_on : (old new : MixOf) (tick : MixTick) (first_seq first_ts : ℕ) (before : List MixTick) → new.ssrc ≡ old.ssrc
    → new ≡ mix_state old.ssrc first_seq first_ts (before ++ tick ∷ [])
    → HasMixed new first_seq first_ts (before ++ tick ∷ [])
mixed_on old new tick first_seq first_ts before same is =
    is ∙ ap (λ ssrc. mix_state ssrc first_seq first_ts (before ++ tick ∷ [])) (sym same)

pub gives_sound : (old new : MixOf) (sound : Sound) (moment : ℕ) (packet : Numbered) → packet ≡ next_packet old sound
    → new ≡ after_sound old sound moment
    → GivesTick old new (sounding_tick sound moment) (packet ∷ [])
gives_sound old new sound moment packet is next first_seq first_ts before h = (
  sound_list old.ssrc first_seq first_ts before sound moment
      ∙ ap (λ p. mix_list old.ssrc first_seq first_ts before ++ p ∷ [])
      (ap (λ x. next_packet x sound) (sym h) ∙ sym is),
  mixed_on old new (sounding_tick sound moment) first_seq first_ts before
      (ap (λ (x : MixOf). x.ssrc) next)
      (next ∙ ap (λ x. after_sound x sound moment) h ∙ sound_state old.ssrc first_seq first_ts before sound moment),
)

pub gives_silence : (old new : MixOf) (rate moment : ℕ) → new ≡ after_silence old rate moment
    → GivesTick old new (tick_of None rate moment) []
gives_silence old new rate moment next first_seq first_ts before h = (
  silence_list old.ssrc first_seq first_ts before rate moment
      ∙ sym (append-nil (mix_list old.ssrc first_seq first_ts before)),
  mixed_on old new (tick_of None rate moment) first_seq first_ts before
      (ap (λ (x : MixOf). x.ssrc) next)
      (next ∙ ap (λ x. after_silence x rate moment) h ∙ silence_state old.ssrc first_seq first_ts before rate moment),
)
