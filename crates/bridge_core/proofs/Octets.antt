-- How many octets of payload are in what was sent.
use Rattle.std.proofs.Common.{◌≡◌, ℕ, ℤ, zero, suc, ◌+◌, ◌-◌, ◌*◌, ◌%◌, ◌^◌, ◌≤◌, Bool, true, false, cond, List, []}
use Rattle.std.proofs.Common.{◌∷◌, ◌++◌, length, map, take, Option, Some, None, refl, sym, ap, ◌∙◌, arith}
use Rattle.std.specs.Prelude.{not, option_map, is_some, sum_by, ⊤}
use Rattle.std.specs.Option.{option_and_then}
use Rattle.std.specs.List.{AllByRecursion}
use Rattle.std.proofs.lemmas.List.{length-append}
use Rattle.std.proofs.lemmas.List.Concat.{flat_map-cons}
use Rattle.std.proofs.lemmas.List.Sums.{sum_by-cons}
use Rattle.std.specs.Int.{w32, to_be_bytes}
use Rattle.rtp_codec.specs.declared.writing.Header.{Header}
use Rattle.rtp_codec.specs.Packet.{written, number_octets, most_csrcs}
use Rattle.desk_rows.specs.declared.row.Member.{Member as MemberRow}
use Rattle.desk_rows.specs.Desk.{Desk}
use Rattle.topology.specs.Mixes.{mix_member}
use Rattle.forward_rewrite.specs.Sending.{Numbered, out_of}
use Rattle.forward_rewrite.specs.RoutedList.{Part, header_of, sent_packet, numbered}
use Rattle.forward_rewrite.specs.Streams.{payload_octets}
use Rattle.media_items.specs.declared.format.Format.{Format}
use Rattle.media_items.specs.Formats.{pt_of, tick_at}
use Rattle.forward_rewrite.specs.Mixes.{Sound, MixTick, format_of, payload_of, mix_packet, packets_in, mixed}
use Rattle.forward_rewrite.specs.Mixes.{mixed_from, begun, mix_list, sounds}
use Rattle.mixer.specs.Hearing.{Given, put, tick, renew, member_rate, voices_of, sound_by, sound_for, contributors}
use Rattle.mixer.specs.Mixes.{Hears, Turn, hears, turn_of, turns_after, turns, tick_of, ticks_behind}
use Rattle.bridge_core.specs.Lanes.{goes}
use Rattle.bridge_core.specs.Headline.{numbered_of}
use Rattle.bridge_core.specs.Telling.{payload_size}

number_octets-length : (numbers : List ℕ) → length (number_octets numbers) ≡ 4 * length numbers
number_octets-length [] = refl
number_octets-length (n ∷ ns) =
    ap length (flat_map-cons (λ n. to_be_bytes w32 n) n ns) ∙ omega (arith, number_octets-length ns)

-- what is written has this payload
written_size : (h : Header) (csrcs payload : List ℕ) → length csrcs ≤ most_csrcs
    → payload_size (written h csrcs payload) ≡ length payload
written_size h csrcs payload few =
    let n = length csrcs in
    let count : (128 + n) % 16 ≡ n = omega (arith, few) in
    let len : length (written h csrcs payload) ≡ 12 + (4 * n + length payload) =
    omega (arith, length-append (number_octets csrcs) payload, number_octets-length csrcs) in
    ap (λ k. length (written h csrcs payload) - (12 + 4 * k)) count ∙ omega (arith, len)

-- how many octets of payload are in a packet
abbrev pub size_of : Numbered → ℕ
size_of p = payload_size p.bytes

-- how many are in packets
abbrev pub sizes : List Numbered → ℕ
sizes ps = sum_by size_of ps

-- ---- video

pub video_octets : (k n : ℕ) (ps : List Part)
    → sizes (map numbered_of (map (goes k None) (numbered k n ps))) ≡ payload_octets ps
video_octets k n [] = refl
video_octets k n (p ∷ ps) =
    sum_by-cons size_of (out_of (sent_packet k (n % 2 ^ 16) p))
    (map numbered_of (map (goes k None) (numbered k (n + 1) ps)))
    ∙ ap (λ m. m + sizes (map numbered_of (map (goes k None) (numbered k (n + 1) ps))))
    (written_size (header_of k (n % 2 ^ 16) p.ts p.packet) (p.sending.frame.source ∷ []) p.packet.payload (omega arith))
    ∙ ap (λ m. length p.packet.payload + m) (video_octets k (n + 1) ps)
    ∙ sym (sum_by-cons (λ part. length part.packet.payload) p ps)

-- ---- mixes

-- a sound, if it is one, has few contributing sources
abbrev pub HasFew : Option Sound → Type 0
HasFew None = ⊤
HasFew (Some sound) = length sound.csrcs ≤ most_csrcs

-- so has each of these ticks
abbrev pub HaveFew : List MixTick → Type 0
HaveFew ticks = AllByRecursion (λ (t : MixTick). HasFew t.sound) ticks

abbrev heard_octets : List MixTick → ℕ
heard_octets ticks = sum_by (λ sound. length (payload_of sound)) (sounds ticks)

-- what a tick adds, and what goes on from there
step_octets : (k n ts : ℕ) (marker : Bool) (t : MixTick) (ticks : List MixTick) → HasFew t.sound
    → ((m : ℕ) (b : Bool) → sizes (mixed k m ts b ticks) ≡ heard_octets ticks)
    → sizes (packets_in k n ts marker t.sound
    ++ mixed k (n + length (packets_in k n ts marker t.sound)) ts (is_some t.sound) ticks)
    ≡ heard_octets (t ∷ ticks)
step_octets k n ts marker t ticks few more = by t.sound few
  where
    by : (o : Option Sound) → HasFew o
        → sizes (packets_in k n ts marker o ++ mixed k (n + length (packets_in k n ts marker o)) ts (is_some o) ticks)
        ≡ heard_octets (record { sound = o; rate = t.rate; moment = t.moment } ∷ ticks)
    by None h = more (n + 0) false
    by (Some sound) h =
        let header : Header =
        record { marker = marker; pt = pt_of sound.format; seq = n % 2 ^ 16; ts = ts % 2 ^ 32; ssrc = k } in
        let rest = mixed k (n + 1) ts true ticks in
        sum_by-cons size_of (mix_packet k n ts marker sound) rest
        ∙ ap (λ m. m + sizes rest) (written_size header sound.csrcs (payload_of sound) h)
        ∙ ap (λ m. length (payload_of sound) + m) (more (n + 1) true)
        ∙ sym (sum_by-cons (λ sound. length (payload_of sound)) sound (sounds ticks))

mixed_octets : (k n ts : ℕ) (spoke : Bool) (ticks : List MixTick) → HaveFew ticks
    → sizes (mixed k n ts spoke ticks) ≡ heard_octets ticks
mixed_octets k n ts spoke [] few = refl
mixed_octets k n ts spoke (t ∷ ticks) few =
    step_octets k n (ts + tick_at t.rate) (not spoke) t ticks few.0
    (λ m b. mixed_octets k m (ts + tick_at t.rate) b ticks few.1)

pub mix_octets : (k first_seq first_ts : ℕ) (ticks : List MixTick) → HaveFew ticks
    → sizes (mix_list k first_seq first_ts ticks) ≡ heard_octets ticks
mix_octets k first_seq first_ts [] few = refl
mix_octets k first_seq first_ts (t ∷ ticks) few = by (mix_octets k first_seq first_ts ticks few.1) t.sound refl
  where
    by : sizes (mix_list k first_seq first_ts ticks) ≡ heard_octets ticks → (o : Option Sound) → t.sound ≡ o
        → sizes (mix_list k first_seq first_ts (t ∷ ticks)) ≡ heard_octets (t ∷ ticks)
    by more None e =
        ap (λ b. sizes (mixed_from k first_seq first_ts (cond b (t ∷ ticks) (begun ticks)))) (ap is_some e)
        ∙ more
        ∙ sym
        (ap (λ (o : Option Sound). heard_octets (record { sound = o; rate = t.rate; moment = t.moment } ∷ ticks)) e)
    by more (Some sound) e =
        ap (λ b. sizes (mixed_from k first_seq first_ts (cond b (t ∷ ticks) (begun ticks)))) (ap is_some e)
        ∙ step_octets k first_seq first_ts true t ticks few.0 (λ m b. mixed_octets k m first_ts b ticks few.1)

-- ---- what is heard names few

take_few : (n : ℕ) (xs : List ℕ) → length (take n xs) ≤ n
take_few zero xs = omega arith
take_few (suc n) [] = omega arith
take_few (suc n) (x ∷ xs) = let rest = take_few n xs in omega (arith, rest)

few_by : (format : Format) (named : List ℕ) (samples : List ℤ) → HasFew (sound_by format named samples)
few_by format [] samples = tt
few_by format (s ∷ ss) samples = take_few most_csrcs (s ∷ ss)

few_heard : (o : Option Sound) (m : MemberRow) → HasFew o
    → HasFew (option_map (λ (h : Hears). h.sound) (option_map (λ sound. record { member = m; sound = sound }) o))
few_heard None m h = tt
few_heard (Some sound) m h = h

-- what is heard in a tick names few
abbrev HearsFew : Turn → Type 0
HearsFew t = HasFew (option_map (λ h. h.sound) t.heard)

-- so does what is heard in each of these ticks
abbrev pub HearFew : List Turn → Type 0
HearFew ts = AllByRecursion HearsFew ts

few_at : (k : ℕ) (before : List Given) (d : Desk) (moment : ℕ) → HearsFew (turn_of k before d moment)
few_at k before d moment = by (mix_member d k)
  where
    by : (o : Option MemberRow) → HasFew (option_map (λ (h : Hears). h.sound) (option_and_then (hears before d) o))
    by None = tt
    by (Some m) =
        few_heard (sound_for (voices_of before d) d m) m
        (few_by (format_of m.codec (member_rate d m)) (contributors (voices_of before d) d m) _)

few_after : (k : ℕ) (before given : List Given) → HearFew (turns_after k before given)
few_after k before [] = tt
few_after k before (put source address rate ts samples ∷ given) =
    few_after k (before ++ put source address rate ts samples ∷ []) given
few_after k before (renew ∷ given) = few_after k (before ++ renew ∷ []) given
few_after k before (tick d moment ∷ given) =
    (few_at k before d moment, few_after k (before ++ tick d moment ∷ []) given)

pub few_turns : (k : ℕ) (given : List Given) → HearFew (turns k given)
few_turns k given = few_after k [] given

pub few_ticks : (rate : ℕ) (ts : List Turn) → HearFew ts → HaveFew (ticks_behind rate ts)
few_ticks rate [] few = tt
few_ticks rate (t ∷ ts) few = (few.0, few_ticks (tick_of rate t).rate ts few.1)
