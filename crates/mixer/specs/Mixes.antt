-- The mixes of all members, tick by tick: each is a stream of its own (RFC 3550 section 7.1: a mixer's own timing and
-- numbers).
use Rattle.std.specs.Prelude.{ℕ, List, [], ◌∷◌, ◌++◌, length, map, filter, drop, Option, None, unwrap_or}
use Rattle.std.specs.Option.{option_map, option_and_then, option_or}
use Rattle.std.specs.List.{flat_map}
use Rattle.rtp_codec.specs.declared.address.Address.{Address}
use Rattle.desk_rows.specs.declared.row.Member.{Member as MemberRow}
use Rattle.desk_rows.specs.Desk.{Desk}
use Rattle.topology.specs.Mixes.{mix_member}
use Rattle.forward_rewrite.specs.declared.counts.Counts.{Counts}
use Rattle.forward_rewrite.specs.Sending.{Numbered}
use Rattle.media_items.specs.Formats.{rate_of as format_rate}
use Rattle.forward_rewrite.specs.Mixes.{Sound, MixTick, MixOf, mix_list, mix_state, mix_counts}
use Rattle.media_items.specs.OwnStreams.{is_mine}
use Rattle.mixer.specs.Hearing.{Given, put, tick, renew, member_rate, voices_of, sound_for}

-- ---- one stream

-- what a member hears in a tick
pub record Hears : Type 0 where
  pub member : MemberRow
  pub sound : Sound

-- a tick of a mix stream: what its member hears, if there is one and it hears anything, the clock rate of the member's
-- room, if there is one, and the moment
pub record Turn : Type 0 where
  pub heard : Option Hears
  pub rate : Option ℕ
  pub moment : ℕ

-- what a member hears after all this, if anything
abbrev pub hears : List Given → Desk → MemberRow → Option Hears
hears before d m = option_map (λ sound. record { member = m; sound = sound }) (sound_for (voices_of before d) d m)

-- the tick of a stream that comes after all this: what the member hears whose mix it is by the desk
abbrev pub turn_of : ℕ → List Given → Desk → ℕ → Turn
turn_of ssrc before d moment = record {
  heard = option_and_then (hears before d) (mix_member d ssrc);
  rate = option_map (member_rate d) (mix_member d ssrc);
  moment = moment;
}

-- all ticks of a stream, those before this first
abbrev pub turns_after : ℕ → List Given → List Given → List Turn
turns_after ssrc before [] = []
turns_after ssrc before (put source address rate ts samples ∷ given) =
    turns_after ssrc (before ++ put source address rate ts samples ∷ []) given
turns_after ssrc before (tick d moment ∷ given) =
    turn_of ssrc before d moment ∷ turns_after ssrc (before ++ tick d moment ∷ []) given
turns_after ssrc before (renew ∷ given) = turns_after ssrc (before ++ renew ∷ []) given

-- all ticks of a stream
abbrev pub turns : ℕ → List Given → List Turn
turns ssrc given = turns_after ssrc [] given

-- a tick without whose mix it is, behind a tick at this clock rate: it has the rate of its sound. A silent one has the
-- rate of the member's room, and without a member the rate of the tick before.
abbrev pub tick_of : ℕ → Turn → MixTick
tick_of before t = record {
  sound = option_map (λ h. h.sound) t.heard;
  rate = unwrap_or (option_map (λ h. format_rate h.sound.format) t.heard) (unwrap_or t.rate before);
  moment = t.moment;
}

-- ticks behind a tick at this clock rate
abbrev pub ticks_behind : ℕ → List Turn → List MixTick
ticks_behind before [] = []
ticks_behind before (t ∷ ts) = tick_of before t ∷ ticks_behind (tick_of before t).rate ts

-- the ticks of a stream from its first sound on: no rate before it matters
abbrev pub ticks_of : List Turn → List MixTick
ticks_of ts = ticks_behind 0 ts

-- the packets of these ticks: the stream begins with the first sound, and takes its first number and timestamp from the
-- member's row of then
abbrev pub packets_of : ℕ → List Turn → List Numbered
packets_of ssrc [] = []
packets_of ssrc (t ∷ ts) =
    unwrap_or (option_map (λ h. mix_list ssrc h.member.first_seq h.member.first_ts (ticks_of (t ∷ ts))) t.heard)
    (packets_of ssrc ts)

-- the stream after these ticks, if it has begun
abbrev pub stream_of : ℕ → List Turn → Option MixOf
stream_of ssrc [] = None
stream_of ssrc (t ∷ ts) =
    option_or (option_map (λ h. mix_state ssrc h.member.first_seq h.member.first_ts (ticks_of (t ∷ ts))) t.heard)
    (stream_of ssrc ts)

-- what a sender report tells of the stream after these ticks, once it has begun
abbrev pub counts_of : ℕ → List Turn → Option Counts
counts_of ssrc [] = None
counts_of ssrc (t ∷ ts) =
    unwrap_or (option_map (λ h. mix_counts ssrc h.member.first_seq h.member.first_ts (ticks_of (t ∷ ts))) t.heard)
    (counts_of ssrc ts)

-- all packets of a stream
abbrev pub mixes : ℕ → List Given → List Numbered
mixes ssrc given = packets_of ssrc (turns ssrc given)

-- ---- what a tick sends

-- the packets that a tick adds to a stream
abbrev pub mixes_at : ℕ → List Given → Desk → ℕ → List Numbered
mixes_at ssrc before d moment = drop (length (mixes ssrc before)) (mixes ssrc (before ++ tick d moment ∷ []))

-- a packet of a mix on its way
pub record MixSent : Type 0 where
  pub to : Address
  pub ssrc : ℕ
  pub packet : Numbered

-- a packet of its mix on its way to a member
abbrev pub to_member : MemberRow → Numbered → MixSent
to_member m p = record { to = m.address; ssrc = m.out_audio; packet = p }

-- what a tick sends: to each member, by place, what it adds to its mix
abbrev pub sent_by : List Given → Desk → ℕ → List MixSent
sent_by before d moment = flat_map (λ m. map (to_member m) (mixes_at m.out_audio before d moment)) d.members

-- the packets on the lane's own streams
abbrev pub lanes_own : ℕ → ℕ → List MixSent → List MixSent
lanes_own lane lanes sent = filter (λ p. is_mine lane lanes p.ssrc) sent
