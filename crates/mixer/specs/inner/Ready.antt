-- What a tick makes ready, and what sending it leaves.
use Rattle.std.specs.Prelude.{◌≡◌, ℕ, Bool, if◌then◌else◌, nat_eq, is_some, zero, suc, List, [], ◌∷◌, map, filter}
use Rattle.std.specs.Prelude.{Option, None, Some, unwrap_or}
use Rattle.std.specs.Option.{option_map}
use Rattle.std.specs.List.{AllByRecursion}
use Rattle.desk_rows.specs.declared.row.Member.{Member as MemberRow}
use Rattle.desk_rows.specs.Desk.{Desk}
use Rattle.topology.specs.Mixes.{mix_member}
use Rattle.forward_rewrite.specs.Mixes.{Sound, MixOf, PreparedMixOf, mix_state, sounding, silent, GivesTick}
use Rattle.media_items.specs.OwnStreams.{is_mine}
use Rattle.mixer.specs.Hearing.{Voice, member_rate, sound_for}
use Rattle.mixer.specs.Mixes.{MixSent}
use Rattle.mixer.specs.Mixers.{mix_at}
use Rattle.mixer.specs.inner.Rooms.{RoomOf, IsRoom}

-- ---- rooms

-- These are rooms of the voices.
abbrev pub AreRooms : Desk → List Voice → List RoomOf → Type 0
AreRooms d voices rooms = AllByRecursion (IsRoom d voices) rooms

-- ---- what is ready

-- a packet that is ready for a member
pub record ReadyOf : Type 0 where
  pub member : MemberRow
  pub prepared : PreparedMixOf

-- the stream of a member's mix, which may be a new one
abbrev pub current : Option MixOf → MemberRow → MixOf
current kept m = unwrap_or kept (mix_state m.out_audio m.first_seq m.first_ts [])

-- What is prepared is what the member hears, in the next tick of this stream.
pub record IsPrepared (d : Desk) (voices : List Voice) (moment : ℕ) (m : MemberRow) (s : MixOf)
    (p : PreparedMixOf) : Type 0 where
  pub sound : Sound
  pub hears : sound_for voices d m ≡ Some sound
  pub gives : GivesTick s p.next (sounding sound moment) (p.packet ∷ [])
  pub ssrc : p.next.ssrc ≡ s.ssrc

-- What is ready is what its member hears, in the next tick of its stream.
pub record IsReady (d : Desk) (voices : List Voice) (moment : ℕ) (streams : List (ℕ × MixOf))
    (r : ReadyOf) : Type 0 where
  pub sound : Sound
  pub hears : sound_for voices d r.member ≡ Some sound
  pub gives : GivesTick (current (mix_at r.member.out_audio streams) r.member) r.prepared.next (sounding sound moment)
      (r.prepared.packet ∷ [])
  pub ssrc : r.prepared.next.ssrc ≡ (current (mix_at r.member.out_audio streams) r.member).ssrc

-- All of this is what its members hear.
abbrev pub AreReady : Desk → List Voice → ℕ → List (ℕ × MixOf) → List ReadyOf → Type 0
AreReady d voices moment streams rs = AllByRecursion (IsReady d voices moment streams) rs

-- the member hears something
abbrev pub hears_any : Desk → List Voice → MemberRow → Bool
hears_any d voices m = is_some (sound_for voices d m)

-- the members whose mixes are on the lane's streams
abbrev pub of_lane : ℕ → ℕ → List MemberRow → List MemberRow
of_lane lane lanes members = filter (λ m. is_mine lane lanes m.out_audio) members

-- those of them that hear something
abbrev pub hearers : Desk → List Voice → ℕ → ℕ → List MemberRow → List MemberRow
hearers d voices lane lanes members = filter (hears_any d voices) (of_lane lane lanes members)

-- the members for whom something is ready
abbrev pub members_of : List ReadyOf → List MemberRow
members_of rs = map (λ r. r.member) rs

-- ---- what becomes of the streams

-- the clock rate of a stream's last tick
abbrev pub last_rate : MixOf → ℕ
last_rate s = unwrap_or (option_map (λ last. last.rate) s.last) 0

-- the clock rate at which a stream passes a tick: that of its member's room, and without a member that of its last tick
abbrev pub pass_rate : Desk → ℕ → MixOf → ℕ
pass_rate d ssrc s = unwrap_or (option_map (member_rate d) (mix_member d ssrc)) (last_rate s)

-- A stream has passed a tick without a packet.
pub record HasPassed (d : Desk) (moment key : ℕ) (old new : MixOf) : Type 0 where
  pub gives : GivesTick old new (silent (pass_rate d key old) moment) []
  pub ssrc : new.ssrc ≡ old.ssrc

-- A stream has passed a tick, if it has begun.
abbrev pub Passes : Desk → ℕ → ℕ → Option MixOf → Option MixOf → Type 0
Passes d moment ssrc None None = Unit {0}
Passes d moment ssrc None (Some new) = ⊥
Passes d moment ssrc (Some old) None = ⊥
Passes d moment ssrc (Some old) (Some new) = HasPassed d moment ssrc old new

-- So many streams have passed a tick, in order, and the others are as they were.
abbrev pub Partly : Desk → ℕ → ℕ → List (ℕ × MixOf) → List (ℕ × MixOf) → Type 0
Partly d moment zero old new = new ≡ old
Partly d moment (suc n) [] new = new ≡ []
Partly d moment (suc n) (o ∷ old) [] = ⊥
Partly d moment (suc n) (o ∷ old) (e ∷ new) = (e.0 ≡ o.0) × HasPassed d moment o.0 o.1 e.1 × Partly d moment n old new

-- a stream after this is sent, if it is its stream
abbrev pub kept_after_one : ℕ → ReadyOf → Option MixOf → Option MixOf
kept_after_one ssrc r kept = if nat_eq r.member.out_audio ssrc then Some r.prepared.next else kept

-- a stream after all of this is sent
abbrev pub kept_after : ℕ → List ReadyOf → Option MixOf → Option MixOf
kept_after ssrc [] kept = kept
kept_after ssrc (r ∷ rs) kept = kept_after ssrc rs (kept_after_one ssrc r kept)

-- what is ready on its way
abbrev pub sent_of : ReadyOf → MixSent
sent_of r = record { to = r.member.address; ssrc = r.member.out_audio; packet = r.prepared.packet }
