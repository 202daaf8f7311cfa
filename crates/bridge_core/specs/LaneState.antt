-- What a lane keeps (own).
use Rattle.std.specs.Prelude.{◌≡◌, ℕ, ◌+◌, true, nat_eq, List, [], ◌∷◌, ◌++◌, length, Option}
use Rattle.std.specs.Map.{lookup}
use Rattle.desk_rows.specs.Desk.{Desk}
use Rattle.forward_rewrite.specs.Streams.{StreamOf}
use Rattle.media_items.specs.OwnStreams.{is_mine}
use Rattle.mixer.specs.Mixers.{MixerOf, WasGiven}
use Rattle.sender_feedback.specs.Upstream.{Asker}
use Rattle.media_items.specs.Inputs.{Input}
use Rattle.bridge_core.specs.Sent.{Sent}
use Rattle.bridge_core.specs.Lanes.{Visit, routed, stream_of, given_of, sends_at}

-- the streams that have begun, by SSRC
abbrev pub StreamList : Type 0
StreamList = List (ℕ × StreamOf)

-- the lane, how many lanes there are, who the bridge is, how many items it has handled, its video streams, and its
-- mixer
pub record LaneOf : Type 0 where
  pub lane : ℕ
  pub lanes : ℕ
  pub who : Asker
  pub handled : ℕ
  pub video : StreamList
  pub audio : MixerOf

-- the stream with this SSRC, if it has begun
abbrev pub stream_at : ℕ → StreamList → Option StreamOf
stream_at ssrc streams = lookup (nat_eq ssrc) streams

-- The streams are where these items leave them: each of the lane's is there if it sent any of them, and stands as they
-- leave it.
abbrev pub AreLeft : ℕ → ℕ → StreamList → List Visit → Type 0
AreLeft lane lanes streams visits =
    (ssrc : ℕ) → is_mine lane lanes ssrc ≡ true → stream_at ssrc streams ≡ stream_of ssrc (routed ssrc visits)

-- The lane has handled these items.
pub record HasHandled (state : LaneOf) (visits : List Visit) : Type 0 where
  pub handled : state.handled ≡ length visits
  pub video : AreLeft state.lane state.lanes state.video visits
  pub audio : WasGiven state.lane state.lanes state.audio (given_of visits)

-- an input under this version, as this item, with this desk
abbrev pub visit_of : ℕ → ℕ → Desk → Input → Visit
visit_of version item desk input = record { version = version; item = item; desk = desk; input = input }

-- Whatever items the old state has handled, this is what is sent for one more, and the new state has handled it too.
abbrev pub Handles : LaneOf → LaneOf → ℕ → Desk → Input → List Sent → Type 0
Handles old new version desk input sent =
    (before : List Visit) → HasHandled old before →
    let visit = visit_of version (length before + 1) desk input in
    (sent ≡ sends_at old.who old.lane old.lanes before visit) × HasHandled new (before ++ visit ∷ [])
