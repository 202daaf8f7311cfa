-- What is sent again was sent before, to the same member at the same address (own).
use Rattle.std.specs.Prelude.{◌≡◌, ℕ, zero, suc, ◌-◌, nat_eq, List, [], ◌∷◌, length, drop, find}
use Rattle.std.specs.Prelude.{Option, Some, option_map}
use Rattle.std.specs.List.{Contains}
use Rattle.desk_rows.specs.declared.row.Slot.{Slot as SlotRow}
use Rattle.desk_rows.specs.Desk.{Desk}
use Rattle.retransmit.specs.Window.{window_size}
use Rattle.topology.specs.Looking.{member_from}
use Rattle.topology.specs.Receivers.{slots_of}
use Rattle.media_items.specs.Inputs.{Request}
use Rattle.bridge_core.specs.Sent.{Sent, MediaPacket}
use Rattle.bridge_core.specs.Sent.Sent.{media}
use Rattle.bridge_core.specs.Steps.{Step, version_of, desk_of}
use Rattle.bridge_core.specs.Named.{Name, StreamKind}
use Rattle.plain_laws.specs.SentLists.{first_sent}

-- the last of these, so many of them
abbrev pub newest_of : {X : Type 0} → ℕ → List X → List X
newest_of n xs = drop (length xs - n) xs

-- the desk of a version: after so many were published, or the last one
abbrev pub desk_of_version : Desk → List Step → ℕ → Desk
desk_of_version start steps zero = start
desk_of_version start [] (suc n) = start
desk_of_version start (Step.publish next ∷ steps) (suc n) = desk_of_version next steps n
desk_of_version start (Step.item lane input ∷ steps) (suc n) = desk_of_version start steps (suc n)

-- the member whose slot has the stream of this SSRC
abbrev pub member_of_slot : Desk → ℕ → Option ℕ
member_of_slot desk ssrc =
    option_map (λ (s : SlotRow). s.member) (find (λ (s : SlotRow). nat_eq s.out_ssrc ssrc) (slots_of desk))

-- the name of a video stream
abbrev pub video : ℕ → Name
video ssrc = record { kind = StreamKind.video; ssrc = ssrc }

-- What is sent for a NACK is a packet that was sent before, and the same but for the version by which it goes again. It
-- is one of the last 512 of its stream, and its number was asked for. It went to the address that asks, and by the desk
-- of then to the member that is at this address now.
pub record IsSentAgain (start : Desk) (before : List Step) (sent : List (List Sent)) (request : Request)
    (again : Sent) : Type 0 where
  pub packet : MediaPacket
  pub same : again ≡ media (record packet { resent_by = Some (version_of before) })
  pub recent : Contains (newest_of window_size (first_sent (video request.out_ssrc) before sent)) (media packet)
  pub asked : Contains request.numbers packet.number
  pub address : packet.to ≡ request.from
  pub member : ℕ
  pub went : member_of_slot (desk_of_version start before packet.version) request.out_ssrc ≡ Some member
  pub asks : member_from (desk_of start before) request.from ≡ Some member
