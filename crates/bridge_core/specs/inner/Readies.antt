-- What is made ready for the receivers of a frame, and what sending it leaves.
use Rattle.std.specs.Prelude.{◌≡◌, ℕ, if◌then◌else◌, nat_eq, List, [], ◌∷◌}
use Rattle.std.specs.Prelude.{map, Option, None, Some, unwrap_or}
use Rattle.std.specs.List.{flat_map, AllByRecursion}
use Rattle.desk_rows.specs.declared.row.Slot.{Slot as SlotRow}
use Rattle.topology.specs.declared.receivers.Receiver.{Receiver}
use Rattle.media_items.specs.declared.stamp.Stamp.{Stamp}
use Rattle.media_items.specs.Frame.{SourceFrame}
use Rattle.forward_rewrite.specs.Sending.{sending_of}
use Rattle.forward_rewrite.specs.Streams.{StreamOf, PreparedOf, state_of, committed, SendsNext}
use Rattle.bridge_core.specs.Sent.{Sent}
use Rattle.bridge_core.specs.Lanes.{owner_of, goes}
use Rattle.bridge_core.specs.LaneState.{StreamList, stream_at}

-- what is ready for a receiver, with its stream where that is a new one
pub record ReadyOf : Type 0 where
  pub receiver : Receiver
  pub begun : Option StreamOf
  pub prepared : PreparedOf

-- the SSRC of the receiver's stream
abbrev pub ssrc_of : ReadyOf → ℕ
ssrc_of ready = ready.receiver.slot.out_ssrc

-- a slot's stream that has sent nothing
abbrev pub fresh : SlotRow → StreamOf
fresh slot = state_of slot.out_ssrc slot.first_seq slot.first_ts []

-- the stream of a slot, which may be a new one
abbrev pub current : Option StreamOf → SlotRow → StreamOf
current kept slot = unwrap_or kept (fresh slot)

-- the new stream of a slot, where it has none
abbrev pub new_one : Option StreamOf → SlotRow → Option StreamOf
new_one None slot = Some (fresh slot)
new_one (Some stream) slot = None

-- What is ready goes on from this stream of its receiver, which is a new one where there was none.
abbrev pub Fits : Option StreamOf → ReadyOf → Type 0
Fits kept ready =
    (ready.begun ≡ new_one kept ready.receiver.slot) × (ready.prepared.first ≡ (current kept ready.receiver.slot).next)

-- What is ready is for each receiver such that its stream can go on with it.
abbrev pub AllFit : StreamList → List ReadyOf → Type 0
AllFit streams rs = AllByRecursion (λ r. Fits (stream_at (ssrc_of r) streams) r) rs

-- What is ready is the next frame of the receiver's stream, and goes to it by this version and item.
abbrev pub IsNext : StreamList → Stamp → SourceFrame → ReadyOf → Type 0
IsNext streams stamp f ready =
    let s = current (stream_at (ssrc_of ready) streams) ready.receiver.slot in
    SendsNext s (committed s ready.prepared) (sending_of f stamp (owner_of ready.receiver)) ready.prepared.packets

-- What is ready is for each receiver the next frame of its stream.
abbrev pub AreNext : StreamList → Stamp → SourceFrame → List ReadyOf → Type 0
AreNext streams stamp f rs = AllByRecursion (IsNext streams stamp f) rs

-- the receivers for whom something is ready
abbrev pub receivers_of : List ReadyOf → List Receiver
receivers_of rs = map (λ r. r.receiver) rs

-- a stream after this is committed, if it is its stream
abbrev pub kept_after_one : ℕ → ReadyOf → Option StreamOf → Option StreamOf
kept_after_one ssrc r kept =
    if nat_eq (ssrc_of r) ssrc then Some (committed (current kept r.receiver.slot) r.prepared) else kept

-- a stream after all of this is committed
abbrev pub kept_after : ℕ → List ReadyOf → Option StreamOf → Option StreamOf
kept_after ssrc [] kept = kept
kept_after ssrc (r ∷ rs) kept = kept_after ssrc rs (kept_after_one ssrc r kept)

-- all that is ready, as it goes to its receivers
abbrev pub sent_for : List ReadyOf → List Sent
sent_for rs = flat_map (λ r. map (goes (ssrc_of r) None) r.prepared.packets) rs
