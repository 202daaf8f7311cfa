use Rattle.std.proofs.Common.{ℕ, List, refl}
use Rattle.std.proofs.lemmas.Result.{IfOk-weaker}
use Rattle.rtp_codec.specs.declared.address.Address.{Address}
use Rattle.desk_rows.specs.Desk.{Desk}
use Rattle.topology.specs.declared.receivers.Receiver.{Receiver}
use Rattle.topology.specs.Receivers.{by_index, receivers}
use Rattle.worked_desk.proofs.Computed.{answers}
use Rattle.worked_desk.specs.ShownRooms.{shown_rooms, who_gets}
use Rattle.worked_desk.proofs.showing.receivers_of.Goals as goal

abbrev asked : Desk → ℕ × Address → List Receiver
asked d q = receivers d q.0 q.1

pub returns : goal.returns
unfolding receivers by_index
returns c =
    IfOk-weaker c.receivers_of.result _ _ (λ v is. answers asked shown_rooms who_gets refl c.requires is)
    c.receivers_of.ensures.receivers
