-- Whether a packet went to who asks for it.
use Rattle.std.specs.Prelude.{Option, None, Some, if◌then◌else◌}
use Rattle.retransmit.specs.declared.owner.Owner.{Owner}
use Rattle.retransmit.specs.SentPacket.{SentPacket}
use Rattle.retransmit.specs.Window.{same_owner}

-- the packet, if there is one and it went to this owner
abbrev pub to_owner : Owner → Option SentPacket → Option SentPacket
to_owner owner None = None
to_owner owner (Some p) = if same_owner p.owner owner then Some p else None
