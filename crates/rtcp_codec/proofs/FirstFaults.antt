-- Packets that can be written have no fault, and others have one first fault.
use Rattle.std.proofs.Common.{◌≡◌, List, [], ◌∷◌, refl, sym, ◌∙◌, inl, inr}
use Rattle.std.specs.List.{AllByRecursion}
use Rattle.rtcp_codec.specs.declared.fault.WriteFault.{WriteFault}
use Rattle.rtcp_codec.specs.declared.fault.WriteFault.TheVariants as faults
use Rattle.rtcp_codec.specs.Packet.{Packet}
use Rattle.rtcp_codec.specs.WriteFault.{IsWritable, AreWritable, IsFirstFault, HasPacketFault, HasWriteFault}

no_packet_fault : (f : WriteFault) (p : Packet) → IsWritable p → IsFirstFault f p → ⊥
no_packet_fault faults.Count p w h = h w.counted
no_packet_fault faults.TooLong p w h = h.1 w.lengths
no_packet_fault faults.Kind p w h = h.2 w.meaning
no_packet_fault faults.First p w h = h
no_packet_fault faults.OutOfMemory p w h = h

one_packet_fault : (f g : WriteFault) (p : Packet) → IsFirstFault f p → IsFirstFault g p → f ≡ g
one_packet_fault faults.Count faults.Count p h k = refl
one_packet_fault faults.Count faults.TooLong p h k = absurd (h k.0)
one_packet_fault faults.Count faults.Kind p h k = absurd (h k.0)
one_packet_fault faults.TooLong faults.Count p h k = absurd (k h.0)
one_packet_fault faults.TooLong faults.TooLong p h k = refl
one_packet_fault faults.TooLong faults.Kind p h k = absurd (h.1 k.1)
one_packet_fault faults.Kind faults.Count p h k = absurd (k h.0)
one_packet_fault faults.Kind faults.TooLong p h k = absurd (k.1 h.1)
one_packet_fault faults.Kind faults.Kind p h k = refl
one_packet_fault faults.First g p h k = absurd h
one_packet_fault faults.OutOfMemory g p h k = absurd h
one_packet_fault f faults.First p h k = absurd k
one_packet_fault f faults.OutOfMemory p h k = absurd k

no_fault_in : (f : WriteFault) (ps : List Packet) → AllByRecursion IsWritable ps → HasPacketFault f ps → ⊥
no_fault_in f [] w h = h
no_fault_in f (p ∷ ps) w (inl h) = no_packet_fault f p w.0 h
no_fault_in f (p ∷ ps) w (inr h) = no_fault_in f ps w.1 h.1

one_fault_in : (f g : WriteFault) (ps : List Packet) → HasPacketFault f ps → HasPacketFault g ps → f ≡ g
one_fault_in f g [] h k = absurd h
one_fault_in f g (p ∷ ps) (inl h) (inl k) = one_packet_fault f g p h k
one_fault_in f g (p ∷ ps) (inr h) (inr k) = one_fault_in f g ps h.1 k.1
one_fault_in f g (p ∷ ps) (inl h) (inr k) = absurd (no_packet_fault f p k.0 h)
one_fault_in f g (p ∷ ps) (inr h) (inl k) = absurd (no_packet_fault g p h.0 k)

pub writable_has_no_fault : (f : WriteFault) (ps : List Packet) → AreWritable ps → HasWriteFault f ps → ⊥
writable_has_no_fault f ps w (inl h) = h.1 w.report
writable_has_no_fault f ps w (inr h) = no_fault_in f ps w.each h.1

pub one_write_fault : (f g : WriteFault) (ps : List Packet) → HasWriteFault f ps → HasWriteFault g ps → f ≡ g
one_write_fault f g ps (inl h) (inl k) = h.0 ∙ sym k.0
one_write_fault f g ps (inr h) (inr k) = one_fault_in f g ps h.1 k.1
one_write_fault f g ps (inl h) (inr k) = absurd (h.1 k.0)
one_write_fault f g ps (inr h) (inl k) = absurd (k.1 h.0)
