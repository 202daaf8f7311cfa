use Rattle.std.proofs.Common.{◌≡◌, ◌-◌, ◌++◌, ◌∷◌, [], refl, ap, sym, ◌∙◌, subst, ℕ, List, length}
use Rattle.circular_buffer.specs.Buffer.{Buffer, buffer, keep_last}
use Rattle.retransmit.specs.SentPacket.{SentPacket}
use Rattle.retransmit.specs.Window.{window_size, MayFollow}
use Rattle.retransmit.specs.inner.IsSound.{IsSound}
use Rattle.retransmit.proofs.InARow.{in_a_row-append, in_a_row-drop, length-latest}
use Rattle.retransmit.proofs.window.Window.push.Goals as goal

-- the last ones of a sound window and a packet that may follow are a sound window
sound : (window : List SentPacket) (capacity : ℕ) (p : SentPacket) (b : Buffer SentPacket) → IsSound window capacity
    → MayFollow window p → b ≡ buffer (keep_last capacity (window ++ p ∷ [])) capacity → IsSound b.items b.capacity
sound window capacity p b is follows e =
    let all = window ++ p ∷ [] in
    let same : b ≡ buffer (keep_last window_size all) window_size =
    e ∙ ap (λ n. buffer (keep_last n all) n) is.capacity_is in
    let row = in_a_row-append window p is.in_a_row follows in
    subst (λ (b : Buffer SentPacket). IsSound b.items b.capacity) (sym same) (record {
      capacity_is = refl;
      few = length-latest all;
      in_a_row = in_a_row-drop (length all - window_size) all row;
    })

pub invariant_of-self : goal.invariant_of-self
invariant_of-self g c =
    sound c.self.inside.ring.items c.self.inside.ring.capacity c.args.entry c.push_back.new.self c.self.invariant
    (subst (λ (ps : List SentPacket). MayFollow ps c.args.entry) (sym c.self.view_is) c.requires)
    c.push_back.ensures.items
