use Rattle.std.proofs.Common.{List, ℕ, Result, subst}
use Rattle.frame_gate.specs.Frame.{SourcePacket}
use Rattle.desk_text.specs.declared.fault.Fault.{Fault}
use Rattle.desk_text.specs.Words.{Gives}
use Rattle.script_text.proofs.PacketLemmas.{some_same}
use Rattle.script_text.proofs.framing.some_packets.Goals as goal

pub returns-in-Some : goal.returns-in-Some
returns-in-Some g c =
    subst (λ (r : Result (List SourcePacket) (ℕ × Fault)). Gives (λ v. v.items) c.packets.result r)
    (some_same c.args.place c.args.words _ c.in-Some.is) c.packets.ensures
