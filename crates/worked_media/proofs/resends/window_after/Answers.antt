use Rattle.std.proofs.Common.{◌+◌, ◌%◌, ◌^◌, List, [], ◌∷◌, ◌++◌, ap, sym, ◌∙◌, subst}
use Rattle.retransmit.specs.SentPacket.{SentPacket}
use Rattle.retransmit.specs.Window.{window_size, latest, MayFollow}
use Rattle.worked_media.specs.Sent.{packet, packets}
use Rattle.worked_media.proofs.PacketsSent.{packets-more, packets-follow}
use Rattle.worked_media.proofs.resends.window_after.Goals as goal

pub push-requires : goal.push-requires
push-requires c =
    let before = packets c.args.first c.loop-i.i in
    let number = (c.args.first + c.loop-i.i) % 2 ^ 16 in
    let follows : MayFollow (latest window_size before) (packet number) =
    (c.so_far.ensures.may_follow before (packet number)).1 (packets-follow c.args.first c.loop-i.i) in
    subst (MayFollow c.loop-i.window) (sym c.packet.ensures)
    (subst (λ (ps : List SentPacket). MayFollow ps (packet number)) (sym c.loop-i.invariant) follows)

pub loop-i-preserved : goal.loop-i-preserved
loop-i-preserved c =
    let before = packets c.args.first c.loop-i.i in
    let number = (c.args.first + c.loop-i.i) % 2 ^ 16 in
    c.push.ensures
    ∙ ap (λ (p : SentPacket). latest window_size (c.loop-i.window ++ p ∷ [])) c.packet.ensures
    ∙ ap (λ (ps : List SentPacket). latest window_size (ps ++ packet number ∷ [])) c.loop-i.invariant
    ∙ c.so_far.ensures.one_more before (packet number)
    ∙ ap (latest window_size) (sym (packets-more c.args.first c.loop-i.i))
