use Rattle.std.proofs.Common.{[], ◌∷◌}
use Rattle.worked_media.specs.Streamed.{camera, screen}
use Rattle.worked_media.proofs.FrameSent.{sent_too}
use Rattle.worked_media.proofs.streaming.switched.Goals as goal

pub returns : goal.returns
returns c =
    sent_too 500 65535 1000 c.in_ok-stream.stream c.send.new.stream (camera ∷ []) screen c.in_ok-send.field-0.items
    c.in_ok-send.ensures.sends c.send.ensures.ssrc c.in_ok-stream.ensures
