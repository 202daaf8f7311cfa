use Rattle.std.proofs.Common.{[], ◌∷◌, drop, ap, sym}
use Rattle.std.proofs.lemmas.Result.{IfOk-weaker}
use Rattle.worked_media.specs.Streamed.{camera, screen}
use Rattle.worked_media.proofs.FrameSent.{went_out}
use Rattle.worked_media.proofs.streaming.the_other_source_goes_on.Goals as goal

pub returns : goal.returns
returns c =
    IfOk-weaker c.send.result _ _
    (λ out h.
    sym (ap (drop 1) (went_out 500 65535 1000 c.in_ok-stream.stream c.send.new.stream (camera ∷ []) screen out.items h
    c.in_ok-stream.ensures)))
    c.send.ensures.sends
