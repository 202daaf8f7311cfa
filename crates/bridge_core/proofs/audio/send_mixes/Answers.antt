use Rattle.std.proofs.Common.{map, ap, ◌∙◌, ◌++◌}
use Rattle.bridge_core.specs.Sent.{sent_of}
use Rattle.bridge_core.specs.inner.Parts.{mix_to}
use Rattle.bridge_core.proofs.audio.send_mixes.Goals as goal

pub returns-clause-ticks : goal.returns-clause-ticks
returns-clause-ticks g c before given =
    let does = c.in_ok-mixes.ensures.ticks before given in (
      c.emit_mixes.ensures
          ∙ ap (λ es. map sent_of es ++ map (mix_to c.args.visit.now.stamp) c.in_ok-mixes.mixes.items)
          c.in_ok-out.ensures.items
          ∙ ap (map (mix_to c.args.visit.now.stamp)) does.0,
      does.1,
    )
