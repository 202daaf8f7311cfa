use Rattle.std.proofs.Common.{ℕ, List, ◌∙◌, refl, ap, subst}
use Rattle.sender_feedback.specs.Upstream.{Asker}
use Rattle.script_text.specs.Bridge.{begun_bridge}
use Rattle.script_text.specs.inner.Steps.{Stands}
use Rattle.script_text.proofs.script.Script.new.Goals as goal

pub returns-clause-opening : goal.returns-clause-opening
returns-clause-opening g c = (
  λ decoding.
      subst (λ (cname : List ℕ). Stands c.in_ok-core.core (begun_bridge decoding (record { ssrc = 1; cname = cname })))
      c.in_ok-copy_from_slice.ensures (c.in_ok-core.ensures.stands decoding),
  refl,
  c.new.ensures.items,
)
