use Rattle.std.proofs.Common.{◌≡◌, ◌∙◌, ap, map, sym, subst, IfOk, List, ℕ}
use Rattle.sender_feedback.specs.Upstream.{seq_of}
use Rattle.ingress.proofs.Voices.{all_seqs, asking_is}
use Rattle.ingress.proofs.ingress.Ingress.asking.Goals as goal

pub returns : goal.returns
returns g c = λ voice is asker.
    let numbers = map seq_of c.args.nacks.now in
    let same =
    asker
    ∙ ap (λ i. i.asker) (sym c.self.view_is)
    ∙ ap (λ (n : List ℕ). record { ssrc = c.self.inside.settings.bridge_ssrc; cname = n }) (sym c.deref.ensures) in
    subst (λ octets. IfOk c.upstream.result (λ v. v.items ≡ octets))
    (sym (asking_is voice _ c.args.source c.args.nacks.now c.args.pli same))
    (c.upstream.ensures.packed (voice.words numbers) (is numbers (all_seqs c.args.nacks.now)))
