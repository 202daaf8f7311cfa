use Rattle.std.proofs.Common.{◌≡◌, ◌∙◌, ap, sym, subst, List, Some, None}
use Rattle.std.specs.Option.{option_copied_mut}
use Rattle.std.specs.Map.{set_value}
use Rattle.ingress.specs.declared.known.OriginKey.{OriginKey}
use Rattle.ingress.specs.Control.{heard_on}
use Rattle.ingress.specs.Sources.{Origin, retold}
use Rattle.ingress.specs.inner.SourceEntries.{EntryOf}
use Rattle.ingress.specs.inner.Holding.{Holds, same_key, key_of, kept_at}
use Rattle.ingress.proofs.KnownSources.{holds_retold, holds_same}
use Rattle.ingress.proofs.known.Known.hear_report.Goals.{in-Some, in-None}
use Rattle.ingress.proofs.known.Known.hear_report.Goals as goal

pub returns : goal.returns
returns g c = λ known h.
    let o : Origin = record { address = c.args.from.now; ssrc = c.args.ssrc } in
    let heard = heard_on (record { ntp = c.args.ntp; moment = c.args.moment }) in
    let found =
    ap (kept_at (key_of o)) (sym c.self.view_is)
    ∙ ap (λ (k : OriginKey). kept_at k c.self.inside.cache.entries) (sym c.key_of-key.ensures)
    ∙ sym c.peek_mut.ensures.value in
    elim c.match-peek_mut.branch [
      | in-Some w ↦
          let at : kept_at (key_of o) c.args.self.now ≡ Some w.in-Some.kept.now =
          found ∙ ap option_copied_mut w.in-Some.is in
          subst (λ (es : List (OriginKey × EntryOf)). Holds es (retold o heard known))
          (sym (ap (λ i. i.cache.entries) w.self-inside-is
          ∙ ap (λ (k : OriginKey). set_value (same_key k) c.self.inside.cache.entries w.hear.new.self)
          c.key_of-key.ensures
          ∙ ap (λ (es : List (OriginKey × EntryOf)). set_value (same_key (key_of o)) es w.hear.new.self)
          c.self.view_is))
          (holds_retold o heard w.in-Some.kept.now w.hear.new.self c.args.self.now known h at w.hear.ensures)
      | in-None w ↦
          let at : kept_at (key_of o) c.args.self.now ≡ None = found ∙ ap option_copied_mut w.in-None.is in
          subst (λ (es : List (OriginKey × EntryOf)). Holds es (retold o heard known))
          (sym (ap (λ i. i.cache.entries) w.self-inside-is ∙ c.self.view_is))
          (holds_same o heard c.args.self.now known h at)
    ]
