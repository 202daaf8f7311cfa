use Rattle.std.proofs.Common.{◌≡◌, ◌∙◌, ap, sym, subst, IfSome, is_some, true, Some, None, ◌∷◌, ◌-◌, take}
use Rattle.std.specs.Option.{option_copied_mut}
use Rattle.ingress.specs.inner.SourceEntries.{base_of, gate_for, kept_by, Becomes}
use Rattle.ingress.specs.inner.Holding.{same_key, kept_at, put_first}
use Rattle.ingress.specs.Sources.{most_known}
use Rattle.ingress.proofs.Entries.{set_promoted}
use Rattle.ingress.proofs.known.Known.put_next.Goals as goal

-- src/known.rt:109:30
pub become_next-requires : goal.become_next-requires
become_next-requires g c =
    let at : kept_at c.args.key c.args.self.now ≡ Some c.in-Some.kept.now =
    ap (kept_at c.args.key) (sym c.self.view_is) ∙ sym c.get_mut.ensures.value ∙ ap option_copied_mut c.in-Some.is in
    record {
      ready =
          subst
          (λ o.
          IfSome c.args.next.admission
          (λ a. is_some (base_of (gate_for (kept_by c.args.next.rate o) c.args.next.begins) a) ≡ true))
          at c.requires.ready;
    }

-- src/known.rt:110:21
pub begin-requires-clause-ready : goal.begin-requires-clause-ready
begin-requires-clause-ready g c =
    let at : kept_at c.args.key c.args.self.now ≡ None =
    ap (kept_at c.args.key) (sym c.self.view_is) ∙ sym c.get_mut.ensures.value ∙ ap option_copied_mut c.in-None.is in
    subst
    (λ o.
    IfSome c.args.next.admission
    (λ a. is_some (base_of (gate_for (kept_by c.args.next.rate o) c.args.next.begins) a) ≡ true))
    at c.requires.ready

-- src/known.rt:98:5
pub returns-in-Some-clause-becomes : goal.returns-in-Some-clause-becomes
returns-in-Some-clause-becomes g c =
    let at : kept_at c.args.key c.args.self.now ≡ Some c.in-Some.kept.now =
    ap (kept_at c.args.key) (sym c.self.view_is) ∙ sym c.get_mut.ensures.value ∙ ap option_copied_mut c.in-Some.is in (
      c.become_next.new.self,
      subst (λ o. Becomes (kept_by c.args.next.rate o) c.args.next c.become_next.new.self) (sym at)
          c.become_next.ensures.becomes,
      set_promoted (same_key c.args.key) c.self.inside.cache.entries c.in-Some.kept.now c.become_next.new.self
          ((c.args.key, c.become_next.new.self) ∷ take (most_known - 1) c.self.inside.cache.entries)
          (sym c.get_mut.ensures.value ∙ ap option_copied_mut c.in-Some.is)
          ∙ ap (put_first c.args.key c.become_next.new.self) c.self.view_is,
    )
