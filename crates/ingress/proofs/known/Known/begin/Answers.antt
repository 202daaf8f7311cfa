use Rattle.std.proofs.Common.{◌∙◌, ap, subst, None}
use Rattle.ingress.specs.inner.SourceEntries.{EntryOf, NextOf, CommitsAll}
use Rattle.ingress.specs.inner.Holding.{put_within, put_first}
use Rattle.ingress.proofs.known.Known.begin.Goals as goal

pub returns-clause-becomes : goal.returns-clause-becomes
returns-clause-becomes g c =
    let gate = c.commit_admission-frames.new.gate in
    let k : EntryOf =
    record { rate = c.next.inside.rate; source = c.next.inside.source; epoch = c.next.inside.epoch; gate = gate } in (
      k,
      record {
        rate = ap (λ (n : NextOf). n.rate) c.next.view_is;
        source = ap (λ (n : NextOf). n.source) c.next.view_is;
        epoch = ap (λ (n : NextOf). n.epoch) c.next.view_is;
        gate =
            subst (λ (n : NextOf). CommitsAll None n.admission gate) c.next.view_is
            c.commit_admission-frames.ensures.commits_all;
      },
      ap (λ x. x.entries) c.in_ok-put.ensures.entries
          ∙ ap (λ n. put_within n c.args.key k c.self.inside.cache.entries) c.self.invariant
          ∙ ap (put_first c.args.key k) c.self.view_is,
    )
