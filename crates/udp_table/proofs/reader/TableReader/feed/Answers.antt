use Rattle.std.proofs.Common.{◌∙◌, sym, ap, get_or}
use Rattle.std.specs.Prelude.{fold}
use Rattle.std.proofs.lemmas.List.{take_all}
use Rattle.std.proofs.lemmas.List.Sums.{fold_more}
use Rattle.udp_table.specs.Kept.{Kept}
use Rattle.udp_table.specs.inner.Steps.{kept_with}
use Rattle.udp_table.proofs.KeptLemmas.{fed, same_inode}
use Rattle.udp_table.proofs.reader.TableReader.feed.Goals as goal

pub loop-octet-preserved : goal.loop-octet-preserved
loop-octet-preserved c =
    c.take.ensures
    ∙ (ap (λ k. kept_with k (get_or c.args.octets.now c.loop-octet.octet-index 0)) c.loop-octet.invariant
    ∙ sym (fold_more kept_with c.args.self.now c.args.octets.now c.loop-octet.octet-index 0 c.loop-octet-test.true))

pub returns-clause-inode : goal.returns-clause-inode
returns-clause-inode c =
    ap (λ (k : Kept). k.inode) (c.loop-octet.invariant
    ∙ ap (fold kept_with c.args.self.now)
    (take_all c.loop-octet.octet-index c.args.octets.now c.loop-octet-test.false))
    ∙ same_inode c.args.octets.now c.args.self.now

pub returns-clause-fed : goal.returns-clause-fed
returns-clause-fed c = λ before read.
    rw (c.loop-octet.invariant
    ∙ ap (fold kept_with c.args.self.now)
    (take_all c.loop-octet.octet-index c.args.octets.now c.loop-octet-test.false))
    (fed before c.args.octets.now c.args.self.now read)
