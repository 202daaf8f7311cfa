use Rattle.std.proofs.Common.{subst}
use Rattle.ingress.specs.declared.known.OriginKey.{OriginKey}
use Rattle.ingress.specs.Ingested.{answered_of}
use Rattle.ingress.specs.Sources.{Origin}
use Rattle.ingress.specs.inner.MediaPackets.{origin_in}
use Rattle.ingress.specs.inner.SourceEntries.{ReadiesWait, gate_in}
use Rattle.ingress.specs.inner.Holding.{key_of, kept_at}
use Rattle.ingress.proofs.Results.{from_fact}
use Rattle.ingress.proofs.WaitLemmas.{unready, nothing_waits, wait_moves}
use Rattle.ingress.proofs.AboutLemmas.{about_only}
use Rattle.ingress.proofs.ingress.Ingress.video_wait.Goals as goal

pub returns-in-None-clause-moves : goal.returns-in-None-clause-moves
returns-in-None-clause-moves g c =
    let old = c.args.self.now in
    let origin : Origin = origin_in c.args.origin in
    let ready =
    subst (λ (key : OriginKey). ReadiesWait (gate_in (kept_at key old.entries)) c.in_ok-prepared_wait.field-0)
    c.origin_key.ensures c.in_ok-prepared_wait.ensures in
    nothing_waits old origin c.args.moment (answered_of c.nothing.result) c.nothing.ensures
    (unready (gate_in (kept_at (key_of origin) old.entries))
    (subst (λ r. ReadiesWait (gate_in (kept_at (key_of origin) old.entries)) r) c.in-None.is ready))

pub returns-in-Some-clause-moves : goal.returns-in-Some-clause-moves
returns-in-Some-clause-moves g c =
    let old = c.args.self.now in
    let origin : Origin = origin_in c.args.origin in
    let ready =
    subst (λ (key : OriginKey). ReadiesWait (gate_in (kept_at key old.entries)) c.in_ok-prepared_wait.field-0)
    c.origin_key.ensures c.in_ok-prepared_wait.ensures in
    from_fact c.at_wait.result c.at_wait.ensures.waits
    (λ answer at. wait_moves old c.at_wait.new.self origin c.args.moment c.in-Some.prepared (answered_of answer)
    (subst (λ r. ReadiesWait (gate_in (kept_at (key_of origin) old.entries)) r) c.in-Some.is ready) at)

pub returns-in-None-clause-about : goal.returns-in-None-clause-about
returns-in-None-clause-about g c = about_only c.args.origin.address _ _ c.nothing.ensures
