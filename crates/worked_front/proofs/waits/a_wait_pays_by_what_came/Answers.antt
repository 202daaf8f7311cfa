use Rattle.std.proofs.Common.{◌≡◌, ◌∙◌, ℕ, List, [], ◌∷◌, Result, Ok, Err, OnOk, refl, ap, subst}
use Rattle.rtp_codec.specs.declared.address.Address.{Address}
use Rattle.ingress.specs.declared.outcome.Outcome.{Outcome}
use Rattle.rate_limiter.specs.declared.bucket.Bucket.{Bucket}
use Rattle.media_front.specs.Paid.{refilled_by, paid_of}
use Rattle.media_front.specs.Tries.{WereTried}
use Rattle.worked_front.proofs.waits.a_wait_pays_by_what_came.Goals as goal

-- without buckets nothing is paid
none_paid : (ds : List (Address × List ℕ)) → paid_of ds [] ≡ []
none_paid [] = refl
none_paid (d ∷ ds) = none_paid ds

on_ok : {A B C D : Type 0} (r : Result A B) → (C → D) → OnOk r C → OnOk r D
on_ok (Ok a) f c = f c
on_ok (Err b) f c = tt {0}

pub returns : goal.returns
returns g c =
    let limiter : List Bucket = c.args.media.now.limiter in
    on_ok c.wait.result (λ w.
    subst (λ (ds : List (Address × List ℕ)).
    WereTried ds (g.W.Wire.attempts c.args.wire.now) (g.W.Wire.attempts c.wait.new.wire))
    (ap (paid_of w.ingested.up) (ap (λ (o : Outcome). refilled_by o c.args.member.now 0 limiter) w.became ∙ c.requires)
    ∙ none_paid w.ingested.up)
    w.handled.up)
    c.wait.ensures.waited
