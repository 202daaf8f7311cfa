use Rattle.std.proofs.Common.{◌∙◌, ap, sym, List}
use Rattle.rtp_codec.specs.declared.address.Address.{Address}
use Rattle.rate_limiter.specs.declared.bucket.Bucket.{Bucket}
use Rattle.rate_limiter.specs.Buckets.{used}
use Rattle.rate_limiter.specs.Drafts.{DraftOf}
use Rattle.rate_limiter.proofs.KeyedLemmas.{drafted_again}
use Rattle.rate_limiter.proofs.draft.Draft.keep.Goals as goal

abbrev drafted_as : Address → List Bucket → List Bucket → DraftOf
drafted_as address before after = record { address = address; before = before; after = after }

pub returns : goal.returns
returns g c =
    let d = c.self.inside in
    let address = c.requires ∙ sym (ap (λ (x : DraftOf). x.address) c.self.view_is) in
    ap (drafted_as d.address d.before.value)
    (sym (drafted_again c.args.bucket d.address d.used d.before.value address c.self.invariant.1))
    ∙ ap (λ (x : DraftOf). record x { after = used c.args.bucket x.after }) c.self.view_is
