use Rattle.std.proofs.Common.{[], ◌∷◌, ◌≡◌, ◌%◌, ◌^◌, Option, IfSome, sym, subst}
use Rattle.forward_rewrite.specs.declared.counts.Counts.{Counts}
use Rattle.worked_media.proofs.stream_laws.begins_with_its_first_timestamp.Goals as goal

pub returns : goal.returns
returns c = λ first_seq first_ts s sent.
    subst (λ (o : Option Counts). IfSome o (λ n. n.ts ≡ first_ts % 2 ^ 32))
    (sym (c.counts.ensures first_seq first_ts (s ∷ []) sent)) (c.time_goes_on.ensures.first first_ts (s ∷ []))
