use Rattle.std.proofs.Common.{[], ◌∷◌, ◌≡◌, ◌%◌, ◌^◌, Option, IfSome, refl, sym, subst}
use Rattle.forward_rewrite.specs.declared.counts.Counts.{Counts}
use Rattle.forward_rewrite.specs.Timestamps.{last_of, stamped}
use Rattle.forward_rewrite.specs.laws.Laws.{ts_behind}
use Rattle.worked_media.proofs.Behind.{stamped_two, ts-told}
use Rattle.worked_media.proofs.stream_laws.goes_on_to_the_second_frame.Goals as goal

pub returns : goal.returns
returns c = λ first_seq first_ts s next sent.
    let both = s ∷ next ∷ [] in
    let law = c.time_goes_on.ensures in
    let second =
    stamped_two (stamped first_ts both) s next (first_ts % 2 ^ 32) (law.all first_ts both) (law.first first_ts both)
    (law.neighbours first_ts both) in
    subst
    (λ (o : Option Counts). IfSome o (λ n. n.ts ≡ ts_behind (record { sending = s; ts = first_ts % 2 ^ 32 }) next))
    (sym (c.counts.ensures first_seq first_ts both sent))
    (ts-told _ (λ x. refl) (last_of (stamped first_ts both)) _ second)
