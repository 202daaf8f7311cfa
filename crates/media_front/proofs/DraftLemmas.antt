-- Drafts of an address, step by step.
use Rattle.std.proofs.Common.{◌≡◌, List, ◌∷◌, map, sym, ap, subst, ◌∙◌}
use Rattle.std.specs.List.{AllByRecursion}
use Rattle.rate_limiter.specs.declared.bucket.Bucket.{Bucket}
use Rattle.rate_limiter.specs.Drafts.{DraftOf}

-- what was done with a draft, and then more, is of the same address and the same buckets before
pub still : (first here next : DraftOf) (buckets : List Bucket) → here ≡ record first { after = here.after }
    → next ≡ record here { after = buckets } → next ≡ record first { after = next.after }
still first here next buckets same more =
    more
    ∙ ap (λ (d : DraftOf). record d { after = buckets }) same
    ∙ ap (λ (a : List Bucket). record first { after = a }) (sym (ap (λ (d : DraftOf). d.after) more))

-- what holds of all that is left holds of the next one and of the rest
pub next_one : {X Y : Type 0} (P : Y → Type 0) (f : X → Y) (left rest : List X) (x : X) → left ≡ x ∷ rest
    → AllByRecursion P (map f left) → P (f x) × AllByRecursion P (map f rest)
next_one {X} P f left rest x is all = subst (λ (l : List X). AllByRecursion P (map f l)) is all
