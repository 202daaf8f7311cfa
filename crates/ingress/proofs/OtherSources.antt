-- What a wait leaves as it was.
use Rattle.std.proofs.Common.{◌≡◌, ℕ, false, if◌then◌else◌, Option, None, Some, map, refl, ap, ◌∙◌}
use Rattle.std.specs.Option.{option_map}
use Rattle.desk_rows.specs.declared.row.Media.{Media}
use Rattle.desk_rows.specs.declared.row.Media.TheVariants.{Audio, Video}
use Rattle.desk_rows.specs.declared.row.Source.{Source}
use Rattle.ingress.specs.Sources.{Origin, Sources, same_origin, story_at}
use Rattle.ingress.specs.Taking.{Voice}
use Rattle.ingress.specs.Waiting.{waited_on, waited_by, waited_row}
use Rattle.ingress.proofs.Renewals.{retold_at, origins_retold}

order_by : (voice : Voice) (media : Media) (o : Origin) (moment : ℕ) (s : Sources)
    → map (λ k. k.origin) (waited_by voice media o moment s).1.known ≡ map (λ k. k.origin) s.known
order_by voice Audio o moment s = refl
order_by voice Video o moment s = origins_retold o waited_on s.known

pub order_row : (voice : Voice) (row : Option Source) (o : Origin) (moment : ℕ) (s : Sources)
    → map (λ k. k.origin) (waited_row voice row o moment s).1.known ≡ map (λ k. k.origin) s.known
order_row voice None o moment s = refl
order_row voice (Some row) o moment s = order_by voice row.media o moment s

others_by : (voice : Voice) (media : Media) (o p : Origin) (moment : ℕ) (s : Sources) → same_origin p o ≡ false
    → story_at p (waited_by voice media o moment s).1.known ≡ story_at p s.known
others_by voice Audio o p moment s other = refl
others_by voice Video o p moment s other =
    retold_at p o waited_on s.known
    ∙ ap (λ b. if b then option_map waited_on (story_at p s.known) else story_at p s.known) other

pub others_row : (voice : Voice) (row : Option Source) (o p : Origin) (moment : ℕ) (s : Sources)
    → same_origin p o ≡ false → story_at p (waited_row voice row o moment s).1.known ≡ story_at p s.known
others_row voice None o p moment s other = refl
others_row voice (Some row) o p moment s other = others_by voice row.media o p moment s other

epochs_by : (voice : Voice) (media : Media) (o : Origin) (moment : ℕ) (s : Sources)
    → (waited_by voice media o moment s).1.epochs ≡ s.epochs
epochs_by voice Audio o moment s = refl
epochs_by voice Video o moment s = refl

pub epochs_row : (voice : Voice) (row : Option Source) (o : Origin) (moment : ℕ) (s : Sources)
    → (waited_row voice row o moment s).1.epochs ≡ s.epochs
epochs_row voice None o moment s = refl
epochs_row voice (Some row) o moment s = epochs_by voice row.media o moment s
