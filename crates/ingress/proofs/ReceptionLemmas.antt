-- How sources are received, by what is kept of them.
use Rattle.std.proofs.Common.{◌≡◌, List, Option, None, Some, option_map, refl, ap, subst}
use Rattle.ingress.specs.declared.reception.Reception.{Reception}
use Rattle.ingress.specs.declared.known.OriginKey.{OriginKey}
use Rattle.ingress.specs.Stories.{Story}
use Rattle.ingress.specs.Sources.{Origin, Known, story_at}
use Rattle.ingress.specs.Reception.{reception_of, reception_at}
use Rattle.ingress.specs.inner.SourceEntries.{EntryOf, Keeps}
use Rattle.ingress.specs.inner.Holding.{Holds, key_of, kept_at}
use Rattle.ingress.proofs.Courses.{KeepsAny}
use Rattle.ingress.proofs.KnownSources.{kept_story}

known_reception : (k : EntryOf) (story : Option Story) (r : Reception) → KeepsAny (Some k) story
    → ((story : Story) → Keeps k story → r ≡ reception_of story) → Some r ≡ option_map reception_of story
known_reception k None r h is = absurd h
known_reception k (Some story) r h is = ap (λ (x : Reception). Some x) (is story h)

no_reception : (story : Option Story) → KeepsAny None story → None ≡ option_map reception_of story
no_reception None h = refl
no_reception (Some story) h = absurd h

pub of_kept : (o : Origin) (es : List (OriginKey × EntryOf)) (known : List Known) (k : EntryOf) (r : Reception)
    → Holds es known → kept_at (key_of o) es ≡ Some k
    → ((story : Story) → Keeps k story → r ≡ reception_of story) → Some r ≡ reception_at o known
of_kept o es known k r h at is =
    known_reception k (story_at o known) r
    (subst (λ (x : Option EntryOf). KeepsAny x (story_at o known)) at (kept_story o es known h)) is

pub of_none : (o : Origin) (es : List (OriginKey × EntryOf)) (known : List Known) → Holds es known
    → kept_at (key_of o) es ≡ None → None ≡ reception_at o known
of_none o es known h at =
    no_reception (story_at o known)
    (subst (λ (x : Option EntryOf). KeepsAny x (story_at o known)) at (kept_story o es known h))
