-- A receive side with a source that was used.
use Rattle.std.proofs.Common.{◌≡◌, ℕ, ◌+◌, Bool, if◌then◌else◌, List, ◌∙◌, ap, subst}
use Rattle.sender_feedback.specs.Upstream.{Asker}
use Rattle.ingress.specs.declared.known.OriginKey.{OriginKey}
use Rattle.ingress.specs.inner.SourceEntries.{EntryOf}
use Rattle.ingress.specs.inner.Holding.{IngressOf, put_first}

abbrev ingress : Asker → List (OriginKey × EntryOf) → ℕ → IngressOf
ingress asker entries epochs = record { asker = asker; entries = entries; epochs = epochs }

abbrev used_in : OriginKey → EntryOf → Bool → IngressOf → IngressOf
used_in key k b i =
    record { asker = i.asker; entries = put_first key k i.entries; epochs = if b then i.epochs + 1 else i.epochs }

pub moved : (key : OriginKey) (k : EntryOf) (v old : IngressOf) (b : Bool) (entries : List (OriginKey × EntryOf))
    (n : ℕ)
    → v ≡ old → entries ≡ put_first key k v.entries → n ≡ (if b then v.epochs + 1 else v.epochs)
    → ◌≡◌ {A = IngressOf} (record { asker = v.asker; entries = entries; epochs = n }) (used_in key k b old)
moved key k v old b entries n same e f =
    subst
    (λ (o : IngressOf).
    ◌≡◌ {A = IngressOf} (record { asker = v.asker; entries = entries; epochs = n }) (used_in key k b o))
    same
    (ap (λ (es : List (OriginKey × EntryOf)). ingress v.asker es n) e
    ∙ ap (λ (m : ℕ). ingress v.asker (put_first key k v.entries) m) f)
