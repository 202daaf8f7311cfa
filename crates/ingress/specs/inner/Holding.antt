-- The sources that are kept, by the parts of their addresses and their SSRCs.
use Rattle.std.specs.Prelude.{◌≡◌, ℕ, ◌-◌, Bool, ◌&&◌, nat_eq, List, [], ◌∷◌, take, Option, Some}
use Rattle.std.specs.Str.{bytes_eq}
use Rattle.std.specs.Map.{lookup, lookup_entry, remove_entry, set_value}
use Rattle.std.specs.Option.{option_map_or}
use Rattle.ingress.specs.declared.known.OriginKey.{OriginKey}
use Rattle.ingress.specs.Sources.{Origin, Known, most_known}
use Rattle.sender_feedback.specs.Upstream.{Asker}
use Rattle.frame_gate.specs.Waits.{PreparedWaitOf}
use Rattle.ingress.specs.inner.SourceEntries.{EntryOf, Keeps, HasWaited, kept_by}

abbrev pub same_key : OriginKey → OriginKey → Bool
same_key a b = bytes_eq a.ip b.ip && (nat_eq a.port b.port && nat_eq a.ssrc b.ssrc)

-- the key of an origin
abbrev pub key_of : Origin → OriginKey
key_of o = record { ip = o.address.ip; port = o.address.port; ssrc = o.ssrc }

-- what is kept under a key
abbrev pub kept_at : OriginKey → List (OriginKey × EntryOf) → Option EntryOf
kept_at key entries = lookup (same_key key) entries

-- what is kept under a key at this clock rate
abbrev pub kept_for : OriginKey → (rate : ℕ) → List (OriginKey × EntryOf) → Option EntryOf
kept_for key rate entries = kept_by rate (kept_at key entries)

-- with this under the key, before the others, of which there may be so many with it
abbrev pub put_within : ℕ → OriginKey → EntryOf → List (OriginKey × EntryOf) → List (OriginKey × EntryOf)
put_within most key k entries =
    option_map_or (λ e. (e.0, k) ∷ remove_entry (same_key key) entries) (lookup_entry (same_key key) entries)
    ((key, k) ∷ take (most - 1) entries)

abbrev pub put_first : OriginKey → EntryOf → List (OriginKey × EntryOf) → List (OriginKey × EntryOf)
put_first key k entries = put_within most_known key k entries

-- This is kept of these sources, in their order.
abbrev pub Holds : List (OriginKey × EntryOf) → List Known → Type 0
Holds [] [] = Unit {0}
Holds [] (k ∷ ks) = ⊥
Holds (e ∷ es) [] = ⊥
Holds (e ∷ es) (k ∷ ks) = ((e.0 ≡ key_of k.origin) × Keeps e.1 k.story) × Holds es ks

-- The prepared wait was committed at the gate of the source under a key, which stays where it stands, and has this
-- epoch.
pub record WaitedAt (old new : List (OriginKey × EntryOf)) (key : OriginKey) (r : PreparedWaitOf)
    (epoch : ℕ) : Type 0 where
  pub before : EntryOf
  pub after : EntryOf
  pub kept : kept_at key old ≡ Some before
  pub its_epoch : epoch ≡ before.epoch
  pub waited : HasWaited before.gate r after.gate
  pub same : after ≡ record before { gate = after.gate }
  pub entries : new ≡ set_value (same_key key) old after

-- what contracts see of a receive side: who speaks, the sources that are kept, and how many epochs have begun
pub record IngressOf : Type 0 where
  pub asker : Asker
  pub entries : List (OriginKey × EntryOf)
  pub epochs : ℕ
