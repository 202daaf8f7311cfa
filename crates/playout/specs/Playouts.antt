-- The playouts of all sources of a lane, by SSRC and address, and what they have had (own).
use Rattle.std.specs.Prelude.{◌≡◌, ℕ, ℤ, Bool, true, false, ◌&&◌, if◌then◌else◌, nat_eq, List, [], ◌∷◌, ◌++◌, Option}
use Rattle.std.specs.Prelude.{None, Some, fold}
use Rattle.std.specs.Map.{lookup}
use Rattle.rtp_codec.specs.declared.address.Address.{Address}
use Rattle.rtp_codec.specs.Address.{same_address}
use Rattle.playout.specs.declared.many.SourceKey.{SourceKey}
use Rattle.playout.specs.Playout.{Play}
use Rattle.playout.specs.Calls.{PlaysOut, at_rate}
use Rattle.playout.specs.Renewal.{SourcePlay, no_sound, source_put, source_ticked}
use Rattle.playout.specs.inner.Holds.{SourceOf, Holds}

-- samples of one source put at a rate and a timestamp; 20 ms taken from the playout of each; from here on playouts
-- begin anew after late or full sound
pub data AudioEvent : Type 0 where
  PutOf : (source : ℕ) (address : Address) (rate ts : ℕ) (samples : List ℤ) → AudioEvent
  TakeAll : AudioEvent
  Renewing : AudioEvent

-- whether these are one source: the same SSRC at the same address
abbrev pub same_source : ℕ → Address → ℕ → Address → Bool
same_source source address other at = nat_eq source other && same_address address at

-- one source, after one more of these: a put where it is the source's own, and each take
abbrev pub source_next : ℕ → Address → SourcePlay → AudioEvent → SourcePlay
source_next source address s (PutOf other at rate ts samples) =
    if same_source other at source address then source_put rate s ts samples else s
source_next source address s TakeAll = source_ticked s
source_next source address s Renewing = record { play = s.play; tally = s.tally; renews = true }

-- a source that has had these
abbrev pub source_on : ℕ → Address → List AudioEvent → SourcePlay
source_on source address events = fold (source_next source address) (no_sound false) events

-- the playout of a source that has had these. Takes before its first put change nothing.
abbrev pub play_on : ℕ → Address → List AudioEvent → Option Play
play_on source address events = (source_on source address events).play

-- whether playouts begin anew after late or full sound, and what is kept of the sources by their keys
pub record PlayoutsOf : Type 0 where
  pub renews : Bool
  pub sources : List (SourceKey × SourceOf)

-- the address of a key
abbrev pub address_of : SourceKey → Address
address_of key = record { ip = key.ip; port = key.port }

-- what is kept of a source, if anything is
abbrev pub playout_at : ℕ → Address → PlayoutsOf → Option SourceOf
playout_at source address playouts =
    lookup (λ key. same_source source address key.source (address_of key)) playouts.sources

-- What is kept of a source holds its playout, and the tally is the source's.
pub record Keeps (renews : Bool) (kept : SourceOf) (s : SourcePlay) : Type 0 where
  pub play : Play
  pub is : s ≡ record { play = Some play; tally = kept.tally; renews = renews }
  pub holds : Holds kept.playout (Some play)

-- Something is kept of a source where its playout has begun.
abbrev pub HoldsAt : Bool → Option SourceOf → SourcePlay → Type 0
HoldsAt renews None s = s ≡ no_sound renews
HoldsAt renews (Some kept) s = Keeps renews kept s

-- The playouts were given these: each source's playout is as they leave it, and a source without a put has none.
abbrev pub Has : PlayoutsOf → List AudioEvent → Type 0
Has playouts events =
    (source : ℕ) (address : Address)
    → HoldsAt playouts.renews (playout_at source address playouts) (source_on source address events)

-- Whatever the old playouts have had, the new ones have had this too.
abbrev pub HasAlso : PlayoutsOf → PlayoutsOf → AudioEvent → Type 0
HasAlso old new event = (events : List AudioEvent) → Has old events → Has new (events ++ event ∷ [])

-- Whatever they were given, these are the next samples of the source, if its playout has this rate, and this many of
-- them are present. Else they are zeros, and none is present.
abbrev pub ShowsOf : PlayoutsOf → ℕ → Address → ℕ → List ℤ → ℕ → Type 0
ShowsOf playouts source address rate out count =
    (events : List AudioEvent) → Has playouts events → PlaysOut (at_rate rate (play_on source address events)) out count
