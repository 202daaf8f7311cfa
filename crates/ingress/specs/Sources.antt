-- The sources that are known, and when one is forgotten (own).
use Rattle.std.specs.Prelude.{ℕ, ◌-◌, Bool, ◌&&◌, nat_eq, if◌then◌else◌, List, [], ◌∷◌, take, Option, None, Some}
use Rattle.std.specs.Option.{is_some}
use Rattle.rtp_codec.specs.declared.address.Address.{Address}
use Rattle.std.specs.Str.{bytes_eq}
use Rattle.ingress.specs.Stories.{Story}

-- where packets come from: an address and an SSRC
pub record Origin : Type 0 where
  pub address : Address
  pub ssrc : ℕ

-- the same IPv4 address, UDP port and SSRC
abbrev pub same_origin : Origin → Origin → Bool
same_origin a b = bytes_eq a.address.ip b.address.ip && (nat_eq a.address.port b.address.port && nat_eq a.ssrc b.ssrc)

-- a source and its story
pub record Known : Type 0 where
  pub origin : Origin
  pub story : Story

-- the sources that are known, the one that was used last first, and how many epochs have begun
pub record Sources : Type 0 where
  pub known : List Known
  pub epochs : ℕ

-- nothing has come
abbrev pub no_sources : Sources
no_sources = record { known = []; epochs = 0 }

-- the most sources that are known (own)
abbrev pub most_known : ℕ
most_known = 4096

-- the story of the source at an origin
abbrev pub story_at : Origin → List Known → Option Story
story_at origin [] = None
story_at origin (k ∷ ks) = if same_origin origin k.origin then Some k.story else story_at origin ks

-- the other sources, where each stands there once
abbrev pub without : Origin → List Known → List Known
without origin [] = []
without origin (k ∷ ks) = if same_origin origin k.origin then ks else k ∷ without origin ks

-- before the others, if it is one of them; a new one takes the place of the least recently used one, if there are as
-- many as may be
abbrev pub used : Known → List Known → List Known
used k ks = if is_some (story_at k.origin ks) then k ∷ without k.origin ks else k ∷ take (most_known - 1) ks

-- with this story of a source, wherever it stands
abbrev pub retold : Origin → (Story → Story) → List Known → List Known
retold origin f [] = []
retold origin f (k ∷ ks) =
    if same_origin origin k.origin then record { origin = k.origin; story = f k.story } ∷ ks else k ∷ retold origin f ks
