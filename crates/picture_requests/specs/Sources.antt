-- Sources of video at the addresses of their members (own).
use Rattle.std.specs.Prelude.{ℕ, Bool, ◌&&◌, nat_eq, if◌then◌else◌, List, [], ◌∷◌, ◌++◌, fold, filter, not}
use Rattle.std.specs.List.{list_any}
use Rattle.rtp_codec.specs.declared.address.Address.{Address}
use Rattle.rtp_codec.specs.Address.{same_address}
use Rattle.picture_requests.specs.declared.source.VideoSource.{VideoSource}

-- the source of this SSRC at an address
abbrev pub source_at : ℕ → Address → VideoSource
source_at ssrc address = record { ssrc = ssrc; ip = address.ip; port = address.port }

-- the address of a source's member
abbrev pub member_address : VideoSource → Address
member_address s = record { ip = s.ip; port = s.port }

-- whether two are one source: the same SSRC at the same address
abbrev pub same_source : VideoSource → VideoSource → Bool
same_source a b = nat_eq a.ssrc b.ssrc && same_address (member_address a) (member_address b)

-- the source is among these
abbrev pub is_among : List VideoSource → VideoSource → Bool
is_among sources s = list_any (same_source s) sources

-- these without a source
abbrev pub without_source : VideoSource → List VideoSource → List VideoSource
without_source s sources = filter (λ x. not (same_source x s)) sources

-- with a source behind these, unless it is among them
abbrev pub with_source : List VideoSource → VideoSource → List VideoSource
with_source sources s = if is_among sources s then sources else sources ++ s ∷ []

-- each of these once, in the order of their first places
abbrev pub each_once : List VideoSource → List VideoSource
each_once sources = fold with_source [] sources
