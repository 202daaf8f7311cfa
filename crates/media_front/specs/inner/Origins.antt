-- The origin of the source in a row.
use Rattle.std.specs.Prelude.{ℕ, Option}
use Rattle.std.specs.Option.{option_and_then}
use Rattle.rtp_codec.specs.declared.address.Address.{Address}
use Rattle.desk_rows.specs.declared.row.Row.{Row}
use Rattle.desk_rows.specs.Desk.{Desk}
use Rattle.topology.specs.Looking.{source_in}
use Rattle.ingress.specs.Sources.{Origin}
use Rattle.media_front.specs.Waits.{video_origin}

-- an address and an SSRC, as an origin
abbrev pub origin_of : Address × ℕ → Origin
origin_of pair = record { address = pair.0; ssrc = pair.1 }

-- the origin of the source in a row, if it is video and its member is there
abbrev pub origin_in : Desk → Row → Option Origin
origin_in desk row = option_and_then (video_origin desk) (source_in row)
