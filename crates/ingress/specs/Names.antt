-- Canonical names (RFC 3550 section 6.5.1).
use Rattle.std.specs.Prelude.{ℕ, Bool, ◌&&◌, nat_lt, nat_le, List, length}
use Rattle.rtcp_codec.specs.Description.{most_text}

-- a canonical name has 1 to 255 octets
abbrev pub is_name : List ℕ → Bool
is_name cname = nat_lt 0 (length cname) && nat_le (length cname) most_text
