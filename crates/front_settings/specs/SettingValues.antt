-- What a value of TOML is as a setting (own).
use Rattle.std.specs.Prelude.{ℕ, pos, Bool, not, ◌&&◌, ◌==◌, nat_le, if◌then◌else◌, List, slice_index, Option, Some}
use Rattle.std.specs.Prelude.{None}
use Rattle.std.specs.List.{list_all}
use Rattle.std.specs.Option.{option_and_then, option_map}
use Rattle.toml.specs.Data.{Data, integer, as_str}
use Rattle.rtp_codec.specs.declared.address.Address.{Address}
use Rattle.ingress.specs.Names.{is_name}
use Rattle.desk_text.specs.Addresses.{address_of}
use Rattle.desk_text.specs.Lines.{is_printable}

-- the address that a text spells
abbrev pub address_in : Data → Option Address
address_in value = option_and_then address_of (as_str value)

-- the address is in 127.0.0.0/8, which no packet from another machine reaches (RFC 1122 section 3.2.1.3)
abbrev pub is_loopback : Address → Bool
is_loopback address = slice_index address.ip 0 == 127

-- an address that is in there
abbrev pub loopback_in : Data → Option Address
loopback_in value = option_and_then (λ address. if is_loopback address then Some address else None) (address_in value)

-- a number from low to high
abbrev pub number_in : ℕ → ℕ → Data → Option ℕ
number_in low high (integer (pos n)) = if nat_le low n && nat_le n high then Some n else None
number_in low high _ = None

-- a text that can be a canonical name, all of it printed
abbrev pub is_cname : List ℕ → Bool
is_cname text = is_name text && list_all is_printable text

-- such a text
abbrev pub cname_in : Data → Option (List ℕ)
cname_in value = option_and_then (λ text. if is_cname text then Some text else None) (as_str value)

-- the fewest seats of a bridge that is traced: one of them is the trace's
abbrev pub least_traced : ℕ
least_traced = 2

-- a name of one word, as the first line of a script has
abbrev pub is_word : List ℕ → Bool
is_word text = list_all (λ octet. not (octet == 32)) text

-- where the trace of a bridge with so many seats and this name goes to: only such a bridge has one
abbrev pub trace_in : ℕ → List ℕ → Data → Option (Option Address)
trace_in operators name value =
    if nat_le least_traced operators && is_word name then option_map Some (loopback_in value) else None
