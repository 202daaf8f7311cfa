-- What the page starts with (own).
use Rattle.std.specs.Prelude.{ℕ, ◌/◌, ◌%◌, List, [], ◌∷◌, flat_map, slice_index, codes}
use Rattle.std.specs.Net.Addr.{IsLoopbackV4}
use Rattle.std.specs.Net.Socket.{v4_ip}
use Rattle.std.specs.declared.net.socket_addr.SocketAddrV4.{SocketAddrV4}

-- the address is in 127.0.0.0/8, which no packet from another machine reaches (RFC 1122 section 3.2.1.3)
abbrev pub IsOnLoopback : SocketAddrV4 → Type 0
IsOnLoopback address = IsLoopbackV4 (v4_ip address)

-- a hex digit
abbrev pub hex_digit : ℕ → ℕ
hex_digit value = slice_index (codes "0123456789abcdef") value

-- an octet as two hex digits
abbrev pub hex_octet : ℕ → List ℕ
hex_octet octet = hex_digit (octet / 16) ∷ hex_digit (octet % 16) ∷ []

-- octets as hex digits, two each
abbrev pub hex_text : List ℕ → List ℕ
hex_text octets = flat_map hex_octet octets
