-- Addresses (how they are written is own).
use Rattle.std.specs.Prelude.{ℕ, Bool, ◌&&◌, nat_eq, List, ◌++◌, codes, slice_index}
use Rattle.std.specs.Fmt.{decimal}
use Rattle.std.specs.Str.{bytes_eq}
use Rattle.rtp_codec.specs.declared.address.Address.{Address}

-- whether two addresses are one: the same IPv4 address and the same UDP port
abbrev pub same_address : Address → Address → Bool
same_address a b = bytes_eq a.ip b.ip && nat_eq a.port b.port

-- how an address is written: four numbers with dots between, a colon, and the port
abbrev pub address_text : Address → List ℕ
address_text a =
    decimal (slice_index a.ip 0) ++ codes "." ++ decimal (slice_index a.ip 1) ++ codes "."
    ++ decimal (slice_index a.ip 2) ++ codes "." ++ decimal (slice_index a.ip 3)
    ++ codes ":" ++ decimal a.port
