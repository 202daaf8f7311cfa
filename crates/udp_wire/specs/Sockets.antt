-- Addresses and times as the system has them (own).
use Rattle.std.specs.Prelude.{ℕ, ◌^◌, ◌-◌, min, Option, Some, None}
use Rattle.std.specs.Duration.{as_nanos}
use Rattle.std.specs.declared.time.Duration.{Duration}
use Rattle.std.specs.declared.net.ip_addr.IpAddr.{IpAddr}
use Rattle.std.specs.declared.net.ip_addr.IpAddr.TheVariants as ips
use Rattle.std.specs.declared.net.socket_addr.SocketAddr.{SocketAddr}
use Rattle.std.specs.Net.Addr.{ipv4_octets}
use Rattle.std.specs.Net.Socket.{socket_ip, socket_port}
use Rattle.rtp_codec.specs.declared.address.Address.{Address}

-- an IPv4 address with a port
abbrev pub at_port : IpAddr → ℕ → Option Address
at_port (ips.V4 ip) port = Some (record { ip = ipv4_octets ip; port = port })
at_port (ips.V6 ip) port = None

-- the IPv4 address of a socket address
abbrev pub told_address : SocketAddr → Option Address
told_address told = at_port (socket_ip told) (socket_port told)

-- a time in nanoseconds, at most 2^64 - 1
abbrev pub nanos_of : Duration → ℕ
nanos_of time = min (as_nanos time) (2 ^ 64 - 1)
