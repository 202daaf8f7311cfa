-- What a socket's answer to a read is for a front (own).
use Rattle.std.specs.Prelude.{ℕ, Bool, true, false, Option, Some, None, Result, Ok, Err}
use Rattle.std.specs.IoError.{error_kind}
use Rattle.std.specs.declared.io.Error.{Error}
use Rattle.std.specs.declared.io.ErrorKind.{ErrorKind}
use Rattle.std.specs.declared.io.ErrorKind.TheVariants as kinds
use Rattle.std.specs.declared.net.socket_addr.SocketAddr.{SocketAddr}
use Rattle.rtp_codec.specs.declared.address.Address.{Address}
use Rattle.udp_wire.specs.Sockets.{told_address}
use Rattle.event_loop.specs.declared.inlet.Read.{Read}
use Rattle.event_loop.specs.declared.inlet.Read.TheVariants.{Datagram, Other, Nothing}

-- a datagram of so many octets, by the IPv4 address that it came from; one of IPv6 is something else
abbrev pub read_from : ℕ → Option Address → Read
read_from octets (Some from) = Datagram from octets
read_from octets None = Other

-- What an error is: nothing waits; or the call was interrupted, or told of an earlier datagram that nobody took, and
-- more may wait; or the socket failed.
abbrev pub read_failing : ErrorKind → Error → Result Read Error
read_failing kinds.WouldBlock error = Ok Nothing
read_failing kinds.Interrupted error = Ok Other
read_failing kinds.ConnectionRefused error = Ok Other
read_failing kind error = Err error

-- what an answer is
abbrev pub read_by : Result (ℕ × SocketAddr) Error → Result Read Error
read_by (Ok (octets, from)) = Ok (read_from octets (told_address from))
read_by (Err error) = read_failing (error_kind error) error

-- more may wait behind an error of this kind
abbrev pub waits_behind : ErrorKind → Bool
waits_behind kinds.WouldBlock = false
waits_behind kind = true

-- more may wait behind an answer: it doesn't say that nothing waits
abbrev pub may_follow : Result (ℕ × SocketAddr) Error → Bool
may_follow (Ok answer) = true
may_follow (Err error) = waits_behind (error_kind error)
