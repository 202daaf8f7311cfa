-- What sending the datagram of an egress on a socket does, and why the system refuses it (own; numbers are Linux's).
use Rattle.std.specs.Prelude.{◌≡◌, ◌<◌, ℕ, ℤ, pos, negsuc, List, [], ◌∷◌, length, if◌then◌else◌, ◌==◌, ◌⊎◌}
use Rattle.std.specs.Prelude.{Option, Some, None, Result, Ok, Err}
use Rattle.std.specs.IoError.{error_kind, raw_os_error}
use Rattle.std.specs.declared.io.Error.{Error}
use Rattle.std.specs.declared.io.ErrorKind.{ErrorKind}
use Rattle.std.specs.declared.io.ErrorKind.TheVariants as kinds
use Rattle.std.specs.declared.net.socket_addr.SocketAddr.{SocketAddr}
use Rattle.rtp_codec.specs.declared.address.Address.{Address}
use Rattle.udp_wire.specs.Asked.{WasSent}
use Rattle.lane_wire.specs.declared.fault.SendFault.{SendFault}
use Rattle.lane_wire.specs.declared.fault.SendFault.TheVariants.{NotReady, Denied, Refused, Unreachable, TooLong, Other}

-- why a datagram is not sent, by the kind of the system's error, where that tells it
abbrev pub fault_of_kind : ErrorKind → Option SendFault
fault_of_kind kinds.WouldBlock = Some NotReady
fault_of_kind kinds.PermissionDenied = Some Denied
fault_of_kind kinds.ConnectionRefused = Some Refused
fault_of_kind kinds.HostUnreachable = Some Unreachable
fault_of_kind kinds.NetworkUnreachable = Some Unreachable
fault_of_kind kinds.NetworkDown = Some Unreachable
fault_of_kind kind = None

-- why it is not sent, by the system's number: 105 is ENOBUFS, and 90 is EMSGSIZE
abbrev pub fault_of_number : ℕ → SendFault
fault_of_number n = if n == 105 then NotReady else if n == 90 then TooLong else Other

-- why it is not sent: by the kind, or else by the number
abbrev pub fault_by : Option SendFault → Option ℤ → SendFault
fault_by (Some fault) number = fault
fault_by None (Some (pos n)) = fault_of_number n
fault_by None (Some (negsuc n)) = Other
fault_by None None = Other

-- what came of sending, by the system's answer
abbrev pub outcome : Result ℕ Error → Result (Unit {0}) SendFault
outcome (Ok octets) = Ok (tt {0})
outcome (Err error) = Err (fault_by (fault_of_kind (error_kind error)) (raw_os_error error))

-- From the one state of a socket to the other these octets were sent to this address, in one call, and that came of it;
-- or memory for joining them ran out, and the socket was not asked. Joining takes no memory up to this many octets.
abbrev pub HasTried : {S : Type 0} → (S → S → List ℕ → SocketAddr → Result ℕ Error → Type 0) → (without : ℕ) → S → S
    → Address → List ℕ → Result (Unit {0}) SendFault → Type 0
HasTried sent without old new to octets result =
    ((answer : Result ℕ Error) × WasSent sent old new to octets answer × (result ≡ outcome answer))
    ⊎ ((new ≡ old) × (result ≡ Err Other) × (without < length octets))

-- The same of these datagrams, of which there is one at most. Of none the socket is asked nothing.
abbrev pub HaveTried : {S : Type 0} → (S → S → List ℕ → SocketAddr → Result ℕ Error → Type 0) → (without : ℕ) → S → S
    → List (Address × List ℕ) → Result (Unit {0}) SendFault → Type 0
HaveTried sent without old new [] result = (new ≡ old) × (result ≡ Ok (tt {0}))
HaveTried sent without old new ((to, octets) ∷ []) result = HasTried sent without old new to octets result
HaveTried sent without old new (one ∷ (other ∷ more)) result = ⊥
