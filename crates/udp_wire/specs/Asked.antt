-- What a socket for datagrams was asked (own).
use Rattle.std.specs.Prelude.{◌≡◌, ℕ, List, Result, Some}
use Rattle.std.specs.declared.io.Error.{Error}
use Rattle.std.specs.declared.net.socket_addr.SocketAddr.{SocketAddr}
use Rattle.rtp_codec.specs.declared.address.Address.{Address}
use Rattle.udp_wire.specs.Sockets.{told_address}

-- From the one state of a socket to the other it was asked once to send these octets to this address, and answered
-- this. `sent` says what one call does.
abbrev pub WasSent : {S : Type 0} → (S → S → List ℕ → SocketAddr → Result ℕ Error → Type 0) → S → S → Address → List ℕ
    → Result ℕ Error → Type 0
WasSent sent old new to octets answer =
    (at : SocketAddr) × (told_address at ≡ Some to) × sent old new octets at answer
