-- How a bridge on sockets ends (own).
use Rattle.std.specs.Prelude.{◌≡◌, ℕ, List, codes, Result, Ok, Err, ◌⊎◌}
use Rattle.udp_wire.specs.declared.ending.FrontFault.{FrontFault}
use Rattle.udp_wire.specs.declared.ending.FrontFault.TheVariants.{Io, OutOfMemory, Clock, NoThread}
use Rattle.udp_wire.specs.declared.ending.FrontFault.TheVariants.{ItemsSpent, LaneEnded, DeskEnded, Internal}
use Rattle.std.specs.declared.io.ErrorKind.{ErrorKind}
use Rattle.std.specs.declared.io.ErrorKind.TheVariants as kinds

-- how a fault is printed
abbrev pub front_text : FrontFault → List ℕ
front_text Io = codes "input or output failed"
front_text OutOfMemory = codes "out of memory"
front_text Clock = codes "the clock failed"
front_text NoThread = codes "no thread could be started"
front_text ItemsSpent = codes "a lane has no number left for an item"
front_text LaneEnded = codes "a lane ended"
front_text DeskEnded = codes "the desk ended"
front_text Internal = codes "internal error"

-- the exit status: 0 after `stop`, 2 when memory ran out, 3 after any other fault
abbrev pub front_status_of : Result (Unit {0}) FrontFault → ℕ
front_status_of (Ok u) = 0
front_status_of (Err Io) = 3
front_status_of (Err OutOfMemory) = 2
front_status_of (Err Clock) = 3
front_status_of (Err NoThread) = 3
front_status_of (Err ItemsSpent) = 3
front_status_of (Err LaneEnded) = 3
front_status_of (Err DeskEnded) = 3
front_status_of (Err Internal) = 3

-- how a bridge ends when a file or a socket reports an error, which may be out of memory
abbrev pub ended_by_io : ErrorKind → FrontFault
ended_by_io kinds.OutOfMemory = OutOfMemory
ended_by_io kind = Io

-- how a bridge ends when a clock reports an error, which may be out of memory
abbrev pub ended_by_clock : ErrorKind → FrontFault
ended_by_clock kinds.OutOfMemory = OutOfMemory
ended_by_clock kind = Clock

-- a fault of a file or a socket
abbrev pub IsOfIo : FrontFault → Type 0
IsOfIo fault = (fault ≡ Io) ⊎ (fault ≡ OutOfMemory)

-- a fault of a clock
abbrev pub IsOfClock : FrontFault → Type 0
IsOfClock fault = (fault ≡ Clock) ⊎ (fault ≡ OutOfMemory)
