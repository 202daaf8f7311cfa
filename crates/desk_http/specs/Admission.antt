-- Which browser's connection is closed for a new one (own).
use Rattle.std.specs.Prelude.{ℕ, ◌-◌, Bool, true, false, ◌&&◌, nat_lt, nat_le, if◌then◌else◌, List, length, position}
use Rattle.std.specs.Prelude.{Option, Some, None}
use Rattle.std.specs.Option.{option_or}
use Rattle.desk_http.specs.declared.admission.ClientActivity.{ClientActivity}
use Rattle.desk_http.specs.declared.admission.Placement.{Placement}
use Rattle.desk_http.specs.declared.admission.Placement.TheVariants.{Free, Evict, Refused}
use Rattle.desk_http.specs.declared.admission.ClientStage.{ClientStage}
use Rattle.desk_http.specs.declared.admission.ClientStage.TheVariants.{Idle, Sending, Waiting, Responding, Streaming}

-- how many connections are served at a time
abbrev pub most_clients : ℕ
most_clients = 32

-- how many of them may have the stream of events: the others serve requests
abbrev pub most_streams : ℕ
most_streams = 24

-- one more may have the stream of events, where so many have it
abbrev pub admits_stream : ℕ → Bool
admits_stream count = nat_lt count most_streams

-- the most octets of events that a browser has to read yet: behind more of them its connection is closed
abbrev pub most_unread : ℕ
most_unread = 1048576

-- a browser reads the events as fast as they come
abbrev pub keeps_up : ℕ → Bool
keeps_up unread = nat_le unread most_unread

-- milliseconds that a connection has to send its whole request, where all places are taken
abbrev pub request_timeout : ℕ
request_timeout = 500

-- milliseconds that a response may stall, where all places are taken
abbrev pub stall_timeout : ℕ
stall_timeout = 1000

-- nothing of its request has come
abbrev pub is_idle : ClientStage → Bool
is_idle Idle = true
is_idle Sending = false
is_idle Waiting = false
is_idle Responding = false
is_idle Streaming = false

-- part of its request has come
abbrev pub is_sending : ClientStage → Bool
is_sending Idle = false
is_sending Sending = true
is_sending Waiting = false
is_sending Responding = false
is_sending Streaming = false

-- its response was begun
abbrev pub is_responding : ClientStage → Bool
is_responding Idle = false
is_responding Sending = false
is_responding Waiting = false
is_responding Responding = true
is_responding Streaming = false

-- its request isn't whole, and the time for it is over
abbrev pub is_slow : ℕ → ClientActivity → Bool
is_slow now client = is_sending client.stage && nat_le request_timeout (now - client.accepted)

-- nothing of its response was sent for too long
abbrev pub is_stalled : ℕ → ClientActivity → Bool
is_stalled now client = is_responding client.stage && nat_le stall_timeout (now - client.active)

-- the connection that may be closed: the oldest that is idle, or else the oldest that is slow, or else the oldest that
-- is stalled; never one that waits for the bridge or has the stream of events
abbrev pub eviction_candidate : List ClientActivity → ℕ → Option ℕ
eviction_candidate clients now =
    option_or (option_or (position (λ client. is_idle client.stage) clients) (position (is_slow now) clients))
    (position (is_stalled now) clients)

-- what becomes of a new connection where all places are taken
abbrev pub placement_by : Option ℕ → Placement
placement_by (Some at) = Evict at
placement_by None = Refused

-- what becomes of a new connection, by those that are there
abbrev pub placement_of : List ClientActivity → ℕ → Placement
placement_of clients now =
    if nat_lt (length clients) most_clients then Free else placement_by (eviction_candidate clients now)
