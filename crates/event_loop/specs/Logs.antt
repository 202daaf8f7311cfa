-- Logs that exist in proofs alone: what was read, what a watch told, and what was tried on a wire (own).
use Rattle.std.specs.Prelude.{ℕ, List, [], ◌∷◌, ◌++◌}
use Rattle.udp_wire.specs.Attempts.{Attempt}
use Rattle.event_loop.specs.Came.{Came, came_by}
use Rattle.event_loop.specs.declared.logs.ReadLog.{ReadLog, Nothing as Nothing_read, Read'}
use Rattle.event_loop.specs.declared.logs.ToldLog.{ToldLog, Nothing as Nothing_told, Told'}
use Rattle.event_loop.specs.declared.logs.TryLog.{TryLog, Nothing as Nothing_tried, Begun', Octet', Tried'}

-- what the reads gave, oldest first
abbrev pub read_list : ReadLog → List Came
read_list Nothing_read = []
read_list (Read' marker before read chunk) = read_list before ++ came_by read.value chunk.value.items ∷ []

-- the moments that were told, oldest first
abbrev pub told_list : ToldLog → List ℕ
told_list Nothing_told = []
told_list (Told' marker before moment) = told_list before ++ moment.value ∷ []

-- the octets of the datagram that was begun
abbrev pub begun_octets : TryLog → List ℕ
begun_octets Nothing_tried = []
begun_octets (Begun' marker before) = []
begun_octets (Octet' marker before octet) = begun_octets before ++ octet.value ∷ []
begun_octets (Tried' marker before to sent) = []

-- the datagrams that were tried, oldest first
abbrev pub tried_list : TryLog → List Attempt
tried_list Nothing_tried = []
tried_list (Begun' marker before) = tried_list before
tried_list (Octet' marker before octet) = tried_list before
tried_list (Tried' marker before to sent) =
    tried_list before ++ record { to = to.value; octets = begun_octets before; sent = sent.value } ∷ []
