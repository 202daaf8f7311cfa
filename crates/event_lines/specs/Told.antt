-- How causes and events are printed (own).
use Rattle.std.specs.Prelude.{ℕ, List, ◌++◌, codes}
use Rattle.std.specs.Fmt.{decimal}
use Rattle.rtp_codec.specs.Address.{address_text}
use Rattle.event_lines.specs.declared.cause.ServerPart.{ServerPart}
use Rattle.event_lines.specs.declared.cause.ServerPart.TheVariants.{Udp, Tcp, Trace, Poll, Clock}
use Rattle.event_lines.specs.declared.cause.ServerPart.TheVariants.{Start, Front, Desk, End}
use Rattle.event_lines.specs.declared.cause.Cause.{Cause}
use Rattle.event_lines.specs.declared.cause.Cause.TheVariants.{Failed, LaneMemory, LaneSpent}
use Rattle.event_lines.specs.declared.event.Event.{Event}
use Rattle.event_lines.specs.declared.event.Event.TheVariants.{Connection, Refused, Dropped, TraceLost, LeftOut}
use Rattle.event_lines.specs.Words.{why_text}

-- how many causes of an end are kept: one of each of sixteen lanes, and some of the other parts
abbrev pub most_causes : ℕ
most_causes = 24

-- how a part of a bridge is named
abbrev pub part_text : ServerPart → List ℕ
part_text (Udp at) = codes "udp " ++ address_text at
part_text (Tcp at) = codes "tcp " ++ address_text at
part_text (Trace at) = codes "trace " ++ address_text at
part_text Poll = codes "poll"
part_text Clock = codes "clock"
part_text Start = codes "start"
part_text Front = codes "front"
part_text Desk = codes "desk"
part_text End = codes "end"

-- how a cause is printed
abbrev pub cause_text : Cause → List ℕ
cause_text (Failed part why) = part_text part ++ codes ": " ++ why_text why
cause_text (LaneMemory lane item) = codes "lane " ++ decimal lane ++ codes ": out of memory at item " ++ decimal item
cause_text (LaneSpent lane) = codes "lane " ++ decimal lane ++ codes ": 2^64 - 1 items were handled"

-- how an event is printed
abbrev pub event_text : Event → List ℕ
event_text (Connection from) = codes "connection from " ++ address_text from
event_text (Refused from why) = codes "connection from " ++ address_text from ++ codes " refused: " ++ why_text why
event_text (Dropped lane items) =
    codes "lane " ++ decimal lane ++ codes ": " ++ decimal items ++ codes " items dropped so far"
event_text (TraceLost to) = codes "trace " ++ address_text to ++ codes " lost"
event_text (LeftOut events) = decimal events ++ codes " events left out"
