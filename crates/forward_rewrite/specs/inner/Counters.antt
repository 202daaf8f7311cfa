-- How a stream goes on from what it keeps.
use Rattle.std.specs.Prelude.{◌≡◌, ℕ, ◌+◌, ◌%◌, ◌^◌, Bool, ◌&&◌, if◌then◌else◌, nat_eq, List, length, map, Option, None}
use Rattle.std.specs.Prelude.{Some}
use Rattle.rtp_codec.specs.Address.{same_address}
use Rattle.forward_rewrite.specs.declared.last_sent.LastSent.{LastSent}
use Rattle.media_items.specs.Frame.{SourceFrame}
use Rattle.forward_rewrite.specs.Sending.{Sending}
use Rattle.forward_rewrite.specs.Timestamps.{Stamped, pause}
use Rattle.forward_rewrite.specs.RoutedList.{Part, part_of, numbered}
use Rattle.forward_rewrite.specs.Streams.{StreamOf, PreparedOf, sent, payload_octets}

-- the frame is of the run of the last one
abbrev pub goes_on : LastSent → SourceFrame → Bool
goes_on last f = nat_eq last.source f.source && (same_address last.address f.address && nat_eq last.epoch f.epoch)

-- the timestamp of one more frame
abbrev pub ts_after : ℕ → Option LastSent → SourceFrame → ℕ
ts_after first_ts None f = first_ts % 2 ^ 32
ts_after first_ts (Some last) f =
    if goes_on last f then (f.frame.ts + last.offset) % 2 ^ 32
    else (last.ts + pause last.moment f.moment) % 2 ^ 32

-- one more frame with its timestamp
abbrev pub stamped_next : StreamOf → Sending → Stamped
stamped_next s next = record { sending = next; ts = ts_after s.first_ts s.last next.frame }

-- the packets of one more frame
abbrev pub next_parts : StreamOf → Sending → List Part
next_parts s next = map (part_of (stamped_next s next)) next.frame.frame.packets

-- What is prepared is the packets that the counters give, and the counters after them.
pub record IsPrepared (s : StreamOf) (next : Sending) (p : PreparedOf) : Type 0 where
  pub first : p.first ≡ s.next
  pub behind : p.next ≡ (s.next + length next.frame.frame.packets) % 2 ^ 16
  pub octets : p.octets ≡ payload_octets (next_parts s next) % 2 ^ 32
  pub last : p.last ≡ sent next.frame (ts_after s.first_ts s.last next.frame)
  pub packets : p.packets ≡ numbered s.ssrc s.next (next_parts s next)
