-- How much was sent, and how much was not (own).
use Rattle.std.specs.Prelude.{ℕ, zero, suc, ◌+◌, ◌-◌, ◌^◌, min, Result, Ok, Err}
use Rattle.lane_wire.specs.declared.fault.SendFault.{SendFault}
use Rattle.lane_wire.specs.declared.fault.SendFault.TheVariants.{NotReady, Denied, Refused, Unreachable, TooLong, Other}
use Rattle.lane_wire.specs.declared.counts.SendCounts.{SendCounts}

-- so many more, as far as 64 bits count
abbrev pub plus : ℕ → ℕ → ℕ
plus count more = min (count + more) (2 ^ 64 - 1)

-- nothing was sent
abbrev pub no_counts : SendCounts
no_counts = record {
  packets = 0;
  octets = 0;
  waited = 0;
  not_ready = 0;
  denied = 0;
  refused = 0;
  unreachable = 0;
  too_long = 0;
  other = 0;
}

-- how many were not sent for this cause
abbrev pub failed_by : SendFault → SendCounts → ℕ
failed_by NotReady c = c.not_ready
failed_by Denied c = c.denied
failed_by Refused c = c.refused
failed_by Unreachable c = c.unreachable
failed_by TooLong c = c.too_long
failed_by Other c = c.other

-- one more was waited for, if pauses were made for it
abbrev pub after_pauses : ℕ → SendCounts → SendCounts
after_pauses zero c = c
after_pauses (suc k) c = record c { waited = plus c.waited 1 }

-- one more of so many octets, by what came of its last try
abbrev pub after_answer : (octets : ℕ) → Result (Unit {0}) SendFault → SendCounts → SendCounts
after_answer octets (Ok done) c = record c { packets = plus c.packets 1; octets = plus c.octets octets }
after_answer octets (Err NotReady) c = record c { not_ready = plus c.not_ready 1 }
after_answer octets (Err Denied) c = record c { denied = plus c.denied 1 }
after_answer octets (Err Refused) c = record c { refused = plus c.refused 1 }
after_answer octets (Err Unreachable) c = record c { unreachable = plus c.unreachable 1 }
after_answer octets (Err TooLong) c = record c { too_long = plus c.too_long 1 }
after_answer octets (Err Other) c = record c { other = plus c.other 1 }
