-- One epoch of a source: taken packets, cuts, and what each packet gives (own).
use Rattle.std.specs.Prelude.{ℕ, ℤ, zero, suc, ◌+◌, ◌-◌, Bool, false, if◌then◌else◌, nat_eq, nat_lt, nat_le, is_some}
use Rattle.std.specs.Prelude.{min, max, List, [], ◌∷◌, ◌++◌, Option, None, Some, fold, find, filter, map}
use Rattle.std.specs.List.{range_with_len}
use Rattle.frame_gate.specs.Packets.{NumberedPacket, ext_of}
use Rattle.frame_gate.specs.Frame.{WholeFrame}
use Rattle.frame_gate.specs.declared.packet.Place.{Place}
use Rattle.frame_gate.specs.declared.packet.Place.TheVariants.{Taken, Late, Duplicate}
use Rattle.frame_gate.specs.Runs.{Divided, divided, next_in, frames_in, row}

-- the taken packets in the order of their coming, the last cut, and the frames that were given before it was placed
pub record Epoch : Type 0 where
  pub taken : List NumberedPacket
  pub cut : ℕ
  pub earlier : List WholeFrame

-- an epoch to which nothing has come
abbrev pub blank : Epoch
blank = record { taken = []; cut = 0; earlier = [] }

-- the taken packet of a number
abbrev pub packet_at : List NumberedPacket → ℕ → Option NumberedPacket
packet_at taken n = find (λ p. nat_eq p.number n) taken

-- the greatest number of these packets, 0 where there is none
abbrev pub greatest : List NumberedPacket → ℕ
greatest [] = 0
greatest (p ∷ ps) = max p.number (greatest ps)

-- the row of consecutive taken numbers from the last cut
abbrev pub run : Epoch → List NumberedPacket
run e = row (packet_at e.taken) e.cut (greatest e.taken + 1 - e.cut)

-- the run, divided
abbrev pub pieces : Epoch → Divided
pieces e = divided (run e)

-- numbers below this one are decided
abbrev pub next_of : Epoch → ℕ
next_of e = next_in e.cut (pieces e)

-- all frames so far
abbrev pub frames_of : Epoch → List WholeFrame
frames_of e = e.earlier ++ frames_in (pieces e)

-- the least taken number from the first one on, at most the second one
abbrev pub least : List NumberedPacket → ℕ → ℕ → ℕ
least [] from n = n
least (p ∷ ps) from n = if nat_le from p.number then min p.number (least ps from n) else least ps from n

-- with a cut at the least taken number not below next, or at n
abbrev pub placed : Epoch → ℕ → Epoch
placed e n = record { taken = e.taken; cut = least e.taken (next_of e) n; earlier = frames_of e }

-- a gate keeps so many numbers in a row, from next on (own)
abbrev pub gate_size : ℕ
gate_size = 256

-- with cuts, at most so many, until n lies in the gate
abbrev pub resynced : ℕ → Epoch → ℕ → Epoch
resynced zero e n = e
resynced (suc most) e n = if nat_le (next_of e + gate_size) n then resynced most (placed e n) n else e

-- The first packet places the first cut.
abbrev pub opened : Epoch → NumberedPacket → Epoch
opened e p = elim e.taken [ [] ↦ record { taken = []; cut = p.number; earlier = e.earlier } | q ∷ qs ↦ e ]

-- what becomes of a packet: it is late where its number is decided, a duplicate where its number was taken, and else it
-- is taken
abbrev pub place_of : Epoch → NumberedPacket → Place
place_of e p =
    if nat_lt p.number (next_of (opened e p)) then Late
    else if is_some (packet_at e.taken p.number) then Duplicate
    else Taken

-- with one more packet taken
abbrev pub taking : Epoch → NumberedPacket → Epoch
taking e p = record { taken = e.taken ++ p ∷ []; cut = e.cut; earlier = e.earlier }

-- the first value for a packet that is taken, and the second one for another
abbrev pub if_taken : {X : Type 0} → Place → X → X → X
if_taken Taken x y = x
if_taken Late x y = y
if_taken Duplicate x y = y

-- The epoch after one more packet. Each cut raises next, so as many cuts as the packet's number are enough.
abbrev pub epoch_after : Epoch → NumberedPacket → Epoch
epoch_after e p = if_taken (place_of e p) (taking (resynced p.number (opened e p) p.number) p) e

-- the epoch after these packets
abbrev pub epoch_of : List NumberedPacket → Epoch
epoch_of packets = fold epoch_after blank packets

-- The packet is taken, and a cut after the first is placed.
abbrev pub gives_up : Epoch → NumberedPacket → Bool
gives_up e p = if_taken (place_of e p) (nat_le (next_of (opened e p) + gate_size) p.number) false

-- the greatest taken number, if there is one
abbrev pub top : List NumberedPacket → Option ℕ
top [] = None
top (p ∷ ps) = Some (greatest (p ∷ ps))

-- the numbers above the first one and below the last one, not below next
abbrev pub missing_above : Option ℕ → ℕ → ℕ → List ℕ
missing_above None next n = []
missing_above (Some g) next n = filter (λ k. nat_le next k) (range_with_len (g + 1) (n - (g + 1)))

-- the numbers above the greatest taken before and below this one, not below next afterwards
abbrev pub nacks_of : Epoch → NumberedPacket → List ℤ
nacks_of e p =
    if_taken (place_of e p) (map ext_of (missing_above (top e.taken) (next_of (epoch_after e p)) p.number)) []

-- the most numbers that one packet newly leaves missing: it lies in the gate afterwards
abbrev pub most_missing : ℕ
most_missing = gate_size - 1
