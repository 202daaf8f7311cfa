-- What holds of all that a stream sends.
use Rattle.std.specs.Prelude.{◌≡◌, ℕ, ◌+◌, ◌%◌, ◌^◌, if◌then◌else◌, List, [], ◌∷◌, ◌++◌, length, map, Some}
use Rattle.std.specs.List.{Contains}
use Rattle.std.specs.Int.{w16, w32, to_be_bytes}
use Rattle.rtp_codec.specs.Packet.{second_octet}
use Rattle.retransmit.specs.declared.owner.Owner.{Owner}
use Rattle.retransmit.specs.SentPacket.{SentPacket}
use Rattle.retransmit.specs.Window.{window_size, latest, resend_of}
use Rattle.retransmit.specs.laws.SoFar.{of_number}
use Rattle.forward_rewrite.specs.Sending.{Sending}
use Rattle.forward_rewrite.specs.Timestamps.{Stamped, same_run, pause, difference, stamped, last_of}
use Rattle.forward_rewrite.specs.RoutedList.{Part, part_of, header_of, numbered, packets_of}

-- One more frame goes out under one timestamp: all its packets in order, behind those that were sent before and
-- numbered on from there.
pub record GoesWhole (ssrc first_seq first_ts : ℕ) (before : List Sending) (next : Sending) : Type 0 where
  pub ts : ℕ
  pub stamp : last_of (stamped first_ts (before ++ next ∷ [])) ≡ Some (record { sending = next; ts = ts })
  pub packets :
      packets_of ssrc first_seq first_ts (before ++ next ∷ [])
      ≡ packets_of ssrc first_seq first_ts before
      ++ numbered ssrc (first_seq + length (packets_of ssrc first_seq first_ts before))
      (map (part_of (record { sending = next; ts = ts })) next.frame.frame.packets)
  pub count :
      length (packets_of ssrc first_seq first_ts (before ++ next ∷ []))
      ≡ length (packets_of ssrc first_seq first_ts before) + length next.frame.frame.packets

-- the octets of a packet by their parts: the version with one contributing source and nothing else, the marker and the
-- payload type, the numbers in network order, the contributing source, the payload
abbrev pub by_parts : ℕ → ℕ → Part → List ℕ
by_parts ssrc number part =
    129 ∷ second_octet (header_of ssrc number part.ts part.packet)
    ∷ to_be_bytes w16 number
    ++ to_be_bytes w32 part.ts
    ++ to_be_bytes w32 ssrc
    ++ to_be_bytes w32 part.sending.frame.source
    ++ part.packet.payload

-- the timestamp of the frame behind another: in one run it is as far from the other's as the source's are from each
-- other, and where a run begins the pause lies between them
abbrev pub ts_behind : Stamped → Sending → ℕ
ts_behind s next =
    if same_run s.sending.frame next.frame
    then (s.ts + difference s.sending.frame.frame.ts next.frame.frame.ts) % 2 ^ 32
    else (s.ts + pause s.sending.frame.moment next.frame.moment) % 2 ^ 32

-- Each of the frames has the timestamp behind the one before it, the first of them behind this one.
abbrev pub GoOn : Stamped → List Stamped → Type 0
GoOn s [] = Unit {0}
GoOn s (next ∷ rest) = (next.ts ≡ ts_behind s next.sending) × GoOn next rest

-- Each of the frames has the timestamp behind the one before it.
abbrev pub KeepsTime : List Stamped → Type 0
KeepsTime [] = Unit {0}
KeepsTime (s ∷ rest) = GoOn s rest

-- The packet is one of these and no other of them has its number, which is this one; and it went to this owner.
pub record IsFound (number : ℕ) (owner : Owner) (packets : List SentPacket) (p : SentPacket) : Type 0 where
  pub there : Contains packets p
  pub alone : of_number number packets ≡ p ∷ []
  pub number_is : p.number ≡ number
  pub owner_is : p.owner ≡ owner

-- What a number and an owner lead to, in the window behind these packets, is one of the last of them.
abbrev pub FindsOnlyWhatWasSent : List SentPacket → Type 0
FindsOnlyWhatWasSent sent =
    (number : ℕ) (owner : Owner) (p : SentPacket) → resend_of number owner (latest window_size sent) ≡ Some p
    → IsFound number owner (latest window_size sent) p

-- Each of the last of these packets can be found by its number and its owner.
abbrev pub FindsEach : List SentPacket → Type 0
FindsEach sent =
    (p : SentPacket) → Contains (latest window_size sent) p
    → resend_of p.number p.owner (latest window_size sent) ≡ Some p
