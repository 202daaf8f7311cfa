-- The contributing sources of a packet in network order, and what a member without gains hears.
use Rattle.std.specs.Prelude.{◌≡◌, ℕ, ℤ, ◌++◌, List, length, map, take}
use Rattle.std.specs.List.{range_with_len}
use Rattle.rtp_codec.specs.Packet.{number_octets, most_csrcs}
use Rattle.desk_rows.specs.declared.row.Member.{Member as MemberRow}
use Rattle.desk_rows.specs.Desk.{Desk}
use Rattle.media_items.specs.Formats.{tick_at}
use Rattle.forward_rewrite.specs.declared.mix_packets.Named.{Named}
use Rattle.mixer.specs.Hearing.{Voice, member_rate, heard_at, contributors}

-- These sources are named, in two parts.
pub record IsNamed (named : Named) (csrcs : List ℕ) : Type 0 where
  pub count : length csrcs ≡ named.count
  pub octets : named.front.now ++ named.back.now ≡ number_octets csrcs

-- This is what the member hears of these voices, with the first 15 contributors.
pub record IsHeardOf (d : Desk) (voices : List Voice) (m : MemberRow) (out : List ℤ) (named : Named) : Type 0 where
  pub samples : out ≡ map (heard_at voices d m) (range_with_len 0 (tick_at (member_rate d m)))
  pub who : IsNamed named (take most_csrcs (contributors voices d m))
