-- What is counted of outgoing streams, and what their receivers reported last (own).
use Rattle.std.specs.Prelude.{◌≡◌, ◌⊎◌, ℕ, ◌≤◌, ◌<◌, if◌then◌else◌, nat_eq, List, [], ◌∷◌, ◌++◌, length, All}
use Rattle.std.specs.Prelude.{Option, None, Some, is_some, Result, Ok, Err, Bool, false}
use Rattle.std.specs.declared.alloc.Global.{Global}
use Rattle.std.specs.Map.{lookup}
use Rattle.rtp_codec.specs.Address.{same_address}
use Rattle.rtp_codec.specs.declared.address.Address.{Address}
use Rattle.bridge_core.specs.declared.egress.Egress.{Egress}
use Rattle.bridge_core.specs.declared.egress.Egress.TheVariants.{Media, Control, Note}
use Rattle.lane_wire.specs.declared.fault.SendFault.{SendFault}
use Rattle.lane_wire.specs.declared.stream_numbers.Reported.{Reported}
use Rattle.lane_wire.specs.declared.stream_numbers.StreamNumbers.{StreamNumbers}
use Rattle.lane_wire.specs.declared.stream_numbers.KeptStream.{KeptStream}
use Rattle.lane_wire.specs.declared.stream_numbers.StreamNews.{StreamNews}
use Rattle.lane_wire.specs.declared.stream_numbers.StreamNews.TheVariants.{Packet, Report}
use Rattle.lane_wire.specs.Counted.{plus}

-- how many streams are kept
abbrev pub most_streams : ℕ
most_streams = 5120

-- what is kept of each stream, the stream that was counted first before the others; how many news were counted; and
-- how many packets and reports were left out since memory was refused
pub record StreamsOf : Type 0 where
  pub entries : List (ℕ × KeptStream)
  pub news : ℕ
  pub left_out : ℕ

-- nothing was counted
abbrev pub no_numbers : StreamNumbers
no_numbers = record { packets = 0; octets = 0; resent = 0; to = None; report = None }

-- packets went to this address last
abbrev pub is_receiver : Option Address → Address → Bool
is_receiver None from = false
is_receiver (Some to) from = same_address to from

-- a report, if it came from where packets go to
abbrev pub kept_report : Address → Option Reported → Option Reported
kept_report to None = None
kept_report to (Some reported) = if is_receiver (Some to) reported.from then Some reported else None

-- what is new, and of which stream, where the last try to send this had this answer: a packet that the system took, or
-- a report
abbrev pub news_of : Egress Global → Result (Unit {0}) SendFault → Option (ℕ × StreamNews)
news_of (Media version item to ssrc number bytes resent_by) (Ok done) =
    Some (ssrc, Packet to (length bytes) (is_some resent_by))
news_of (Media version item to ssrc number bytes resent_by) (Err fault) = None
news_of (Control version item to ssrc bytes) answer = None
news_of (Note version item from note) answer = Some (note.out_ssrc, Report (record { from = from; note = note }))

-- the counts with what is new: one packet more, its octets, and one more that was sent again if this one was; or
-- another last report. A report is kept while packets go to where it came from
abbrev pub after_news : StreamNews → StreamNumbers → StreamNumbers
after_news (Packet to octets is_resent) n = record {
  packets = plus n.packets 1;
  octets = plus n.octets octets;
  resent = plus n.resent (if is_resent then 1 else 0);
  to = Some to;
  report = kept_report to n.report;
}
after_news (Report reported) n =
    record n { report = if is_receiver n.to reported.from then Some reported else n.report }

-- what is kept of a stream, with what is new of it and the number of that
abbrev pub after_more : StreamNews → (number : ℕ) → KeptStream → KeptStream
after_more news number kept = record { numbers = after_news news kept.numbers; last = number }

-- what is kept of a stream of which this is the first that is counted
abbrev pub first_kept : StreamNews → (number : ℕ) → KeptStream
first_kept news number = record { numbers = after_news news no_numbers; last = number }

-- nothing was counted
abbrev pub no_streams : StreamsOf
no_streams = record { entries = []; news = 0; left_out = 0 }

-- with one more left out
abbrev pub one_left_out : StreamsOf → StreamsOf
one_left_out old = record { entries = old.entries; news = old.news; left_out = plus old.left_out 1 }

-- What is new was counted of a stream that is kept, and has this number. It stands where it stood, as do all others.
pub record IsRenewed (ssrc : ℕ) (news : StreamNews) (number : ℕ) (old new : List (ℕ × KeptStream)) : Type 0 where
  pub before : List (ℕ × KeptStream)
  pub kept : KeptStream
  pub behind : List (ℕ × KeptStream)
  pub was : old ≡ before ++ (ssrc, kept) ∷ behind
  pub is : new ≡ before ++ (ssrc, after_more news number kept) ∷ behind

-- As many streams were kept as may be. The one of which nothing new came for longest is forgotten.
pub record IsOneForgotten (old new : List (ℕ × KeptStream)) : Type 0 where
  pub full : length old ≡ most_streams
  pub before : List (ℕ × KeptStream)
  pub forgotten : ℕ × KeptStream
  pub behind : List (ℕ × KeptStream)
  pub was : old ≡ before ++ forgotten ∷ behind
  pub oldest : All (λ other. forgotten.1.last ≤ other.1.last) old
  pub is : new ≡ before ++ behind

-- There is space for one more stream: there was before, or one is forgotten for it.
abbrev pub HasSpace : List (ℕ × KeptStream) → List (ℕ × KeptStream) → Type 0
HasSpace old new = ((length old < most_streams) × (new ≡ old)) ⊎ IsOneForgotten old new

-- This is kept of a stream, behind the others.
abbrev pub IsKeptBehind : ℕ → KeptStream → List (ℕ × KeptStream) → List (ℕ × KeptStream) → Type 0
IsKeptBehind ssrc kept old new =
    (others : List (ℕ × KeptStream)) × HasSpace old others × (new ≡ others ++ (ssrc, kept) ∷ [])

-- What is new was counted: of a stream that is kept, or of one that is kept from here on.
pub record HasCounted (ssrc : ℕ) (news : StreamNews) (old new : StreamsOf) : Type 0 where
  pub more : new.news ≡ plus old.news 1
  pub left_out : new.left_out ≡ old.left_out
  pub entries : IsRenewed ssrc news new.news old.entries new.entries
      ⊎ ((lookup (nat_eq ssrc) old.entries ≡ None)
      × IsKeptBehind ssrc (first_kept news new.news) old.entries new.entries)

-- What is new of a stream was counted. It may be left out only where nothing was kept of the stream.
abbrev pub HasNews : ℕ → StreamNews → StreamsOf → StreamsOf → Type 0
HasNews ssrc news old new =
    HasCounted ssrc news old new ⊎ ((lookup (nat_eq ssrc) old.entries ≡ None) × (new ≡ one_left_out old))

-- What is new was counted of its stream, if anything is.
abbrev pub AreNews : Option (ℕ × StreamNews) → StreamsOf → StreamsOf → Type 0
AreNews None old new = new ≡ old
AreNews (Some news) old new = HasNews news.0 news.1 old new

-- What a lane sent was counted, by what came of the last try.
abbrev pub IsCounted : Egress Global → Result (Unit {0}) SendFault → StreamsOf → StreamsOf → Type 0
IsCounted egress answer old new = AreNews (news_of egress answer) old new

-- a stream with what is counted of it
abbrev pub numbers_in : ℕ × KeptStream → ℕ × StreamNumbers
numbers_in entry = (entry.0, entry.1.numbers)
