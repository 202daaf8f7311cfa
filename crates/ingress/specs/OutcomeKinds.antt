-- The kinds of outcomes, each with its name (own).
use Rattle.std.specs.Prelude.{ℕ, List, codes}
use Rattle.rtp_codec.specs.declared.fault.RtpFault.{RtpFault}
use Rattle.rtp_codec.specs.declared.fault.RtpFault.TheVariants as rtp
use Rattle.rtcp_codec.specs.declared.fault.RtcpFault.{RtcpFault}
use Rattle.rtcp_codec.specs.declared.fault.RtcpFault.TheVariants as rtcp
use Rattle.ingress.specs.declared.outcome_kind.OutcomeKind.{OutcomeKind}
use Rattle.ingress.specs.declared.outcome_kind.OutcomeKind.TheVariants.{TooLong, Neither, RtpShort, RtpVersion, RtpCsrc}
use Rattle.ingress.specs.declared.outcome_kind.OutcomeKind.TheVariants.{RtpExtension, RtpPadding, RtcpShort}
use Rattle.ingress.specs.declared.outcome_kind.OutcomeKind.TheVariants.{RtcpVersion, RtcpFirst, RtcpLength}
use Rattle.ingress.specs.declared.outcome_kind.OutcomeKind.TheVariants.{RtcpPadding, RtcpBody, RtcpOutOfMemory}
use Rattle.ingress.specs.declared.outcome_kind.OutcomeKind.TheVariants.{Unknown, BadPayload, Spent, Probation}
use Rattle.ingress.specs.declared.outcome_kind.OutcomeKind.TheVariants.{Accepted, Late, Duplicate, Jump, Restarted}
use Rattle.ingress.specs.declared.outcome_kind.OutcomeKind.TheVariants.{Rtcp}

-- why a datagram is no RTP packet
abbrev pub rtp_kind : RtpFault → OutcomeKind
rtp_kind rtp.Short = RtpShort
rtp_kind rtp.Version = RtpVersion
rtp_kind rtp.Csrc = RtpCsrc
rtp_kind rtp.Extension = RtpExtension
rtp_kind rtp.Padding = RtpPadding

-- why a datagram is no RTCP compound
abbrev pub rtcp_kind : RtcpFault → OutcomeKind
rtcp_kind rtcp.Short = RtcpShort
rtcp_kind rtcp.Version = RtcpVersion
rtcp_kind rtcp.First = RtcpFirst
rtcp_kind rtcp.Length = RtcpLength
rtcp_kind rtcp.Padding = RtcpPadding
rtcp_kind rtcp.Body = RtcpBody
rtcp_kind rtcp.OutOfMemory = RtcpOutOfMemory

-- the name of a kind: the words by which a script tells of the outcome, without the numbers that it carries
abbrev pub kind_name : OutcomeKind → List ℕ
kind_name TooLong = codes "dropped TooLong"
kind_name Neither = codes "dropped Neither"
kind_name RtpShort = codes "dropped rtp 1 Short"
kind_name RtpVersion = codes "dropped rtp 2 Version"
kind_name RtpCsrc = codes "dropped rtp 3 Csrc"
kind_name RtpExtension = codes "dropped rtp 4 Extension"
kind_name RtpPadding = codes "dropped rtp 5 Padding"
kind_name RtcpShort = codes "dropped rtcp 1 Short"
kind_name RtcpVersion = codes "dropped rtcp 2 Version"
kind_name RtcpFirst = codes "dropped rtcp 3 First"
kind_name RtcpLength = codes "dropped rtcp 4 Length"
kind_name RtcpPadding = codes "dropped rtcp 5 Padding"
kind_name RtcpBody = codes "dropped rtcp 6 Body"
kind_name RtcpOutOfMemory = codes "dropped rtcp 7 OutOfMemory"
kind_name Unknown = codes "dropped Unknown"
kind_name BadPayload = codes "dropped BadPayload"
kind_name Spent = codes "dropped Spent"
kind_name Probation = codes "probation"
kind_name Accepted = codes "accepted"
kind_name Late = codes "late"
kind_name Duplicate = codes "duplicate"
kind_name Jump = codes "jump"
kind_name Restarted = codes "restarted"
kind_name Rtcp = codes "rtcp"
