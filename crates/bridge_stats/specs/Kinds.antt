-- The kinds of outcomes, each of which has a line (own).
use Rattle.std.specs.Prelude.{ℕ, List, [], ◌∷◌}
use Rattle.ingress.specs.declared.outcome_kind.OutcomeKind.{OutcomeKind}
use Rattle.ingress.specs.declared.outcome_kind.OutcomeKind.TheVariants.{TooLong, Neither, RtpShort, RtpVersion, RtpCsrc}
use Rattle.ingress.specs.declared.outcome_kind.OutcomeKind.TheVariants.{RtpExtension, RtpPadding, RtcpShort}
use Rattle.ingress.specs.declared.outcome_kind.OutcomeKind.TheVariants.{RtcpVersion, RtcpFirst, RtcpLength}
use Rattle.ingress.specs.declared.outcome_kind.OutcomeKind.TheVariants.{RtcpPadding, RtcpBody, RtcpOutOfMemory}
use Rattle.ingress.specs.declared.outcome_kind.OutcomeKind.TheVariants.{Unknown, BadPayload, Spent, Probation}
use Rattle.ingress.specs.declared.outcome_kind.OutcomeKind.TheVariants.{Accepted, Late, Duplicate, Jump, Restarted}
use Rattle.ingress.specs.declared.outcome_kind.OutcomeKind.TheVariants.{Rtcp}

-- how many kinds there are
abbrev pub kinds : ℕ
kinds = 24

-- the place of a kind's line among those of all kinds
abbrev pub line_place : OutcomeKind → ℕ
line_place TooLong = 0
line_place Neither = 1
line_place RtpShort = 2
line_place RtpVersion = 3
line_place RtpCsrc = 4
line_place RtpExtension = 5
line_place RtpPadding = 6
line_place RtcpShort = 7
line_place RtcpVersion = 8
line_place RtcpFirst = 9
line_place RtcpLength = 10
line_place RtcpPadding = 11
line_place RtcpBody = 12
line_place RtcpOutOfMemory = 13
line_place Unknown = 14
line_place BadPayload = 15
line_place Spent = 16
line_place Probation = 17
line_place Accepted = 18
line_place Late = 19
line_place Duplicate = 20
line_place Jump = 21
line_place Restarted = 22
line_place Rtcp = 23

-- all kinds, in the order of their lines
abbrev pub all_kinds : List OutcomeKind
all_kinds =
    TooLong ∷ Neither ∷ RtpShort ∷ RtpVersion ∷ RtpCsrc ∷ RtpExtension ∷ RtpPadding ∷ RtcpShort ∷ RtcpVersion ∷
    RtcpFirst ∷ RtcpLength ∷ RtcpPadding ∷ RtcpBody ∷ RtcpOutOfMemory ∷ Unknown ∷ BadPayload ∷ Spent ∷ Probation ∷
    Accepted ∷ Late ∷ Duplicate ∷ Jump ∷ Restarted ∷ Rtcp ∷ []
