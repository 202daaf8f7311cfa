-- The table of outcomes: what each says of a datagram (own).
use Rattle.std.specs.Prelude.{Bool, true, false}
use Rattle.ingress.specs.declared.outcome.Outcome.{Outcome}
use Rattle.ingress.specs.declared.outcome.Outcome.TheVariants as outcomes
use Rattle.ingress.specs.declared.outcome_kind.OutcomeKind.{OutcomeKind}
use Rattle.ingress.specs.declared.outcome_kind.OutcomeKind.TheVariants as kinds
use Rattle.ingress.specs.declared.outcome_class.OutcomeClass.{OutcomeClass}
use Rattle.ingress.specs.declared.outcome_class.Whose.{Whose}
use Rattle.ingress.specs.declared.outcome_class.Whose.TheVariants.{Nobody, Stranger, Source, Member}
use Rattle.ingress.specs.declared.outcome_class.Disposition.{Disposition}
use Rattle.ingress.specs.declared.outcome_class.Disposition.TheVariants.{Dropped, Probation, OnTime, Late, Duplicate}
use Rattle.ingress.specs.declared.outcome_class.Disposition.TheVariants.{Restarted, Compound}
use Rattle.ingress.specs.OutcomeKinds.{rtp_kind, rtcp_kind}

-- a datagram of nobody: it was dropped before its sender was looked up
abbrev pub from_nobody : OutcomeKind → OutcomeClass
from_nobody kind = record { kind = kind; whose = Nobody; disposition = Dropped }

-- a datagram of a stranger: its sender is no source, or no member
abbrev pub from_stranger : OutcomeKind → OutcomeClass
from_stranger kind = record { kind = kind; whose = Stranger; disposition = Dropped }

-- a packet of a source, with this disposition
abbrev pub from_source : OutcomeKind → Disposition → OutcomeClass
from_source kind disposition = record { kind = kind; whose = Source; disposition = disposition }

-- a datagram of a member, with this disposition
abbrev pub from_member : OutcomeKind → Disposition → OutcomeClass
from_member kind disposition = record { kind = kind; whose = Member; disposition = disposition }

-- The table. Its columns are the outcome's kind, whose the datagram is, and what becomes of it.
abbrev pub outcome_class : Outcome → OutcomeClass
outcome_class outcomes.TooLong = from_nobody kinds.TooLong
outcome_class outcomes.Neither = from_nobody kinds.Neither
outcome_class (outcomes.BadRtp fault) = from_nobody (rtp_kind fault)
outcome_class (outcomes.BadRtcp fault) = from_nobody (rtcp_kind fault)
outcome_class outcomes.Unknown = from_stranger kinds.Unknown
outcome_class outcomes.BadPayload = from_source kinds.BadPayload Dropped
outcome_class outcomes.Spent = from_source kinds.Spent Dropped
outcome_class outcomes.Probation = from_source kinds.Probation Probation
outcome_class (outcomes.Accepted ext) = from_source kinds.Accepted (OnTime ext)
outcome_class (outcomes.Late ext) = from_source kinds.Late (Late ext)
outcome_class (outcomes.Duplicate ext) = from_source kinds.Duplicate (Duplicate ext)
outcome_class outcomes.Jump = from_source kinds.Jump Dropped
outcome_class (outcomes.Restarted ext) = from_source kinds.Restarted (Restarted ext)
outcome_class (outcomes.Rtcp packets) = from_member kinds.Rtcp (Compound packets)

-- the kind of an outcome: its name, without the numbers that it carries
abbrev pub outcome_kind : Outcome → OutcomeKind
outcome_kind outcome = (outcome_class outcome).kind

-- whose a datagram with this outcome is
abbrev pub whose : Outcome → Whose
whose outcome = (outcome_class outcome).whose

-- what becomes of it
abbrev pub disposition_of : Outcome → Disposition
disposition_of outcome = (outcome_class outcome).disposition

-- a packet with this disposition counts for its source
abbrev pub counts : Disposition → Bool
counts Dropped = false
counts Probation = false
counts (OnTime ext) = true
counts (Late ext) = true
counts (Duplicate ext) = true
counts (Restarted ext) = true
counts (Compound packets) = false

-- a packet with this outcome counts for its source
abbrev pub is_accepted : Outcome → Bool
is_accepted outcome = counts (disposition_of outcome)

-- a packet with this disposition counts, is neither late nor a duplicate, and its source goes on with it
abbrev pub keeps_time : Disposition → Bool
keeps_time Dropped = false
keeps_time Probation = false
keeps_time (OnTime ext) = true
keeps_time (Late ext) = false
keeps_time (Duplicate ext) = false
keeps_time (Restarted ext) = false
keeps_time (Compound packets) = false

-- a packet with this outcome counts, is neither late nor a duplicate, and its source goes on with it
abbrev pub is_on_time : Outcome → Bool
is_on_time outcome = keeps_time (disposition_of outcome)

-- a packet with this disposition came too late
abbrev pub comes_late : Disposition → Bool
comes_late Dropped = false
comes_late Probation = false
comes_late (OnTime ext) = false
comes_late (Late ext) = true
comes_late (Duplicate ext) = false
comes_late (Restarted ext) = false
comes_late (Compound packets) = false

-- a packet with this outcome came too late
abbrev pub is_late : Outcome → Bool
is_late outcome = comes_late (disposition_of outcome)

-- a packet with this disposition repeats a number
abbrev pub repeats : Disposition → Bool
repeats Dropped = false
repeats Probation = false
repeats (OnTime ext) = false
repeats (Late ext) = false
repeats (Duplicate ext) = true
repeats (Restarted ext) = false
repeats (Compound packets) = false

-- a packet with this outcome repeats a number
abbrev pub is_duplicate : Outcome → Bool
is_duplicate outcome = repeats (disposition_of outcome)
