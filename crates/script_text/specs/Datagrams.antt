-- What is printed for a datagram that was taken in (own): its outcome, and what is sent back.
use Rattle.std.specs.Prelude.{ℕ, List, [], ◌∷◌, codes}
use Rattle.rtp_codec.specs.declared.address.Address.{Address as Endpoint}
use Rattle.ingress.specs.declared.outcome.Outcome.{Outcome}
use Rattle.ingress.specs.declared.outcome_class.Disposition.{Disposition}
use Rattle.ingress.specs.declared.outcome_class.Disposition.TheVariants.{Dropped, Probation, OnTime, Late, Duplicate}
use Rattle.ingress.specs.declared.outcome_class.Disposition.TheVariants.{Restarted, Compound}
use Rattle.ingress.specs.OutcomeKinds.{kind_name}
use Rattle.ingress.specs.Outcomes.{outcome_kind, disposition_of}
use Rattle.desk_text.specs.declared.value.Value.TheVariants.{U64, Address}
use Rattle.desk_text.specs.Text.{Word, fixed, value, signed, hex, line_text}

-- the number that a line tells of a datagram: its extended sequence number, or how many packets a compound has
abbrev pub number_words : Disposition → List Word
number_words Dropped = []
number_words Probation = []
number_words (OnTime ext) = signed ext ∷ []
number_words (Late ext) = signed ext ∷ []
number_words (Duplicate ext) = signed ext ∷ []
number_words (Restarted ext) = signed ext ∷ []
number_words (Compound packets) = value (U64 packets) ∷ []

-- the words of an outcome, behind the first
abbrev pub outcome_words : Outcome → List Word
outcome_words outcome = fixed (kind_name (outcome_kind outcome)) ∷ number_words (disposition_of outcome)

-- the line of an outcome
abbrev pub outcome_text : Outcome → List ℕ
outcome_text outcome = line_text (fixed (codes "rx") ∷ outcome_words outcome)

-- the line of a datagram that is sent back to an address
abbrev pub up_text : Endpoint × List ℕ → List ℕ
up_text d = line_text (fixed (codes "up") ∷ value (Address d.0) ∷ hex d.1 ∷ [])
