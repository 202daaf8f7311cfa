-- Why packets of a source were dropped (own).
use Rattle.std.specs.Prelude.{ℕ, if◌then◌else◌, List, fold, Option, None, Some}
use Rattle.rtp_codec.specs.declared.writing.Header.{Header}
use Rattle.bridge_stats.specs.declared.taken.TakenIn.{TakenIn}
use Rattle.bridge_stats.specs.declared.drops.DropNumbers.{DropNumbers}
use Rattle.ingress.specs.declared.outcome_kind.OutcomeKind.TheVariants.{BadPayload, Spent, Probation, Jump}
use Rattle.bridge_stats.specs.Counts.{has_kind, datagrams_with}

-- the payload type of a packet; what has no RTP header has none
abbrev pub type_of : Option Header → Option ℕ
type_of None = None
type_of (Some header) = Some header.pt

-- the payload type of the last one of these datagrams that had a bad payload, if one had
abbrev pub bad_type : List TakenIn → Option ℕ
bad_type all = fold (λ before taken. if has_kind BadPayload taken then type_of taken.header else before) None all

-- why packets of a source were dropped of which these datagrams came: how many had each of the outcomes by which a
-- source's packet is dropped, and the payload type of the last bad payload
abbrev pub drops_of : List TakenIn → DropNumbers
drops_of all = record {
  bad_payload = datagrams_with BadPayload all;
  bad_type = bad_type all;
  spent = datagrams_with Spent all;
  probation = datagrams_with Probation all;
  jump = datagrams_with Jump all;
}
