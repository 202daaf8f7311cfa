-- What was sent for the items of a list of steps: a list for each item (own).
use Rattle.std.specs.Prelude.{if◌then◌else◌, List, [], ◌∷◌, ◌++◌, filter}
use Rattle.bridge_core.specs.Sent.{Sent}
use Rattle.bridge_core.specs.Steps.{Step}
use Rattle.bridge_core.specs.Named.{Name, begins, is_on}
use Rattle.bridge_core.specs.Headline.{HaveNoGap, numbers}

-- what was sent on a stream for the first time: all that is about it, of what was sent for the items that go out on it
abbrev pub first_sent : Name → List Step → List (List Sent) → List Sent
first_sent name [] sent = []
first_sent name (Step.publish next ∷ steps) sent = first_sent name steps sent
first_sent name (Step.item lane input ∷ steps) [] = []
first_sent name (Step.item lane input ∷ steps) (now ∷ later) =
    (if begins name.kind input then filter (is_on name.ssrc) now else []) ++ first_sent name steps later

-- What was sent on each stream for the first time is numbered without a gap.
abbrev pub HaveNoGaps : List Step → List (List Sent) → Type 0
HaveNoGaps steps sent = (name : Name) → HaveNoGap (numbers (first_sent name steps sent))
