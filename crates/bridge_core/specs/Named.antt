-- Outgoing streams by name, and what is sent on them for the first time (own; two streams of one SSRC are told apart by
-- what they carry).
use Rattle.std.specs.Prelude.{ℕ, Bool, true, false, if◌then◌else◌, nat_eq, List, [], filter}
use Rattle.std.specs.List.{flat_map}
use Rattle.desk_rows.specs.Desk.{Desk}
use Rattle.media_items.specs.Inputs.{Input}
use Rattle.bridge_core.specs.Sent.{Sent, about}
use Rattle.sender_feedback.specs.Upstream.{Asker}
use Rattle.media_items.specs.Inputs.Input.{frame, audio, tick, nack, block, pli, report, renew}
use Rattle.bridge_core.specs.Lanes.{sends_at}
use Rattle.bridge_core.specs.Steps.{Step, along, visits, visit_after}

-- what a stream carries
pub data StreamKind : Type 0 where
  video : StreamKind
  mix : StreamKind

-- the name of a stream: what it carries, and its SSRC
pub record Name : Type 0 where
  pub kind : StreamKind
  pub ssrc : ℕ

-- it is about the stream of this SSRC
abbrev pub is_on : ℕ → Sent → Bool
is_on ssrc sent = nat_eq (about sent) ssrc

-- all that is sent about the stream of an SSRC, in order
abbrev pub sent_on : ℕ → List (List Sent) → List Sent
sent_on ssrc sent = filter (is_on ssrc) (flat_map (λ es. es) sent)

-- an input of which packets go out on streams of this kind for the first time: a frame goes out on video streams and a
-- tick on mixes, and no other input on any
abbrev pub begins : StreamKind → Input → Bool
begins StreamKind.video (frame f) = true
begins StreamKind.video (audio sound) = false
begins StreamKind.video (tick moment) = false
begins StreamKind.video (nack request) = false
begins StreamKind.video (block told) = false
begins StreamKind.video (pli loss) = false
begins StreamKind.video (report moment) = false
begins StreamKind.video renew = false
begins StreamKind.mix (frame f) = false
begins StreamKind.mix (audio sound) = false
begins StreamKind.mix (tick moment) = true
begins StreamKind.mix (nack request) = false
begins StreamKind.mix (block told) = false
begins StreamKind.mix (pli loss) = false
begins StreamKind.mix (report moment) = false
begins StreamKind.mix renew = false

-- what is sent on a stream for the first time at a step
abbrev pub firsts_at : Asker → ℕ → Desk → Name → List Step → Step → List Sent
firsts_at who lanes start name before (Step.publish next) = []
firsts_at who lanes start name before (Step.item lane input) =
    if begins name.kind input
    then filter (is_on name.ssrc)
    (sends_at who lane lanes (visits lane start before) (visit_after start before lane input)) else []

-- what is sent on a stream for the first time, in order
abbrev pub firsts : Asker → ℕ → Desk → Name → List Step → List Sent
firsts who lanes start name steps = along (firsts_at who lanes start name) [] steps
