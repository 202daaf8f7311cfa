-- A lane's sender reports, in the words of its functions.
use Rattle.std.specs.Prelude.{ℕ, if◌then◌else◌, List, [], ◌++◌, Option}
use Rattle.std.specs.List.{flat_map}
use Rattle.desk_rows.specs.declared.row.Member.{Member as MemberRow}
use Rattle.desk_rows.specs.declared.row.Slot.{Slot as SlotRow}
use Rattle.forward_rewrite.specs.declared.counts.Counts.{Counts}
use Rattle.topology.specs.Receivers.{slots_to}
use Rattle.media_items.specs.OwnStreams.{is_mine}
use Rattle.mixer.specs.Mixes.{turns, counts_of as mix_counts_of}
use Rattle.sender_feedback.specs.Upstream.{Asker}
use Rattle.media_items.specs.Inputs.{Input}
use Rattle.bridge_core.specs.Sent.{Sent}
use Rattle.bridge_core.specs.Lanes.{Visit, given_of, routed, video_counts, tells}
use Rattle.bridge_core.specs.declared.reporting.Reporting.{Reporting}
use Rattle.bridge_core.specs.inner.Visits.{visit_on, asker_of}

-- a stream's sender report, where the stream is the lane's
abbrev pub own_tells : Asker → (lane lanes : ℕ) → Visit → (moment : ℕ) → MemberRow → (ssrc : ℕ) → Option Counts
    → List Sent
own_tells who lane lanes visit moment m ssrc counts =
    if is_mine lane lanes ssrc then tells who visit moment m ssrc counts else []

-- a lane's share of the sender reports to a member: of its mix and then of its slots' streams, those that are the
-- lane's
abbrev pub lanes_reports : Asker → (lane lanes : ℕ) → List Visit → Visit → (moment : ℕ) → MemberRow → List Sent
lanes_reports who lane lanes before visit moment m =
    own_tells who lane lanes visit moment m m.out_audio
    (mix_counts_of m.out_audio (turns m.out_audio (given_of before)))
    ++ flat_map
    (λ s. own_tells who lane lanes visit moment m s.out_ssrc (video_counts s.out_ssrc (routed s.out_ssrc before)))
    (slots_to visit.desk m.member)

-- the visit of a report
abbrev pub report_visit : {A : Type 0} → Reporting A → Visit
report_visit due = visit_on due.visit (Input.report due.moment)

-- the sender report of a stream of the lane, to a member
abbrev pub own_report : {A : Type 0} → Reporting A → MemberRow → (ssrc : ℕ) → Option Counts → List Sent
own_report due m ssrc counts =
    own_tells (asker_of due.visit) due.visit.place.lane due.visit.place.lanes (report_visit due) due.moment m ssrc
    counts

-- that of a member's mix, after these items
abbrev pub mix_report : {A : Type 0} → Reporting A → List Visit → MemberRow → List Sent
mix_report due before m = own_report due m m.out_audio (mix_counts_of m.out_audio (turns m.out_audio (given_of before)))

-- that of a slot's stream
abbrev pub slot_report : {A : Type 0} → Reporting A → List Visit → MemberRow → SlotRow → List Sent
slot_report due before m s = own_report due m s.out_ssrc (video_counts s.out_ssrc (routed s.out_ssrc before))

-- those of all these slots' streams
abbrev pub slot_reports : {A : Type 0} → Reporting A → List Visit → MemberRow → List SlotRow → List Sent
slot_reports due before m slots = flat_map (slot_report due before m) slots

-- all that go to a member
abbrev pub member_reports : {A : Type 0} → Reporting A → List Visit → MemberRow → List Sent
member_reports due before m =
    lanes_reports (asker_of due.visit) due.visit.place.lane due.visit.place.lanes before (report_visit due) due.moment m
