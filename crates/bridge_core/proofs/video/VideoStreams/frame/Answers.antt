use Rattle.std.proofs.Common.{◌≡◌, ◌++◌, List, map, ap, sym, subst, ◌∙◌}
use Rattle.std.specs.Prelude.{filter, OnErr, Result, Ok, Err}
use Rattle.topology.specs.declared.receivers.Receiver.{Receiver}
use Rattle.topology.specs.Receivers.{receivers, AreDistinct}
use Rattle.media_items.specs.Frame.{SourceFrame}
use Rattle.media_items.specs.OwnStreams.{is_mine}
use Rattle.bridge_core.specs.Sent.{sent_of}
use Rattle.bridge_core.specs.LaneState.{StreamList, stream_at}
use Rattle.bridge_core.specs.inner.Readies.{receivers_of, AreNext, kept_after, sent_for}
use Rattle.bridge_core.proofs.Readies.{AreDistinct-filter}
use Rattle.bridge_core.proofs.Handled.{frame_answered}
use Rattle.bridge_core.proofs.video.VideoStreams.frame.Goals as goal

on_err : {T E : Type 0} (P : Type 0) (r : Result T E) → P → OnErr r P
on_err P (Ok x) p = tt
on_err P (Err e) p = p

pub returns-in_err-reserve-clause-err : goal.returns-in_err-reserve-clause-err
returns-in_err-reserve-clause-err g c =
    on_err _ c.from_residual-in_err-reserve.result (c.reserve.ensures.entries ∙ c.self.view_is)

pub commit_all-requires-clause-apart : goal.commit_all-requires-clause-apart
commit_all-requires-clause-apart g c =
    let desk = c.args.visit.now.rows.now in
    let f = c.args.frame.now in
    let lane = c.args.visit.now.place.lane in
    let lanes = c.args.visit.now.place.lanes in
    let ready = c.in_ok-ready.ready.items in
    let share = λ (rs : List Receiver). filter (λ (r : Receiver). is_mine lane lanes r.slot.out_ssrc) rs in
    let same : receivers_of ready ≡ share (receivers desk f.source f.address) =
    c.in_ok-ready.ensures.receivers ∙ c.deref.ensures.value ∙ c.keep_mine.ensures
    ∙ ap share (c.in_ok-receivers.ensures.receivers
    ∙ ap (λ (f : SourceFrame). receivers desk f.source f.address) c.frame.view_is) in
    subst AreDistinct (sym same) (AreDistinct-filter _ (receivers desk f.source f.address)
    (c.receivers_are_distinct.ensures desk f.source f.address c.receivers_of.ensures.good))

pub returns-clause-sends : goal.returns-clause-sends
returns-clause-sends g c =
    let desk = c.args.visit.now.rows.now in
    let f = c.args.frame.now in
    let lane = c.args.visit.now.place.lane in
    let lanes = c.args.visit.now.place.lanes in
    let ready = c.in_ok-ready.ready.items in
    let share = λ (rs : List Receiver). filter (λ (r : Receiver). is_mine lane lanes r.slot.out_ssrc) rs in
    let same : receivers_of ready ≡ share (receivers desk f.source f.address) =
    c.in_ok-ready.ensures.receivers ∙ c.deref.ensures.value ∙ c.keep_mine.ensures
    ∙ ap share (c.in_ok-receivers.ensures.receivers
    ∙ ap (λ (f : SourceFrame). receivers desk f.source f.address) c.frame.view_is) in
    let old = c.args.self.now in
    let new = c.commit_all.new.table.entries in
    let table = c.reserve.ensures.entries ∙ c.self.view_is in
    frame_answered c.args.visit.now old new f ready _
    (c.receivers_are_distinct.ensures desk f.source f.address c.receivers_of.ensures.good)
    (λ k. c.all_who_chose_receive.ensures desk f.source f.address k c.receivers_of.ensures.good)
    same
    (subst (λ (streams : StreamList). AreNext streams c.args.visit.now.stamp f ready) c.self.view_is
    c.in_ok-ready.ensures.next)
    (λ k. c.commit_all.ensures k ∙ ap (λ (streams : StreamList). kept_after k ready (stream_at k streams)) table)
    (c.in_ok-ready.ensures.out ∙ ap (λ es. map sent_of es ++ sent_for ready) c.in_ok-out.ensures.items)
