use Rattle.std.proofs.Common.{◌≡◌, ◌≢◌, ⊎_elim, ◌∙◌, List, length, vec_len, map, All, ap, sym, subst, arith}
use Rattle.std.proofs.lemmas.Grind.{common_steps}
use Rattle.media_workers.specs.declared.fault.StartFault.{StartFault}
use Rattle.std.specs.List.{AllByRecursion}
use Rattle.std.proofs.lemmas.List.{length-map}
use Rattle.published_desk.specs.Published.{ReaderOf}
use Rattle.sender_feedback.specs.Upstream.{Asker}
use Rattle.media_workers.specs.LaneRuns.{LaneNow}
use Rattle.media_workers.specs.Bridges.{AreNew}
use Rattle.media_front.specs.FedLanes.{IsFresh, lanes_in}
use Rattle.media_front.specs.inner.Statuses.{lanes_by}
use Rattle.media_front.proofs.StartLemmas.{lanes_started, fresh_started, All_mapped, fresh_of}
use Rattle.media_front.proofs.starting.LaneFeed+N+SleepPace+R+unit+S.start.Goals as goal

pub start-requires-clause-publisher : goal.start-requires-clause-publisher
start-requires-clause-publisher g c κs within =
    let publisher = g.N.PublisherName.publisher in
    All_mapped (λ (r : ReaderOf). r.publisher ≡ publisher) (λ (l : LaneNow). l.reader) c.in-Ok-lanes_for.lanes.items
    (subst (λ (rs : List ReaderOf). All (λ (r : ReaderOf). r.publisher ≡ publisher) rs)
    (sym c.in-Ok-lanes_for.ensures.readers) c.requires.publisher)

pub invariant_of-result : goal.invariant_of-result
invariant_of-result g c =
    let lanes = c.in-Ok-lanes_for.lanes in
    let same : length lanes.items ≡ length c.args.readers.items =
    sym (length-map lanes.items (λ (l : LaneNow). l.reader)) ∙ ap length c.in-Ok-lanes_for.ensures.readers in
    let many : length c.in-Ok-start.bridge ≡ c.len-count.result =
    omega (arith, c.in-Ok-start.ensures.len, lanes.ok, same, c.args.readers.ok, c.len-count.ensures) in (
      omega (arith, many, c.in-Ok.ensures.len),
      omega (arith, many, c.in-Ok-signals_for.ensures),
      omega (arith, many, c.len-count.ensures, c.requires.few),
      fresh_of g.N.PublisherName.publisher c.in-Ok.statuses.items c.in-Ok.ensures.fresh,
    )

pub returns-in-Ok-start-clause-new : goal.returns-in-Ok-start-clause-new
returns-in-Ok-start-clause-new g c =
    let lanes = c.in-Ok-lanes_for.lanes in
    let paces = c.in-Ok-outfits_for.outfits in
    let ts = c.in-Ok.statuses.items in
    let same : length lanes.items ≡ length c.args.readers.items =
    sym (length-map lanes.items (λ (l : LaneNow). l.reader)) ∙ ap length c.in-Ok-lanes_for.ensures.readers in
    let one : length paces.items ≡ length lanes.items =
    omega (
      arith,
      paces.ok,
      c.in-Ok-outfits_for.ensures.len,
      c.requires.many,
      c.args.readers.ok,
      c.args.sinks.ok,
      c.in-Ok-signals_for.ensures,
      c.len-count.ensures,
      same,
      c.args.readers.ok,
    ) in
    let two : length ts ≡ length lanes.items =
    omega (arith, c.in-Ok.statuses.ok, c.in-Ok.ensures.len, c.len-count.ensures, same, c.args.readers.ok) in
    let started : lanes_in (lanes_by c.in-Ok-start.bridge ts) ≡ lanes.items =
    ap (λ b. lanes_in (lanes_by b ts)) c.in-Ok-start.ensures.started
    ∙ lanes_started lanes.items paces.items ts one two in
    subst AreNew (sym started) c.in-Ok-lanes_for.ensures.new

pub returns-in-Ok-start-clause-readers : goal.returns-in-Ok-start-clause-readers
returns-in-Ok-start-clause-readers g c =
    let lanes = c.in-Ok-lanes_for.lanes in
    let paces = c.in-Ok-outfits_for.outfits in
    let ts = c.in-Ok.statuses.items in
    let same : length lanes.items ≡ length c.args.readers.items =
    sym (length-map lanes.items (λ (l : LaneNow). l.reader)) ∙ ap length c.in-Ok-lanes_for.ensures.readers in
    let one : length paces.items ≡ length lanes.items =
    omega (
      arith,
      paces.ok,
      c.in-Ok-outfits_for.ensures.len,
      c.requires.many,
      c.args.readers.ok,
      c.args.sinks.ok,
      c.in-Ok-signals_for.ensures,
      c.len-count.ensures,
      same,
      c.args.readers.ok,
    ) in
    let two : length ts ≡ length lanes.items =
    omega (arith, c.in-Ok.statuses.ok, c.in-Ok.ensures.len, c.len-count.ensures, same, c.args.readers.ok) in
    let started : lanes_in (lanes_by c.in-Ok-start.bridge ts) ≡ lanes.items =
    ap (λ b. lanes_in (lanes_by b ts)) c.in-Ok-start.ensures.started
    ∙ lanes_started lanes.items paces.items ts one two in
    ap (map (λ (l : LaneNow). l.reader)) started ∙ c.in-Ok-lanes_for.ensures.readers

pub returns-in-Ok-start-clause-who : goal.returns-in-Ok-start-clause-who
returns-in-Ok-start-clause-who g c =
    let lanes = c.in-Ok-lanes_for.lanes in
    let paces = c.in-Ok-outfits_for.outfits in
    let ts = c.in-Ok.statuses.items in
    let same : length lanes.items ≡ length c.args.readers.items =
    sym (length-map lanes.items (λ (l : LaneNow). l.reader)) ∙ ap length c.in-Ok-lanes_for.ensures.readers in
    let one : length paces.items ≡ length lanes.items =
    omega (
      arith,
      paces.ok,
      c.in-Ok-outfits_for.ensures.len,
      c.requires.many,
      c.args.readers.ok,
      c.args.sinks.ok,
      c.in-Ok-signals_for.ensures,
      c.len-count.ensures,
      same,
      c.args.readers.ok,
    ) in
    let two : length ts ≡ length lanes.items =
    omega (arith, c.in-Ok.statuses.ok, c.in-Ok.ensures.len, c.len-count.ensures, same, c.args.readers.ok) in
    let started : lanes_in (lanes_by c.in-Ok-start.bridge ts) ≡ lanes.items =
    ap (λ b. lanes_in (lanes_by b ts)) c.in-Ok-start.ensures.started
    ∙ lanes_started lanes.items paces.items ts one two in
    let name : Asker = record { ssrc = c.args.settings.now.bridge_ssrc; cname = c.args.settings.now.cname } in
    subst (λ (ls : List LaneNow). All (λ (l : LaneNow). l.state.who ≡ name) ls) (sym started)
    c.in-Ok-lanes_for.ensures.who

pub returns-in-Ok-start-clause-fresh : goal.returns-in-Ok-start-clause-fresh
returns-in-Ok-start-clause-fresh g c =
    let lanes = c.in-Ok-lanes_for.lanes.items in
    let paces = c.in-Ok-outfits_for.outfits.items in
    let ts = c.in-Ok.statuses.items in
    subst (λ b. AllByRecursion IsFresh (lanes_by b ts)) (sym c.in-Ok-start.ensures.started)
    (fresh_started lanes paces ts c.in-Ok.ensures.fresh)

pub returns-in-Err-clause-count : goal.returns-in-Err-clause-count
returns-in-Err-clause-count g c =
    let lanes = c.in-Ok-lanes_for.lanes in
    let outfits = c.in-Ok-outfits_for.outfits in
    let same : length lanes.items ≡ length c.args.readers.items =
    sym (length-map lanes.items (λ (l : LaneNow). l.reader)) ∙ ap length c.in-Ok-lanes_for.ensures.readers in
    let many : vec_len lanes ≡ vec_len outfits =
    omega (arith, lanes.ok, same, c.args.readers.ok, c.requires.many, c.in-Ok-outfits_for.ensures.len) in
    let none : c.in-Err.fault ≡ StartFault.Count → ⊥ = λ e. ⊎_elim
    (λ (z : vec_len lanes ≡ 0).
    grind (arith, common_steps, z, lanes.ok, same, c.args.readers.ok, c.if-is_empty.false, c.is_empty.ensures))
    (λ (ne : vec_len lanes ≢ vec_len outfits). ne many)
    (c.in-Err.ensures.count.0 e) in (
      λ e. absurd (none (cc (e))),
      λ n.
          absurd (grind (arith, common_steps, ap length n, c.args.readers.ok, c.if-is_empty.false, c.is_empty.ensures)),
    )
