use Rattle.std.proofs.Common.{List, ap, sym, subst, ◌∙◌}
use Rattle.std.specs.List.{AllByRecursion}
use Rattle.mixer.specs.inner.Rooms.{RoomOf}
use Rattle.mixer.specs.inner.Encoded.{AreEncoded}
use Rattle.mixer.specs.inner.Ready.{ReadyOf, AreRooms, IsReady, members_of}
use Rattle.mixer.proofs.StreamSteps.{one_mine, not_mine}
use Rattle.mixer.proofs.streams.ready_all.Goals as goal
use Rattle.mixer.proofs.streams.ready_all.Goals.{then-is_mine+in_ok-add, else-is_mine}

pub loop-member-preserved : goal.loop-member-preserved
loop-member-preserved g c =
    let d = c.args.tick.now.rows.now in
    let voices = c.args.tick.now.voices.now in
    let lane = c.args.place.now.lane in
    let lanes = c.args.place.now.lanes in
    let n = c.loop-member.member-index in
    let ms = c.members-member-items.result.now in
    let P = IsReady d voices c.args.tick.now.moment c.args.tick.now.streams.now.entries in
    elim c.if-is_mine.branch [
      | then-is_mine+in_ok-add w ↦
          record {
            rooms =
                subst (λ (rs : List RoomOf). AreRooms d voices rs) (sym (ap (λ v. v.items) w.rooms-is))
                w.in_ok-add.ensures.rooms;
            members =
                ap (λ v. members_of v.items) w.ready-is
                ∙ w.in_ok-add.ensures.members
                ∙ one_mine d voices lane lanes n ms _ c.is_mine.result _ c.loop-member-test.true c.is_mine.ensures
                w.if-is_mine.true c.loop-member.invariant.members;
            last = subst AreEncoded (sym (ap (λ s. s.last) w.scratch-is)) w.in_ok-add.ensures.last;
            block = ap (λ s. s.block.items) w.scratch-is ∙ w.in_ok-add.ensures.empty;
            ready =
                subst (λ (rs : List ReadyOf). AllByRecursion P rs) (sym (ap (λ v. v.items) w.ready-is))
                (w.in_ok-add.ensures.ready c.loop-member.invariant.ready);
          }
      | else-is_mine w ↦
          record {
            rooms =
                subst (λ (rs : List RoomOf). AreRooms d voices rs) (sym (ap (λ v. v.items) w.rooms-is))
                c.loop-member.invariant.rooms;
            members =
                ap (λ v. members_of v.items) w.ready-is
                ∙ not_mine d voices lane lanes n ms _ c.is_mine.result _ c.loop-member-test.true c.is_mine.ensures
                w.if-is_mine.false c.loop-member.invariant.members;
            last = subst AreEncoded (sym (ap (λ s. s.last) w.scratch-is)) c.loop-member.invariant.last;
            block = ap (λ s. s.block.items) w.scratch-is ∙ c.loop-member.invariant.block;
            ready =
                subst (λ (rs : List ReadyOf). AllByRecursion P rs) (sym (ap (λ v. v.items) w.ready-is))
                c.loop-member.invariant.ready;
          }
    ]
