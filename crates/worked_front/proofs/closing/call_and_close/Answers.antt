use Rattle.std.proofs.Common.{◌≡◌, ◌∙◌, ap, sym, subst}
use Rattle.desk_edit.specs.Asked.{asked_by}
use Rattle.published_desk.specs.Published.{NoticeOf}
use Rattle.operator_desk.specs.Answers.{IsAnswered}
use Rattle.media_workers.specs.Bridges.{AreNew}
use Rattle.lane_laws.specs.Learnt.{AllBegin, AllRead, lanes_of}
use Rattle.worked_front.proofs.closing.call_and_close.Goals as goal

pub none_knew_more-requires : goal.none_knew_more-requires
none_knew_more-requires g c =
    let answered =
    IsAnswered g.H.DeskBrand.start g.H.DeskBrand.publisher c.args.seat.now c.call.new.seat (asked_by c.args.call)
    c.unnamed.result in
    let accepted = subst answered c.in-Accepted.is c.in-Ok.ensures.answer in
    let ports = c.tell-in-Accepted.new.bridge in
    let lanes = c.tell-in-Accepted.ensures.lanes ∙ c.tell.ensures.lanes in
    let read = subst (AllRead g.H.DeskBrand.publisher) (sym lanes) c.requires.read in
    record {
      ended =
          (ports, c.close-ends.ensures.ended, subst (λ b. AllRead b (lanes_of ports)) (sym accepted.tells.0) read);
    }

pub returns-then-none_knew_more : goal.returns-then-none_knew_more
returns-then-none_knew_more g c =
    let start = g.H.DeskBrand.start in
    let seen = c.call.new.seat.seen in
    let answered =
    IsAnswered g.H.DeskBrand.start g.H.DeskBrand.publisher c.args.seat.now c.call.new.seat (asked_by c.args.call)
    c.unnamed.result in
    let accepted = subst answered c.in-Accepted.is c.in-Ok.ensures.answer in
    let ports = c.tell-in-Accepted.new.bridge in
    let ends = c.close-ends.result.items in
    let ended = c.close-ends.ensures.ended in
    let lanes = c.tell-in-Accepted.ensures.lanes ∙ c.tell.ensures.lanes in
    c.the_running_headline.ensures.sent start seen ports ends record {
      first = c.requires.first;
      legal = accepted.legal;
      lists = c.in-Accepted.notice.lists;
      desks = accepted.tells.1;
      new = subst AreNew (sym lanes) c.requires.new;
      begin = subst (AllBegin start) (sym lanes) c.requires.begin;
      ended = ended;
      seen =
          c.lanes_saw_what_they_know.ensures ports ends ended c.in-Accepted.notice.lists
          c.if-none_knew_more.ensures.known;
    }
