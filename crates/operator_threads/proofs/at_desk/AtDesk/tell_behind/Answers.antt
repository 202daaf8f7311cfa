use Rattle.std.proofs.Common.{[], sym}
use Rattle.std.proofs.lemmas.List.{append-nil}
use Rattle.operator_threads.specs.Watches.{SittingOf}
use Rattle.operator_threads.proofs.WatchLemmas.{no_news}
use Rattle.operator_threads.proofs.at_desk.AtDesk.tell_behind.Goals as goal

pub returns-then-not-has_news-clause-ok : goal.returns-then-not-has_news-clause-ok
returns-then-not-has_news-clause-ok g c =
    let none = c.if-not-has_news.ensures in
    let s : SittingOf = record {
      seat = c.args.self.now.taken.seat;
      known = c.args.self.now.known;
      told = c.args.self.now.told;
      is_named = c.args.self.now.is_named;
      name = c.args.self.now.name.items;
      trouble = c.args.self.now.trouble;
      learnt = c.args.self.now.learnt;
    } in (
      [],
      sym (append-nil c.args.out.now.items),
      no_news g.H.DeskBrand.start c.args.told s none.legal c.requires.told none.known none.seen,
    )
