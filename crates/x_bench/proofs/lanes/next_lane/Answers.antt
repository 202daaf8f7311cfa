use Rattle.std.proofs.Common.{◌≡◌, IfSome, subst, ap, ◌∙◌}
use Rattle.std.proofs.lemmas.List.Elements.{All-pop}
use Rattle.published_desk.specs.Published.{ReaderOf}
use Rattle.media_workers.specs.LaneRuns.{LaneNow}
use Rattle.x_bench.proofs.lanes.next_lane.Goals as goal

pub returns-clause-readers : goal.returns-clause-readers
returns-clause-readers g c =
    (All-pop (λ (r : ReaderOf). r.publisher ≡ g.N.PublisherName.publisher) c.args.readers.now.items c.pop.new.self.items
    c.pop.result c.pop.ensures.items c.requires.readers).0

pub returns-clause-publisher : goal.returns-clause-publisher
returns-clause-publisher g c =
    let popped =
    (All-pop (λ (r : ReaderOf). r.publisher ≡ g.N.PublisherName.publisher) c.args.readers.now.items c.pop.new.self.items
    c.pop.result c.pop.ensures.items c.requires.readers).1 in
    ap (λ (l : LaneNow). l.reader.publisher) c.new-2.ensures
    ∙ subst (λ o. IfSome o (λ (r : ReaderOf). r.publisher ≡ g.N.PublisherName.publisher)) c.in-Some.is popped
