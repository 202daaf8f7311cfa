use Rattle.std.proofs.Common.{◌≡◌, take}
use Rattle.std.specs.Prelude.{filter_map}
use Rattle.media_front.specs.Waits.{HaveWaited}
use Rattle.media_front.specs.inner.Origins.{origin_in}
use Rattle.media_front.proofs.front.MediaFront.wait_all.Given as goal

-- the sources in the rows so far have waited
abbrev pub invariant-loop-row : goal.invariant-loop-row
invariant-loop-row g l = record {
  waited : HaveWaited l.rows l.now (filter_map (origin_in l.rows) (take l.row-index l.row-items)) l.initial.self l.self
      (g.W.Wire.attempts l.initial.wire) (g.W.Wire.attempts l.wire);
  same : l.self
      ≡ record l.initial.self {
        ingress = l.self.ingress;
        feed = l.self.feed;
        limiter = l.self.limiter;
        limited = l.self.limited;
      };
  asker : l.self.ingress.asker ≡ l.initial.self.ingress.asker;
}
