use Rattle.std.proofs.Common.{◌≡◌, length, vec_len, vec_capacity}
use Rattle.media_workers.specs.Bridges.{AllEnded, AllFeed, AllTold}
use Rattle.media_workers.proofs.every_port.finish_all.Given as goal

abbrev pub invariant-loop-port : goal.invariant-loop-port
invariant-loop-port g l = record {
  ended : AllEnded g.P.Pace.answers g.S.Sink.taken l.yielded l.ends.items;
  fed : AllFeed g.S.Sink.feeds l.yielded l.ends.items;
  told : AllTold g.P.Pace.answers g.S.Sink.taken g.S.Sink.heard l.yielded l.ends.items;
  len : vec_len l.ends ≡ length l.yielded;
  capacity : vec_capacity l.ends ≡ vec_capacity l.initial.ends;
}
