-- What is ready is for the members so far.
use Rattle.std.proofs.Common.{◌≡◌, [], take}
use Rattle.std.specs.List.{AllByRecursion}
use Rattle.mixer.specs.inner.Encoded.{AreEncoded}
use Rattle.mixer.specs.inner.Ready.{AreRooms, IsReady, hearers, members_of}
use Rattle.mixer.proofs.streams.ready_all.Given as goal

abbrev pub invariant-loop-member : goal.invariant-loop-member
invariant-loop-member g l = record {
  rooms : AreRooms l.tick.rows.now l.tick.voices.now l.rooms.items;
  members : members_of l.ready.items
      ≡ hearers l.tick.rows.now l.tick.voices.now l.place.lane l.place.lanes (take l.member-index l.member-items);
  last : AreEncoded l.scratch.last;
  block : l.scratch.block.items ≡ [];
  ready : AllByRecursion (IsReady l.tick.rows.now l.tick.voices.now l.tick.moment l.tick.streams.now.entries)
      l.ready.items;
}
