-- What is ready is for the receivers so far, and has been appended.
use Rattle.std.proofs.Common.{◌≡◌, ◌++◌, take, map}
use Rattle.bridge_core.specs.Sent.{sent_of}
use Rattle.bridge_core.specs.inner.Readies.{receivers_of, AllFit, AreNext, sent_for}
use Rattle.bridge_core.proofs.preparing.prepare_all.Given as goal

abbrev pub invariant-loop-receiver : goal.invariant-loop-receiver
invariant-loop-receiver g l = record {
  receivers : receivers_of l.ready.items ≡ take l.receiver-index l.receivers;
  fit : AllFit l.table.entries l.ready.items;
  next : AreNext l.table.entries l.stamp l.frame l.ready.items;
  out : map sent_of l.out.items ≡ map sent_of l.fn.out.items ++ sent_for l.ready.items;
}
