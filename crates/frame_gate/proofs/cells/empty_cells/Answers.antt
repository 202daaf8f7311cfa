use Rattle.frame_gate.proofs.Newcomers.{nothing_there}
use Rattle.frame_gate.proofs.cells.empty_cells.Goals as goal

pub returns-clause-empty : goal.returns-clause-empty
returns-clause-empty g c = λ i. nothing_there c.loop.counter c.loop.cells.items i c.loop.invariant.items
