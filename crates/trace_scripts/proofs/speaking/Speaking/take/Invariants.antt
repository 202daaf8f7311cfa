use Rattle.std.proofs.Common.{map}
use Rattle.trace_scripts.specs.Scripts.{script_now, ScriptGoesOn}
use Rattle.trace_scripts.proofs.speaking.Speaking.take.Given as goal

-- deeds were told so far
abbrev pub invariant-loop-done : goal.invariant-loop-done
invariant-loop-done g l =
    ScriptGoesOn
    (script_now l.fn.self.told (map g.T.Deed.done l.fn.self.from) l.fn.follower.taken.seat.seen l.fn.text.items)
    (script_now l.self.told (map g.T.Deed.done l.self.from) l.follower.taken.seat.seen l.text.items)
