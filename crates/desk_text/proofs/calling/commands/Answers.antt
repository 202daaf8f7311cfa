use Rattle.std.proofs.Common.{◌≡◌, ◌+◌, length, arith}
use Rattle.desk_text.specs.Words.{words_in}
use Rattle.desk_text.specs.inner.Parts.{parts_in}
use Rattle.desk_text.proofs.GroupLemmas.{goes_on, fails_on, ends}
use Rattle.desk_text.proofs.calling.commands.Goals as goal

pub returns-in-Err : goal.returns-in-Err
returns-in-Err g c =
    let so_far = rw (c.in-Some.is, c.first_part-part.ensures.parts) at c.loop-left.invariant.commands in
    fails_on _ _ c.loop-left.at (words_in c.first_part-part.result.words) (parts_in c.first_part-part.result.later)
    c.in-Err.fault so_far c.in-Err.ensures

pub loop-left-preserved : goal.loop-left-preserved
loop-left-preserved g c =
    let so_far = rw (c.in-Some.is, c.first_part-part.ensures.parts) at c.loop-left.invariant.commands in
    let left = rw c.in-Some.is at c.loop-left.invariant.place in
    let short = rw c.in-Some.is at c.loop-left.invariant.short in
    let h = c.in_default-take_command.ensures in
    let part = words_in c.first_part-part.result.words in
    let next : c.loop-left.at + (length part + 1) ≡ c.loop-left.at + length part + 1 = omega arith in
    record {
      place = omega (arith, left, c.first_part-part.ensures.shorter);
      short = omega (arith, short, c.first_part-part.ensures.shorter);
      commands =
          rw (c.first_part-part.ensures.count, next)
          (goes_on _ _ _ c.loop-left.at part (parts_in c.first_part-part.result.later) h.0 so_far h.1 h.2);
    }

pub returns : goal.returns
returns g c = ends _ _ c.loop-left.at (rw c.in_default.is at c.loop-left.invariant.commands)
