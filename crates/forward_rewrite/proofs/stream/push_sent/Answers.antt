use Rattle.std.proofs.Common.{◌≡◌, ◌++◌, [], arith}
use Rattle.std.specs.Vec.Iter.{into_iter_items}
use Rattle.std.proofs.lemmas.List.{nil_from_length}
use Rattle.retransmit.specs.Window.{window_size, latest}
use Rattle.forward_rewrite.proofs.Rows.{may_follow_first, goes_on_more, few_more, kept_more, all_kept}
use Rattle.forward_rewrite.proofs.stream.push_sent.Goals as goal

pub push-requires : goal.push-requires
push-requires g c =
    may_follow_first c.loop-entry.window (into_iter_items c.loop-entry.entry-iterator) (into_iter_items c.next.new.self)
    c.in-Some.entry c.in-Some.ensures.steps.0 c.loop-entry.invariant.goes_on

pub loop-entry-preserved : goal.loop-entry-preserved
loop-entry-preserved g c =
    let left = into_iter_items c.loop-entry.entry-iterator in
    let rest = into_iter_items c.next.new.self in
    record {
      few = few_more c.loop-entry.window c.push.new.self c.in-Some.entry c.push.ensures;
      goes_on =
          goes_on_more c.loop-entry.window c.push.new.self left rest c.in-Some.entry c.push.ensures
          c.in-Some.ensures.steps.0 c.loop-entry.invariant.goes_on;
      kept =
          kept_more c.loop-entry.window c.push.new.self left rest
          (latest window_size (c.args.window.now ++ c.args.entries.items)) c.in-Some.entry c.push.ensures
          c.in-Some.ensures.steps.0 c.loop-entry.invariant.kept;
    }

pub returns : goal.returns
returns g c =
    let left = into_iter_items c.loop-entry.entry-iterator in
    let none : left ≡ [] =
    nil_from_length left
    (let e = c.in-None.ensures.steps.0 in let ok = c.loop-entry.entry-iterator.rest.ok in omega arith) in
    all_kept c.loop-entry.window left (latest window_size (c.args.window.now ++ c.args.entries.items))
    c.loop-entry.invariant.few none c.loop-entry.invariant.kept
