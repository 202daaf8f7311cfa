use Rattle.std.proofs.Common.{◌≡◌, ◌<◌, ◌+◌, ◌-◌, true, ◌++◌, cond, vec_len, drop, take, length, sym, ap, ◌∙◌, arith}
use Rattle.std.specs.Result.{is_ok}
use Rattle.std.specs.List.{insert}
use Rattle.undo_log.specs.Lists.{inverses}
use Rattle.undo_log.proofs.Turning.{turn_more}
use Rattle.undo_log.proofs.walking.invert_all.Goals as goal

pub loop-place-preserved : goal.loop-place-preserved
loop-place-preserved g c =
    let n = length c.args.items.now.items in
    let k = c.loop-place.place in
    let inside : k < n = omega arith in
    let one : (n - (k + 1)) + 1 ≡ n - k = omega arith in
    let so_far =
    ap (λ j. inverses g.S.Reversible.inverse (drop j c.args.items.now.items) ++ take j c.args.items.now.items)
    (sym one) in
    let turned =
    turn_more g.S.Reversible.inverse c.args.items.now.items c.loop-place.items.items c.pop.new.self.items k
    (n - (k + 1)) c.in-Some.edit one inside (c.loop-place.invariant.so_far ∙ so_far) c.in-Some.ensures.items in
    let ok : is_ok c.insert.result ≡ true = grind (arith, c.is_err.ensures, c.if-is_err.false) in
    let put =
    c.insert.ensures.items
    ∙ ap (λ b. cond b (insert c.pop.new.self.items k c.invert.result) c.pop.new.self.items) ok
    ∙ ap (λ x. insert c.pop.new.self.items k x) c.invert.ensures in
    let len = c.insert.ensures.len ∙ ap (λ b. cond b (vec_len c.pop.new.self + 1) (vec_len c.pop.new.self)) ok in
    record { len = omega (arith, len, c.in-Some.ensures.len, c.loop-place.invariant.len); so_far = put ∙ turned }
