use Rattle.std.proofs.Common.{◌≡◌, ◌+◌, ◌-◌, fold, take, length, reverse, sym, ap, ◌∙◌, arith}
use Rattle.std.proofs.lemmas.List.{take_all}
use Rattle.undo_log.specs.Timeline.{rewound}
use Rattle.undo_log.proofs.Walks.{back_one}
use Rattle.undo_log.proofs.history.History.take_back_on.Goals as goal

pub loop-i-init : goal.loop-i-init
loop-i-init g c =
    let done = c.self.inside.done.items in
    let start = rewound g.S.Reversible.after g.S.Reversible.inverse c.self.inside.state (reverse done) in
    let state : c.args.self.now.state ≡ c.self.inside.state = ap (λ t. t.state) (sym c.self.view_is) in
    let many : length c.args.self.now.done ≡ length done = ap (λ t. length t.done) (sym c.self.view_is) in
    record {
      within = omega (arith, c.len-i.ensures);
      above = omega (arith, c.len-i.ensures, many, c.requires.within);
      state =
          c.requires.copy
          ∙ state
          ∙ sym c.self.invariant.0.done_leads
          ∙ ap (fold g.S.Reversible.after start) (sym (take_all c.len-i.result done (omega (arith, c.len-i.ensures))));
    }

pub absorb_back-requires : goal.absorb_back-requires
absorb_back-requires g c =
    let done = c.self.inside.done.items in
    let start = rewound g.S.Reversible.after g.S.Reversible.inverse c.self.inside.state (reverse done) in
    let one : (c.loop-i.i - 1) + 1 ≡ c.loop-i.i = omega (arith, c.loop-i-test.true) in
    (back_one g.S.Reversible.can_absorb g.S.Reversible.after g.S.Reversible.inverse g.met.S.Reversible.inverse_fits
    g.met.S.Reversible.undoes start c.loop-i.copy done (c.loop-i.i - 1) c.index.result.now
    (omega (arith, c.loop-i-test.true, c.loop-i.invariant.within)) (sym c.index.ensures)
    c.self.invariant.0.done_fit
    (c.loop-i.invariant.state ∙ ap (λ n. fold g.S.Reversible.after start (take n done)) (sym one))).0

pub loop-i-preserved : goal.loop-i-preserved
loop-i-preserved g c =
    let done = c.self.inside.done.items in
    let start = rewound g.S.Reversible.after g.S.Reversible.inverse c.self.inside.state (reverse done) in
    let one : (c.loop-i.i - 1) + 1 ≡ c.loop-i.i = omega (arith, c.loop-i-test.true) in
    let back =
    back_one g.S.Reversible.can_absorb g.S.Reversible.after g.S.Reversible.inverse g.met.S.Reversible.inverse_fits
    g.met.S.Reversible.undoes start c.loop-i.copy done (c.loop-i.i - 1) c.index.result.now
    (omega (arith, c.loop-i-test.true, c.loop-i.invariant.within)) (sym c.index.ensures)
    c.self.invariant.0.done_fit
    (c.loop-i.invariant.state ∙ ap (λ n. fold g.S.Reversible.after start (take n done)) (sym one)) in
    record {
      within = omega (arith, c.loop-i-test.true, c.loop-i.invariant.within);
      above = omega (arith, c.loop-i-test.true);
      state = c.absorb_back.ensures ∙ back.1;
    }

pub returns : goal.returns
returns g c =
    let start = ap (λ t. t.start) c.self.view_is in
    let done = ap (λ t. t.done) c.self.view_is in
    let end : c.loop-i.i ≡ c.args.left = omega (arith, c.loop-i.invariant.above, c.loop-i-test.false) in
    c.loop-i.invariant.state ∙ (λ i. fold g.S.Reversible.after (start i) (take (end i) (done i)))
