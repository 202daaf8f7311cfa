use Rattle.std.proofs.Common.{◌≡◌, ℕ, ℤ, List, length, map, ap, ◌∙◌}
use Rattle.std.proofs.lemmas.List.{with_items_is}
use Rattle.std.specs.List.{range_with_len}
use Rattle.media_items.specs.Formats.{tick_at}
use Rattle.playout.specs.Calls.{PlaysOut, at_rate}
use Rattle.mixer.specs.Hearing.{play_after, to_playouts, sample_in}
use Rattle.mixer.proofs.Listed.{shown, counted}
use Rattle.mixer.proofs.voices.voice_of.Goals as goal

pub returns-clause-heard : goal.returns-clause-heard
returns-clause-heard g c given has =
    let s = c.args.source.now in
    let n = tick_at c.args.rate in
    let out = c.peek-filled.new.out in
    let count = c.peek-filled.result in
    let play = at_rate c.args.rate (play_after given s.ssrc s.address) in
    let all = c.peek-filled.auto.out ∙ c.deref_mut.ensures.len in
    let long : length out ≡ n = all ∙ c.in_ok-resize.ensures.len ∙ c.tick_at.ensures in
    let plays : PlaysOut play out count = c.peek-filled.ensures (map to_playouts given) has in
    ap (λ (xs : List ℤ). record { source = s; samples = xs; filled = count })
    (with_items_is c.resize.new.self out all ∙ shown play out count n long plays)
    ∙ ap (λ (k : ℕ). record { source = s; samples = map (sample_in play) (range_with_len 0 n); filled = k })
    (counted play out count n long plays)
