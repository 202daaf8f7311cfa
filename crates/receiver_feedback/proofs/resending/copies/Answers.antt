use Rattle.std.proofs.Common.{◌≡◌, ℕ, List, arith, take, Option, ◌++◌, ◌<◌, length, get_or, ap, sym, ◌∙◌, ◌+◌, [], ◌∷◌}
use Rattle.std.specs.List.{filter_map, cons_option}
use Rattle.std.proofs.lemmas.List.{take_more}
use Rattle.std.proofs.lemmas.List.Elements.{filter_map-append}
use Rattle.retransmit.specs.SentPacket.{SentPacket}
use Rattle.retransmit.specs.Window.{resend_of}
use Rattle.receiver_feedback.proofs.resending.copies.Goals as goal

-- one more number
one_more : (f : ℕ → Option SentPacket) (xs : List ℕ) (i d : ℕ) → i < length xs
    → filter_map f (take (i + 1) xs) ≡ filter_map f (take i xs) ++ cons_option (f (get_or xs i d)) []
one_more f xs i d lt = ap (filter_map f) (take_more xs i d lt) ∙ filter_map-append f (take i xs) (get_or xs i d ∷ [])

pub loop-number-preserved : goal.loop-number-preserved
loop-number-preserved g c =
    let numbers = c.args.numbers.now in
    let i = c.loop-number.number-index in
    let f = λ (n : ℕ). resend_of n c.args.owner.now c.args.stream.now.window in
    c.in_ok-append.ensures
    ∙ ap (λ (o : Option SentPacket). c.loop-number.entries.items ++ cons_option o []) c.find.ensures
    ∙ ap (λ (es : List SentPacket). es ++ cons_option (f (get_or numbers i 0)) []) c.loop-number.invariant
    ∙ sym (one_more f numbers i 0 (omega (arith, c.loop-number-test.true)))
