use Rattle.std.proofs.Common.{◌≡◌, ◌∙◌, ap, length, take, drop, List, ℕ, ◌-◌, ◌*◌, min}
use Rattle.std.proofs.lemmas.List.{take_rest, take_min}
use Rattle.rtcp_codec.specs.declared.report.ReportBlock.{ReportBlock}
use Rattle.sender_feedback.proofs.receiving.blocks_at.Goals as goal

-- the first of what is left, at most so many
first_of_rest : (xs : List ReportBlock) (i n m : ℕ) → m ≡ min n (length (take (length xs - i) (drop i xs)))
    → take m (take (length xs - i) (drop i xs)) ≡ take n (drop i xs)
first_of_rest xs i n m e =
    let rest = take (length xs - i) (drop i xs) in
    ap (λ k. take k rest) e ∙ take_min n rest ∙ ap (take n) (take_rest xs i)

pub returns : goal.returns
returns c = first_of_rest c.args.blocks.now (31 * c.args.place) 31 c.min.result c.min.ensures
