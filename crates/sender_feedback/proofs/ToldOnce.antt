-- Receiver reports tell each block once.
use Rattle.std.proofs.Common.{◌≡◌, ℕ, zero, suc, ◌+◌, ◌*◌, List, [], ◌∷◌, ◌++◌, length, take, drop, map, refl, ap, sym}
use Rattle.std.proofs.Common.{subst, ◌∙◌, arith, add-one}
use Rattle.std.specs.List.{flat_map, range_with_len}
use Rattle.std.proofs.lemmas.List.{take_all, take-take, drop-take, take-append-drop, append-nil}
use Rattle.std.proofs.lemmas.List.Concat.{flat_map-append}
use Rattle.std.proofs.lemmas.List.FromFn.{map-range_with_len_more}
use Rattle.rtcp_codec.specs.declared.report.ReportBlock.{ReportBlock}
use Rattle.rtcp_codec.specs.Packet.{Packet, Receiver, most_count}
use Rattle.sender_feedback.specs.ReceiverReports.{blocks_at, count_of_reports, receiver_reports, blocks_in}

-- the first of a list, and the first of what is left
more_taken : (xs : List ReportBlock) (n m : ℕ) → take (n + m) xs ≡ take n xs ++ take m (drop n xs)
more_taken xs n m =
    sym (take-append-drop n (take (n + m) xs))
    ∙ ap (λ (ys : List ReportBlock). ys ++ drop n (take (n + m) xs)) (take-take n (n + m) xs (omega arith))
    ∙ ap (λ (ys : List ReportBlock). take n xs ++ ys) (drop-take n m xs)

abbrev report_at : ℕ → List ReportBlock → ℕ → Packet
report_at ssrc blocks place = Receiver ssrc (blocks_at blocks place)

-- the blocks of so many reports
abbrev told : ℕ → List ReportBlock → ℕ → List ReportBlock
told ssrc blocks n = flat_map blocks_in (map (report_at ssrc blocks) (range_with_len 0 n))

one_more : (ssrc : ℕ) (blocks : List ReportBlock) (n : ℕ) → told ssrc blocks n ≡ take (most_count * n) blocks
    → told ssrc blocks (n + 1) ≡ take (most_count * (n + 1)) blocks
one_more ssrc blocks n before =
    let reports = map (report_at ssrc blocks) (range_with_len 0 n) in
    ap (flat_map blocks_in) (map-range_with_len_more (report_at ssrc blocks) 0 n n (omega arith))
    ∙ flat_map-append blocks_in reports (report_at ssrc blocks n ∷ [])
    ∙ ap (λ (bs : List ReportBlock). bs ++ (blocks_at blocks n ++ [])) before
    ∙ ap (λ (bs : List ReportBlock). take (most_count * n) blocks ++ bs) (append-nil (blocks_at blocks n))
    ∙ sym (more_taken blocks (most_count * n) most_count)
    ∙ ap (λ k. take k blocks) (omega arith)

first_reports : (ssrc : ℕ) (blocks : List ReportBlock) (n : ℕ) → told ssrc blocks n ≡ take (most_count * n) blocks
first_reports ssrc blocks zero = refl
first_reports ssrc blocks (suc n) =
    subst (λ k. told ssrc blocks k ≡ take (most_count * k) blocks) (add-one n)
    (one_more ssrc blocks n (first_reports ssrc blocks n))

pub told_once : (ssrc : ℕ) (blocks : List ReportBlock) → flat_map blocks_in (receiver_reports ssrc blocks) ≡ blocks
told_once ssrc blocks =
    let n = count_of_reports (length blocks) in
    first_reports ssrc blocks n ∙ take_all (most_count * n) blocks (omega arith)
