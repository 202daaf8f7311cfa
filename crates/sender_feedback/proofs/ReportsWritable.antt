-- Receiver reports can be written.
use Rattle.std.proofs.Common.{◌≡◌, ℕ, zero, suc, ◌+◌, ◌-◌, ◌*◌, ◌/◌, ◌≤◌, List, [], ◌∷◌, ◌++◌, length, take, drop, map}
use Rattle.std.proofs.Common.{inr, refl, ap, subst, sym, ◌∙◌, arith, add-one}
use Rattle.std.specs.List.{flat_map, range_with_len, AllByRecursion}
use Rattle.std.proofs.lemmas.List.{length-take}
use Rattle.std.proofs.lemmas.List.Concat.{flat_map-cons}
use Rattle.rtcp_codec.specs.declared.report.ReportBlock.{ReportBlock}
use Rattle.rtcp_codec.specs.Packet.{Packet, Receiver, kind, fields, most_count}
use Rattle.rtcp_codec.specs.Compound.{IsReport, BeginsWithReport}
use Rattle.rtcp_codec.specs.CanonicalName.{named}
use Rattle.rtcp_codec.specs.Report.{block_octets, FitsLost}
use Rattle.rtcp_codec.specs.WriteFault.{IsWritable, AreWritable}
use Rattle.sender_feedback.proofs.Writable.{filled-length}
use Rattle.sender_feedback.specs.ReceiverReports.{blocks_at, count_of_reports, receiver_packets}

module _ {X : Type 0} (P : X → Type 0) where
  all_taken : (n : ℕ) (xs : List X) → AllByRecursion P xs → AllByRecursion P (take n xs)
  all_taken zero xs h = tt
  all_taken (suc n) [] h = tt
  all_taken (suc n) (x ∷ xs) h = (h.0, all_taken n xs h.1)

  all_left : (n : ℕ) (xs : List X) → AllByRecursion P xs → AllByRecursion P (drop n xs)
  all_left zero xs h = h
  all_left (suc n) [] h = tt
  all_left (suc n) (x ∷ xs) h = all_left n xs h.1

  all_made : (f : ℕ → X) → ((i : ℕ) → P (f i)) → (ys : List X) → AllByRecursion P ys → (a n : ℕ)
      → AllByRecursion P (map f (range_with_len a n) ++ ys)
  all_made f h ys k a zero = k
  all_made f h ys k a (suc n) = (h a, all_made f h ys k (a + 1) n)

-- packets of which the first is a report begin with one
begins : (f : ℕ → Packet) (n : ℕ) → ((i : ℕ) → IsReport (kind (f i))) → (ys : List Packet)
    → BeginsWithReport (map f (range_with_len 0 (n + 1)) ++ ys)
begins f n h ys = subst (λ k. BeginsWithReport (map f (range_with_len 0 k) ++ ys)) (sym (add-one n)) (h 0)

-- ---- how long reports are

blocks-length : (blocks : List ReportBlock) → length (flat_map block_octets blocks) ≡ 24 * length blocks
blocks-length [] = refl
blocks-length (b ∷ blocks) = ap length (flat_map-cons block_octets b blocks) ∙ omega (arith, blocks-length blocks)

-- ---- each can be written

report_writable : (ssrc : ℕ) (blocks : List ReportBlock) → length blocks ≤ most_count
    → AllByRecursion (λ b. FitsLost b.lost) blocks → IsWritable (Receiver ssrc blocks)
report_writable ssrc blocks few fit = record {
  counted = few;
  lengths =
      record {
        parts = tt;
        words = omega (arith, few, filled-length (fields (Receiver ssrc blocks)), blocks-length blocks);
      };
  meaning = fit;
}

few_taken : (blocks : List ReportBlock) (place : ℕ) → length (blocks_at blocks place) ≤ most_count
few_taken blocks place = omega (arith, length-take most_count (drop (most_count * place) blocks))

pub packets_writable : (ssrc : ℕ) (blocks : List ReportBlock) (cname : List ℕ)
    → AllByRecursion (λ b. FitsLost b.lost) blocks → IsWritable (named ssrc cname)
    → AreWritable (receiver_packets ssrc blocks cname)
packets_writable ssrc blocks cname fit name =
    let f = λ (place : ℕ). Receiver ssrc (blocks_at blocks place) in
    let fits = λ (b : ReportBlock). FitsLost b.lost in
    let each = λ (place : ℕ).
    report_writable ssrc (blocks_at blocks place) (few_taken blocks place)
    (all_taken fits most_count _ (all_left fits (most_count * place) blocks fit)) in
    record {
      report = begins f ((length blocks - 1) / most_count) (λ place. inr refl) (named ssrc cname ∷ []);
      each = all_made IsWritable f each (named ssrc cname ∷ []) (name, tt) 0 (count_of_reports (length blocks));
    }
