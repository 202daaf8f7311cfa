use Rattle.std.proofs.Common.{◌≡◌, ℕ, ◌+◌, ◌*◌, ◌/◌, ◌%◌, ◌^◌, ◌≤◌, [], ◌∷◌, ap, subst, ◌∙◌, arith}
use Rattle.std.proofs.lemmas.Result.{IfOk-weaker}
use Rattle.rtcp_codec.specs.CanonicalName.{named}
use Rattle.rtcp_codec.specs.Compound.{written}
use Rattle.rtcp_codec.specs.Packet.{Sender}
use Rattle.receiver_feedback.specs.Times.{from_1900_to_1970, ntp_of, second, ts_at}
use Rattle.worked_media.specs.Reported.{bridge}
use Rattle.worked_media.proofs.feedback_laws.reports_whole_seconds.Goals as goal

-- whole seconds, of which no part is left
whole : (n : ℕ) → n * second / second ≡ n
whole n = omega arith

rest : (n : ℕ) → n * second % second ≡ 0
rest n = omega arith

-- a number of 64 bits by its halves, of which the lower one is 0
halves : (n high : ℕ) → n / 2 ^ 32 ≡ high → n % 2 ^ 32 * second ≤ 0 → n ≡ high * 2 ^ 32
halves n high up low = omega (arith, up, low)

pub returns : goal.returns
returns c =
    let m = c.args.seconds * second in
    let n = c.args.counts.now in
    let low : ntp_of m % 2 ^ 32 * second ≤ 0 =
    subst (λ part. ntp_of m % 2 ^ 32 * second ≤ part * 2 ^ 32) (rest c.args.seconds)
    (c.times_of_reports.ensures.not_later m) in
    let high : ntp_of m / 2 ^ 32 ≡ (c.args.seconds + from_1900_to_1970) % 2 ^ 32 =
    c.times_of_reports.ensures.seconds m ∙ ap (λ s. (s + from_1900_to_1970) % 2 ^ 32) (whole c.args.seconds) in
    let ntp = halves (ntp_of m) ((c.args.seconds + from_1900_to_1970) % 2 ^ 32) high low in
    IfOk-weaker c.sender_report.result _ _ (λ v is.
    is
    ∙ ap
    (λ s.
    written
    (Sender n.ssrc (ntp_of (s * second)) (ts_at n (s * second)) n.packets n.octets [] ∷ named n.ssrc bridge ∷ []))
    c.from.ensures
    ∙ ap (λ ntp. written (Sender n.ssrc ntp (ts_at n m) n.packets n.octets [] ∷ named n.ssrc bridge ∷ [])) ntp)
    c.sender_report.ensures.octets
