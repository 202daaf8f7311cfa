-- What a lane's streams count, for reports.
use Rattle.std.proofs.Common.{◌≡◌, ℕ, List, [], ◌∷◌, Option, Some, refl, subst}
use Rattle.forward_rewrite.specs.declared.counts.Counts.{Counts}
use Rattle.forward_rewrite.specs.Sending.{Sending}
use Rattle.forward_rewrite.specs.Streams.{StreamOf, HasSent, state_of, counts_of}
use Rattle.bridge_core.specs.Lanes.{Routed, sendings, stream_of, video_counts}

-- what a stream that has begun counts
pub counted : (ssrc : ℕ) (rs : List Routed) (s : StreamOf) (c : Option Counts) → stream_of ssrc rs ≡ Some s
    → ((first_seq first_ts : ℕ) (sent : List Sending) → HasSent s first_seq first_ts sent
    → c ≡ counts_of s.ssrc first_ts sent)
    → c ≡ video_counts ssrc rs
counted ssrc [] s c e h = absurd (cc)
counted ssrc (r ∷ rs) s c e h =
    let is : s ≡ state_of ssrc r.slot.first_seq r.slot.first_ts (sendings (r ∷ rs)) = (cc) in
    subst
    (λ (x : StreamOf).
    (first_seq first_ts : ℕ) (sent : List Sending) → HasSent x first_seq first_ts sent
    → c ≡ counts_of x.ssrc first_ts sent)
    is h r.slot.first_seq r.slot.first_ts (sendings (r ∷ rs)) refl
