-- One frame more.
use Rattle.std.proofs.Common.{◌≡◌, ℕ, List, [], ◌∷◌, ◌++◌, map, sym, ap, ◌∙◌}
use Rattle.forward_rewrite.specs.Sending.{Sending, Numbered, out_of}
use Rattle.forward_rewrite.specs.RoutedList.{packets_of}
use Rattle.forward_rewrite.specs.Streams.{StreamOf, HasSent, GivesNext, state_of}

has_sent : (ssrc first_seq first_ts : ℕ) (s : StreamOf) (before : List Sending)
    → s ≡ state_of ssrc first_seq first_ts before → HasSent s first_seq first_ts before
has_sent ssrc first_seq first_ts s before e =
    e ∙ ap (λ n. state_of n first_seq first_ts before) (sym (ap (λ (s : StreamOf). s.ssrc) e))

-- the stream has sent it too
pub sent_too : (ssrc first_seq first_ts : ℕ) (old new : StreamOf) (before : List Sending) (next : Sending)
    (out : List Numbered)
    → GivesNext old new next out → new.ssrc ≡ old.ssrc → old ≡ state_of ssrc first_seq first_ts before
    → new ≡ state_of ssrc first_seq first_ts (before ++ next ∷ [])
sent_too ssrc first_seq first_ts old new before next out gives same e =
    (gives first_seq first_ts before (has_sent ssrc first_seq first_ts old before e)).1
    ∙ ap (λ n. state_of n first_seq first_ts (before ++ next ∷ [])) (same ∙ ap (λ (s : StreamOf). s.ssrc) e)

-- and this went out of it
pub went_out : (ssrc first_seq first_ts : ℕ) (old new : StreamOf) (before : List Sending) (next : Sending)
    (out : List Numbered)
    → GivesNext old new next out → old ≡ state_of ssrc first_seq first_ts before
    → map out_of (packets_of ssrc first_seq first_ts (before ++ next ∷ []))
    ≡ map out_of (packets_of ssrc first_seq first_ts before) ++ out
went_out ssrc first_seq first_ts old new before next out gives e =
    let is = ap (λ (s : StreamOf). s.ssrc) e in
    ap (λ n. map out_of (packets_of n first_seq first_ts (before ++ next ∷ []))) (sym is)
    ∙ (gives first_seq first_ts before (has_sent ssrc first_seq first_ts old before e)).0
    ∙ ap (λ n. map out_of (packets_of n first_seq first_ts before) ++ out) is
