-- What a sender report tells of a mix stream, by the stream as it stands.
use Rattle.std.proofs.Common.{◌≡◌, ℕ, List, [], ◌∷◌, Option, None, Some, unwrap_or, subst, refl}
use Rattle.std.specs.Option.{option_map, option_or}
use Rattle.forward_rewrite.specs.declared.counts.Counts.{Counts}
use Rattle.forward_rewrite.specs.Mixes.{MixTick, MixOf, mix_state, mix_counts, HasMixed}
use Rattle.mixer.specs.Mixes.{Hears, Turn, ticks_of, stream_of, counts_of}

-- nothing of a stream that hasn't begun
pub told_nothing : (ssrc : ℕ) (ts : List Turn) → stream_of ssrc ts ≡ None → counts_of ssrc ts ≡ None
told_nothing ssrc [] none = refl
told_nothing ssrc (t ∷ ts) none = by t.heard none (told_nothing ssrc ts)
  where
    ticks : List MixTick
    ticks = ticks_of (t ∷ ts)

    by : (heard : Option Hears)
        → option_or (option_map (λ h. mix_state ssrc h.member.first_seq h.member.first_ts ticks) heard)
        (stream_of ssrc ts)
        ≡ None
        → (stream_of ssrc ts ≡ None → counts_of ssrc ts ≡ None)
        → unwrap_or (option_map (λ h. mix_counts ssrc h.member.first_seq h.member.first_ts ticks) heard)
        (counts_of ssrc ts)
        ≡ None
    by None none later = later none
    by (Some h) none later = absurd (cc)

-- these are what is told of a stream, whatever ticks it has had
abbrev pub AreCountsOf : Option Counts → MixOf → Type 0
AreCountsOf told s =
    (first_seq first_ts : ℕ) (ticks : List MixTick) → HasMixed s first_seq first_ts ticks
    → told ≡ mix_counts s.ssrc first_seq first_ts ticks

-- of one that has begun, what it tells
pub told_begun : (ssrc : ℕ) (ts : List Turn) (s : MixOf) (told : Option Counts) → stream_of ssrc ts ≡ Some s
    → AreCountsOf told s → told ≡ counts_of ssrc ts
told_begun ssrc [] s told is are = absurd (cc)
told_begun ssrc (t ∷ ts) s told is are = by t.heard is (λ later. told_begun ssrc ts s told later are)
  where
    ticks : List MixTick
    ticks = ticks_of (t ∷ ts)

    by : (heard : Option Hears)
        → option_or (option_map (λ h. mix_state ssrc h.member.first_seq h.member.first_ts ticks) heard)
        (stream_of ssrc ts)
        ≡ Some s
        → (stream_of ssrc ts ≡ Some s → told ≡ counts_of ssrc ts)
        → told
        ≡ unwrap_or (option_map (λ h. mix_counts ssrc h.member.first_seq h.member.first_ts ticks) heard)
        (counts_of ssrc ts)
    by None is later = later is
    by (Some h) is later =
        (let same : s ≡ mix_state ssrc h.member.first_seq h.member.first_ts ticks = cc in
        (subst (AreCountsOf told) same are) h.member.first_seq h.member.first_ts ticks refl)
