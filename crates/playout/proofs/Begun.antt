-- A beginning, and what becomes of a put behind it.
use Rattle.std.proofs.Common.{◌≡◌, ℕ, ℤ, ◌+◌, ◌≤◌, ◌≢◌, Bool, true, false, cond, List, [], ◌∷◌, ◌++◌, length, Option}
use Rattle.std.proofs.Common.{None, Some, refl, sym, ap, ◌∙◌, arith, subst, length-append}
use Rattle.playout.specs.declared.placed.PlacedSamples.{PlacedSamples}
use Rattle.playout.specs.declared.placed.PlacedSamples.TheVariants.{Kept, Late, Reset}
use Rattle.playout.specs.Playout.{Pair, Play, sample_at, offers, is_reset, place_of, placed_of, pairs_after, begun_by}
use Rattle.playout.specs.Calls.{put_after, play_put, answer_of}
use Rattle.playout.specs.inner.Agrees.{Agrees}
use Rattle.playout.specs.inner.Holds.{PlayoutOf, Holds, Puts}
use Rattle.playout.proofs.Offered.{new_pair, offer_new, push_other, eq_yes}

-- samples at places that are free are all kept
pub length-offers : (p i : ℕ) (pairs : List Pair) (samples : List ℤ) → ((n : ℕ) → p + i ≤ n → sample_at pairs n ≡ None)
    → length (offers p pairs (p + i) samples) ≡ length pairs + length samples
length-offers p i pairs [] free = omega arith
length-offers p i pairs (s ∷ samples) free =
    let more : List Pair = pairs ++ new_pair (p + i) s ∷ [] in
    let next : p + i + 1 ≡ p + (i + 1) = omega arith in
    ap (λ (xs : List Pair). length (offers p xs (p + i + 1) samples))
    (offer_new p i pairs s (free (p + i) (omega arith)))
    ∙ ap (λ (n : ℕ). length (offers p more n samples)) next
    ∙ length-offers p (i + 1) more samples (λ n above. (
    let apart : p + i ≢ n = λ e. absurd (omega (arith, e, above)) in
    push_other pairs (p + i) n s apart ∙ free n (omega (arith, above))))
    ∙ ap (λ (n : ℕ). n + length samples) (length-append pairs (new_pair (p + i) s ∷ []))
    ∙ omega arith

-- what follows a put, by whether it is a Reset
reset_is : (late : Bool) (kept : ℕ) (b : Bool)
    → cond b Reset (cond late Late (Kept kept)) ≡ Reset → b ≡ true
reset_is late kept true h = refl
reset_is true kept false h = absurd cc
reset_is false kept false h = absurd cc

pub not_reset : (late : Bool) (kept : ℕ) (placed : PlacedSamples) (b : Bool) → placed ≢ Reset
    → cond b Reset (cond late Late (Kept kept)) ≡ placed → b ≡ false
not_reset late kept placed true other h = absurd (other (sym h))
not_reset late kept placed false other h = refl

-- the playout at a rate
abbrev pub with_rate : ℕ → Play → Play
with_rate rate play = record { rate = rate; position = play.position; pairs = play.pairs }

-- a Reset begins anew
pub after_reset : (rate : ℕ) (play : Play) (ts : ℕ) (samples : List ℤ)
    → placed_of rate play.position play.pairs ts samples ≡ Reset
    → put_after (with_rate rate play) ts samples ≡ begun_by rate ts samples
after_reset rate play ts samples h =
    ap (λ (b : Bool).
    cond b (begun_by rate ts samples)
    (record { rate = rate; position = play.position; pairs = pairs_after rate play.position play.pairs ts samples }))
    (reset_is _ _ (is_reset rate play.position (place_of play.position ts) (length samples)) h)

-- all else leaves the position as it is
pub after_other : (rate : ℕ) (play : Play) (ts : ℕ) (samples : List ℤ) (placed : PlacedSamples) → placed ≢ Reset
    → placed_of rate play.position play.pairs ts samples ≡ placed
    → put_after (with_rate rate play) ts samples
    ≡ record { rate = rate; position = play.position; pairs = pairs_after rate play.position play.pairs ts samples }
after_other rate play ts samples placed other h =
    ap (λ (b : Bool).
    cond b (begun_by rate ts samples)
    (record { rate = rate; position = play.position; pairs = pairs_after rate play.position play.pairs ts samples }))
    (not_reset _ _ placed (is_reset rate play.position (place_of play.position ts) (length samples)) other h)

-- a put at the playout's own rate goes on with it
pub put_own : (rate : ℕ) (play : Play) (ts : ℕ) (samples : List ℤ) → play.rate ≡ rate
    → play_put rate (Some play) ts samples ≡ put_after play ts samples
put_own rate play ts samples same =
    ap (λ (b : Bool). cond b (put_after play ts samples) (begun_by rate ts samples)) (eq_yes play.rate rate same)

-- A put on a playout that has begun is known by what it does to each play.
pub puts_by : (old new : PlayoutOf) (ts : ℕ) (samples : List ℤ) (placed : PlacedSamples) → old.begun ≡ true
    → ((play : Play) → Holds old (Some play)
    → (placed ≡ placed_of (length old.cells) play.position play.pairs ts samples)
    × Holds new (Some (put_after (with_rate (length old.cells) play) ts samples)))
    → Puts old new ts samples placed
puts_by old new ts samples placed begun step play h = by play h
  where
    same : (play : Play) → play.rate ≡ length old.cells → with_rate (length old.cells) play ≡ play
    same play e = λ i. record { rate = sym e i; position = play.position; pairs = play.pairs }

    by : (st : Option Play) → Holds old st
        → (placed ≡ answer_of st ts samples) × Holds new (Some (play_put (length old.cells) st ts samples))
    by None none = absurd (let x : true ≡ false = sym begun ∙ none in cc)
    by (Some play) held =
        let both = step play held in (
          both.0 ∙ ap (λ (rate : ℕ). placed_of rate play.position play.pairs ts samples) (sym held.1),
          subst (λ (next : Play). Holds new (Some next))
              (ap (λ (now : Play). put_after now ts samples) (same play held.1)
              ∙ sym (put_own (length old.cells) play ts samples held.1))
              both.1,
        )

-- one that is no Reset
pub other_step : (old new : PlayoutOf) (ts : ℕ) (samples : List ℤ) (placed : PlacedSamples) (play : Play)
    → placed ≢ Reset
    → new.begun ≡ true → new.position ≡ old.position → length new.cells ≡ length old.cells
    → placed ≡ placed_of (length old.cells) play.position play.pairs ts samples
    → Agrees new.cells (pairs_after (length old.cells) play.position play.pairs ts samples) play.position
    → Holds old (Some play)
    → (placed ≡ placed_of (length old.cells) play.position play.pairs ts samples)
    × Holds new (Some (put_after (with_rate (length old.cells) play) ts samples))
other_step old new ts samples placed play other begun position long is agrees (was, rate, now, half, had) = (
  is,
  subst (λ (next : Play). Holds new (Some next))
      (sym (after_other (length old.cells) play ts samples placed other (sym is)))
      (begun, sym long, now ∙ sym position, half, agrees),
)

-- and one that is
pub reset_step : (old new : PlayoutOf) (ts : ℕ) (samples : List ℤ) (play : Play)
    → Reset ≡ placed_of (length old.cells) play.position play.pairs ts samples
    → Holds new (Some (begun_by (length old.cells) ts samples))
    → (Reset ≡ placed_of (length old.cells) play.position play.pairs ts samples)
    × Holds new (Some (put_after (with_rate (length old.cells) play) ts samples))
reset_step old new ts samples play is held = (
  is,
  subst (λ (next : Play). Holds new (Some next)) (sym (after_reset (length old.cells) play ts samples (sym is))) held,
)
