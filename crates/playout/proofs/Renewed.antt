-- What becomes of a source by a put.
use Rattle.std.proofs.Common.{◌≡◌, ◌≢◌, ◌∙◌, ap, sym, refl, subst, ℕ, ℤ, ◌+◌, ◌/◌, Bool, true, false, cond, List}
use Rattle.std.proofs.Common.{length, Option, None, Some}
use Rattle.playout.specs.declared.placed.PlacedSamples.{PlacedSamples}
use Rattle.playout.specs.declared.placed.PlacedSamples.TheVariants.{Reset}
use Rattle.playout.specs.declared.offset.Offset.{Offset}
use Rattle.playout.specs.declared.tally.SoundTally.{SoundTally}
use Rattle.playout.specs.Playout.{Play, is_reset, place_of, begun_by}
use Rattle.playout.specs.Calls.{put_after, play_put, play_taken, tick_samples, at_rate}
use Rattle.playout.specs.Renewal.{SourcePlay, no_tally, offset_of, tallied, is_overdue, tally_after, renewing_put}
use Rattle.playout.specs.Renewal.{source_put, source_ticked}
use Rattle.playout.specs.Playouts.{Keeps}
use Rattle.playout.specs.inner.Holds.{PlayoutOf, SourceOf, Holds, Puts, HasTaken}
use Rattle.playout.specs.inner.Counts.{PutsInto, HasTicked}
use Rattle.playout.proofs.Begun.{not_reset}
use Rattle.playout.proofs.Offered.{eq_yes, eq_no}

-- the playout at its own rate, and at another
pub at_own : (rate : ℕ) (play : Play) → play.rate ≡ rate → at_rate rate (Some play) ≡ Some play
at_own rate play same =
    let none : Option Play = None in ap (λ (b : Bool). cond b (Some play) none) (eq_yes play.rate rate same)

pub at_other : (rate : ℕ) (play : Play) → play.rate ≢ rate → at_rate rate (Some play) ≡ None
at_other rate play other =
    let none : Option Play = None in ap (λ (b : Bool). cond b (Some play) none) (eq_no play.rate rate other)

-- a source that begins with these
abbrev pub first_of : Bool → ℕ → ℕ → List ℤ → SourcePlay
first_of renews rate ts samples = record { play = Some (begun_by rate ts samples); tally = no_tally; renews = renews }

pub keeps_first : (renews : Bool) (new : SourceOf) (rate ts : ℕ) (samples : List ℤ) → new.tally ≡ no_tally
    → Holds new.playout (Some (begun_by rate ts samples))
    → Keeps renews new (first_of renews rate ts samples)
keeps_first renews new rate ts samples none held = record {
  play = begun_by rate ts samples;
  is = λ i. record { play = Some (begun_by rate ts samples); tally = sym none i; renews = renews };
  holds = held;
}

-- what begins anew by itself begins anew by the rule too
anew : (rate ts : ℕ) (samples : List ℤ) (play : Option Play) → play_put rate play ts samples ≡ begun_by rate ts samples
    → renewing_put rate play no_tally ts samples ≡ first_of true rate ts samples
anew rate ts samples play is = by (is_overdue rate no_tally)
  where
    by : (b : Bool)
        → cond b (first_of true rate ts samples)
        (record { play = Some (play_put rate play ts samples); tally = no_tally; renews = true })
        ≡ first_of true rate ts samples
    by true = refl
    by false = λ i. record { play = Some (is i); tally = no_tally; renews = true }

-- a source that begins by a put
pub begins : (renews : Bool) (rate ts : ℕ) (samples : List ℤ) (play : Option Play) (tally : SoundTally)
    → tally_after (at_rate rate play) tally ts samples ≡ no_tally
    → play_put rate play ts samples ≡ begun_by rate ts samples
    → source_put rate (record { play = play; tally = tally; renews = renews }) ts samples
    ≡ first_of renews rate ts samples
begins false rate ts samples play tally none is = λ i. record { play = Some (is i); tally = no_tally; renews = false }
begins true rate ts samples play tally none is =
    ap (λ (t : SoundTally). renewing_put rate play t ts samples) none ∙ anew rate ts samples play is

-- a source of which this is kept
abbrev known : Bool → SourceOf → Play → SourcePlay
known renews kept play = record { play = Some play; tally = kept.tally; renews = renews }

-- a put is known by what it does to each play that is held
puts_by : (renews : Bool) (old new : SourceOf) (rate ts : ℕ) (samples : List ℤ)
    → ((play : Play) → Holds old.playout (Some play)
    → Keeps renews new (source_put rate (known renews old play) ts samples))
    → PutsInto renews old new rate ts samples
puts_by renews old new rate ts samples step s k =
    subst (λ (x : SourcePlay). Keeps renews new (source_put rate x ts samples)) (sym k.is) (step k.play k.holds)

-- the tally of a playout after a put at its own rate
own_tally : (rate ts : ℕ) (samples : List ℤ) (play : Play) (tally : SoundTally) → play.rate ≡ rate
    → tally_after (at_rate rate (Some play)) tally ts samples
    ≡ cond (is_reset play.rate play.position (place_of play.position ts) (length samples)) no_tally
    (tallied rate tally (offset_of play.position ts) (length samples))
own_tally rate ts samples play tally same =
    ap (λ (o : Option Play). tally_after o tally ts samples) (at_own rate play same)
    ∙ ap
    (λ (r : ℕ).
    cond (is_reset play.rate play.position (place_of play.position ts) (length samples)) no_tally
    (tallied r tally (offset_of play.position ts) (length samples)))
    same

-- at another rate than its own the playout begins anew
pub at_another_rate : (renews : Bool) (old new : SourceOf) (rate ts : ℕ) (samples : List ℤ)
    → length old.playout.cells ≢ rate
    → new.tally ≡ no_tally → Holds new.playout (Some (begun_by rate ts samples))
    → PutsInto renews old new rate ts samples
at_another_rate renews old new rate ts samples other none held = puts_by renews old new rate ts samples (λ play h.
    (let apart : play.rate ≢ rate = λ same. other (sym h.1 ∙ same) in
    let is : play_put rate (Some play) ts samples ≡ begun_by rate ts samples =
    ap (λ (b : Bool). cond b (put_after play ts samples) (begun_by rate ts samples)) (eq_no play.rate rate apart) in
    subst (λ (x : SourcePlay). Keeps renews new x)
    (sym (begins renews rate ts samples (Some play) old.tally
    (ap (λ (o : Option Play). tally_after o old.tally ts samples) (at_other rate play apart)) is))
    (keeps_first renews new rate ts samples none held)))

module _ (old new : SourceOf) (middle : PlayoutOf) (rate ts : ℕ) (samples : List ℤ) (placed : PlacedSamples)
    (long : length old.playout.cells ≡ rate)
    (puts : Puts old.playout middle ts samples placed) where
  -- the put before anything is renewed
  held : (play : Play) → Holds old.playout (Some play) → Holds middle (Some (play_put rate (Some play) ts samples))
  held play h = subst (λ (r : ℕ). Holds middle (Some (play_put r (Some play) ts samples))) long (puts (Some play) h).1

  module _ (offset : Offset) (other : placed ≢ Reset)
      (far : (play : Play) → Holds old.playout (Some play) → offset ≡ offset_of play.position ts) where
    abbrev pub next : SoundTally
    next = tallied rate old.tally offset (length samples)

    -- the tally after it
    next_is : (play : Play) → Holds old.playout (Some play)
        → tally_after (at_rate rate (Some play)) old.tally ts samples ≡ next
    next_is play h =
        let stays : is_reset play.rate play.position (place_of play.position ts) (length samples) ≡ false =
        not_reset _ _ placed _ other (sym (puts (Some play) h).0) in
        own_tally rate ts samples play old.tally (h.1 ∙ long)
        ∙ ap (λ (b : Bool). cond b no_tally (tallied rate old.tally (offset_of play.position ts) (length samples)))
        stays
        ∙ ap (λ (o : Offset). tallied rate old.tally o (length samples)) (sym (far play h))

    -- a put that is counted
    pub counted_put : (is_overdue rate next ≡ false → new ≡ record { playout = middle; tally = next })
        → (is_overdue rate next ≡ true → Holds new.playout (Some (begun_by rate ts samples)))
        → (is_overdue rate next ≡ true → new.tally ≡ no_tally)
        → PutsInto true old new rate ts samples
    counted_put stays begun none = puts_by true old new rate ts samples (λ play h.
        subst (λ (t : SoundTally). Keeps true new (renewing_put rate (Some play) t ts samples)) (sym (next_is play h))
        (by play h (is_overdue rate next) refl))
      where
        by : (play : Play) → Holds old.playout (Some play) → (b : Bool) → is_overdue rate next ≡ b
            → Keeps true new (cond b (first_of true rate ts samples)
            (record { play = Some (play_put rate (Some play) ts samples); tally = next; renews = true }))
        by play h true is = keeps_first true new rate ts samples (none is) (begun is)
        by play h false is =
            subst
            (λ (x : SourceOf).
            Keeps true x (record { play = Some (play_put rate (Some play) ts samples); tally = next; renews = true }))
            (sym (stays is)) (record {
              play = play_put rate (Some play) ts samples;
              is = refl;
              holds = held play h;
            })

-- a take of 20 ms leaves the tally
pub ticked : (old new : SourceOf) → new.tally ≡ old.tally
    → HasTaken old.playout new.playout (length old.playout.cells / 50) → HasTicked old new
ticked old new same taken renews s k =
    subst (λ (x : SourcePlay). Keeps renews new (source_ticked x)) (sym k.is) (record {
      play = record { rate = k.play.rate; position = k.play.position + tick_samples k.play.rate; pairs = k.play.pairs };
      is = λ i.
          record {
            play =
                Some (record {
                  rate = k.play.rate;
                  position = k.play.position + tick_samples k.play.rate;
                  pairs = k.play.pairs;
                });
            tally = sym same i;
            renews = renews;
          };
      holds =
          subst (λ (rate : ℕ). Holds new.playout (play_taken (rate / 50) (Some k.play))) (sym k.holds.1)
          (taken (Some k.play) k.holds);
    })
