-- As long as nobody asks for it, nothing begins anew by its tally.
use Rattle.std.proofs.Common.{◌≡◌, ◌≢◌, refl, ℕ, Bool, true, false, List, [], ◌∷◌, Option, Some, cond}
use Rattle.std.specs.Prelude.{fold, All}
use Rattle.std.proofs.lemmas.List.Elements.{All-head, All-tail}
use Rattle.rtp_codec.specs.declared.address.Address.{Address}
use Rattle.playout.specs.declared.tally.SoundTally.{SoundTally}
use Rattle.playout.specs.Playout.{Play}
use Rattle.playout.specs.Calls.{play_put, play_ticked}
use Rattle.playout.specs.Renewal.{SourcePlay, no_tally}
use Rattle.playout.specs.Playouts.{AudioEvent, PutOf, TakeAll, Renewing, same_source, source_next}
use Rattle.playout.specs.laws.Plain.{plain_next}

-- a source that does not begin anew by its tally
abbrev unasked : Option Play → SoundTally → SourcePlay
unasked play tally = record { play = play; tally = tally; renews = false }

-- over any list of events without the asking
pub plain_from : (source : ℕ) (address : Address) (events : List AudioEvent) (play : Option Play) (tally : SoundTally)
    → All (λ event. event ≢ Renewing) events
    → (fold (source_next source address) (unasked play tally) events).play
    ≡ fold (plain_next source address) play events
plain_from source address [] play tally all = refl
plain_from source address (PutOf other at rate ts samples ∷ events) play tally all =
    let rest = All-tail (λ (event : AudioEvent). event ≢ Renewing) (PutOf other at rate ts samples) events all in
    by (plain_from source address events (Some (play_put rate play ts samples)) no_tally rest)
    (plain_from source address events play tally rest) (same_source other at source address)
  where
    put : Option Play
    put = Some (play_put rate play ts samples)

    by : (fold (source_next source address) (unasked put no_tally) events).play
        ≡ fold (plain_next source address) put events
        → (fold (source_next source address) (unasked play tally) events).play
        ≡ fold (plain_next source address) play events
        → (b : Bool)
        → (fold (source_next source address) (cond b (unasked put no_tally) (unasked play tally)) events).play
        ≡ fold (plain_next source address) (cond b put play) events
    by own other true = own
    by own other false = other
plain_from source address (TakeAll ∷ events) play tally all =
    plain_from source address events (play_ticked play) tally
    (All-tail (λ (event : AudioEvent). event ≢ Renewing) TakeAll events all)
plain_from source address (Renewing ∷ events) play tally all =
    absurd (All-head (λ (event : AudioEvent). event ≢ Renewing) Renewing events all refl)
