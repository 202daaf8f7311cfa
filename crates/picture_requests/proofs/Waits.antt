-- What waits after a step, source by source.
use Rattle.std.proofs.Common.{◌≡◌, ℕ, Bool, true, false, cond, ◌&&◌, ◌||◌, not, List, [], ◌∷◌, ◌++◌, refl, sym, ap, ◌∙◌}
use Rattle.std.specs.Prelude.{filter}
use Rattle.std.proofs.lemmas.List.Folds.{list_any-append}
use Rattle.std.proofs.lemmas.Map.Views.{any-filter_same}
use Rattle.picture_requests.specs.declared.source.VideoSource.{VideoSource}
use Rattle.picture_requests.specs.Sources.{same_source, is_among, without_source}
use Rattle.picture_requests.specs.Choices.{choices_of, chosen_sources, changed_to}
use Rattle.picture_requests.specs.Requests.{RequestsOf, is_recent, still_chosen}
use Rattle.picture_requests.specs.Steps.{RequestStep, see, want, ask, after_step, after_steps, choices_after}
use Rattle.picture_requests.specs.Steps.{waits_after, waits_at_end}
use Rattle.picture_requests.proofs.Same.{source_is, sources_equivalence}
use Rattle.picture_requests.proofs.Once.{has_inserted, has_source}

-- a source is among those of these that pass a test which it passes
pub among_filtered : (s : VideoSource) (p : VideoSource → Bool) (xs : List VideoSource)
    → is_among (filter p xs) s ≡ (p s && is_among xs s)
among_filtered s p xs = any-filter_same (same_source s) p (p s) (λ k e. ap p (sym (source_is s k e))) xs

-- what is not there is not taken out
not_there : (s t : VideoSource) (xs : List VideoSource) → is_among xs t ≡ false
    → is_among xs s ≡ (not (same_source s t) && is_among xs s)
not_there s t xs h = by (same_source s t) refl
  where
    by : (b : Bool) → same_source s t ≡ b → is_among xs s ≡ (not b && is_among xs s)
    by true e = ap (is_among xs) (source_is s t e) ∙ h
    by false e = refl

-- a source waits anew
abbrev pub wanted : VideoSource → ℕ → RequestsOf → RequestsOf
wanted t moment r =
    record { choices = r.choices; waiting = r.waiting ++ t ∷ []; sent = filter (is_recent moment) r.sent }

-- a source was asked
abbrev pub asked : VideoSource → ℕ → RequestsOf → RequestsOf
asked t moment r =
    record {
      choices = r.choices;
      waiting = without_source t r.waiting;
      sent = r.sent ++ (record { source = t; moment = moment }) ∷ [];
    }

pub waiting_of : (b : Bool) (r q : RequestsOf) → (cond b r q).waiting ≡ cond b r.waiting q.waiting
waiting_of true r q = refl
waiting_of false r q = refl

pub sent_of : (b : Bool) (r q : RequestsOf) → (cond b r q).sent ≡ cond b r.sent q.sent
sent_of true r q = refl
sent_of false r q = refl

same_choices : (b : Bool) (r q : RequestsOf) → r.choices ≡ q.choices → (cond b r q).choices ≡ r.choices
same_choices true r q h = refl
same_choices false r q h = sym h

pub waits_step : (s : VideoSource) (step : RequestStep) (r : RequestsOf)
    → is_among (after_step step r).waiting s ≡ waits_after s step r.choices (is_among r.waiting s)
waits_step s (see desk moment) r =
    let after = choices_of desk in
    has_source s (still_chosen after r.waiting ++ changed_to r.choices after)
    ∙ list_any-append (same_source s) (still_chosen after r.waiting) (changed_to r.choices after)
    ∙ ap (λ b. b || is_among (changed_to r.choices after) s)
    (among_filtered s (is_among (chosen_sources after)) r.waiting)
waits_step s (want t moment) r =
    ap (λ ws. is_among ws s) (waiting_of (is_among r.waiting t) r (wanted t moment r))
    ∙ has_inserted same_source sources_equivalence s t r.waiting
waits_step s (ask t moment) r =
    ap (λ ws. is_among ws s) (waiting_of (is_among r.waiting t) (asked t moment r) r) ∙ by (is_among r.waiting t) refl
  where
    by : (b : Bool) → is_among r.waiting t ≡ b
        → is_among (cond b (without_source t r.waiting) r.waiting) s ≡ (not (same_source s t) && is_among r.waiting s)
    by true e = among_filtered s (λ x. not (same_source x t)) r.waiting
    by false e = not_there s t r.waiting e

choices_step : (step : RequestStep) (r : RequestsOf) → (after_step step r).choices ≡ choices_after step r.choices
choices_step (see desk moment) r = refl
choices_step (want t moment) r = same_choices (is_among r.waiting t) r (wanted t moment r) refl
choices_step (ask t moment) r = same_choices (is_among r.waiting t) (asked t moment r) r refl

pub waits_on : (s : VideoSource) (steps : List RequestStep) (r : RequestsOf)
    → is_among (after_steps steps r).waiting s ≡ waits_at_end s steps r.choices (is_among r.waiting s)
waits_on s [] r = refl
waits_on s (step ∷ steps) r =
    waits_on s steps (after_step step r) ∙ (λ i. waits_at_end s steps (choices_step step r i) (waits_step s step r i))
