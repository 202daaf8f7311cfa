-- What happens to requests, step by step: what waits, and when a source is asked (own).
use Rattle.std.specs.Prelude.{◌≡◌, ◌⊎◌, ℕ, ◌+◌, ◌≤◌, Bool, true, false, not, ◌&&◌, ◌||◌, if◌then◌else◌, List, [], ◌∷◌}
use Rattle.std.specs.Prelude.{Option, None, Some, IfSome}
use Rattle.std.specs.Bool.{MatchBool}
use Rattle.desk_rows.specs.Desk.{Desk}
use Rattle.picture_requests.specs.declared.source.VideoSource.{VideoSource}
use Rattle.picture_requests.specs.declared.choosing.SlotChoice.{SlotChoice}
use Rattle.picture_requests.specs.Sources.{same_source, is_among}
use Rattle.picture_requests.specs.Choices.{choices_of, chosen_sources, changed_to}
use Rattle.picture_requests.specs.Requests.{RequestsOf, request_gap, due, after_seeing, after_wanting, after_asking}

-- a desk is seen at a moment; a source is to be asked for another reason; a source was asked
pub data RequestStep : Type 0 where
  see : (desk : Desk) → (moment : ℕ) → RequestStep
  want : (source : VideoSource) → (moment : ℕ) → RequestStep
  ask : (source : VideoSource) → (moment : ℕ) → RequestStep

-- the requests after a step
abbrev pub after_step : RequestStep → RequestsOf → RequestsOf
after_step (see desk moment) r = after_seeing desk moment r
after_step (want source moment) r = after_wanting source moment r
after_step (ask source moment) r = after_asking source moment r

-- the requests after these steps
abbrev pub after_steps : List RequestStep → RequestsOf → RequestsOf
after_steps [] r = r
after_steps (s ∷ ss) r = after_steps ss (after_step s r)

-- ---- one source

-- the choices of the desk that was seen last, after a step
abbrev pub choices_after : RequestStep → List SlotChoice → List SlotChoice
choices_after (see desk moment) choices = choices_of desk
choices_after (want source moment) choices = choices
choices_after (ask source moment) choices = choices

-- whether a source waits after a step, by the choices before it and whether it waited
abbrev pub waits_after : VideoSource → RequestStep → List SlotChoice → Bool → Bool
waits_after source (see desk moment) choices waits =
    (is_among (chosen_sources (choices_of desk)) source && waits)
    || is_among (changed_to choices (choices_of desk)) source
waits_after source (want wanted moment) choices waits = waits || same_source source wanted
waits_after source (ask asked moment) choices waits = not (same_source source asked) && waits

-- whether a source waits after these steps, by the choices before them and whether it waited
abbrev pub waits_at_end : VideoSource → List RequestStep → List SlotChoice → Bool → Bool
waits_at_end source [] choices waits = waits
waits_at_end source (s ∷ ss) choices waits =
    waits_at_end source ss (choices_after s choices) (waits_after source s choices waits)

-- when a source was asked in these steps
abbrev pub asks_of : VideoSource → List RequestStep → List ℕ
asks_of source [] = []
asks_of source (see desk moment ∷ ss) = asks_of source ss
asks_of source (want wanted moment ∷ ss) = asks_of source ss
asks_of source (ask asked moment ∷ ss) =
    if same_source source asked then moment ∷ asks_of source ss else asks_of source ss

-- ---- what a caller keeps to

-- Each source is asked when it is due.
abbrev pub AreDue : RequestsOf → List RequestStep → Type 0
AreDue r [] = Unit {0}
AreDue r (see desk moment ∷ ss) = AreDue (after_step (see desk moment) r) ss
AreDue r (want source moment ∷ ss) = AreDue (after_step (want source moment) r) ss
AreDue r (ask source moment ∷ ss) =
    (is_among (due moment r) source ≡ true) × AreDue (after_step (ask source moment) r) ss

-- A source is asked only when it is due, or at once where it was wanted.
abbrev pub IsAskedInTime : VideoSource → RequestsOf → (wanted : Bool) → List RequestStep → Type 0
IsAskedInTime source r wanted [] = Unit {0}
IsAskedInTime source r wanted (see desk moment ∷ ss) =
    IsAskedInTime source (after_step (see desk moment) r) false ss
IsAskedInTime source r wanted (want other moment ∷ ss) =
    IsAskedInTime source (after_step (want other moment) r) (same_source source other) ss
IsAskedInTime source r wanted (ask asked moment ∷ ss) =
    (same_source source asked ≡ true → (wanted ≡ true) ⊎ (is_among (due moment r) source ≡ true))
    × IsAskedInTime source (after_step (ask asked moment) r) false ss

-- No moment is before this one, or before one that came earlier.
abbrev pub AreInOrder : ℕ → List RequestStep → Type 0
AreInOrder moment [] = Unit {0}
AreInOrder moment (see desk next ∷ ss) = (moment ≤ next) × AreInOrder next ss
AreInOrder moment (want source next ∷ ss) = (moment ≤ next) × AreInOrder next ss
AreInOrder moment (ask source next ∷ ss) = (moment ≤ next) × AreInOrder next ss

-- ---- what follows

-- Each of these moments is at least half a second before the next one.
abbrev pub AreSpaced : List ℕ → Type 0
AreSpaced [] = Unit {0}
AreSpaced (m ∷ []) = Unit {0}
AreSpaced (m ∷ n ∷ ms) = (m + request_gap ≤ n) × AreSpaced (n ∷ ms)

-- Each request to a source comes at least half a second after the one before it, which was at this moment, or there was
-- none. Where the source is wanted again, this begins anew.
abbrev pub AreApart : VideoSource → (last : Option ℕ) → List RequestStep → Type 0
AreApart source last [] = Unit {0}
AreApart source last (see desk moment ∷ ss) = AreApart source last ss
AreApart source last (want other moment ∷ ss) = AreApart source (if same_source source other then None else last) ss
AreApart source last (ask asked moment ∷ ss) =
    MatchBool (same_source source asked)
    (IfSome last (λ l. l + request_gap ≤ moment) × AreApart source (Some moment) ss)
    (AreApart source last ss)
