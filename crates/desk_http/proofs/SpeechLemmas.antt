-- What is kept of a source after one more quarter.
use Rattle.std.proofs.Common.{◌≡◌, ◌∙◌, ℕ, ◌+◌, min, cond, Bool, true, false, nat_eq, nat_le, if◌then◌else◌, List, ◌∷◌}
use Rattle.std.proofs.Common.{ap, arith}
use Rattle.std.proofs.lemmas.Bool.Decides.{nat_tests}
use Rattle.desk_http.specs.declared.speaking.Quarter.{Quarter}
use Rattle.desk_http.specs.declared.speaking.SpeechState.{SpeechState}
use Rattle.desk_http.specs.Speaking.{is_loud, is_quiet, row_of, speaks, IsSpeechState}

-- one more of a row, of which so many are counted at most
one_more : (goes_on : Bool) (most kept row : ℕ) → kept ≡ min most row
    → (if goes_on then min most (kept + 1) else 0) ≡ min most (cond goes_on (1 + row) 0)
one_more true most kept row is = omega (arith, is)
one_more false most kept row is = omega arith

is_two : (kept row : ℕ) → kept ≡ min 2 row → nat_eq kept 2 ≡ nat_le 2 row
is_two kept row is = grind (arith, nat_tests)

is_four : (kept row : ℕ) → kept ≡ min 4 row → nat_eq kept 4 ≡ nat_le 4 row
is_four kept row is = grind (arith, nat_tests)

pub next_state : (s t : SpeechState) (q : Quarter) (before : List Quarter)
    → t.loud ≡ (if is_loud q then min 2 (s.loud + 1) else 0)
    → t.quiet ≡ (if is_quiet q then min 4 (s.quiet + 1) else 0)
    → t.is_speaking ≡ (if nat_eq t.loud 2 then true else if nat_eq t.quiet 4 then false else s.is_speaking)
    → IsSpeechState s before → IsSpeechState t (q ∷ before)
next_state s t q before loud quiet is h = record { is_speaking = spoken; loud = its_loud; quiet = its_quiet }
  where
    its_loud : t.loud ≡ min 2 (row_of is_loud (q ∷ before))
    its_loud = loud ∙ one_more (is_loud q) 2 s.loud (row_of is_loud before) h.loud

    its_quiet : t.quiet ≡ min 4 (row_of is_quiet (q ∷ before))
    its_quiet = quiet ∙ one_more (is_quiet q) 4 s.quiet (row_of is_quiet before) h.quiet

    spoken : t.is_speaking ≡ speaks (q ∷ before)
    spoken =
        is
        ∙ (ap (λ (b : Bool). if nat_eq t.loud 2 then true else if nat_eq t.quiet 4 then false else b) h.is_speaking
        ∙ (ap (λ (b : Bool). if b then true else if nat_eq t.quiet 4 then false else speaks before)
        (is_two t.loud (row_of is_loud (q ∷ before)) its_loud)
        ∙ ap (λ (b : Bool). if nat_le 2 (row_of is_loud (q ∷ before)) then true else if b then false else speaks before)
        (is_four t.quiet (row_of is_quiet (q ∷ before)) its_quiet)))
