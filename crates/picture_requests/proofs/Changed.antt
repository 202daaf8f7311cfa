-- The sources to which slots changed.
use Rattle.std.proofs.Common.{◌≡◌, ℕ, Bool, true, false, cond, ◌||◌, not, List, [], ◌∷◌, Some, refl, sym, ap, ◌∙◌}
use Rattle.std.specs.Prelude.{filter}
use Rattle.std.specs.List.{list_any}
use Rattle.desk_rows.specs.Desk.{Desk}
use Rattle.picture_requests.specs.declared.source.VideoSource.{VideoSource}
use Rattle.picture_requests.specs.declared.choosing.SlotChoice.{SlotChoice}
use Rattle.picture_requests.specs.Sources.{same_source, is_among}
use Rattle.picture_requests.specs.Choices.{chosen_source, choices_of, same_choice, chosen_sources, changed_to}
use Rattle.picture_requests.specs.Choices.{newly_chosen}
use Rattle.picture_requests.proofs.Same.{source_is, source_itself, choice_is, choice_itself}
use Rattle.picture_requests.proofs.Once.{has_source}
use Rattle.picture_requests.proofs.Listed.{listed, chose}

or_first : (a b : Bool) → a ≡ true → (a || b) ≡ true
or_first a b h = ap (λ c. c || b) h

or_later : (a b : Bool) → b ≡ true → (a || b) ≡ true
or_later true b h = refl
or_later false b h = h

-- the source of a choice that passes
passed : (p : SlotChoice → Bool) (c : SlotChoice) (cs : List SlotChoice) → list_any (same_choice c) cs ≡ true
    → p c ≡ true → is_among (chosen_sources (filter p cs)) c.source ≡ true
passed p c [] h pass = absurd (cc)
passed p c (x ∷ xs) h pass = by (same_choice c x) refl h (λ later. passed p c xs later pass)
  where
    first : c ≡ x → (b : Bool) → b ≡ true
        → is_among (chosen_sources (cond b (x ∷ filter p xs) (filter p xs))) c.source ≡ true
    first same true e =
        or_first (same_source c.source x.source) (is_among (chosen_sources (filter p xs)) c.source)
        (ap (λ (y : SlotChoice). same_source c.source y.source) (sym same) ∙ source_itself c.source)
    first same false e = absurd (cc)

    behind : (b : Bool) → is_among (chosen_sources (filter p xs)) c.source ≡ true
        → is_among (chosen_sources (cond b (x ∷ filter p xs) (filter p xs))) c.source ≡ true
    behind true k = or_later (same_source c.source x.source) (is_among (chosen_sources (filter p xs)) c.source) k
    behind false k = k

    by : (b : Bool) → same_choice c x ≡ b → (b || list_any (same_choice c) xs) ≡ true
        → (list_any (same_choice c) xs ≡ true → is_among (chosen_sources (filter p xs)) c.source ≡ true)
        → is_among (chosen_sources (filter p (x ∷ xs))) c.source ≡ true
    by true e h rest = (let same = choice_is c x e in first same (p x) (ap p (sym same) ∙ pass))
    by false e h rest = behind (p x) (rest h)

-- a choice that passes, is listed and has this source
record Passing (p : SlotChoice → Bool) (s : VideoSource) (cs : List SlotChoice) : Type 0 where
  one : SlotChoice
  passes : p one ≡ true
  there : list_any (same_choice one) cs ≡ true
  source : one.source ≡ s

passing : (p : SlotChoice → Bool) (s : VideoSource) (cs : List SlotChoice)
    → is_among (chosen_sources (filter p cs)) s ≡ true → Passing p s cs
passing p s [] h = absurd (cc)
passing p s (x ∷ xs) h = by (p x) refl h (passing p s xs)
  where
    more : Passing p s xs → Passing p s (x ∷ xs)
    more q =
        record {
          one = q.one;
          passes = q.passes;
          there = or_later (same_choice q.one x) (list_any (same_choice q.one) xs) q.there;
          source = q.source;
        }

    here : p x ≡ true → (b : Bool) → same_source s x.source ≡ b
        → (b || is_among (chosen_sources (filter p xs)) s) ≡ true
        → (is_among (chosen_sources (filter p xs)) s ≡ true → Passing p s xs) → Passing p s (x ∷ xs)
    here e true t h rest =
        record {
          one = x;
          passes = e;
          there = or_first (same_choice x x) (list_any (same_choice x) xs) (choice_itself x);
          source = sym (source_is s x.source t);
        }
    here e false t h rest = more (rest h)

    by : (b : Bool) → p x ≡ b → is_among (chosen_sources (cond b (x ∷ filter p xs) (filter p xs))) s ≡ true
        → (is_among (chosen_sources (filter p xs)) s ≡ true → Passing p s xs) → Passing p s (x ∷ xs)
    by true e h rest = here e (same_source s x.source) refl h rest
    by false e h rest = more (rest h)

-- a slot that did not choose the source before
pub all_changed : (before after : Desk) (out_ssrc : ℕ) (s : VideoSource) → chosen_source after out_ssrc ≡ Some s
    → ¬ (chosen_source before out_ssrc ≡ Some s)
    → is_among (newly_chosen (choices_of before) (choices_of after)) s ≡ true
all_changed before after out_ssrc s h new =
    let c : SlotChoice = record { out_ssrc = out_ssrc; source = s } in
    has_source s (changed_to (choices_of before) (choices_of after))
    ∙ passed (λ c. not (list_any (same_choice c) (choices_of before))) c (choices_of after) (listed after out_ssrc s h)
    (unknown (list_any (same_choice c) (choices_of before)) refl)
  where
    unknown : (b : Bool) → list_any (same_choice (record { out_ssrc = out_ssrc; source = s })) (choices_of before) ≡ b
        → not b ≡ true
    unknown true e = absurd (new (chose before (record { out_ssrc = out_ssrc; source = s }) e))
    unknown false e = refl

pub only_changed : (before after : Desk) (s : VideoSource)
    → is_among (newly_chosen (choices_of before) (choices_of after)) s ≡ true
    → (out_ssrc : ℕ) × (chosen_source after out_ssrc ≡ Some s) × ¬ (chosen_source before out_ssrc ≡ Some s)
only_changed before after s h =
    let q =
    passing (λ c. not (list_any (same_choice c) (choices_of before))) s (choices_of after)
    (sym (has_source s (changed_to (choices_of before) (choices_of after))) ∙ h) in (
      q.one.out_ssrc,
      chose after q.one q.there ∙ ap Some q.source,
      λ k. unknown q.one q.passes (listed before q.one.out_ssrc q.one.source (k ∙ ap Some (sym q.source))),
    )
  where
    unknown : (c : SlotChoice) → not (list_any (same_choice c) (choices_of before)) ≡ true
        → list_any (same_choice c) (choices_of before) ≡ true → ⊥
    unknown c n k = let no : false ≡ true = sym (ap not k) ∙ n in absurd (cc)
