-- What a text without settings reads as, and the least of keys that ascend.
use Rattle.std.proofs.Common.{◌≡◌, ℕ, Bool, true, false, not, List, [], ◌∷◌, filter, fold, Option, None, Some, cond}
use Rattle.std.proofs.Common.{if◌then◌else◌, String, Global, string_bytes, nat_cmp, Less, refl}
use Rattle.std.specs.Cmp.Lexicographic.{slice_cmp}
use Rattle.std.specs.List.{AllByRecursion}
use Rattle.std.specs.List.Sorted.{IsStrictlySortedBy}
use Rattle.std.specs.Map.{keys_of}
use Rattle.std.specs.String.{string_cmp}
use Rattle.toml.specs.Data.{no_members}
use Rattle.toml.specs.Parse.{parse_document, lines}
use Rattle.toml.specs.Errors.{IsBlank}
use Rattle.toml.specs.View.{members_view}
use Rattle.toml.proofs.Views.{Entry}
use Rattle.front_settings.specs.Settings.{is_known, lesser, unknown_in}
use Rattle.front_settings.specs.Settings as front

-- a blank text is the table without members
pub blank_is_empty : (text : List ℕ) → IsBlank text → parse_document text ≡ Some no_members
unfolding parse_document lines
blank_is_empty text h = rw h

-- the first of some keys that is not known
abbrev pub first_unknown : List (String Global) → Option (List ℕ)
first_unknown [] = None
first_unknown (key ∷ keys) = if is_known (string_bytes key) then first_unknown keys else Some (string_bytes key)

stays : (text : List ℕ) (texts : List (List ℕ)) → AllByRecursion (λ other. slice_cmp nat_cmp text other ≡ Less) texts
    → fold lesser text texts ≡ text
stays text [] h = refl
stays text (other ∷ texts) h = rw h.0 (stays text texts h.1)

filtered : (text : List ℕ) (b : Bool) (other : List ℕ) (texts : List (List ℕ)) → slice_cmp nat_cmp text other ≡ Less
    → AllByRecursion (λ other. slice_cmp nat_cmp text other ≡ Less) texts
    → AllByRecursion (λ other. slice_cmp nat_cmp text other ≡ Less) (cond b (other ∷ texts) texts)
filtered text true other texts e h = (e, h)
filtered text false other texts e h = h

below_left : (text : List ℕ) (es : List Entry)
    → AllByRecursion (λ key. slice_cmp nat_cmp text (string_bytes key) ≡ Less) (keys_of es)
    → AllByRecursion (λ other. slice_cmp nat_cmp text other ≡ Less)
    (filter (λ other. not (is_known other)) (front.keys_in (members_view es)))
below_left text [] h = tt
below_left text (e ∷ es) h =
    filtered text (not (is_known (string_bytes e.0))) (string_bytes e.0) _ h.0 (below_left text es h.1)

-- of keys that ascend, the first that is not known is the least such
pub first_is_least : (es : List Entry) → IsStrictlySortedBy string_cmp (keys_of es)
    → first_unknown (keys_of es) ≡ unknown_in (members_view es)
unfolding IsStrictlySortedBy
first_is_least [] h = refl
first_is_least (e ∷ es) h =
    elim (is_known (string_bytes e.0)) as (λ (b : Bool).
    is_known (string_bytes e.0) ≡ b → first_unknown (keys_of (e ∷ es)) ≡ unknown_in (members_view (e ∷ es))) [
      | true ↦ λ known. rw known (first_is_least es h.1)
      | false ↦ λ known. rw known (rw (stays (string_bytes e.0) _ (below_left (string_bytes e.0) es h.0)) refl)
    ] refl

-- one more key, known or not
pub known_more : (key : String Global) (keys : List (String Global)) → is_known (string_bytes key) ≡ true
    → first_unknown (key ∷ keys) ≡ first_unknown keys
known_more key keys known = rw known refl

pub unknown_next : (key : String Global) (keys : List (String Global)) → is_known (string_bytes key) ≡ false
    → first_unknown (key ∷ keys) ≡ Some (string_bytes key)
unknown_next key keys known = rw known refl
