-- Whether an answer is a text.
use Rattle.std.proofs.Common.{◌≡◌, ℕ, Bool, true, false, List, refl}
use Rattle.std.specs.Str.{IsUtf8, is_utf8}
use Rattle.std.proofs.lemmas.Str.{IsUtf8-from_is_utf8, is_utf8-from_IsUtf8}

pub utf8_yes : (text : List ℕ) → IsUtf8 text → is_utf8 text ≡ true
utf8_yes text h = is_utf8-from_IsUtf8 text h

not_true : (b : Bool) → (b ≡ true → ⊥) → b ≡ false
not_true true h = absurd (h refl)
not_true false h = refl

pub utf8_no : (text : List ℕ) → (IsUtf8 text → ⊥) → is_utf8 text ≡ false
utf8_no text h = not_true (is_utf8 text) (λ e. h (IsUtf8-from_is_utf8 text e))
