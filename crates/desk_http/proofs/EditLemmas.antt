-- A text from its parts.
use Rattle.std.proofs.Common.{◌≡◌, ◌∙◌, ℕ, ◌+◌, Bool, true, false, ◌&&◌, List, ◌++◌, take, drop, refl, sym, ap}
use Rattle.std.proofs.Common.{append_assoc}
use Rattle.std.specs.Str.{bytes_eq}
use Rattle.std.proofs.lemmas.List.{take-append-drop, drop-drop}
use Rattle.std.proofs.lemmas.Slice.Eq.{bytes_eq-Decides}
use Rattle.desk_http.specs.Events.{MakesText}

-- a text is its front, so many octets behind it, and the rest
in_three : (text : List ℕ) (start count : ℕ)
    → text ≡ take start text ++ take count (drop start text) ++ drop (start + count) text
in_three text start count =
    sym (take-append-drop start text)
    ∙ (ap (λ rest. take start text ++ rest)
    (sym (take-append-drop count (drop start text))
    ∙ ap (λ rest. take count (drop start text) ++ rest) (drop-drop count start text))
    ∙ sym (append_assoc (take start text) (take count (drop start text)) (drop (start + count) text)))

-- where the fronts and the ends are the same, the middle of one text makes it of the other
edit_yes : (before after : List ℕ) (start removed inserted : ℕ) → take start before ≡ take start after
    → drop (start + removed) before ≡ drop (start + inserted) after
    → after ≡ take start before ++ take inserted (drop start after) ++ drop (start + removed) before
edit_yes before after start removed inserted front back =
    in_three after start inserted
    ∙ (ap (λ part. part ++ take inserted (drop start after) ++ drop (start + inserted) after) (sym front)
    ∙ ap (λ part. take start before ++ take inserted (drop start after) ++ part) (sym back))

both : (a b : Bool) → (a && b) ≡ true → (a ≡ true) × (b ≡ true)
both true b h = (refl, h)
both false b h = cc

pub makes-text : MakesText
makes-text edit before after h =
    let front = bytes_eq (take edit.start before) (take edit.start after) in
    let back = bytes_eq (drop (edit.start + edit.removed) before) (drop (edit.start + edit.inserted) after) in
    let ends = both front back h in
    edit_yes before after edit.start edit.removed edit.inserted
    ((bytes_eq-Decides (take edit.start before) (take edit.start after)).0 ends.0)
    ((bytes_eq-Decides (drop (edit.start + edit.removed) before) (drop (edit.start + edit.inserted) after)).0 ends.1)
