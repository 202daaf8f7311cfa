-- Lines of rows, one after another.
use Rattle.std.proofs.Common.{◌≡◌, ℕ, zero, suc, ◌+◌, ◌<◌, ◌≤◌, List, [], ◌∷◌, ◌++◌, length, take, drop, get_or, Some}
use Rattle.std.proofs.Common.{None, Ok, Err, refl, sym, ap, ◌∙◌, append_assoc, arith}
use Rattle.std.specs.List.{slice_get, flat_map}
use Rattle.std.proofs.lemmas.Grind.{common_steps}
use Rattle.std.proofs.lemmas.List.{append-nil}
use Rattle.desk_rows.specs.declared.row.Row.{Row}
use Rattle.std.specs.declared.alloc.AllocError.{AllocError}
use Rattle.desk_text.specs.Text.{line_text}
use Rattle.desk_text.specs.RowLines.{row_words, rows_text}
use Rattle.desk_text.specs.inner.Growing.{TextBuffer, Grows}
use Rattle.desk_text.proofs.GrowLemmas.{grows_none, grows_then, grows_stop, grows_same}

-- the row at a place, and those behind it
at_place : (rs : List Row) (i : ℕ) (r : Row) → slice_get rs i ≡ Some r → drop i rs ≡ r ∷ drop (i + 1) rs
at_place [] i r h = absurd cc
at_place (x ∷ rs) zero r h = (let same : x ≡ r = cc in ap (λ (y : Row). y ∷ rs) same)
at_place (x ∷ rs) (suc i) r h =
    (let e : suc i + 1 ≡ suc (i + 1) = omega arith in at_place rs i r h ∙ ap (λ (n : ℕ). r ∷ drop n (x ∷ rs)) (sym e))

none_there : (rs : List Row) (i : ℕ) → slice_get rs i ≡ None → (drop i rs ≡ []) × (drop (i + 1) rs ≡ [])
none_there [] i h = (grind (arith, common_steps), grind (arith, common_steps))
none_there (x ∷ rs) zero h = absurd cc
none_there (x ∷ rs) (suc i) h =
    let none = none_there rs i h in
    let e : suc i + 1 ≡ suc (i + 1) = omega arith in
    (none.0, ap (λ (n : ℕ). drop n (x ∷ rs)) e ∙ none.1)

-- the lines up to a place are out, and with those of the rows from there on they are all
pub record IsOnWay (old now : TextBuffer) (rest all : List ℕ) : Type 0 where
  pub so_far : List ℕ
  pub out : Grows old now so_far (Ok tt)
  pub whole : so_far ++ rest ≡ all

pub on_way : (old : TextBuffer) (rs : List Row) → IsOnWay old old (rows_text 0 (drop 0 rs)) (rows_text 0 rs)
on_way old rs = record { so_far = []; out = grows_none old; whole = refl }

-- with the line of the row at a place
with_line : (rs : List Row) (i : ℕ) (r : Row) (so_far all : List ℕ) → slice_get rs i ≡ Some r
    → so_far ++ rows_text i (drop i rs) ≡ all
    → (so_far ++ line_text (row_words i r)) ++ rows_text (i + 1) (drop (i + 1) rs) ≡ all
with_line rs i r so_far all h is =
    append_assoc so_far (line_text (row_words i r)) (rows_text (i + 1) (drop (i + 1) rs))
    ∙ (sym (ap (λ (t : List Row). so_far ++ rows_text i t) (at_place rs i r h)) ∙ is)

-- the line of the row at a place is out too
pub next_line : (old mid new : TextBuffer) (rs : List Row) (i : ℕ) (r : Row) (all : List ℕ) → slice_get rs i ≡ Some r
    → IsOnWay old mid (rows_text i (drop i rs)) all → Grows mid new (line_text (row_words i r)) (Ok tt)
    → IsOnWay old new (rows_text (i + 1) (drop (i + 1) rs)) all
next_line old mid new rs i r all h way grows = record {
  so_far = way.so_far ++ line_text (row_words i r);
  out = grows_then old mid new way.so_far (line_text (row_words i r)) (Ok tt) way.out grows;
  whole = with_line rs i r way.so_far all h way.whole;
}

-- it is not all out, so all is not
pub line_short : (old mid new : TextBuffer) (rs : List Row) (i : ℕ) (r : Row) (all : List ℕ) (e : AllocError)
    → slice_get rs i ≡ Some r → IsOnWay old mid (rows_text i (drop i rs)) all
    → Grows mid new (line_text (row_words i r)) (Err e)
    → Grows old new all (Err e)
line_short old mid new rs i r all e h way grows =
    let line = line_text (row_words i r) in
    let rest = rows_text (i + 1) (drop (i + 1) rs) in
    grows_same old new ((way.so_far ++ line) ++ rest) all (Err e) (with_line rs i r way.so_far all h way.whole)
    (grows_stop old new (way.so_far ++ line) rest e (grows_then old mid new way.so_far line (Err e) way.out grows))

-- where there is no row, there is none behind it
pub no_line : (old mid : TextBuffer) (rs : List Row) (i : ℕ) (all : List ℕ) → slice_get rs i ≡ None
    → IsOnWay old mid (rows_text i (drop i rs)) all → IsOnWay old mid (rows_text (i + 1) (drop (i + 1) rs)) all
no_line old mid rs i all h way =
    let none = none_there rs i h in
    record {
      so_far = way.so_far;
      out = way.out;
      whole =
          ap (λ (t : List Row). way.so_far ++ rows_text (i + 1) t) none.1
          ∙ (sym (ap (λ (t : List Row). way.so_far ++ rows_text i t) none.0) ∙ way.whole);
    }

-- behind the last row nothing is left
pub last_line : (old mid : TextBuffer) (rs : List Row) (i : ℕ) (all : List ℕ) → length rs ≤ i
    → IsOnWay old mid (rows_text i (drop i rs)) all → Grows old mid all (Ok tt)
last_line old mid rs i all h way =
    grows_same old mid way.so_far all (Ok tt)
    (sym (append-nil way.so_far)
    ∙ (sym (ap (λ (t : List Row). way.so_far ++ rows_text i t) (none_left rs i h)) ∙ way.whole))
    way.out
  where
    none_left : (rs : List Row) (i : ℕ) → length rs ≤ i → drop i rs ≡ []
    none_left rs i h = grind (arith, common_steps)

-- lines of one more kind
pub one_more : {X : Type 0} (f : X → List ℕ) (xs : List X) (k : ℕ) (d : X) → k < length xs
    → flat_map f (take (k + 1) xs) ≡ flat_map f (take k xs) ++ f (get_or xs k d)
one_more f [] k d lt = absurd (omega arith)
one_more f (x ∷ xs) zero d lt = append-nil (f x)
one_more f (x ∷ xs) (suc k) d lt =
    let e : suc k + 1 ≡ suc (k + 1) = omega arith in
    ap (λ (n : ℕ). flat_map f (take n (x ∷ xs))) e
    ∙ (ap (λ (t : List ℕ). f x ++ t) (one_more f xs k d (omega arith))
    ∙ sym (append_assoc (f x) (flat_map f (take k xs)) (f (get_or xs k d))))

-- the lines of the kinds from one on
pub others : {X : Type 0} (f : X → List ℕ) (xs : List X) (k : ℕ)
    → flat_map f (take k xs) ++ flat_map f (drop k xs) ≡ flat_map f xs
others f xs zero = refl
others f [] (suc k) = refl
others f (x ∷ xs) (suc k) =
    append_assoc (f x) (flat_map f (take k xs)) (flat_map f (drop k xs)) ∙ ap (λ (t : List ℕ). f x ++ t) (others f xs k)
