-- One more slot or member in a lane's sender reports.
use Rattle.std.proofs.Common.{◌≡◌, ℕ, ◌+◌, ◌<◌, List, [], ◌∷◌, ◌++◌, length, slice_index_or, take, refl, sym, ap, ◌∙◌}
use Rattle.std.proofs.lemmas.List.{take_more, append-nil, append_assoc}
use Rattle.std.specs.Prelude.{Result, Ok, Err, OnOk}
use Rattle.std.specs.List.{flat_map}

module _ {X Y : Type 0} (f : X → List Y) where
  last_of_all : (xs : List X) (x : X) → flat_map f (xs ++ x ∷ []) ≡ flat_map f xs ++ f x
  last_of_all [] x = append-nil (f x)
  last_of_all (y ∷ xs) x = ap (λ rest. f y ++ rest) (last_of_all xs x) ∙ sym (append_assoc (f y) (flat_map f xs) (f x))

  -- what the next one adds
  pub one_more : (front : List Y) (xs : List X) (i : ℕ) (e : X) (now next : List Y) → i < length xs
      → now ≡ front ++ flat_map f (take i xs) → next ≡ now ++ f (slice_index_or xs i e)
      → next ≡ front ++ flat_map f (take (i + 1) xs)
  one_more front xs i e now next lt so adds =
      let x = slice_index_or xs i e in
      adds ∙ ap (λ ys. ys ++ f x) so ∙ append_assoc front (flat_map f (take i xs)) (f x)
      ∙ ap (λ ys. front ++ ys) (sym (last_of_all (take i xs) x) ∙ ap (flat_map f) (sym (take_more xs i e lt)))

module _ {T E Y : Type 0} where
  -- what is added is the same
  pub ok_alike : (r : Result T E) (out front these those : List Y) → these ≡ those → OnOk r (out ≡ front ++ these)
      → OnOk r (out ≡ front ++ those)
  ok_alike (Ok x) out front these those same h = h ∙ ap (λ ys. front ++ ys) same
  ok_alike (Err e) out front these those same h = tt

  -- what is added in two parts
  pub ok_joined : (r : Result T E) (out between front first second those : List Y) → between ≡ front ++ first
      → second ≡ those → OnOk r (out ≡ between ++ second) → OnOk r (out ≡ front ++ (first ++ those))
  ok_joined (Ok x) out between front first second those is same h =
      h ∙ ap (λ ys. ys ++ second) is ∙ append_assoc front first second ∙ ap (λ ys. front ++ (first ++ ys)) same
  ok_joined (Err e) out between front first second those is same h = tt
