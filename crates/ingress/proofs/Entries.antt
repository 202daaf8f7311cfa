-- Entries of a map, ordered by use.
use Rattle.std.proofs.Common.{◌≡◌, Bool, true, false, List, [], ◌∷◌, Some, refl, ap}
use Rattle.std.specs.Map.{lookup, lookup_entry, remove_entry, set_value}
use Rattle.std.specs.Option.{option_map_or}

module _ {K X : Type 0} (test : K → Bool) where
  -- the entry of a value that is found
  pub record Found (es : List (K × X)) (v : X) : Type 0 where
    pub key : K
    pub entry : lookup_entry test es ≡ Some (key, v)
    pub passes : test key ≡ true

  pub found : (es : List (K × X)) (v : X) → lookup test es ≡ Some v → Found es v
  found [] v h = cc
  found (e ∷ es) v h = (elim (test e.0) as (λ y. test e.0 ≡ y → Found (e ∷ es) v) [
    | true ↦ λ t.
        let h' = rw t at h in
        let same : e.1 ≡ v = cc in record { key = e.0; entry = rw t (ap (λ x. Some (e.0, x)) same); passes = t }
    | false ↦ λ t. let on = found es v (rw t at h) in record { key = on.key; entry = rw t on.entry; passes = on.passes }
  ]) refl

  pub set_promoted : (es : List (K × X)) (v w : X) (other : List (K × X)) → lookup test es ≡ Some v
      → set_value test (option_map_or (λ e. e ∷ remove_entry test es) (lookup_entry test es) es) w
      ≡ option_map_or (λ e. (e.0, w) ∷ remove_entry test es) (lookup_entry test es) other
  set_promoted es v w other h = let f = found es v h in rw f.entry (rw f.passes refl)
