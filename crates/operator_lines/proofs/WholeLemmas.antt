-- A stream out of the parts of its cut.
use Rattle.std.proofs.lemmas.Bool.Decides.{nat_tests}
use Rattle.std.proofs.Common.{◌≡◌, ◌≢◌, ℕ, Bool, true, false, nat_eq, List, [], ◌∷◌, ◌++◌, refl, sym, ap, ◌∙◌, arith}
use Rattle.std.proofs.Common.{append_assoc}
use Rattle.std.specs.Prelude.{fold}
use Rattle.std.specs.List.{AllByRecursion}
use Rattle.std.proofs.lemmas.List.{append-nil}
use Rattle.operator_lines.specs.Cut.{Cut, cut, with_octet, uncut}
use Rattle.operator_lines.specs.laws.Whole.{HasNoLf, with_lfs, joined}
use Rattle.operator_lines.proofs.CutLemmas.{lf, with_lf, with_other}

all_more : {X : Type 0} (P : X → Type 0) (xs : List X) (y : X) → AllByRecursion P xs → P y
    → AllByRecursion P (xs ++ y ∷ [])
all_more {X = X} P [] y h k = (k, tt)
all_more {X = X} P (x ∷ xs) y h k = (h.0, all_more P xs y h.1 k)

with_lfs-append : (parts : List (List ℕ)) (part : List ℕ)
    → with_lfs (parts ++ part ∷ []) ≡ with_lfs parts ++ (part ++ 10 ∷ [])
with_lfs-append [] part = refl
with_lfs-append (p ∷ parts) part =
    ap (λ (z : List ℕ). p ++ 10 ∷ z) (with_lfs-append parts part)
    ∙ sym (append_assoc p (10 ∷ with_lfs parts) (part ++ 10 ∷ []))

joined-lf : (c : Cut) → joined (lf c) ≡ joined c ++ 10 ∷ []
joined-lf c = append-nil _ ∙ (with_lfs-append c.ended c.rest ∙ sym (append_assoc (with_lfs c.ended) c.rest (10 ∷ [])))

joined-octet : (c : Cut) (x : ℕ) → joined (with_octet c x) ≡ joined c ++ x ∷ []
joined-octet c x =
    elim (nat_eq x 10) as (λ (b : Bool). nat_eq x 10 ≡ b → joined (with_octet c x) ≡ joined c ++ x ∷ []) [
      | true ↦ λ e.
          let is : x ≡ 10 = (grind (arith, nat_tests)) in
          ap joined (with_lf c x e) ∙ (joined-lf c ∙ ap (λ (z : ℕ). joined c ++ z ∷ []) (sym is))
      | false ↦ λ e. ap joined (with_other c x e) ∙ sym (append_assoc (with_lfs c.ended) c.rest (x ∷ []))
    ] refl

joined-fold : (octets : List ℕ) (c : Cut) → joined (fold with_octet c octets) ≡ joined c ++ octets
joined-fold [] c = sym (append-nil (joined c))
joined-fold (x ∷ octets) c =
    joined-fold octets (with_octet c x)
    ∙ (ap (λ (z : List ℕ). z ++ octets) (joined-octet c x) ∙ append_assoc (joined c) (x ∷ []) octets)

pub whole : (stream : List ℕ) → joined (cut stream) ≡ stream
whole stream = joined-fold stream uncut

-- no part has an LF
abbrev pub AreApart : Cut → Type 0
AreApart c = AllByRecursion HasNoLf c.ended × HasNoLf c.rest

apart-octet : (c : Cut) (x : ℕ) → AreApart c → AreApart (with_octet c x)
apart-octet c x h = elim (nat_eq x 10) as (λ (b : Bool). nat_eq x 10 ≡ b → AreApart (with_octet c x)) [
  | true ↦ λ e. rw (with_lf c x e) (all_more HasNoLf c.ended c.rest h.0 h.1, tt)
  | false ↦ λ e.
      rw (with_other c x e) (
        h.0,
        all_more (λ (octet : ℕ). octet ≢ 10) c.rest x h.1
            (λ is. let e1 : nat_eq x 10 ≡ false = e in absurd (grind (arith, nat_tests))),
      )
] refl

apart-fold : (octets : List ℕ) (c : Cut) → AreApart c → AreApart (fold with_octet c octets)
apart-fold [] c h = h
apart-fold (x ∷ octets) c h = apart-fold octets (with_octet c x) (apart-octet c x h)

pub apart : (stream : List ℕ) → AreApart (cut stream)
apart stream = apart-fold stream uncut (tt, tt)
