-- When two sources are one, and two choices.
use Rattle.std.proofs.Common.{◌≡◌, Bool, true, false, ◌&&◌, nat_eq, refl, sym, ap, ◌∙◌}
use Rattle.std.specs.Str.{bytes_eq}
use Rattle.std.specs.Cmp.{IsEquivalence, unsigned_Decides}
use Rattle.std.proofs.lemmas.Slice.Eq.{bytes_eq-Decides}
use Rattle.picture_requests.specs.declared.source.VideoSource.{VideoSource}
use Rattle.picture_requests.specs.declared.choosing.SlotChoice.{SlotChoice}
use Rattle.picture_requests.specs.Sources.{same_source}
use Rattle.picture_requests.specs.Choices.{same_choice}

both : (a b : Bool) → (a && b) ≡ true → (a ≡ true) × (b ≡ true)
both true b h = (refl, h)
both false b h = cc

from_both : (a b : Bool) → a ≡ true → b ≡ true → (a && b) ≡ true
from_both a b h k = ap (λ x. x && b) h ∙ k

-- what passes as one source is one
pub source_is : (a b : VideoSource) → same_source a b ≡ true → a ≡ b
source_is a b h =
    let first = both (nat_eq a.ssrc b.ssrc) (bytes_eq a.ip b.ip && nat_eq a.port b.port) h in
    let second = both (bytes_eq a.ip b.ip) (nat_eq a.port b.port) first.1 in
    let ssrc = (unsigned_Decides a.ssrc b.ssrc).0 first.0 in
    let ip = (bytes_eq-Decides a.ip b.ip).0 second.0 in
    let port = (unsigned_Decides a.port b.port).0 second.1 in
    λ i. record { ssrc = ssrc i; ip = ip i; port = port i }

pub source_itself : (a : VideoSource) → same_source a a ≡ true
source_itself a =
    from_both (nat_eq a.ssrc a.ssrc) (bytes_eq a.ip a.ip && nat_eq a.port a.port)
    ((unsigned_Decides a.ssrc a.ssrc).1 refl)
    (from_both (bytes_eq a.ip a.ip) (nat_eq a.port a.port) ((bytes_eq-Decides a.ip a.ip).1 refl)
    ((unsigned_Decides a.port a.port).1 refl))

-- what passes as one choice is one
pub choice_is : (a b : SlotChoice) → same_choice a b ≡ true → a ≡ b
choice_is a b h =
    let parts = both (nat_eq a.out_ssrc b.out_ssrc) (same_source a.source b.source) h in
    let out = (unsigned_Decides a.out_ssrc b.out_ssrc).0 parts.0 in
    let source = source_is a.source b.source parts.1 in
    λ i. record { out_ssrc = out i; source = source i }

pub choice_itself : (a : SlotChoice) → same_choice a a ≡ true
choice_itself a =
    from_both (nat_eq a.out_ssrc a.out_ssrc) (same_source a.source a.source)
    ((unsigned_Decides a.out_ssrc a.out_ssrc).1 refl) (source_itself a.source)

-- a test that passes one thing alone is an equivalence
module _ {X : Type 0} (eq : X → X → Bool) (is : (a b : X) → eq a b ≡ true → a ≡ b)
    (itself : (a : X) → eq a a ≡ true) where
  alike : (x y z : X) → eq x y ≡ true → eq x z ≡ eq y z
  alike x y z h = ap (λ w. eq w z) (is x y h)

  turned : (x y : X) → eq x y ≡ true → eq y x ≡ true
  turned x y h = ap (λ w. eq y w) (is x y h) ∙ itself y

  same_both : (b c : Bool) → (b ≡ true → c ≡ true) → (c ≡ true → b ≡ true) → b ≡ c
  same_both true c f g = sym (f refl)
  same_both false true f g = g refl
  same_both false false f g = refl

  pub equivalence : IsEquivalence eq
  equivalence = record {
    refl = itself;
    symm = λ x y. same_both (eq x y) (eq y x) (turned x y) (turned y x);
    congr = alike;
  }

pub sources_equivalence : IsEquivalence same_source
sources_equivalence = equivalence same_source source_is source_itself

pub choices_equivalence : IsEquivalence same_choice
choices_equivalence = equivalence same_choice choice_is choice_itself
