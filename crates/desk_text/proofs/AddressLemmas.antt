-- An address's word is what is printed of the address.
use Rattle.std.proofs.Common.{◌≡◌, ℕ, zero, suc, ◌-◌, ◌<◌, ◌≤◌, ◌^◌, List, [], ◌∷◌, ◌++◌, length, get_or, Option, Some}
use Rattle.std.proofs.Common.{None, refl, sym, ap, ◌∙◌, subst, append_assoc, arith, eqb, false, inl, inr, codes, eq-eqb}
use Rattle.std.specs.List.{All, position_or_len, before_first, after_first}
use Rattle.std.specs.Int.{IsInRange}
use Rattle.std.specs.Fmt.{decimal}
use Rattle.std.proofs.lemmas.List.{take_at, length-append, get_or_default, get_or_append_left, get_or-append_right}
use Rattle.std.proofs.Math.Seq.{drop-append-add}
use Rattle.std.proofs.lemmas.List.Sums.{position_or_len_is, split_at_first, passes_at_first}
use Rattle.std.proofs.lemmas.Str.Parse.{not_in_digits}
use Rattle.std.proofs.lemmas.Fmt.{digits_decimal}
use Rattle.std.proofs.lemmas.Bool.{cases_Bool, cases_lt, lt-ltb, eqb-true}
use Rattle.rtp_codec.specs.declared.address.Address.{Address}
use Rattle.desk_text.specs.Words.{cut_of}
use Rattle.desk_text.specs.Numbers.{decimal_of}
use Rattle.rtp_codec.specs.Address.{address_text}
use Rattle.desk_text.specs.Addresses.{◌>>=◌, IsAddress, field_of, address_of}
use Rattle.desk_text.proofs.Cuts.{cut_found, cut_none}
use Rattle.desk_text.proofs.NumberLemmas.{own, spelled, read}

-- ---- a cut, and back

pub cut_again : (c : ℕ) (front rest : List ℕ) → All (λ b. eqb b c ≡ false) front
    → cut_of c (front ++ c ∷ rest) ≡ Some (front, rest)
cut_again c front rest free =
    let long : length front < length (front ++ c ∷ rest) = omega (arith, length-append front (c ∷ rest)) in
    let place : position_or_len (λ b. eqb b c) (front ++ c ∷ rest) ≡ length front =
    position_or_len_is (λ b. eqb b c) (front ++ c ∷ rest) (length front) 0 (omega arith)
    (λ k lt. rw (get_or_append_left front (c ∷ rest) 0 k lt) (free k 0 lt))
    (λ _.
    rw (get_or-append_right front (c ∷ rest) (length front) (length front) 0 refl (omega arith))
    (let z : length front - length front ≡ 0 = omega arith in rw z (eq-eqb c c refl))) in
    rw (
      place,
      lt-ltb (length front) (length (front ++ c ∷ rest)) long,
      take_at front (c ∷ rest) (length front) refl,
      drop-append-add front (c ∷ rest) 1,
    )
    refl

some_of : {A : Type 0} (x y : A) → Some x ≡ Some y → x ≡ y
some_of x y e = cc

none_some : {X A : Type 0} {a b : A} (x : X) → Some x ≡ None → a ≡ b
none_some x e = cc

pub cut_parts : (c : ℕ) (text : List ℕ) (x : List ℕ × List ℕ) → cut_of c text ≡ Some x → text ≡ x.0 ++ c ∷ x.1
cut_parts c text x e =
    elim (cases_lt (position_or_len (λ b. eqb b c) text) (length text)) [
      | inl lt ↦
          let is : (before_first (λ b. eqb b c) text, after_first (λ b. eqb b c) text) ≡ x =
          some_of _ _ (sym (cut_found c text lt) ∙ e) in
          let at : get_or text (position_or_len (λ b. eqb b c) text) 0 ≡ c =
          eqb-true _ _ (passes_at_first (λ b. eqb b c) text 0 lt) in
          subst (λ (p : List ℕ × List ℕ). text ≡ p.0 ++ c ∷ p.1) is (subst
          (λ (o : ℕ). text ≡ before_first (λ b. eqb b c) text ++ o ∷ after_first (λ b. eqb b c) text) at
          (split_at_first (λ b. eqb b c) text 0 lt))
      | inr le ↦ none_some x (sym e ∙ cut_none c text le)
    ]

-- ---- a field

pub digits_free : (c n : ℕ) → (IsInRange 48 57 c → ⊥) → n < 2 ^ 64 → All (λ b. eqb b c ≡ false) (decimal n)
digits_free c n mark small k d lt =
    elim (cases_Bool (eqb (get_or (decimal n) k d) c)) [
      | inl is ↦
          absurd (not_in_digits own (decimal n) c (digits_decimal own n small) mark k lt
          (get_or_default (decimal n) k 0 d lt ∙ eqb-true _ _ is))
      | inr isnt ↦ isnt
    ]

pub field_again : (c n : ℕ) (rest : List ℕ) → (IsInRange 48 57 c → ⊥) → n ≤ 255
    → field_of c (decimal n ++ c ∷ rest) ≡ Some (n, rest)
unfolding field_of
field_again c n rest mark small =
    rw (cut_again c (decimal n) rest (digits_free c n mark (omega arith)), read 255 n (omega arith) small) refl

bind_some : {A B : Type 0} (o : Option A) (f : A → Option B) (y : B) → (o >>= f) ≡ Some y
    → (x : A) × (o ≡ Some x) × (f x ≡ Some y)
bind_some (Some x) f y e = (x, refl, e)
bind_some None f y e = absurd cc

pub field_spelled : (c : ℕ) (text : List ℕ) (x : ℕ × List ℕ) → field_of c text ≡ Some x
    → (text ≡ decimal x.0 ++ c ∷ x.1) × (x.0 ≤ 255)
unfolding field_of
field_spelled c text x e =
    let a = bind_some (cut_of c text) (λ parts. decimal_of 255 parts.0 >>= λ n. Some (n, parts.1)) x e in
    let b = bind_some (decimal_of 255 a.0.0) (λ n. Some (n, a.0.1)) x a.2 in
    let word = spelled 255 b.0 a.0.0 (omega arith) b.1 in
    let is : (b.0, a.0.1) ≡ x = some_of _ _ b.2 in
    subst (λ (p : ℕ × List ℕ). (text ≡ decimal p.0 ++ c ∷ p.1) × (p.0 ≤ 255)) is
    (cut_parts c text a.0 a.1 ∙ ap (λ (t : List ℕ). t ++ c ∷ a.0.1) word.0, word.1)

-- ---- an address

grouped : (a b c d e : List ℕ)
    → a ++ codes "." ++ b ++ codes "." ++ c ++ codes "." ++ d ++ codes ":" ++ e
    ≡ a ++ 46 ∷ (b ++ 46 ∷ (c ++ 46 ∷ (d ++ 58 ∷ e)))
grouped a b c d e = simp append_assoc

again : (a b c d port : ℕ) → a ≤ 255 → b ≤ 255 → c ≤ 255 → d ≤ 255 → port ≤ 65535
    → address_of (address_text (record { ip = a ∷ b ∷ c ∷ d ∷ []; port = port }))
    ≡ Some (record { ip = a ∷ b ∷ c ∷ d ∷ []; port = port })
unfolding address_of
again a b c d port ha hb hc hd hp =
    rw (
      grouped (decimal a) (decimal b) (decimal c) (decimal d) (decimal port),
      field_again 46 a (decimal b ++ 46 ∷ (decimal c ++ 46 ∷ (decimal d ++ 58 ∷ decimal port))) (λ h. omega arith) ha,
      field_again 46 b (decimal c ++ 46 ∷ (decimal d ++ 58 ∷ decimal port)) (λ h. omega arith) hb,
      field_again 46 c (decimal d ++ 58 ∷ decimal port) (λ h. omega arith) hc,
      field_again 58 d (decimal port) (λ h. omega arith) hd,
      read 65535 port (omega arith) hp,
    )
    refl

four : (xs : List ℕ) → length xs ≡ 4 → xs ≡ get_or xs 0 0 ∷ get_or xs 1 0 ∷ get_or xs 2 0 ∷ get_or xs 3 0 ∷ []
four [] h = absurd (omega (arith, h))
four (a ∷ []) h = absurd (omega (arith, h))
four (a ∷ b ∷ []) h = absurd (omega (arith, h))
four (a ∷ b ∷ c ∷ []) h = absurd (omega (arith, h))
four (a ∷ b ∷ c ∷ d ∷ []) h = refl
four (a ∷ b ∷ c ∷ d ∷ e ∷ xs) h = absurd (omega (arith, h))

pub address_again : (x : Address) → IsAddress x → address_of (address_text x) ≡ Some x
address_again x h =
    let is : x
    ≡ record { ip = get_or x.ip 0 0 ∷ get_or x.ip 1 0 ∷ get_or x.ip 2 0 ∷ get_or x.ip 3 0 ∷ []; port = x.port } =
    ap (λ (ip : List ℕ). record { ip = ip; port = x.port }) (four x.ip h.parts) in
    subst (λ (y : Address). address_of (address_text y) ≡ Some y) (sym is) (again (get_or x.ip 0 0) (get_or x.ip 1 0)
    (get_or x.ip 2 0) (get_or x.ip 3 0) x.port (h.octets 0) (h.octets 1) (h.octets 2) (h.octets 3) h.port)

four_small : (a b c d : ℕ) → a ≤ 255 → b ≤ 255 → c ≤ 255 → d ≤ 255 → (k : ℕ) → get_or (a ∷ b ∷ c ∷ d ∷ []) k 0 ≤ 255
four_small a b c d ha hb hc hd zero = ha
four_small a b c d ha hb hc hd (suc zero) = hb
four_small a b c d ha hb hc hd (suc (suc zero)) = hc
four_small a b c d ha hb hc hd (suc (suc (suc zero))) = hd
four_small a b c d ha hb hc hd (suc (suc (suc (suc k)))) = omega arith

abbrev with_port : ℕ → ℕ → ℕ → ℕ × List ℕ → Option Address
with_port a b c d = decimal_of 65535 d.1 >>= λ port. Some (record { ip = a ∷ b ∷ c ∷ d.0 ∷ []; port = port })

abbrev with_d : ℕ → ℕ → ℕ × List ℕ → Option Address
with_d a b c = field_of 58 c.1 >>= with_port a b c.0

abbrev with_c : ℕ → ℕ × List ℕ → Option Address
with_c a b = field_of 46 b.1 >>= with_d a b.0

abbrev with_b : ℕ × List ℕ → Option Address
with_b a = field_of 46 a.1 >>= with_c a.0

pub address_spelled : (word : List ℕ) (x : Address) → address_of word ≡ Some x → (word ≡ address_text x) × IsAddress x
unfolding address_of
address_spelled word x e =
    let a = bind_some (field_of 46 word) with_b x e in
    let b = bind_some (field_of 46 a.0.1) (with_c a.0.0) x a.2 in
    let c = bind_some (field_of 46 b.0.1) (with_d a.0.0 b.0.0) x b.2 in
    let d = bind_some (field_of 58 c.0.1) (with_port a.0.0 b.0.0 c.0.0) x c.2 in
    let port =
    bind_some (decimal_of 65535 d.0.1) (λ n. Some (record { ip = a.0.0 ∷ b.0.0 ∷ c.0.0 ∷ d.0.0 ∷ []; port = n })) x
    d.2 in
    let made : Address = record { ip = a.0.0 ∷ b.0.0 ∷ c.0.0 ∷ d.0.0 ∷ []; port = port.0 } in
    let pa = field_spelled 46 word a.0 a.1 in
    let pb = field_spelled 46 a.0.1 b.0 b.1 in
    let pc = field_spelled 46 b.0.1 c.0 c.1 in
    let pd = field_spelled 58 c.0.1 d.0 d.1 in
    let pp = spelled 65535 port.0 d.0.1 (omega arith) port.1 in
    let in_d : c.0.1 ≡ decimal d.0.0 ++ 58 ∷ decimal port.0 =
    pd.0 ∙ ap (λ (t : List ℕ). decimal d.0.0 ++ 58 ∷ t) pp.0 in
    let in_c : b.0.1 ≡ decimal c.0.0 ++ 46 ∷ (decimal d.0.0 ++ 58 ∷ decimal port.0) =
    pc.0 ∙ ap (λ (t : List ℕ). decimal c.0.0 ++ 46 ∷ t) in_d in
    let in_b : a.0.1 ≡ decimal b.0.0 ++ 46 ∷ (decimal c.0.0 ++ 46 ∷ (decimal d.0.0 ++ 58 ∷ decimal port.0)) =
    pb.0 ∙ ap (λ (t : List ℕ). decimal b.0.0 ++ 46 ∷ t) in_c in
    let in_a : word
    ≡ decimal a.0.0 ++ 46 ∷ (decimal b.0.0 ++ 46 ∷ (decimal c.0.0 ++ 46 ∷ (decimal d.0.0 ++ 58 ∷ decimal port.0))) =
    pa.0 ∙ ap (λ (t : List ℕ). decimal a.0.0 ++ 46 ∷ t) in_b in
    let text : word ≡ address_text made =
    in_a ∙ sym (grouped (decimal a.0.0) (decimal b.0.0) (decimal c.0.0) (decimal d.0.0) (decimal port.0)) in
    let fits : IsAddress made =
    record { parts = refl; octets = four_small a.0.0 b.0.0 c.0.0 d.0.0 pa.1 pb.1 pc.1 pd.1; port = pp.1 } in
    subst (λ (y : Address). (word ≡ address_text y) × IsAddress y) (some_of made x port.2) (text, fits)
