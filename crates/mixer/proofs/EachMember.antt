-- What a tick sends on one stream goes to one member.
use Rattle.std.proofs.Common.{◌≡◌, ℕ, true, false, cond, nat_eq, List, [], ◌∷◌, ◌++◌, map, Option, Some, None, refl}
use Rattle.std.proofs.Common.{sym, ap, subst, ◌∙◌, arith, append_assoc, append-nil, inl, inr}
use Rattle.std.specs.List.{find, flat_map}
use Rattle.std.proofs.lemmas.Bool.{cases_eq}
use Rattle.std.proofs.lemmas.Bool.Decides.{nat_tests}
use Rattle.std.proofs.lemmas.List.Elements.{filter-append}
use Rattle.desk_rows.specs.declared.row.Member.{Member as MemberRow}
use Rattle.desk_rows.specs.Desk.{Desk}
use Rattle.topology.specs.Mixes.{mix_member}
use Rattle.forward_rewrite.specs.Sending.{Numbered}
use Rattle.mixer.specs.Hearing.{Given}
use Rattle.mixer.specs.Mixes.{MixSent, to_member, mixes_at, sent_by}
use Rattle.mixer.specs.MixLists.{on_stream, to_its_member}

-- whose mix has this SSRC
abbrev member_of : ℕ → List MemberRow → Option MemberRow
member_of k ms = find (λ m. nat_eq m.out_audio k) ms

-- no two of them have their mixes on one stream
abbrev AreApart : List MemberRow → Type 0
AreApart [] = Unit {0}
AreApart (m ∷ ms) = (member_of m.out_audio ms ≡ None) × AreApart ms

-- a member's packets are all on a stream or none
all_or_none : (k : ℕ) (m : MemberRow) (ps : List Numbered)
    → on_stream k (map (to_member m) ps) ≡ cond (nat_eq m.out_audio k) (map (to_member m) ps) []
all_or_none k m [] =
    elim (nat_eq m.out_audio k) as (λ b. ◌≡◌ {A = List MixSent} [] (cond b [] [])) [ true ↦ refl | false ↦ refl ]
all_or_none k m (p ∷ ps) =
    ap (λ es. cond (nat_eq m.out_audio k) (to_member m p ∷ es) es) (all_or_none k m ps)
    ∙ (elim (nat_eq m.out_audio k)
    as (λ b.
    cond b (to_member m p ∷ cond b (map (to_member m) ps) []) (cond b (map (to_member m) ps) [])
    ≡ cond b (to_member m p ∷ map (to_member m) ps) [])
    [ true ↦ refl | false ↦ refl ])

on_one : (k : ℕ) (packets : ℕ → List Numbered) (ms : List MemberRow) → AreApart ms
    → on_stream k (flat_map (λ m. map (to_member m) (packets m.out_audio)) ms)
    ≡ to_its_member (member_of k ms) (packets k)
on_one k packets [] apart = refl
on_one k packets (m ∷ ms) apart =
    let G = λ (m : MemberRow). map (to_member m) (packets m.out_audio) in
    let rest = on_one k packets ms apart.1 in
    filter-append (λ (p : MixSent). nat_eq p.ssrc k) (G m) (flat_map G ms)
    ∙ ap (λ es. es ++ on_stream k (flat_map G ms)) (all_or_none k m (packets m.out_audio))
    ∙ (elim (cases_eq m.out_audio k) [
      | inl same ↦
          let is : nat_eq m.out_audio k ≡ true = grind (arith, nat_tests) in
          let none : member_of k ms ≡ None = subst (λ n. member_of n ms ≡ None) same apart.0 in
          ap (λ b. cond b (G m) [] ++ on_stream k (flat_map G ms)) is
          ∙ ap (λ es. G m ++ es) (rest ∙ ap (λ o. to_its_member o (packets k)) none)
          ∙ append-nil (G m)
          ∙ ap (λ n. map (to_member m) (packets n)) same
          ∙ sym (ap (λ b. to_its_member (cond b (Some m) (member_of k ms)) (packets k)) is)
      | inr other ↦
          let not : nat_eq m.out_audio k ≡ false = grind (arith, nat_tests) in
          ap (λ b. cond b (G m) [] ++ on_stream k (flat_map G ms)) not
          ∙ rest
          ∙ sym (ap (λ b. to_its_member (cond b (Some m) (member_of k ms)) (packets k)) not)
    ])

-- what is true of the members of a desk
abbrev HasOneEach : Desk → Type 0
HasOneEach d =
    (before : List MemberRow) (m : MemberRow) (after : List MemberRow) → d.members ≡ before ++ m ∷ after
    → member_of m.out_audio after ≡ None

are_apart : (d : Desk) → HasOneEach d → (front back : List MemberRow) → d.members ≡ front ++ back → AreApart back
are_apart d each front [] e = tt
are_apart d each front (m ∷ back) e =
    (each front m back e, are_apart d each (front ++ m ∷ []) back (e ∙ sym (append_assoc front (m ∷ []) back)))

pub goes_to_one : (k : ℕ) (before : List Given) (d : Desk) (moment : ℕ)
    → ((front : List MemberRow) (m : MemberRow) (back : List MemberRow) → d.members ≡ front ++ m ∷ back
    → find (λ n. nat_eq n.out_audio m.out_audio) back ≡ None)
    → on_stream k (sent_by before d moment) ≡ to_its_member (mix_member d k) (mixes_at k before d moment)
goes_to_one k before d moment each =
    on_one k (λ n. mixes_at n before d moment) d.members (are_apart d each [] d.members refl)
