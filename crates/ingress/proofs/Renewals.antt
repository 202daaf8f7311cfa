-- Whose intervals begin with reports.
use Rattle.std.proofs.Common.{◌≡◌, ℕ, ◌-◌, Bool, true, false, ◌&&◌, cond, if◌then◌else◌, nat_eq, List, [], ◌∷◌, ◌++◌}
use Rattle.std.proofs.Common.{map, Option, None, Some, IfSome, refl, sym, ap, subst, ◌∙◌, arith}
use Rattle.std.specs.Str.{bytes_eq}
use Rattle.std.specs.Option.{option_map, option_and_then}
use Rattle.std.proofs.lemmas.Bool.{eqb-true, eq-eqb}
use Rattle.std.proofs.lemmas.List.Sums.{fold-append}
use Rattle.std.proofs.lemmas.Slice.Eq.{bytes_eq-Decides}
use Rattle.rtp_codec.specs.declared.address.Address.{Address}
use Rattle.source_valid.specs.Histories.{Step, Standing, Unheard, Waiting, Valid, Block, standing_after, after_block}
use Rattle.source_valid.specs.Histories.{standing_of}
use Rattle.source_valid.specs.Reports.{fraction_of, fraction_in}
use Rattle.source_valid.specs.Stretches.{Stretch, expected_of, received_of, told_in}
use Rattle.desk_rows.specs.declared.row.Member.{Member}
use Rattle.desk_rows.specs.declared.row.Source.{Source}
use Rattle.desk_rows.specs.Desk.{Desk, good}
use Rattle.topology.specs.Looking.{member_at, source_at, has_address, comes_from}
use Rattle.topology.specs.Choice.{sources_of}
use Rattle.topology.proofs.Distinct.{at, Distinct}
use Rattle.topology.proofs.Rising.{apart}
use Rattle.topology.proofs.KindRows.{source_ssrc, source_row}
use Rattle.topology.proofs.GoodRows.{sources_rise}
use Rattle.ingress.specs.Stories.{Story}
use Rattle.ingress.specs.Sources.{Origin, Known, same_origin, story_at, retold}
use Rattle.ingress.specs.Reported.{block_on, renewed, renewed_at, renewed_on, all_renewed}
use Rattle.ingress.specs.inner.Holding.{same_key, key_of}
use Rattle.ingress.proofs.KnownSources.{equal_keys}

-- ---- tests of origins

both_ways : (b c : Bool) → (b ≡ true → c ≡ true) → (c ≡ true → b ≡ true) → b ≡ c
both_ways true c f g = sym (f refl)
both_ways false true f g = g refl
both_ways false false f g = refl

octets_turn : (xs ys : List ℕ) → bytes_eq xs ys ≡ bytes_eq ys xs
octets_turn xs ys =
    both_ways (bytes_eq xs ys) (bytes_eq ys xs) (λ h. (bytes_eq-Decides ys xs).1 (sym ((bytes_eq-Decides xs ys).0 h)))
    (λ h. (bytes_eq-Decides xs ys).1 (sym ((bytes_eq-Decides ys xs).0 h)))

numbers_turn : (m n : ℕ) → nat_eq m n ≡ nat_eq n m
numbers_turn m n =
    both_ways (nat_eq m n) (nat_eq n m) (λ h. eq-eqb n m (sym (eqb-true m n h)))
    (λ h. eq-eqb m n (sym (eqb-true n m h)))

and_turn : (a b c : Bool) → (a && (b && c)) ≡ (c && (a && b))
and_turn true true true = refl
and_turn true true false = refl
and_turn true false true = refl
and_turn true false false = refl
and_turn false b true = refl
and_turn false b false = refl

and_false : (b : Bool) → false ≡ (b && false)
and_false true = refl
and_false false = refl

-- the same origin as a third one
same_third : (o p q : Origin) → same_origin p q ≡ true → same_origin o q ≡ same_origin o p
same_third o p q h = ap (same_key (key_of o)) (equal_keys p q h)

same_turn : (o p : Origin) → same_origin o p ≡ true → same_origin p o ≡ true
same_turn o p h =
    ap (λ k. same_key k (key_of o)) (equal_keys o p h) ∙ sym (ap (same_key (key_of o)) (equal_keys o p h)) ∙ h

-- ---- one source

either_none : (b : Bool) (f : Story → Story) → ◌≡◌ {A = Option Story} None (if b then option_map f None else None)
either_none true f = refl
either_none false f = refl

pub retold_at : (o p : Origin) (f : Story → Story) (ks : List Known)
    → story_at o (retold p f ks) ≡ (if same_origin o p then option_map f (story_at o ks) else story_at o ks)
retold_at o p f [] = either_none (same_origin o p) f
retold_at o p f (k ∷ ks) =
    (elim (same_origin p k.origin) as (λ y.
    same_origin p k.origin ≡ y
    → story_at o (retold p f (k ∷ ks))
    ≡ (if same_origin o p then option_map f (story_at o (k ∷ ks)) else story_at o (k ∷ ks))) [
      | true ↦ λ t.
          rw t (first (same_origin o k.origin) k.story (story_at o ks)
          ∙ ap (λ b. if b then option_map f (story_at o (k ∷ ks)) else story_at o (k ∷ ks)) (same_third o p k.origin t))
      | false ↦ λ t.
          rw t ((elim (same_origin o k.origin) as (λ y.
          same_origin o k.origin ≡ y
          → (if same_origin o k.origin then Some k.story else story_at o (retold p f ks))
          ≡ (if same_origin o p
          then option_map f (if same_origin o k.origin then Some k.story else story_at o ks)
          else (if same_origin o k.origin then Some k.story else story_at o ks))) [
            | true ↦ λ u.
                rw u (other (same_origin o p) k.story (λ v.
                let w : same_origin p k.origin ≡ true = same_third p o k.origin u ∙ same_turn o p v in
                let both = sym t ∙ w in cc))
            | false ↦ λ u. rw u (retold_at o p f ks)
          ]) refl)
    ]) refl
  where
    first : (b : Bool) (story : Story) (rest : Option Story)
        → (if b then Some (f story) else rest)
        ≡ (if b then option_map f (if b then Some story else rest) else (if b then Some story else rest))
    first true story rest = refl
    first false story rest = refl

    other : (b : Bool) (story : Story) → (b ≡ true → ⊥) → Some story ≡ (if b then Some (f story) else Some story)
    other true story never = absurd (never refl)
    other false story never = refl

its_test : (o : Origin) (m : Member) (s : Source)
    → same_origin o (record { address = m.address; ssrc = s.ssrc })
    ≡ (nat_eq s.ssrc o.ssrc && has_address o.address (Some m))
its_test o m s =
    and_turn (bytes_eq o.address.ip m.address.ip) (nat_eq o.address.port m.address.port) (nat_eq o.ssrc s.ssrc)
    ∙ ap (λ b. b && (bytes_eq o.address.ip m.address.ip && nat_eq o.address.port m.address.port))
    (numbers_turn o.ssrc s.ssrc)
    ∙ ap (λ b. nat_eq s.ssrc o.ssrc && (b && nat_eq o.address.port m.address.port))
    (octets_turn o.address.ip m.address.ip)
    ∙ ap (λ b. nat_eq s.ssrc o.ssrc && (bytes_eq m.address.ip o.address.ip && b))
    (numbers_turn o.address.port m.address.port)

abbrev if_renewed : Bool → Option Story → Option Story
if_renewed b story = if b then option_map renewed story else story

one_renewed : (o : Origin) (s : Source) (m : Option Member) (ks : List Known)
    → story_at o (renewed_at s.ssrc m ks) ≡ if_renewed (nat_eq s.ssrc o.ssrc && has_address o.address m) (story_at o ks)
one_renewed o s None ks = ap (λ b. if_renewed b (story_at o ks)) (and_false (nat_eq s.ssrc o.ssrc))
one_renewed o s (Some m) ks =
    retold_at o (record { address = m.address; ssrc = s.ssrc }) renewed ks
    ∙ ap (λ b. if_renewed b (story_at o ks)) (its_test o m s)

-- ---- all sources

-- the member of a source that was found has this address
abbrev found_at : Desk → Address → Option Source → Bool
found_at d address None = false
found_at d address (Some s) = has_address address (member_at d s.member)

all_at : (d : Desk) (o : Origin) (ss : List Source) (ks : List Known) → Distinct source_ssrc ss
    → story_at o (all_renewed d ks ss) ≡ if_renewed (found_at d o.address (at source_ssrc o.ssrc ss)) (story_at o ks)
all_at d o [] ks h = refl
all_at d o (s ∷ ss) ks h =
    (elim (nat_eq s.ssrc o.ssrc) as (λ y.
    nat_eq s.ssrc o.ssrc ≡ y
    → story_at o (all_renewed d (renewed_on d ks s) ss)
    ≡ if_renewed (found_at d o.address (cond y (Some s) (at source_ssrc o.ssrc ss))) (story_at o ks)) [
      | true ↦ λ t.
          let none : at source_ssrc o.ssrc ss ≡ None =
          subst (λ n. at source_ssrc n ss ≡ None) (eqb-true s.ssrc o.ssrc t) h.0 in
          all_at d o ss (renewed_on d ks s) h.1
          ∙ ap (λ r. if_renewed (found_at d o.address r) (story_at o (renewed_on d ks s))) none
          ∙ one_renewed o s (member_at d s.member) ks
          ∙ ap (λ b. if_renewed (b && has_address o.address (member_at d s.member)) (story_at o ks)) t
      | false ↦ λ t.
          all_at d o ss (renewed_on d ks s) h.1
          ∙ ap (if_renewed (found_at d o.address (at source_ssrc o.ssrc ss))) (one_renewed o s (member_at d s.member) ks
          ∙ ap (λ b. if_renewed (b && has_address o.address (member_at d s.member)) (story_at o ks)) t)
    ]) refl

its_sender : (d : Desk) (address : Address) (r : Option Source)
    → found_at d address r ≡ has_address address (option_and_then (member_at d) (option_map (λ s. s.member) r))
its_sender d address None = refl
its_sender d address (Some s) = refl

pub just_these : (d : Desk) (o : Origin) (ks : List Known) → good d ≡ true
    → story_at o (all_renewed d ks (sources_of d))
    ≡ (if comes_from d o.ssrc o.address then option_map renewed (story_at o ks) else story_at o ks)
just_these d o ks h =
    all_at d o (sources_of d) ks (apart source_ssrc (sources_of d) (sources_rise d h))
    ∙ ap (λ r. if_renewed (found_at d o.address r) (story_at o ks)) (sym (source_row d o.ssrc))
    ∙ ap (λ b. if_renewed b (story_at o ks)) (its_sender d o.address (source_at d o.ssrc))

-- ---- order

abbrev origins : List Known → List Origin
origins ks = map (λ k. k.origin) ks

pub origins_retold : (o : Origin) (f : Story → Story) (ks : List Known) → origins (retold o f ks) ≡ origins ks
origins_retold o f [] = refl
origins_retold o f (k ∷ ks) =
    (elim (same_origin o k.origin)
    as (λ y. same_origin o k.origin ≡ y → origins (retold o f (k ∷ ks)) ≡ origins (k ∷ ks)) [
      | true ↦ λ t. rw t refl
      | false ↦ λ t. rw t (ap (λ os. k.origin ∷ os) (origins_retold o f ks))
    ]) refl

origins_at : (ssrc : ℕ) (m : Option Member) (ks : List Known) → origins (renewed_at ssrc m ks) ≡ origins ks
origins_at ssrc None ks = refl
origins_at ssrc (Some m) ks = origins_retold (record { address = m.address; ssrc = ssrc }) renewed ks

pub same_order : (d : Desk) (ks : List Known) (ss : List Source) → origins (all_renewed d ks ss) ≡ origins ks
same_order d ks [] = refl
same_order d ks (s ∷ ss) = same_order d (renewed_on d ks s) ss ∙ origins_at s.ssrc (member_at d s.member) ks

-- ---- the next block

no_loss : (s : Stretch) → fraction_in (told_in s) ≡ 0
no_loss s =
    let none : expected_of s.base s.accepted - expected_of s.base s.accepted ≡ 0 = omega (arith) in
    ap (λ n. fraction_of n (received_of s.accepted - received_of s.accepted)) none

with_block : (steps : List Step) (st : Standing) → standing_of steps ≡ st
    → standing_of (steps ++ Block ∷ []) ≡ after_block st
with_block steps st is = fold-append standing_after Unheard steps (Block ∷ []) ∙ ap after_block is

pub nothing_lost : (ssrc moment : ℕ) (story : Story) (st : Standing) → standing_of story.given ≡ st
    → IfSome (block_on ssrc moment (renewed story)) (λ b. b.fraction ≡ 0)
nothing_lost ssrc moment story Unheard is = rw is (rw is tt)
nothing_lost ssrc moment story (Waiting last) is = rw is (rw is tt)
nothing_lost ssrc moment story (Valid s) is = rw is (rw (with_block story.given (Valid s) is) (no_loss s))
