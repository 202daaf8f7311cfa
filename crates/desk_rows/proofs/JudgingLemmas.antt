-- A desk after an edit is good exactly where it is judged so.
use Rattle.std.specs.Prelude.{◌≡◌, ◌||◌, ◌∷◌, ◌+◌, ◌&&◌, ◌⊎◌}
use Rattle.desk_rows.specs.laws.Words.{ℕ, Bool, true, false, List, [], nat_lt, refl, sym, ap, ◌∙◌, arith, map, nat_eq}
use Rattle.desk_rows.specs.laws.Words.{not, inl, inr, eqb-true, or_left, or_right, and_parts, and_from, cases_Bool}
use Rattle.desk_rows.specs.laws.Words.{list_any, list_all, count_by, eq-eqb, Claim, Key, Row, Member, Source, Slot}
use Rattle.desk_rows.specs.laws.Words.{Mute, Desk, rows_of, is_named_there, is_alone, is_within_limits, is_made_once}
use Rattle.desk_rows.specs.laws.Words.{is_bridges, obeys, good, EditOf, outs, ins, exchanged, IsKeyed, is_of, is_in}
use Rattle.desk_rows.specs.laws.Words.{in_order, without_rows, precedes, key_is_new, take_at, has_key, key_of, makes}
use Rattle.desk_rows.specs.laws.Words.{same_claim, other_claims, claims_of, names, is_in_range, all_suit, are_together}
use Rattle.desk_rows.specs.laws.Words.{come_rows, takes, puts, stay_rows, all_come, all_stay, go_rows, keeps_names}
use Rattle.desk_rows.specs.laws.Words.{moves, is_shaken, is_sound, stays_sound}
use Rattle.desk_rows.specs.declared.key.Kind.TheVariants as kinds
use Rattle.desk_rows.specs.declared.claim.Claim.TheVariants as claims
use Rattle.desk_rows.specs.declared.key.Key.TheVariants as keys
use Rattle.desk_rows.specs.Row.Want.{Carries}
use Rattle.desk_rows.specs.laws.ClaimLaws.{claimed, witness}
use Rattle.desk_rows.specs.laws.Equal.{key_itself, its_key, one_precedes, claim_itself}
use Rattle.desk_rows.specs.laws.Laws.{Apt, ins_order, good_parts, good_from, good_order, any_counts, is_in-append}
use Rattle.desk_rows.specs.laws.Laws.{claims_key, one_key}
use Rattle.desk_rows.specs.laws.ListLaws.{true_false, and_turned, any_count, no_count, list_all-filter}
use Rattle.desk_rows.specs.laws.OrderLaws.{at_each, from_each, in_order-filter, with_rows_in_order, list_all-with_rows}
use Rattle.desk_rows.proofs.Counts.{two_counts, all_after}
use Rattle.desk_rows.proofs.Finding.{keyed_alone, before, later, was_there}
use Rattle.desk_rows.proofs.Unshaken.{unshaken, one_kept}

-- what follows for each row follows for all
pub each_row : (p q : Row → Bool) (rs : List Row) → ((r : Row) → is_in rs r ≡ true → p r ≡ true → q r ≡ true)
    → list_all p rs ≡ true → list_all q rs ≡ true
each_row p q rs each h = from_each q rs (λ r one. each r one (at_each p rs r h one))

-- ---- claims, order and soundness by themselves

pub bridge_same : (d : Desk) (e : EditOf) (c : Claim) → is_bridges (exchanged d e) c ≡ is_bridges d c
unfolding exchanged
bridge_same d e (claims.Key k) = refl
bridge_same d e _ = refl

pub own_claims : (r : Row) → list_all (λ c. makes c r) (claims_of r) ≡ true
own_claims r = and_from _ _ (key_itself (key_of r)) (others r) where
  first : (c : Claim) (cs : List Claim) → list_any (same_claim c) (c ∷ cs) ≡ true
  first c cs = or_left _ _ (claim_itself c)

  second : (c b : Claim) → list_any (same_claim c) (b ∷ c ∷ []) ≡ true
  second c b = or_right (same_claim c b) _ (first c [])

  others : (r : Row) → list_all (λ c. makes c r) (other_claims r) ≡ true
  others (Member m) =
      and_from _ _ (first (claims.Address m.address) (claims.Ssrc m.out_audio ∷ []))
      (and_from _ _ (second (claims.Ssrc m.out_audio) (claims.Address m.address)) refl)
  others (Source s) = and_from _ _ (first (claims.Ssrc s.ssrc) []) refl
  others (Slot s) =
      and_from _ _ (first (claims.Ssrc s.out_ssrc) (claims.Place s.member s.index ∷ []))
      (and_from _ _ (second (claims.Place s.member s.index) (claims.Ssrc s.out_ssrc)) refl)
  others _ = refl

pub each_claim : (t p q : Claim → Bool) (cs : List Claim) → ((c : Claim) → t c ≡ true → p c ≡ true → q c ≡ true)
    → list_all t cs ≡ true → list_all p cs ≡ true → list_all q cs ≡ true
each_claim t p q [] each h k = refl
each_claim t p q (c ∷ cs) each h k = grind (arith, h, k, each c, each_claim t p q cs each)

comes_in : (e : EditOf) (r : Row) → is_in (ins e) r ≡ true → is_in (come_rows e) r ≡ true
comes_in e r one = is_in-append (map (λ p. Member p.row) e.put.members) (ins e) r ∙ or_right _ _ one

others_in_order : (d : Desk) (e : EditOf) → in_order d.others ≡ true → Apt d e
    → list_all (λ r. key_is_new r (without_rows (outs e) d.others)) (ins e) ≡ true
    → in_order (exchanged d e).others ≡ true
unfolding exchanged
others_in_order d e h a new =
    with_rows_in_order (ins e) (without_rows (outs e) d.others)
    (in_order-filter (λ x. not (is_in (outs e) x)) d.others h) (ins_order a) new

plain_rows : (d : Desk) (e : EditOf) → list_all (λ r. not (is_of kinds.Member r)) d.others ≡ true →
    list_all (λ r. not (is_of kinds.Member r)) (exchanged d e).others
    ≡ list_all (λ r. not (is_of kinds.Member r)) (ins e)
unfolding exchanged
plain_rows d e h =
    let p : Row → Bool = λ r. not (is_of kinds.Member r) in
    list_all-with_rows p (ins e) (without_rows (outs e) d.others)
    ∙ ap (λ b. list_all p (ins e) && b) (list_all-filter p (λ x. not (is_in (outs e) x)) d.others h)
    ∙ and_turned (list_all p (ins e)) true

pub sound_parts : (d : Desk) (r : Row) → is_sound d r ≡ true
    → (is_named_there d r ≡ true) × (is_alone d r ≡ true) × (obeys d r ≡ true)
unfolding is_sound
sound_parts d r h =
    let both = and_parts (is_named_there d r) (is_alone d r && obeys d r) h in
    let two = and_parts (is_alone d r) (obeys d r) both.1 in
    (both.0, two.0, two.1)

pub sound_from : (d : Desk) (r : Row) → is_named_there d r ≡ true → is_alone d r ≡ true → obeys d r ≡ true
    → is_sound d r ≡ true
unfolding is_sound
sound_from d r a b c = and_from _ _ a (and_from _ _ b c)

stays_parts : (moved : Bool) (d : Desk) (e : EditOf) (r : Row) → stays_sound moved d e r ≡ true
    → (keeps_names e r ≡ true) × ((not (is_shaken moved d e r) || obeys (exchanged d e) r) ≡ true)
unfolding stays_sound
stays_parts moved d e r h = and_parts (keeps_names e r) (not (is_shaken moved d e r) || obeys (exchanged d e) r) h

stays_from : (moved : Bool) (d : Desk) (e : EditOf) (r : Row) → keeps_names e r ≡ true → obeys (exchanged d e) r ≡ true
    → stays_sound moved d e r ≡ true
unfolding stays_sound
stays_from moved d e r a b = and_from _ _ a (or_right _ _ b)

-- ---- given a good desk and an apt edit

module _ (d : Desk) (e : EditOf) (g : good d ≡ true) (a : Apt d e) where
  pub all_later : (q : Row → Bool)
      → list_all q (rows_of (exchanged d e)) ≡ (list_all q (come_rows e) && list_all q (stay_rows d e))
  all_later q = all_after q d e a

  -- ---- names

  numbers : (stay go come : ℕ) → stay + go ≡ 1 → nat_lt 0 (stay + come) ≡ not (nat_lt 0 go && not (nat_lt 0 come))
  numbers stay go come h = grind (arith, h)

  -- a key that was there is there later, unless its row goes for good
  kept_key : (k : Key) → list_any (has_key k) (rows_of d) ≡ true
      → list_any (has_key k) (rows_of (exchanged d e)) ≡ not (takes e k && not (puts e k))
  kept_key k h =
      let w = witness (has_key k) (rows_of d) h in
      let once : count_by (has_key k) (rows_of d) ≡ 1 =
      ap (λ x. count_by (has_key x) (rows_of d)) (sym (its_key k w.0 w.2)) ∙ one_key d w.0 g w.1 in
      let n : count_by (has_key k) (stay_rows d e) + count_by (has_key k) (go_rows e) ≡ 1 =
      omega (arith, once, before d e g a (has_key k)) in
      any_count (has_key k) (rows_of (exchanged d e)) ∙ ap (nat_lt 0) (later d e g a (has_key k))
      ∙ numbers (count_by (has_key k) (stay_rows d e)) (count_by (has_key k) (go_rows e))
      (count_by (has_key k) (come_rows e)) n
      ∙ sym (λ i. not (any_count (has_key k) (go_rows e) i && not (any_count (has_key k) (come_rows e) i)))

  kept_names : (ks : List Key) → list_all (λ k. list_any (has_key k) (rows_of d)) ks ≡ true →
      list_all (λ k. list_any (has_key k) (rows_of (exchanged d e))) ks
      ≡ list_all (λ k. not (takes e k && not (puts e k))) ks
  kept_names [] h = refl
  kept_names (k ∷ ks) h =
      let both = and_parts (list_any (has_key k) (rows_of d)) (list_all (λ k. list_any (has_key k) (rows_of d)) ks) h in
      (λ i. kept_key k both.0 i && kept_names ks both.1 i)

  named_row : (r : Row) → is_in (stay_rows d e) r ≡ true → is_named_there (exchanged d e) r ≡ keeps_names e r
  named_row r one =
      kept_names (names r) (at_each (is_named_there d) (rows_of d) r (good_parts d g).named (was_there d e g a r one))

  -- ---- claims

  -- what a row that stays has to itself it keeps, if the rows that come are alone too
  once_more : list_all (is_alone (exchanged d e)) (come_rows e) ≡ true → (r : Row) → is_in (stay_rows d e) r ≡ true →
      (c : Claim) → makes c r ≡ true → is_made_once d c ≡ true → is_made_once (exchanged d e) c ≡ true
  once_more come r one c own h =
      let both = and_parts (nat_eq (count_by (makes c) (rows_of d)) 1) (not (is_bridges d c)) h in
      let once = eqb-true (count_by (makes c) (rows_of d)) 1 both.0 in
      let here = any_counts (makes c) (stay_rows d e) r one own in
      elim (cases_Bool (list_any (makes c) (come_rows e))) [
        | inl two ↦
            let w = witness (makes c) (come_rows e) two in
            claimed (is_made_once (exchanged d e)) c w.0 (at_each (is_alone (exchanged d e)) (come_rows e) w.0 come w.1)
            w.2
        | inr none ↦
            let n : count_by (makes c) (come_rows e) ≡ 0 = no_count (makes c) (come_rows e) none in
            let now : count_by (makes c) (rows_of (exchanged d e)) ≡ 1 =
            omega (arith, later d e g a (makes c), before d e g a (makes c), once, here, n) in
            and_from _ _ (eq-eqb (count_by (makes c) (rows_of (exchanged d e))) 1 now)
            (ap not (bridge_same d e c) ∙ both.1)
      ]

  still_alone : list_all (is_alone (exchanged d e)) (come_rows e) ≡ true → (r : Row) → is_in (stay_rows d e) r ≡ true
      → is_alone (exchanged d e) r ≡ true
  still_alone come r one =
      each_claim (λ c. makes c r) (is_made_once d) (is_made_once (exchanged d e)) (claims_of r) (once_more come r one)
      (own_claims r)
      (at_each (is_alone d) (rows_of d) r (good_parts d g).alone (was_there d e g a r one))

  -- ---- order

  -- the keys of the rows that come are new among those that stay
  news : list_all (is_alone (exchanged d e)) (come_rows e) ≡ true
      → list_all (λ r. key_is_new r (without_rows (outs e) d.others)) (ins e) ≡ true
  news come = from_each (λ r. key_is_new r (without_rows (outs e) d.others)) (ins e) (λ r one.
      let k = key_of r in
      let comes : is_in (come_rows e) r ≡ true = comes_in e r one in
      let once : count_by (has_key k) (rows_of (exchanged d e)) ≡ 1 =
      eqb-true _ _ (claims_key (exchanged d e) r (at_each (is_alone (exchanged d e)) (come_rows e) r come comes)) in
      let some = any_counts (has_key k) (come_rows e) r comes (key_itself k) in
      let stay : count_by (has_key k) (stay_rows d e) ≡ 0 = omega (arith, once, some, later d e g a (has_key k)) in
      let none : count_by (has_key k) (without_rows (outs e) d.others) ≡ 0 =
      omega (
        arith,
        stay,
        two_counts Member (has_key k) (take_at e.taken.members d.members) (without_rows (outs e) d.others),
      ) in
      from_each (λ x. precedes r x || precedes x r) (without_rows (outs e) d.others) (λ x there.
      elim (cases_Bool (has_key k x)) [
        | inl same ↦
            absurd
            (let n = any_counts (has_key k) (without_rows (outs e) d.others) x there same in omega (arith, n, none))
        | inr other ↦ one_precedes r x other
      ]))

  order_later : list_all (is_alone (exchanged d e)) (come_rows e) ≡ true → in_order (exchanged d e).others ≡ true
  order_later come = others_in_order d e (good_order d g) a (news come)

  -- ---- the whole

  -- the rows that come are no members', as those that stay
  pub plain_later : list_all (λ r. not (is_of kinds.Member r)) (exchanged d e).others
      ≡ list_all (λ r. not (is_of kinds.Member r)) (ins e)
  plain_later =
      plain_rows d e
      (and_parts (in_order d.others) (list_all (λ r. not (is_of kinds.Member r)) d.others) (good_parts d g).listed).1

  -- a row that stays obeys, since it is asked or nothing shakes it
  obeys_still : IsKeyed (exchanged d e) → list_all (λ r. not (is_of kinds.Member r)) (ins e) ≡ true
      → list_all (keeps_names e) (stay_rows d e) ≡ true → (r : Row) → is_in (stay_rows d e) r ≡ true →
      (not (is_shaken (moves d e) d e r) || obeys (exchanged d e) r) ≡ true → obeys (exchanged d e) r ≡ true
  obeys_still keyed plain keep r one h = by (cases_Bool (is_shaken (moves d e) d e r)) (cases_Bool (moves d e)) where
    before' : obeys d r ≡ true
    before' = at_each (obeys d) (rows_of d) r (good_parts d g).obey (was_there d e g a r one)

    asked : (a b : Bool) → (not a || b) ≡ true → a ≡ true → b ≡ true
    asked a b h e = grind (arith, h, e)

    by : (is_shaken (moves d e) d e r ≡ true) ⊎ (is_shaken (moves d e) d e r ≡ false)
        → (moves d e ≡ true) ⊎ (moves d e ≡ false) → obeys (exchanged d e) r ≡ true
    by (inl shaken) m = asked (is_shaken (moves d e) d e r) (obeys (exchanged d e) r) h shaken
    by (inr calm) (inr still) =
        unshaken d e g a keyed plain still keep r one (sym (ap (λ b. is_shaken b d e r) still) ∙ calm) before'
    by (inr calm) (inl moved) =
        anyway r (was_there d e g a r one) (sym (ap (λ b. is_shaken b d e r) moved) ∙ calm) before' where
          anyway : (r : Row) → is_in (rows_of d) r ≡ true → is_shaken true d e r ≡ false → obeys d r ≡ true
              → obeys (exchanged d e) r ≡ true
          anyway (Member m) there calm h =
              let both =
              and_parts (is_in_range (Member m) && true) (all_suit d (Member m) && are_together d (names (Member m)))
              h in
              and_from _ _ both.0 (one_kept d e g a keyed (Carries m.codec) (keys.Room m.room) calm
              (at_each (is_named_there d) (rows_of d) (Member m) (good_parts d g).named there) both.1)
          anyway (Source s) there calm h = h
          anyway (Slot s) there calm h = h
          anyway (Mute s) there calm h = h
          anyway _ there calm h = absurd (true_false calm)

  -- what is judged of single rows makes the new desk good
  pub sound_good : list_all (λ r. not (is_of kinds.Member r)) (ins e) ≡ true → is_within_limits (exchanged d e) ≡ true →
      all_come (is_sound (exchanged d e)) e ≡ true → all_stay (stays_sound (moves d e) d e) d e ≡ true
      → good (exchanged d e) ≡ true
  sound_good plain within come stay =
      let d' = exchanged d e in
      let keep =
      each_row (stays_sound (moves d e) d e) (keeps_names e) (stay_rows d e)
      (λ r one s. (stays_parts (moves d e) d e r s).0) stay in
      let come_alone = each_row (is_sound d') (is_alone d') (come_rows e) (λ r one s. (sound_parts d' r s).1) come in
      let alone : list_all (is_alone d') (rows_of d') ≡ true =
      all_later (is_alone d')
      ∙ and_from _ _ come_alone (from_each (is_alone d') (stay_rows d e) (still_alone come_alone)) in
      let keyed = keyed_alone d' alone (plain_later ∙ plain) in
      good_from d' record {
        listed = and_from _ _ (order_later come_alone) (plain_later ∙ plain);
        within = within;
        named = all_later (is_named_there d') ∙ and_from _ _
            (each_row (is_sound d') (is_named_there d') (come_rows e) (λ r one s. (sound_parts d' r s).0) come)
            (each_row (keeps_names e) (is_named_there d') (stay_rows d e) (λ r one s. named_row r one ∙ s) keep);
        alone = alone;
        obey = all_later (obeys d') ∙ and_from _ _
            (each_row (is_sound d') (obeys d') (come_rows e) (λ r one s. (sound_parts d' r s).2) come)
            (each_row (stays_sound (moves d e) d e) (obeys d') (stay_rows d e)
            (λ r one s. obeys_still keyed plain keep r one (stays_parts (moves d e) d e r s).1) stay);
      }

  -- and a good desk is judged so
  pub good_sound : good (exchanged d e) ≡ true
      → (all_come (is_sound (exchanged d e)) e ≡ true) × (all_stay (stays_sound (moves d e) d e) d e ≡ true)
  good_sound h =
      let d' = exchanged d e in
      let good' = good_parts d' h in
      let named =
      and_parts (list_all (is_named_there d') (come_rows e)) (list_all (is_named_there d') (stay_rows d e))
      (sym (all_later (is_named_there d')) ∙ good'.named) in
      let alone =
      and_parts (list_all (is_alone d') (come_rows e)) (list_all (is_alone d') (stay_rows d e))
      (sym (all_later (is_alone d')) ∙ good'.alone) in
      let obey =
      and_parts (list_all (obeys d') (come_rows e)) (list_all (obeys d') (stay_rows d e))
      (sym (all_later (obeys d')) ∙ good'.obey) in (
        from_each (is_sound d') (come_rows e) (λ r one. sound_from d' r
            (at_each (is_named_there d') (come_rows e) r named.0 one)
            (at_each (is_alone d') (come_rows e) r alone.0 one) (at_each (obeys d') (come_rows e) r obey.0 one)),
        from_each (stays_sound (moves d e) d e) (stay_rows d e) (λ r one. stays_from (moves d e) d e r
            (sym (named_row r one) ∙ at_each (is_named_there d') (stay_rows d e) r named.1 one)
            (at_each (obeys d') (stay_rows d e) r obey.1 one)),
      )
