-- No row comes under the key of another, and what is judged is right.
use Rattle.std.specs.Prelude.{◌≡◌, ◌≤◌, ◌∷◌, ◌+◌, ◌&&◌, ◌⊎◌}
use Rattle.desk_rows.specs.declared.edit.Placed.{Placed}
use Rattle.desk_rows.specs.declared.key.Key.{Key}
use Rattle.desk_rows.specs.declared.row.Row.{Row}
use Rattle.desk_rows.specs.declared.row.Row.TheVariants.{Member}
use Rattle.desk_rows.specs.laws.Words.{ℕ, Bool, true, false, List, [], nat_lt, refl, sym, ap, ◌∙◌, arith, map, nat_eq}
use Rattle.desk_rows.specs.laws.Words.{not, inl, inr, eqb-true, or_left, or_right, or_cases, and_parts, and_from}
use Rattle.desk_rows.specs.laws.Words.{cases_Bool, false_from_ne_true, not-true, list_all-map, list_any, list_all}
use Rattle.desk_rows.specs.laws.Words.{is_some, count_by, eq-eqb, Desk, rows_of}
use Rattle.desk_rows.specs.laws.Words.{is_named_there, row_at, is_within_limits, is_made_once, obeys, good, EditOf, ins}
use Rattle.desk_rows.specs.laws.Words.{exchanged, IsKeyed, is_of, is_in, has_key, rank, kind_of, key_of, other_claims}
use Rattle.desk_rows.specs.laws.Words.{come_rows, takes, stay_rows, all_come, all_stay, go_rows, moves, is_free}
use Rattle.desk_rows.specs.laws.Words.{comes_once, is_sound, stays_sound, keys_are_new, is_sound_beside, judged}
use Rattle.desk_rows.specs.declared.key.Kind.TheVariants as kinds
use Rattle.desk_rows.specs.declared.claim.Claim.TheVariants as claims
use Rattle.desk_rows.specs.laws.ClaimLaws.{witness}
use Rattle.desk_rows.specs.laws.Equal.{key_itself, its_key}
use Rattle.desk_rows.specs.laws.Laws.{Apt, ins_order, good_parts, any_counts, is_in-append, one_key}
use Rattle.desk_rows.specs.laws.ListLaws.{true_false, both_ways, count_by-append, count_by-map, any_count, no_count}
use Rattle.desk_rows.specs.laws.ListLaws.{is_found}
use Rattle.desk_rows.specs.laws.OrderLaws.{at_each, from_each}
use Rattle.desk_rows.proofs.Finding.{order_once, keyed_good, before, later, came}
use Rattle.desk_rows.proofs.JudgingLemmas.{each_row, sound_parts, sound_from, plain_later, sound_good, good_sound}

-- rows of one key are of one kind
no_key : (key : Key) (r : Row) (rs : List Row) → has_key key r ≡ true → is_of kinds.Member r ≡ true
    → list_all (λ x. not (is_of kinds.Member x)) rs ≡ true → count_by (has_key key) rs ≡ 0
no_key key r rs e kind plain = no_count (has_key key) rs (false_from_ne_true _ (λ some.
    let w = witness (has_key key) rs some in
    let member : is_of kinds.Member w.0 ≡ true =
    ap (λ k. nat_eq (rank (kind_of k)) (rank kinds.Member)) (its_key key w.0 w.2 ∙ sym (its_key key r e)) ∙ kind in
    true_false (sym member ∙ not-true _ (at_each (λ x. not (is_of kinds.Member x)) rs w.0 plain w.1))))

all_members : (ps : List Placed) → list_all (is_of kinds.Member) (map (λ p. Member p.row) ps) ≡ true
all_members [] = refl
all_members (p ∷ ps) = all_members ps

-- ---- given a good desk and an apt edit

module _ (d : Desk) (e : EditOf) (g : good d ≡ true) (a : Apt d e) where
  joining : List Row
  joining = map (λ p. Member p.row) e.put.members

  -- a key that is there stays, unless its row goes
  pub stays_found : (key : Key) → list_any (has_key key) (stay_rows d e) ≡ (is_some (row_at d key) && not (takes e key))
  stays_found key =
      any_count (has_key key) (stay_rows d e)
      ∙ numbers _ (count_by (has_key key) (go_rows e)) _ (before d e g a (has_key key)) ((keyed_good d g).once key)
      ∙ (λ i.
      (sym (any_count (has_key key) (rows_of d)) ∙ is_found (has_key key) (rows_of d)) i
      && not (sym (any_count (has_key key) (go_rows e)) i)) where
        numbers : (stay go all : ℕ) → all ≡ stay + go → all ≤ 1 → nat_lt 0 stay ≡ (nat_lt 0 all && not (nat_lt 0 go))
        numbers stay go all h k = grind (arith, h, k)

  come_parts : (p : Row → Bool) → count_by p (come_rows e) ≡ count_by p joining + count_by p (ins e)
  unfolding joining
  come_parts p = count_by-append p (map (λ q. Member q.row) e.put.members) (ins e)

  -- a member comes under a new key
  member_is_new : Row → Bool
  member_is_new r = is_free d e (key_of r) && nat_eq (count_by (has_key (key_of r)) joining) 1

  members_new : list_all member_is_new joining
      ≡ list_all (λ p. is_free d e (key_of (Member p.row)) && comes_once e (key_of (Member p.row))) e.put.members
  unfolding joining member_is_new
  members_new = list_all-map member_is_new (λ (p : Placed). Member p.row) e.put.members ∙ same e.put.members where
    same : (ps : List Placed)
        → list_all (λ p. member_is_new (Member p.row)) ps
        ≡ list_all (λ p. is_free d e (key_of (Member p.row)) && comes_once e (key_of (Member p.row))) ps
    same [] = refl
    same (p ∷ ps) = λ i.
        (is_free d e (key_of (Member p.row))
        && nat_eq (count_by-map (λ (q : Placed). Member q.row) (has_key (key_of (Member p.row))) e.put.members i) 1)
        && same ps i

  new_parts : keys_are_new d e ≡ true
      → (list_all member_is_new joining ≡ true) × (list_all (λ r. is_free d e (key_of r)) (ins e) ≡ true)
  unfolding keys_are_new
  new_parts h =
      let both =
      and_parts
      (list_all (λ p. is_free d e (key_of (Member p.row)) && comes_once e (key_of (Member p.row))) e.put.members)
      (list_all (λ r. is_free d e (key_of r)) (ins e)) h in
      (members_new ∙ both.0, both.1)

  none_stays : (key : Key) (r : Row) → has_key key r ≡ true → is_free d e (key_of r) ≡ true
      → count_by (has_key key) (stay_rows d e) ≡ 0
  none_stays key r e' free =
      no_count (has_key key) (stay_rows d e)
      (ap (λ k. list_any (has_key k) (stay_rows d e)) (sym (its_key key r e')) ∙ not-true _ free)

  -- where no row comes under the key of another, each key is there once at most
  pub keyed_later : list_all (λ r. not (is_of kinds.Member r)) (ins e) ≡ true → keys_are_new d e ≡ true
      → IsKeyed (exchanged d e)
  unfolding joining member_is_new
  keyed_later plain new =
      record {
        once = λ key. by key (cases_Bool (list_any (has_key key) (come_rows e)));
        plain = plain_later d e g a ∙ plain;
      } where
        few : (key : Key) → count_by (has_key key) (stay_rows d e) ≤ 1
        few key = let once = (keyed_good d g).once key in omega (arith, once, before d e g a (has_key key))

        by : (key : Key)
            → (list_any (has_key key) (come_rows e) ≡ true) ⊎ (list_any (has_key key) (come_rows e) ≡ false)
            → count_by (has_key key) (rows_of (exchanged d e)) ≤ 1
        by key (inr none) =
            omega (arith, later d e g a (has_key key), few key, no_count (has_key key) (come_rows e) none)
        by key (inl some) =
            let w = witness (has_key key) (come_rows e) some in
            elim (or_cases (is_in joining w.0) (is_in (ins e) w.0) (sym (is_in-append joining (ins e) w.0) ∙ w.1)) [
              | inl member ↦
                  let both =
                  and_parts (is_free d e (key_of w.0)) (nat_eq (count_by (has_key (key_of w.0)) joining) 1)
                  (at_each member_is_new joining w.0 (new_parts new).0 member) in
                  let once : count_by (has_key key) joining ≡ 1 =
                  ap (λ k. count_by (has_key k) joining) (sym (its_key key w.0 w.2)) ∙ eqb-true _ 1 both.1 in
                  let others =
                  no_key key w.0 (ins e) w.2
                  (at_each (is_of kinds.Member) joining w.0 (all_members e.put.members) member)
                  plain in
                  omega (
                    arith,
                    later d e g a (has_key key),
                    none_stays key w.0 w.2 both.0,
                    come_parts (has_key key),
                    once,
                    others,
                  )
              | inr other ↦
                  let free = at_each (λ r. is_free d e (key_of r)) (ins e) w.0 (new_parts new).1 other in
                  let members =
                  no_member key w.0 w.2
                  (not-true _ (at_each (λ r. not (is_of kinds.Member r)) (ins e) w.0 plain other)) in
                  omega (
                    arith,
                    later d e g a (has_key key),
                    none_stays key w.0 w.2 free,
                    come_parts (has_key key),
                    members,
                    order_once key (ins e) (ins_order a),
                  )
            ] where
              no_member : (key : Key) (r : Row) → has_key key r ≡ true → is_of kinds.Member r ≡ false
                  → count_by (has_key key) joining ≡ 0
              no_member key r e' kind = no_count (has_key key) joining (false_from_ne_true _ (λ some.
                  let w = witness (has_key key) joining some in
                  let member : is_of kinds.Member r ≡ true =
                  ap (λ k. nat_eq (rank (kind_of k)) (rank kinds.Member)) (its_key key r e' ∙ sym (its_key key w.0 w.2))
                  ∙ at_each (is_of kinds.Member) joining w.0 (all_members e.put.members) w.1 in
                  true_false (sym member ∙ kind)))

  -- ---- the whole

  -- a row that is there has its key alone
  key_alone : (d' : Desk) → IsKeyed d' → (r : Row) → is_in (rows_of d') r ≡ true
      → is_made_once d' (claims.Key (key_of r)) ≡ true
  key_alone d' keyed r one =
      let some = any_counts (has_key (key_of r)) (rows_of d') r one (key_itself (key_of r)) in
      let few = keyed.once (key_of r) in
      and_from _ _ (eq-eqb (count_by (has_key (key_of r)) (rows_of d')) 1 (omega (arith, some, few))) refl

  sound_whole : (r : Row) → is_made_once (exchanged d e) (claims.Key (key_of r)) ≡ true
      → is_sound_beside (exchanged d e) r ≡ true → is_sound (exchanged d e) r ≡ true
  unfolding is_sound_beside
  sound_whole r key h =
      let both =
      and_parts (is_named_there (exchanged d e) r)
      (list_all (is_made_once (exchanged d e)) (other_claims r) && obeys (exchanged d e) r) h in
      let two = and_parts (list_all (is_made_once (exchanged d e)) (other_claims r)) (obeys (exchanged d e) r) both.1 in
      sound_from (exchanged d e) r both.0 (and_from _ _ key two.0) two.1

  sound_part : (r : Row) → is_sound (exchanged d e) r ≡ true → is_sound_beside (exchanged d e) r ≡ true
  unfolding is_sound_beside
  sound_part r h =
      let parts = sound_parts (exchanged d e) r h in
      and_from _ _ parts.0 (and_from _ _
      (and_parts (is_made_once (exchanged d e) (claims.Key (key_of r)))
      (list_all (is_made_once (exchanged d e)) (other_claims r)) parts.1).1
      parts.2)

  judged_good : judged d e ≡ true → good (exchanged d e) ≡ true
  unfolding judged
  judged_good h =
      let d' = exchanged d e in
      let plain = list_all (λ r. not (is_of kinds.Member r)) (ins e) in
      let rest = all_come (is_sound_beside d') e && all_stay (stays_sound (moves d e) d e) d e in
      let both = and_parts (plain && keys_are_new d e) (is_within_limits d' && rest) h in
      let front = and_parts plain (keys_are_new d e) both.0 in
      let back = and_parts (is_within_limits d') rest both.1 in
      let last = and_parts (all_come (is_sound_beside d') e) (all_stay (stays_sound (moves d e) d e) d e) back.1 in
      let keyed = keyed_later front.0 front.1 in
      sound_good d e g a front.0 back.0
      (each_row (is_sound_beside d') (is_sound d') (come_rows e)
      (λ r one s. sound_whole r (key_alone d' keyed r (came d e g a r one)) s) last.0)
      last.1

  -- in a good desk each row that comes has its key alone
  counted : good (exchanged d e) ≡ true → (r : Row) → is_in (come_rows e) r ≡ true
      → (is_free d e (key_of r) ≡ true) × (count_by (has_key (key_of r)) (come_rows e) ≤ 1)
  counted h r one =
      let all = one_key (exchanged d e) r h (came d e g a r one) in
      let some = any_counts (has_key (key_of r)) (come_rows e) r one (key_itself (key_of r)) in
      let sum = later d e g a (has_key (key_of r)) in
      let none : count_by (has_key (key_of r)) (stay_rows d e) ≡ 0 = omega (arith, all, some, sum) in
      (ap not (any_count (has_key (key_of r)) (stay_rows d e) ∙ ap (nat_lt 0) none), omega (arith, all, sum))

  new_keys : good (exchanged d e) ≡ true → keys_are_new d e ≡ true
  unfolding joining member_is_new keys_are_new
  new_keys h =
      and_from _ _
      (sym members_new ∙ from_each member_is_new joining (λ r one.
      let alone = counted h r (is_in-append joining (ins e) r ∙ or_left _ _ one) in
      let some = any_counts (has_key (key_of r)) joining r one (key_itself (key_of r)) in
      and_from _ _ alone.0 (eq-eqb (count_by (has_key (key_of r)) joining) 1
      (omega (arith, alone.1, come_parts (has_key (key_of r)), some)))))
      (from_each (λ r. is_free d e (key_of r)) (ins e)
      (λ r one. (counted h r (is_in-append joining (ins e) r ∙ or_right _ _ one)).0))

  good_judged : good (exchanged d e) ≡ true → judged d e ≡ true
  unfolding judged
  good_judged h =
      let d' = exchanged d e in
      let good' = good_parts d' h in
      let plain = sym (plain_later d e g a) ∙ (keyed_good d' h).plain in
      let parts = good_sound d e g a h in
      and_from _ _ (and_from _ _ plain (new_keys h)) (and_from _ _ good'.within (and_from _ _
      (each_row (is_sound d') (is_sound_beside d') (come_rows e) (λ r one s. sound_part r s) parts.0) parts.1))

-- after an apt edit a good desk is good exactly where it is judged so
pub judged_right : (d : Desk) (e : EditOf) → good d ≡ true → Apt d e → good (exchanged d e) ≡ judged d e
judged_right d e g a = both_ways _ _ (good_judged d e g a) (judged_good d e g a)
