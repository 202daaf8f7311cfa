-- What goes beside members is told by the sources and the slots that go, by the members and by the key.
use Rattle.std.specs.Prelude.{◌≡◌, ◌<◌, ◌≤◌, ◌&&◌, ◌||◌}
use Rattle.desk_edit.proofs.Words.{ℕ, nat_eq, Bool, true, false, not, List, [], map, filter, Some, inl, inr, refl, sym}
use Rattle.desk_edit.proofs.Words.{ap, ◌∙◌, arith, eqb-true, list_any, or-false, and_parts, or_cases, cases_Bool}
use Rattle.desk_edit.proofs.Words.{false_from_ne_true, Row, GainRow, Audio, Key, Kind, rank, kind_of, key_of, has_key}
use Rattle.desk_edit.proofs.Words.{suits, is_of, in_order, is_in, is_gain_of, gains_naming, Desk, good, rows_of, row_at}
use Rattle.desk_edit.proofs.Words.{is_named_there, number_itself, its_key, at_each, in_order-filter, good_parts}
use Rattle.desk_edit.proofs.Words.{good_order, is_in-append, true_false, witness, list_any-map, found_one, order_once}
use Rattle.desk_edit.proofs.Words.{keyed_good, plain_others, not_its, skipped, goes_within, goes_with, has, level}
use Rattle.desk_edit.proofs.Words.{can_go, found_list, is_sound}
use Rattle.desk_rows.specs.Row.Want.{Sends}
use Rattle.desk_rows.specs.declared.row.Row.TheVariants as rows
use Rattle.desk_rows.specs.declared.key.Key.TheVariants as keys
use Rattle.desk_rows.specs.declared.key.Kind.TheVariants as kinds
use Rattle.desk_edit.proofs.Lists.{and_first, turned, row_some, any_none, in_filter, filter_alike, any_filter}
use Rattle.desk_edit.proofs.Lists.{filter_wider, filter_found, other_in, obeyed, any_other}
use Rattle.desk_edit.proofs.Dependence.{steady, own_only}
use Rattle.desk_edit.proofs.GoingLemmas.{none_goes, same_goes, no_members_key}
use Rattle.desk_edit.proofs.ByKinds.{its_kind, none_of_kind}

-- a row of this name goes with the row of the key
abbrev pub name_goes_at : Desk → Key → Key → Bool
name_goes_at d key name = list_any (λ s. has_key name s && goes_within 2 d key s) (rows_of d)

-- ---- streams

same_two : (kind top : Kind) → level kind ≡ 2 → level top ≡ 2 → can_go kind top ≡ true → kind ≡ top
same_two kinds.Source kinds.Source h k go = refl
same_two kinds.Slot kinds.Slot h k go = refl
same_two kind top h k go = first_of (cc, omega (arith, h, k))

module _ (d : Desk) (key : Key) (g : good d ≡ true) (low : level (kind_of key) ≤ 2) where
  abbrev goes : Row → Bool
  goes = goes_with d key

  abbrev name_gone : Key → Bool
  name_gone = name_goes_at d key

  abbrev going_of : Kind → List Row
  going_of kind = filter goes (filter (is_of kind) d.others)

  -- a row of a kind that goes is in its list
  pub stream_goes : (name : Key) → level (kind_of name) ≡ 2
      → list_any (has_key name) (going_of (kind_of name)) ≡ name_gone name
  stream_goes name two =
      any_filter (has_key name) goes (filter (is_of (kind_of name)) d.others)
      ∙ any_filter (λ x. goes x && has_key name x) (is_of (kind_of name)) d.others
      ∙ (λ i. list_any (λ x. one x i) d.others)
      ∙ sym (any_other d (λ x. has_key name x && goes_within 2 d key x) (λ m.
      ap (λ b. b && goes_within 2 d key (rows.Member m))
      (not_its name (no_members_key name (omega (arith, two))) m))) where
        both : (a b c w : Bool) → (c ≡ true → (a ≡ true) × (b ≡ w)) → (a && (b && c)) ≡ (c && w)
        both a b c w h = grind (arith, h)

        one : (x : Row)
            → (is_of (kind_of name) x && (goes x && has_key name x)) ≡ (has_key name x && goes_within 2 d key x)
        one x = both (is_of (kind_of name) x) (goes x) (has_key name x) (goes_within 2 d key x) (λ e.
            let at : kind_of (key_of x) ≡ kind_of name = ap kind_of (its_key name x e) in
            let high : ◌≡◌ {A = ℕ} (level (kind_of (key_of x))) (level (kind_of name)) = ap level at in (
              ap (λ k. nat_eq (rank k) (rank (kind_of name))) at ∙ number_itself (rank (kind_of name)),
              sym (steady 2 d key x (omega (arith, high, two))),
            ))

  pub stream_found : (name : Key) (kind : Kind) → level kind ≡ 2 → kind_of name ≡ kind
      → list_any (has_key name) (going_of kind) ≡ name_gone name
  stream_found name kind two is =
      ap (λ k. list_any (has_key name) (going_of k)) (sym is) ∙ stream_goes name (ap level is ∙ two)

  -- of the kind of a source or a slot that is taken, it goes alone
  pub stream_alone : (kind : Kind) → level kind ≡ 2 → level (kind_of key) ≡ 2 → can_go kind (kind_of key) ≡ true
      → found_list (row_at d key) ≡ going_of kind
  stream_alone kind two top go =
      let same = same_two kind (kind_of key) two top go in
      ap found_list (skipped key (no_members_key key (omega (arith, top))) d.members d.others)
      ∙ sym (filter_alike goes (has_key key) (filter (is_of kind) d.others) (λ x one.
      let at : ◌≡◌ {A = ℕ} (level (kind_of (key_of x))) (level kind) =
      ap level (its_kind kind x (in_filter (is_of kind) d.others x one).1) in
      own_only 3 d key x (omega (arith, at, two, top)))
      ∙ filter_wider (has_key key) (is_of kind) d.others (λ x one e.
      (λ i. nat_eq (rank (kind_of (its_key key x e i))) (rank (same i))) ∙ number_itself (rank (kind_of key)))
      ∙ filter_found (has_key key) d.others (order_once key d.others (good_order d g)))

  -- sources and slots name members at most
  pub by_members : (kind : Kind) → level kind ≡ 2
      → filter (goes_within 2 d key) (filter (is_of kind) d.others) ≡ going_of kind
  by_members kind two = filter_alike (goes_within 2 d key) goes (filter (is_of kind) d.others) (λ x one.
      let at : ◌≡◌ {A = ℕ} (level (kind_of (key_of x))) (level kind) =
      ap level (its_kind kind x (in_filter (is_of kind) d.others x one).1) in
      steady 2 d key x (omega (arith, at, two)))

  -- ---- kinds of which none goes

  -- the key is of another kind than a row that stands above it
  other_key : (x : Row) → level (kind_of key) < level (kind_of (key_of x)) → has_key key x ≡ false
  other_key x high =
      false_from_ne_true (has_key key x) (λ e.
      let at : ◌≡◌ {A = ℕ} (level (kind_of (key_of x))) (level (kind_of key)) =
      ap (λ k. level (kind_of k)) (its_key key x e) in
      omega (arith, at, high))

  pub no_member_goes : list_any (λ m. goes (rows.Member m)) d.members ≡ false → (n : ℕ)
      → name_gone (keys.Member n) ≡ false
  no_member_goes nobody n =
      any_none (λ s. has_key (keys.Member n) s && goes_within 2 d key s) (rows_of d)
      (λ s one. false_from_ne_true _ (λ h.
      let both = and_parts (has_key (keys.Member n) s) (goes_within 2 d key s) h in
      let its = its_key (keys.Member n) s both.0 in
      let at : ◌≡◌ {A = ℕ} (level (kind_of (key_of s))) 1 = ap (λ k. level (kind_of k)) its in
      elim (or_cases (is_in (map rows.Member d.members) s) (is_in d.others s)
      (sym (is_in-append (map rows.Member d.members) d.others s) ∙ one)) [
        | inl member ↦
            true_false (sym
            (row_some goes (map rows.Member d.members) s member (sym (steady 2 d key s (omega (arith, at))) ∙ both.1))
            ∙ list_any-map rows.Member goes d.members
            ∙ nobody)
        | inr other ↦
            true_false (sym (at_each (λ r. not (is_of kinds.Member r)) d.others s (plain_others d g) other)
            ∙ ap (λ k. not (nat_eq (rank (kind_of k)) (rank kinds.Member))) its)
      ]))

  pub no_streams : list_any (λ m. goes (rows.Member m)) d.members ≡ false → (kind : Kind) → level kind ≡ 2
      → level (kind_of key) ≤ 1 → going_of kind ≡ []
  no_streams nobody kind two lower = none_of_kind d goes kind (λ x one is. each x (ap level is ∙ two)) where
    each : (x : Row) → level (kind_of (key_of x)) ≡ 2 → goes x ≡ false
    each (rows.Source s) h =
        (λ i. other_key (rows.Source s) (omega (arith, lower)) i || (no_member_goes nobody s.member i || false))
    each (rows.Slot s) h =
        (λ i. other_key (rows.Slot s) (omega (arith, lower)) i || (no_member_goes nobody s.member i || false))
    each x h = absurd (omega (arith, h))

  -- where no source or no slot goes, none is found by its name
  no_stream : (name : Key) → level (kind_of name) ≡ 2 → going_of (kind_of name) ≡ [] → name_gone name ≡ false
  no_stream name two none = sym (stream_goes name two) ∙ ap (list_any (has_key name)) none

  pub no_subs : going_of kinds.Source ≡ [] → going_of kinds.Slot ≡ [] → going_of kinds.Sub ≡ []
  no_subs none nor = none_of_kind d goes kinds.Sub (λ x one. each x) where
    each : (x : Row) → kind_of (key_of x) ≡ kinds.Sub → goes x ≡ false
    each (rows.Sub s) is =
        (λ i.
        other_key (rows.Sub s) (omega (arith, low)) i
        || (no_stream (keys.Source s.source) refl none i || (no_stream (keys.Slot s.out_ssrc) refl nor i || false)))
    each x is = cc

  pub no_mutes : going_of kinds.Source ≡ [] → going_of kinds.Mute ≡ []
  no_mutes none = none_of_kind d goes kinds.Mute (λ x one. each x) where
    each : (x : Row) → kind_of (key_of x) ≡ kinds.Mute → goes x ≡ false
    each (rows.Mute m) is =
        (λ i. other_key (rows.Mute m) (omega (arith, low)) i || (no_stream (keys.Source m.source) refl none i || false))
    each x is = cc

  -- a gain is of a source of audio, so where none of these goes no gain's source does
  no_sound : list_any is_sound (going_of kinds.Source) ≡ false → (s : GainRow) → is_in d.others (rows.Gain s) ≡ true
      → name_gone (keys.Source s.source) ≡ false
  no_sound none s one = false_from_ne_true _ (λ e.
      let name = keys.Source s.source in
      let w = witness (has_key name) (going_of kinds.Source) (stream_goes name refl ∙ e) in
      let there =
      (in_filter (is_of kinds.Source) d.others w.0
      (in_filter goes (filter (is_of kinds.Source) d.others) w.0 w.1).0).0 in
      let found = found_one (has_key name) (rows_of d) w.0 ((keyed_good d g).once name) (other_in d w.0 there) w.2 in
      true_false (sym (row_some is_sound (going_of kinds.Source) w.0 w.1 (sound w.0 (ap kind_of (its_key name w.0 w.2))
      (ap (suits (Sends Audio)) (sym found)
      ∙ (and_parts _ _ (and_parts _ _ (obeyed d g (rows.Gain s) (other_in d (rows.Gain s) one)).2).1).0)))
      ∙ none)) where
        sound : (x : Row) → kind_of (key_of x) ≡ kinds.Source → suits (Sends Audio) (Some x) ≡ true → is_sound x ≡ true
        sound (rows.Source r) is h = h
        sound x is h = cc

  pub no_gains : list_any is_sound (going_of kinds.Source) ≡ false
      → list_any (λ m. goes (rows.Member m)) d.members ≡ false → going_of kinds.Gain ≡ []
  no_gains none nobody = none_of_kind d goes kinds.Gain each where
    each : (x : Row) → is_in d.others x ≡ true → kind_of (key_of x) ≡ kinds.Gain → goes x ≡ false
    each (rows.Gain s) one is =
        (λ i.
        other_key (rows.Gain s) (omega (arith, low)) i
        || (no_member_goes nobody s.member i || (no_sound none s one i || false)))
    each x one is = cc

-- a member that hears goes where it is the one that is taken
pub own_listener : (d : Desk) (n member : ℕ)
    → name_goes_at d (keys.Member n) (keys.Member member) ≡ (nat_eq n member && has d (keys.Member n))
own_listener d n member = elim (cases_Bool (nat_eq n member)) [
  | inl e ↦
      same_goes d 2 (keys.Member n) (keys.Member member) (turned member n ∙ e)
      ∙ sym (ap (λ b. b && has d (keys.Member n)) e)
  | inr e ↦
      none_goes d 2 (keys.Member n) (keys.Member member) refl (turned member n ∙ e)
      ∙ sym (ap (λ b. b && has d (keys.Member n)) e)
]

-- where a member is taken of whom no source of audio goes, the gains that go are its own
pub own_gains : (d : Desk) (n : ℕ) → good d ≡ true
    → list_any is_sound (filter (goes_with d (keys.Member n)) (filter (is_of kinds.Source) d.others)) ≡ false →
    gains_naming d n ≡ filter (goes_with d (keys.Member n)) (filter (is_of kinds.Gain) d.others)
own_gains d n g none =
    sym (filter_alike (goes_with d (keys.Member n)) (is_gain_of n) (filter (is_of kinds.Gain) d.others) (λ x one.
    let both = in_filter (is_of kinds.Gain) d.others x one in
    each x both.0 (its_kind kinds.Gain x both.1)
    (at_each (is_named_there d) (rows_of d) x (good_parts d g).named (other_in d x both.0)))
    ∙ filter_wider (is_gain_of n) (is_of kinds.Gain) d.others (λ x one. wider x)) where
      each : (x : Row) → is_in d.others x ≡ true → kind_of (key_of x) ≡ kinds.Gain → is_named_there d x ≡ true
          → goes_with d (keys.Member n) x ≡ is_gain_of n x
      each (rows.Gain s) one is there =
          (λ i. own_listener d n s.member i || (no_sound d (keys.Member n) g (omega arith) none s one i || false))
          ∙ or-false (nat_eq n s.member && has d (keys.Member n))
          ∙ and_first (nat_eq n s.member) (has d (keys.Member n))
          (λ e. ap (λ k. has d (keys.Member k)) (eqb-true n s.member e) ∙ (and_parts _ _ there).0)
          ∙ turned n s.member
      each x one is there = cc

      wider : (x : Row) → is_gain_of n x ≡ true → is_of kinds.Gain x ≡ true
      wider (rows.Gain s) h = refl
      wider x h = cc

pub streams_in_order : (d : Desk) (key : Key) → good d ≡ true → (kind : Kind)
    → in_order (filter (goes_with d key) (filter (is_of kind) d.others)) ≡ true
streams_in_order d key g kind =
    in_order-filter (goes_with d key) (filter (is_of kind) d.others)
    (in_order-filter (is_of kind) d.others (good_order d g))
