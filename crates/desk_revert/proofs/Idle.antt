-- A command that asks for what is so already changes nothing.
use Rattle.std.specs.Prelude.{◌&&◌, ◌||◌, ◌∷◌, ◌++◌}
use Rattle.desk_rows.specs.laws.Words.{◌≡◌, ℕ, zero, suc, Bool, true, false, not, cond, List, [], map, filter, refl}
use Rattle.desk_rows.specs.laws.Words.{sym, ap, ◌∙◌, nat_eq, eqb-true, Some, list_any, list_any-append}
use Rattle.desk_rows.specs.laws.Words.{and_parts, and_right, or_parts, or_left, or_right, Desk, good, rows_of, row_at}
use Rattle.desk_rows.specs.laws.Words.{obeys}
use Rattle.desk_rows.specs.laws.Words.{room_of_member, same_room, are_together, all_suit, is_in, same_row, with_row}
use Rattle.desk_rows.specs.laws.Words.{has_key, key_of, names, not-true, list_all}
use Rattle.desk_rows.specs.Desk.{holds, has_few_audio}
use Rattle.desk_rows.specs.Row.{is_in_range}
use Rattle.desk_rows.specs.declared.row.Row.TheVariants as rows
use Rattle.desk_rows.specs.declared.row.Member.{Member}
use Rattle.desk_rows.specs.declared.row.Row.{Row}
use Rattle.desk_rows.specs.declared.key.Key.{Key}
use Rattle.desk_rows.specs.declared.key.Key.TheVariants as keys
use Rattle.desk_rows.specs.laws.Equal.{key_itself, row_itself}
use Rattle.desk_rows.specs.laws.ListLaws.{true_false}
use Rattle.desk_rows.specs.laws.OrderLaws.{at_each, from_each, filter_all}
use Rattle.desk_rows.specs.laws.Laws.{good_parts, good_order, is_in-append}
use Rattle.desk_rows.proofs.Finding.{found_one, keyed_good}
use Rattle.desk_edit.specs.declared.command.Command.{Command}
use Rattle.desk_edit.specs.declared.command.Form.{Form}
use Rattle.desk_edit.specs.declared.command.Form.TheVariants.{Put, Remove, Move}
use Rattle.desk_edit.specs.Forms.{form_of}
use Rattle.desk_edit.specs.Depends.{goes_within, goes_with, without}
use Rattle.desk_edit.specs.Commands.{desk_after, desk_led, with_put, into_room, with_member_in, with_moved}
use Rattle.desk_edit.specs.Refusals.{has, is_replaced}
use Rattle.desk_edit.specs.AsIf.{is_so, is_idle}
use Rattle.desk_revert.proofs.Same.{put_again}

-- ---- a removal: where no row has the key, none goes

module _ (d : Desk) (key : Key) (none : list_any (has_key key) (rows_of d) ≡ false) where
  abbrev Quiet : ℕ → Type 0
  Quiet n = (s : Row) → has_key key s ≡ false → goes_within n d key s ≡ false

  of : (n : ℕ) → Quiet n → (k : Key) (ss : List Row) → list_any (has_key key) ss ≡ false
      → list_any (λ s. has_key k s && goes_within n d key s) ss ≡ false
  of n still k [] none = refl
  of n still k (s ∷ ss) none =
      let both = or_parts (has_key key s) (list_any (has_key key) ss) none in
      let here = and_right (has_key k s) (goes_within n d key s) (still s both.0) in
      let rest = of n still k ss both.1 in
      λ i. here i || rest i

  by_name : (n : ℕ) → Quiet n → (ks : List Key)
      → list_any (λ k. list_any (λ s. has_key k s && goes_within n d key s) (rows_of d)) ks ≡ false
  by_name n still [] = refl
  by_name n still (k ∷ ks) =
      let here = of n still k (rows_of d) none in
      let rest = by_name n still ks in
      λ i. here i || rest i

  quiet : (n : ℕ) (r : Row) → has_key key r ≡ false → goes_within n d key r ≡ false
  quiet zero r h = h
  quiet (suc n) r h =
      let others = by_name n (λ s k. quiet n s k) (names r) in
      λ i. h i || others i

  quiet_members : (ms : List Member) → list_any (has_key key) (map rows.Member ms) ≡ false
      → filter (λ m. not (goes_with d key (rows.Member m))) ms ≡ ms
  quiet_members [] h = refl
  quiet_members (m ∷ ms) h =
      let both = or_parts (has_key key (rows.Member m)) (list_any (has_key key) (map rows.Member ms)) h in
      let rest = filter (λ q. not (goes_with d key (rows.Member q))) ms in
      ap (λ b. cond (not b) (m ∷ rest) rest) (quiet 3 (rows.Member m) both.0)
      ∙ ap (λ qs. m ∷ qs) (quiet_members ms both.1)

  quiet_others : (rs : List Row) → list_any (has_key key) rs ≡ false
      → filter (λ r. not (goes_with d key r)) rs ≡ rs
  quiet_others [] h = refl
  quiet_others (r ∷ rs) h =
      let both = or_parts (has_key key r) (list_any (has_key key) rs) h in
      let rest = filter (λ q. not (goes_with d key q)) rs in
      ap (λ b. cond (not b) (r ∷ rest) rest) (quiet 3 r both.0) ∙ ap (λ qs. r ∷ qs) (quiet_others rs both.1)

  removes_nothing : without d key ≡ d
  removes_nothing =
      let both =
      or_parts (list_any (has_key key) (map rows.Member d.members)) (list_any (has_key key) d.others)
      (sym (list_any-append (has_key key) (map rows.Member d.members) d.others) ∙ none) in
      λ i. record d { members = quiet_members d.members both.0 i; others = quiet_others d.others both.1 i }

-- ---- a row that stands as it would be

no_member : (r : Row) → is_replaced r ≡ true → (m : Member) → same_row r (rows.Member m) ≡ false
no_member (rows.Room r) h m = absurd (true_false (sym h))
no_member (rows.Member r) h m = absurd (true_false (sym h))
no_member (rows.Source r) h m = absurd (true_false (sym h))
no_member (rows.Slot r) h m = absurd (true_false (sym h))
no_member _ h m = refl

among_others : (r : Row) → is_replaced r ≡ true → (ms : List Member) (rs : List Row)
    → is_in (map rows.Member ms ++ rs) r ≡ true → is_in rs r ≡ true
among_others r h [] rs one = one
among_others r h (m ∷ ms) rs one =
    among_others r h ms rs (sym (ap (λ b. b || is_in (map rows.Member ms ++ rs) r) (no_member r h m)) ∙ one)

put_other : (d : Desk) (r : Row) → is_replaced r ≡ true
    → with_put d r ≡ record d { others = with_row r (filter (λ x. not (has_key (key_of r) x)) d.others) }
put_other d (rows.Member m) h = absurd (true_false (sym h))
put_other d _ h = refl

puts_nothing : (d : Desk) (r : Row) → good d ≡ true → is_replaced r ≡ true → holds d r ≡ true → with_put d r ≡ d
puts_nothing d r g h one =
    let rows : with_row r (filter (λ x. not (has_key (key_of r) x)) d.others) ≡ d.others =
    put_again r d.others (good_order d g) (among_others r h d.members d.others one) in
    put_other d r h ∙ (λ i. record d { others = rows i })

-- ---- a member that is in the room

module _ (d : Desk) (n room : ℕ) (g : good d ≡ true)
    (h : same_room (room_of_member (row_at d (keys.Member n))) (Some room) ≡ true) where
  stays : (m : Member) → is_in (rows_of d) (rows.Member m) ≡ true → into_room n room m ≡ m
  stays m one = by (nat_eq m.member n) refl where
    by : (b : Bool) → nat_eq m.member n ≡ b → cond b (record m { room = room }) m ≡ m
    by false e = refl
    by true e =
        let own : has_key (keys.Member n) (rows.Member m) ≡ true =
        ap (λ k. has_key (keys.Member k) (rows.Member m)) (sym (eqb-true m.member n e))
        ∙ key_itself (keys.Member m.member) in
        let found : row_at d (keys.Member n) ≡ Some (rows.Member m) =
        found_one (has_key (keys.Member n)) (rows_of d) (rows.Member m) ((keyed_good d g).once (keys.Member n)) one
        own in
        let there : nat_eq m.room room ≡ true =
        ap (λ o. same_room (room_of_member o) (Some room)) (sym found) ∙ h in
        ap (λ r. record m { room = r }) (sym (eqb-true m.room room there))

  all_stay : (ms : List Member)
      → ((m : Member) → is_in (map rows.Member ms) (rows.Member m) ≡ true → is_in (rows_of d) (rows.Member m) ≡ true)
      → map (into_room n room) ms ≡ ms
  all_stay [] there = refl
  all_stay (m ∷ ms) there =
      let first = stays m (there m (or_left _ _ (row_itself (rows.Member m)))) in
      let rest = all_stay ms (λ q one. there q (or_right _ _ one)) in
      λ i. first i ∷ rest i

  same_members : map (into_room n room) d.members ≡ d.members
  same_members =
      all_stay d.members (λ m one.
      is_in-append (map rows.Member d.members) d.others (rows.Member m) ∙ or_left _ _ one)

  together : list_all (λ r. are_together d (names r)) d.others ≡ true
  together =
      from_each (λ r. are_together d (names r)) d.others (λ q one.
      let there : is_in (rows_of d) q ≡ true =
      is_in-append (map rows.Member d.members) d.others q ∙ or_right _ _ one in
      (and_parts (all_suit d q) (are_together d (names q))
      (and_parts (is_in_range q && has_few_audio d q) (all_suit d q && are_together d (names q))
      (at_each (obeys d) (rows_of d) q (good_parts d g).obey there)).1).1)

  same_others : filter (λ r. are_together (with_member_in d n room) (names r)) d.others ≡ d.others
  same_others =
      (λ i. filter (λ r. are_together (record d { members = same_members i }) (names r)) d.others)
      ∙ filter_all (λ r. are_together d (names r)) d.others together

  moves_nothing : with_moved d n room ≡ d
  moves_nothing = λ i. record d { members = same_members i; others = same_others i }

-- ---- all

led_nowhere : (d : Desk) (f : Form) → good d ≡ true → is_so d f ≡ true → desk_led d f ≡ d
led_nowhere d (Put r) g h =
    let both = and_parts (is_replaced r) (holds d r) h in
    puts_nothing d r g both.0 both.1
led_nowhere d (Remove key) g h = removes_nothing d key (not-true (has d key) h)
led_nowhere d (Move member room) g h = moves_nothing d member room g h

-- an idle command changes nothing
pub changes_nothing : (d : Desk) (command : Command) → good d ≡ true → is_idle d command ≡ true
    → desk_after d command ≡ d
unfolding desk_after
changes_nothing d command g h = led_nowhere d (form_of command) g h
