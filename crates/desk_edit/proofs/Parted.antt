-- Where a member moves, only rows that depend on it can have their two sides in different rooms.
use Rattle.std.specs.Prelude.{◌≡◌, ◌&&◌, ◌∷◌}
use Rattle.desk_edit.proofs.Words.{ℕ, nat_eq, true, false, not, cond, List, [], filter, Option, Some, inl, inr, refl}
use Rattle.desk_edit.proofs.Words.{sym, ap, ◌∙◌, list_any, or_parts, cases_Bool, Row, MemberRow, Key, has_key, names}
use Rattle.desk_edit.proofs.Words.{Desk, good, rows_of, row_at, room_of_member, room_of_found, room_at, same_room}
use Rattle.desk_edit.proofs.Words.{are_together, finds, true_false, keyed_good, goes_within, goes_with, into_room}
use Rattle.desk_edit.proofs.Words.{with_member_in, row_into_room}
use Rattle.desk_rows.specs.declared.row.Row.TheVariants as rows
use Rattle.desk_rows.specs.declared.key.Key.TheVariants as keys
use Rattle.desk_edit.proofs.Lists.{filter_wider, other_in, obeyed}
use Rattle.desk_edit.proofs.GoingLemmas.{name_goes}
use Rattle.desk_edit.proofs.GoneLemmas.{name_goes_at}
use Rattle.desk_edit.proofs.Moves.{found_moved}

module _ (d : Desk) (n room : ℕ) (g : good d ≡ true) where
  abbrev key : Key
  key = keys.Member n

  abbrev dm : Desk
  dm = with_member_in d n room

  -- another member stays in its room
  other_stays : (m : MemberRow) → nat_eq m.member n ≡ false → Some (into_room n room m).room ≡ Some m.room
  other_stays m other = ap (λ b. Some (cond b (record m { room = room }) m).room) other

  -- a member that was found, and another than this
  member_still : (o : Option Row) → finds (goes_within 1 d key) o ≡ false
      → room_of_member (row_into_room n room o) ≡ room_of_member o
  member_still (Some (rows.Member m)) h = other_stays m (or_parts _ _ h).0
  member_still o h = refl

  -- the member of a source or a slot that doesn't depend on this one
  owner_still : (m : ℕ) → list_any (λ s. has_key (keys.Member m) s && goes_within 1 d key s) (rows_of d) ≡ false
      → room_of_member (row_at dm (keys.Member m)) ≡ room_of_member (row_at d (keys.Member m))
  owner_still m h =
      ap room_of_member (found_moved n room d (keyed_good d g) (keys.Member m))
      ∙ member_still (row_at d (keys.Member m)) (sym (name_goes d (keyed_good d g) 1 key (keys.Member m)) ∙ h)

  found_still : (o : Option Row) → finds (goes_within 2 d key) o ≡ false
      → room_of_found dm (row_into_room n room o) ≡ room_of_found d o
  found_still (Some (rows.Member m)) h = other_stays m (or_parts _ _ h).0
  found_still (Some (rows.Source s)) h =
      owner_still s.member (or_parts _ false (or_parts (has_key key (rows.Source s)) _ h).1).0
  found_still (Some (rows.Slot s)) h =
      owner_still s.member (or_parts _ false (or_parts (has_key key (rows.Slot s)) _ h).1).0
  found_still o h = refl

  -- what a name finds that doesn't depend on the member stays in its room
  room_still : (k : Key) → name_goes_at d key k ≡ false → room_at dm k ≡ room_at d k
  room_still k h =
      ap (room_of_found dm) (found_moved n room d (keyed_good d g) k)
      ∙ found_still (row_at d k) (sym (name_goes d (keyed_good d g) 2 key k) ∙ h)

  together_still : (ks : List Key) → list_any (name_goes_at d key) ks ≡ false → are_together dm ks ≡ are_together d ks
  together_still (a ∷ b ∷ []) h =
      let one = or_parts (name_goes_at d key a) _ h in
      (λ i. same_room (room_still a one.0 i) (room_still b (or_parts (name_goes_at d key b) false one.1).0 i))
  together_still ks h = refl

  pub parted_among : filter (λ r. not (are_together dm (names r))) (filter (goes_with d key) d.others)
      ≡ filter (λ r. not (are_together dm (names r))) d.others
  parted_among =
      filter_wider (λ r. not (are_together dm (names r))) (goes_with d key) d.others
      (λ x one parted. elim (cases_Bool (goes_with d key x)) [
        | inl e ↦ e
        | inr e ↦
            absurd (true_false (sym parted
            ∙ ap not (together_still (names x) (or_parts (has_key key x) _ e).1 ∙ (obeyed d g x (other_in d x one)).3)))
      ])
