-- Which kinds of row make a claim, and have audio.
use Rattle.std.specs.Prelude.{◌≡◌, ◌&&◌, ◌||◌, ◌∷◌}
use Rattle.desk_edit.proofs.Words.{ℕ, nat_eq, Bool, true, false, not, List, [], map, filter, count_by, refl, sym, ap}
use Rattle.desk_edit.proofs.Words.{◌∙◌, arith, list_any, and-true, or-false, or_comm, list_any-append, Address, Row}
use Rattle.desk_edit.proofs.Words.{has_key, makes, is_of, Desk, good, is_audio_in, at_each, true_false, list_any-map}
use Rattle.desk_edit.proofs.Words.{plain_others, has, is_claimed, is_audio_of}
use Rattle.desk_rows.specs.declared.row.Row.TheVariants as rows
use Rattle.desk_rows.specs.declared.key.Key.TheVariants as keys
use Rattle.desk_rows.specs.declared.key.Kind.TheVariants as kinds
use Rattle.desk_rows.specs.declared.claim.Claim.TheVariants as claims
use Rattle.desk_edit.proofs.Lists.{turned, any_none, any_alike, count_wider, any_wider, any_other}

-- ---- claims

-- an address is a member's
other_address : (a : Address) (r : Row) → not (is_of kinds.Member r) ≡ true → makes (claims.Address a) r ≡ false
other_address a (rows.Member r) h = absurd (true_false (sym h))
other_address a r h = refl

pub address_claimed : (d : Desk) → good d ≡ true → (a : Address)
    → is_claimed d (claims.Address a) ≡ list_any (λ m. makes (claims.Address a) (rows.Member m)) d.members
address_claimed d g a =
    list_any-append (makes (claims.Address a)) (map rows.Member d.members) d.others
    ∙ (λ i. list_any-map rows.Member (makes (claims.Address a)) d.members i || none i)
    ∙ or-false (list_any (λ m. makes (claims.Address a) (rows.Member m)) d.members) where
      none : list_any (makes (claims.Address a)) d.others ≡ false
      none =
          any_none (makes (claims.Address a)) d.others
          (λ r one. other_address a r (at_each (λ r. not (is_of kinds.Member r)) d.others r (plain_others d g) one))

-- a place is a slot's
place_slot : (m i : ℕ) (r : Row) → makes (claims.Place m i) r ≡ true → is_of kinds.Slot r ≡ true
place_slot m i (rows.Slot r) h = refl
place_slot m i r h = cc

pub place_claimed : (d : Desk) (m i : ℕ)
    → is_claimed d (claims.Place m i) ≡ list_any (makes (claims.Place m i)) (filter (is_of kinds.Slot) d.others)
place_claimed d m i =
    any_other d (makes (claims.Place m i)) (λ x. refl)
    ∙ sym (any_wider (makes (claims.Place m i)) (is_of kinds.Slot) d.others (place_slot m i))

-- beside the members' an SSRC is a source's or a slot's own number
stream_ssrc : (s : ℕ) (r : Row) → not (is_of kinds.Member r) ≡ true
    → makes (claims.Ssrc s) r ≡ (has_key (keys.Source s) r || has_key (keys.Slot s) r)
stream_ssrc s (rows.Member r) h = absurd (true_false (sym h))
stream_ssrc s (rows.Source r) h = ap (λ c. c || false) (and-true (nat_eq s r.ssrc) ∙ turned s r.ssrc)
stream_ssrc s (rows.Slot r) h =
    or-false (nat_eq s r.out_ssrc && true) ∙ and-true (nat_eq s r.out_ssrc) ∙ turned s r.out_ssrc
stream_ssrc s r h = refl

any_of_two : (p q : Row → Bool) (xs : List Row) → list_any (λ r. p r || q r) xs ≡ (list_any p xs || list_any q xs)
any_of_two p q [] = refl
any_of_two p q (x ∷ xs) = let rest = any_of_two p q xs in grind (arith, rest)

pub ssrc_claimed : (d : Desk) → good d ≡ true → (s : ℕ)
    → is_claimed d (claims.Ssrc s)
    ≡ ((has d (keys.Source s) || has d (keys.Slot s))
    || list_any (λ m. makes (claims.Ssrc s) (rows.Member m)) d.members)
ssrc_claimed d g s =
    list_any-append (makes (claims.Ssrc s)) (map rows.Member d.members) d.others
    ∙ (λ i. list_any-map rows.Member (makes (claims.Ssrc s)) d.members i || streams i)
    ∙ or_comm (list_any (λ m. makes (claims.Ssrc s) (rows.Member m)) d.members)
    (has d (keys.Source s) || has d (keys.Slot s)) where
      streams : list_any (makes (claims.Ssrc s)) d.others ≡ (has d (keys.Source s) || has d (keys.Slot s))
      streams =
          any_alike (makes (claims.Ssrc s)) (λ r. has_key (keys.Source s) r || has_key (keys.Slot s) r) d.others
          (λ r one. stream_ssrc s r (at_each (λ r. not (is_of kinds.Member r)) d.others r (plain_others d g) one))
          ∙ any_of_two (has_key (keys.Source s)) (has_key (keys.Slot s)) d.others
          ∙ sym (λ i.
          any_other d (has_key (keys.Source s)) (λ m. refl) i || any_other d (has_key (keys.Slot s)) (λ m. refl) i)

-- ---- audio

source_audio : (d : Desk) (room : ℕ) (r : Row) → is_audio_in d room r ≡ true → is_of kinds.Source r ≡ true
source_audio d room (rows.Source r) h = refl
source_audio d room r h = cc

pub audio_of_sources : (d : Desk) (room : ℕ)
    → count_by (is_audio_in d room) (filter (is_of kinds.Source) d.others) ≡ count_by (is_audio_in d room) d.others
audio_of_sources d room = count_wider (is_audio_in d room) (is_of kinds.Source) d.others (source_audio d room)

members_source : (member : ℕ) (r : Row) → is_audio_of member r ≡ true → is_of kinds.Source r ≡ true
members_source member (rows.Source r) h = refl
members_source member r h = cc

pub audio_of_members_sources : (d : Desk) (member : ℕ)
    → count_by (is_audio_of member) (filter (is_of kinds.Source) d.others) ≡ count_by (is_audio_of member) d.others
audio_of_members_sources d member =
    count_wider (is_audio_of member) (is_of kinds.Source) d.others (members_source member)

-- who may claim an address, a place and an SSRC
pub ruleset claimed_by_kind = (address_claimed, place_claimed, ssrc_claimed)
