-- What is known of a row against which nothing stands.
use Rattle.std.specs.Prelude.{◌≡◌, ◌<◌, ◌&&◌, ◌∷◌, ◌++◌}
use Rattle.desk_edit.proofs.Words.{ℕ, nat_le, Bool, true, false, not, List, [], count_by, Option, Some, None, refl, sym}
use Rattle.desk_edit.proofs.Words.{ap, ◌∙◌, arith, eqb-true, leb-false, list_any, list_all, and_parts, and_from}
use Rattle.desk_edit.proofs.Words.{or_parts, not-false, Row, Audio, Key, Claim, room_audio_limit, key_of, same_media}
use Rattle.desk_edit.proofs.Words.{names, is_in_range, other_claims, Desk, room_of, same_room, are_together, all_suit}
use Rattle.desk_edit.proofs.Words.{is_audio_in, is_bridges, true_false, has, is_claimed, first_case, lacking}
use Rattle.desk_edit.proofs.Words.{is_replaced, is_other_claimed, is_ssrc_taken, rule_cases, full_cases, room_is_full}
use Rattle.desk_edit.proofs.Words.{audio_cases, put_cases}
use Rattle.desk_edit.specs.Refusals.{rate_cases}
use Rattle.desk_rows.specs.Kinds.{is_of}
use Rattle.desk_rows.specs.declared.key.Kind.TheVariants as kinds
use Rattle.desk_rows.specs.declared.row.Row.TheVariants as rows
use Rattle.desk_rows.specs.declared.claim.Claim.TheVariants as claims
use Rattle.desk_edit.proofs.Cases.{NoneHolds, none_holds, none_of_both}

pub record Free (d : Desk) (r : Row) : Type 0 where
  pub there : (not (is_replaced r) && has d (key_of r)) ≡ false
  pub named : list_all (has d) (names r) ≡ true
  pub suits : all_suit d r ≡ true
  pub together : are_together d (names r) ≡ true
  pub range : is_in_range r ≡ true
  pub claims : list_all (λ c. not (is_claimed d c) && not (is_bridges d c)) (other_claims r) ≡ true
  pub full : NoneHolds (full_cases d r)
  pub audio : (room : ℕ) → is_audio_in d room r ≡ true → count_by (is_audio_in d room) d.others < room_audio_limit

all_named : (d : Desk) (ks : List Key) → NoneHolds (lacking d ks) → list_all (has d) ks ≡ true
all_named d [] h = refl
all_named d (k ∷ ks) h = and_from _ _ (not-false (has d k) h.0) (all_named d ks h.1)

free_claim : (d : Desk) (c : Claim) → is_other_claimed d c ≡ false → is_ssrc_taken d c ≡ false
    → (not (is_claimed d c) && not (is_bridges d c)) ≡ true
free_claim d (claims.Ssrc s) e f =
    let both = or_parts (is_bridges d (claims.Ssrc s)) (is_claimed d (claims.Ssrc s)) f in
    and_from _ _ (ap not both.1) (ap not both.0)
free_claim d c e f = and_from _ _ (ap not e) refl

free_claims : (d : Desk) (cs : List Claim) → list_any (is_other_claimed d) cs ≡ false
    → list_any (is_ssrc_taken d) cs ≡ false → list_all (λ c. not (is_claimed d c) && not (is_bridges d c)) cs ≡ true
free_claims d [] e f = refl
free_claims d (c ∷ cs) e f = let rest = free_claims d cs in let here = free_claim d c in grind (arith, rest, here, e, f)

less_audio : (d : Desk) (r : Row) → NoneHolds (audio_cases d r) → (room : ℕ) → is_audio_in d room r ≡ true
    → count_by (is_audio_in d room) d.others < room_audio_limit
less_audio d (rows.Source s) h room own =
    let both = and_parts (same_media s.media Audio) (same_room (room_of d (rows.Source s)) (Some room)) own in
    by (room_of d (rows.Source s)) both.1
    (sym (ap (λ b. b && room_is_full d (room_of d (rows.Source s))) both.0) ∙ h.0) where
      by : (o : Option ℕ) → same_room o (Some room) ≡ true → room_is_full d o ≡ false
          → count_by (is_audio_in d room) d.others < room_audio_limit
      by None e f = absurd (true_false (sym e))
      by (Some n) e f =
          leb-false room_audio_limit (count_by (is_audio_in d room) d.others)
          (ap (λ k. nat_le room_audio_limit (count_by (is_audio_in d k) d.others)) (sym (eqb-true n room e)) ∙ f)
less_audio d r h room own = cc

-- what a row names suits it, whether it is a member or not
suits_either : (m s : Bool) → (not m && not s) ≡ false → (m && not s) ≡ false → s ≡ true
suits_either true s e f = not-false s f
suits_either false s e f = not-false s e

pub free_row : (d : Desk) (r : Row) → first_case (put_cases d r) ≡ None → Free d r
free_row d r h =
    let all = none_holds (put_cases d r) h in
    let there =
    or_parts (not (is_replaced r) && has d (key_of r)) (list_any (is_other_claimed d) (other_claims r)) all.0 in
    let names_and =
    none_of_both (lacking d (names r)) (rule_cases d r ++ (full_cases d r ++ (audio_cases d r ++ rate_cases d r)))
    all.1 in
    let rules_and = none_of_both (rule_cases d r) (full_cases d r ++ (audio_cases d r ++ rate_cases d r)) names_and.1 in
    let rules = rules_and.0 in
    let fills = none_of_both (full_cases d r) (audio_cases d r ++ rate_cases d r) rules_and.1 in
    let last = none_of_both (audio_cases d r) (rate_cases d r) fills.1 in
    record {
      there = there.0;
      named = all_named d (names r) names_and.0;
      suits = suits_either (is_of kinds.Member r) (all_suit d r) rules.0 last.1.0;
      together = not-false (are_together d (names r)) rules.1.0;
      range = not-false (is_in_range r) rules.1.1.1.0;
      claims = free_claims d (other_claims r) there.1 rules.1.1.0;
      full = fills.0;
      audio = less_audio d r last.0;
    }
