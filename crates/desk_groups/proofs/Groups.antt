-- Commands in groups are accepted and lead where the commands do.
use Rattle.std.specs.Prelude.{◌≡◌, ◌+◌, ◌*◌, ◌<◌, ◌≤◌, ◌&&◌, ◌∷◌, ◌++◌}
use Rattle.desk_rows.specs.laws.Words.{ℕ, zero, suc, Bool, true, false, List, [], map, length, None, refl, sym, ap, ◌∙◌}
use Rattle.desk_rows.specs.laws.Words.{arith, subst, nat_eq, nat_lt, nat_le, cond, list_all, and_parts}
use Rattle.desk_rows.specs.laws.Words.{false_from_ne_true}
use Rattle.desk_rows.specs.laws.Words.{eqb-true, option_or, and_from, append-nil, append_assoc, length-append, Desk}
use Rattle.desk_rows.specs.laws.Words.{list_all-append}
use Rattle.std.proofs.Common.{lt-ltb}
use Rattle.std.specs.Prelude.{fold, Option, Some}
use Rattle.desk_edit.specs.declared.command.Command.{Command}
use Rattle.desk_edit.specs.declared.refusal.GroupRefusal.{GroupRefusal}
use Rattle.desk_edit.specs.declared.refusal.GroupRefusal.TheVariants.{Empty, TooLong}
use Rattle.desk_edit.specs.Commands.{desk_after}
use Rattle.desk_edit.specs.Reasons.{group_limit}
use Rattle.desk_edit.specs.Groups.{desk_after_all, part_or_later, part_refused, size_refused, group_refused}
use Rattle.desk_groups.specs.Making.{made_limit, AcceptsGroups, desk_after_groups, in_a_row, are_sized, AreGroupsOf}
use Rattle.desk_groups.specs.Making.{command_for, united, lists_of, IsFew}
use Rattle.desk_groups.specs.inner.Ranked.{in_making_order, AcceptsAll}
use Rattle.desk_groups.specs.inner.Cutting.{SoFar}
use Rattle.std.specs.declared.vec.Vec.{Vec}
use Rattle.desk_rows.specs.Desk.{blank, good, rows_of}
use Rattle.desk_rows.specs.laws.Words.{length-map}
use Rattle.desk_rows.specs.laws.ListLaws.{same_length}
use Rattle.desk_groups.proofs.Steps.{KeepsGood, makes}
use Rattle.desk_groups.proofs.Ranks.{are_plain, making_rises, making_counts, plain_good, united_part, blank_part}
use Rattle.desk_groups.proofs.RowLemmas.{at_most, below, most}

-- ---- one group

no_part : (d : Desk) (part : ℕ) (commands : List Command) → AcceptsAll d commands
    → part_refused part d commands ≡ None
no_part d part [] h = refl
no_part d part (c ∷ cs) h =
    ap (λ why. part_or_later part why (part_refused (part + 1) (desk_after d c) cs)) h.0
    ∙ no_part (desk_after d c) (part + 1) cs h.1

good_size : (n : ℕ) → nat_lt 0 n ≡ true → nat_le n made_limit ≡ true → size_refused n ≡ None
good_size n some few =
    let first : nat_eq n 0 ≡ false =
    false_from_ne_true (nat_eq n 0) (λ e. omega (arith, eqb-true n 0 e, below 0 n some)) in
    let second : nat_lt group_limit n ≡ false =
    false_from_ne_true (nat_lt group_limit n)
    (λ e. omega (arith, below group_limit n e, at_most n made_limit few)) in
    ap (λ b. cond b (Some Empty) (cond (nat_lt group_limit n) (Some TooLong) None)) first
    ∙ ap (λ b. cond b (Some TooLong) None) second

-- ---- commands in two parts

pub first_part : (d : Desk) (xs ys : List Command) → AcceptsAll d (xs ++ ys) → AcceptsAll d xs
first_part d [] ys h = tt
first_part d (x ∷ xs) ys h = (h.0, first_part (desk_after d x) xs ys h.1)

pub second_part : (d : Desk) (xs ys : List Command) → AcceptsAll d (xs ++ ys) → AcceptsAll (desk_after_all d xs) ys
second_part d [] ys h = h
second_part d (x ∷ xs) ys h = second_part (desk_after d x) xs ys h.1

both_parts : (d : Desk) (xs ys : List Command) → desk_after_all d (xs ++ ys) ≡ desk_after_all (desk_after_all d xs) ys
both_parts d [] ys = refl
both_parts d (x ∷ xs) ys = both_parts (desk_after d x) xs ys

-- ---- all groups

pub all_accepted : (d : Desk) (groups : List (List Command)) → are_sized groups ≡ true → AcceptsAll d (in_a_row groups)
    → AcceptsGroups d groups
all_accepted d [] sized h = tt
all_accepted d (g ∷ gs) sized h =
    let both =
    and_parts (nat_lt 0 (length g) && nat_le (length g) made_limit) (are_sized gs) sized in
    let size = and_parts (nat_lt 0 (length g)) (nat_le (length g) made_limit) both.0 in (
      ap (λ why. option_or why (part_refused 0 d g)) (good_size (length g) size.0 size.1)
          ∙ no_part d 0 g (first_part d g (in_a_row gs) h),
      all_accepted (desk_after_all d g) gs both.1 (second_part d g (in_a_row gs) h),
    )

pub all_lead : (d : Desk) (groups : List (List Command))
    → desk_after_groups d groups ≡ desk_after_all d (in_a_row groups)
all_lead d [] = refl
all_lead d (g ∷ gs) = all_lead (desk_after_all d g) gs ∙ sym (both_parts d g (in_a_row gs))

-- ---- one group more

in_a_row_more : (gs : List (List Command)) (group : List Command)
    → in_a_row (gs ++ group ∷ []) ≡ in_a_row gs ++ group
in_a_row_more [] group = append-nil group
in_a_row_more (x ∷ xs) group =
    ap (λ (cs : List Command). x ++ cs) (in_a_row_more xs group) ∙ sym (append_assoc x (in_a_row xs) group)

-- a group of what is left is cut off, of as many commands as may be
pub one_more : (commands : List Command) (groups : List (List Command)) (left group later : List Command)
    → SoFar commands groups left → left ≡ group ++ later → 0 < length left → 0 < length group
    → length group ≤ made_limit → (0 < length later → length group ≡ made_limit)
    → SoFar commands (groups ++ group ∷ []) later
one_more commands groups left group later was is some own few rest =
    let row = in_a_row_more groups group in
    let long : length (in_a_row (groups ++ group ∷ [])) ≡ length (in_a_row groups) + length group =
    ap length row ∙ length-append (in_a_row groups) group in
    let count : length (groups ++ group ∷ []) ≡ length groups + 1 = length-append groups (group ∷ []) in
    record {
      all =
          ap (λ (cs : List Command). cs ++ later) row
          ∙ append_assoc (in_a_row groups) group later
          ∙ ap (λ (cs : List Command). in_a_row groups ++ cs) (sym is)
          ∙ was.all;
      sized =
          list_all-append (λ (g : List Command). nat_lt 0 (length g) && nat_le (length g) made_limit) groups
          (group ∷ [])
          ∙ and_from _ _ was.sized
          (and_from _ _ (and_from _ _ (lt-ltb 0 (length group) own) (most (length group) made_limit few)) refl);
      full = λ more. omega (arith, long, count, was.full some, rest more);
      few = omega (arith, long, count, was.full some, own);
    }

-- all commands are cut
pub all_cut : (commands : List Command) (groups : List (List Command)) → SoFar commands groups []
    → AreGroupsOf commands groups
all_cut commands groups was =
    let all = sym (append-nil (in_a_row groups)) ∙ was.all in
    record { all = all; sized = was.sized; few = (ap length all, omega (arith, ap length all, was.few)) }

pub lists_more : {A : Type 0} (gs : List (Vec Command A)) (v : Vec Command A)
    → lists_of (gs ++ v ∷ []) ≡ lists_of gs ++ v.items ∷ []
lists_more [] v = refl
lists_more (g ∷ gs) v = ap (λ (rest : List (List Command)). g.items ∷ rest) (lists_more gs v)

-- ---- the groups of rows

pub record MadeBeside (more : Desk) (groups : List (List Command)) : Type 0 where
  pub accepted : (d : Desk) → good d ≡ true → good (united d more) ≡ true → AcceptsGroups d groups
  pub beside : (d : Desk) → good d ≡ true → good (united d more) ≡ true → desk_after_groups d groups ≡ united d more
  pub sized : are_sized groups ≡ true
  pub few : IsFew (length (rows_of more)) groups

pub made_beside : KeepsGood → (more : Desk) → are_plain more.others ≡ true → (commands : List Command)
    → commands ≡ map command_for (in_making_order more) → (groups : List (List Command)) → AreGroupsOf commands groups
    → MadeBeside more groups
made_beside keeps more plain commands is groups cut =
    let row : in_a_row groups ≡ map command_for (in_making_order more) = cut.all ∙ is in
    let made = λ (d : Desk) (g : good d ≡ true) (u : good (united d more) ≡ true).
    makes keeps (united d more) u (in_making_order more) d (making_rises more) (united_part d more g plain) in
    let count : length commands ≡ length (rows_of more) =
    ap length is
    ∙ length-map (in_making_order more) command_for
    ∙ same_length (in_making_order more) (rows_of more) (making_counts more plain) in
    record {
      accepted = λ d g u.
          all_accepted d groups cut.sized
          (subst (λ (cs : List Command). AcceptsAll d cs) (sym row) (made d g u).accepted);
      beside = λ d g u. all_lead d groups ∙ ap (desk_after_all d) row ∙ (made d g u).leads;
      sized = cut.sized;
      few = subst (λ (n : ℕ). IsFew n groups) count cut.few;
    }

pub record MadeAgain (d : Desk) (groups : List (List Command)) : Type 0 where
  pub accepted : AcceptsGroups (blank d.bridge_ssrc) groups
  pub again : desk_after_groups (blank d.bridge_ssrc) groups ≡ d
  pub behind : MadeBeside d groups

pub made_again : KeepsGood → (d : Desk) → good d ≡ true → (commands : List Command)
    → commands ≡ map command_for (in_making_order d) → (groups : List (List Command)) → AreGroupsOf commands groups
    → MadeAgain d groups
made_again keeps d g commands is groups cut =
    let row : in_a_row groups ≡ map command_for (in_making_order d) = cut.all ∙ is in
    let anew = makes keeps d g (in_making_order d) (blank d.bridge_ssrc) (making_rises d) (blank_part d g) in
    record {
      accepted =
          all_accepted (blank d.bridge_ssrc) groups cut.sized
          (subst (λ (cs : List Command). AcceptsAll (blank d.bridge_ssrc) cs) (sym row) anew.accepted);
      again =
          all_lead (blank d.bridge_ssrc) groups ∙ ap (desk_after_all (blank d.bridge_ssrc)) row ∙ anew.leads;
      behind = made_beside keeps d (plain_good d g) commands is groups cut;
    }
