-- Groups that a desk accepts are accepted as calls, one after another.
use Rattle.std.specs.Prelude.{◌≡◌, ◌+◌, ◌<◌, ◌≤◌, ◌∷◌, fold}
use Rattle.desk_rows.specs.laws.Words.{ℕ, Bool, false, List, [], map, length, Option, None, Some, refl, sym, ap, ◌∙◌}
use Rattle.desk_rows.specs.laws.Words.{arith, subst, cond, nat_eq, eqb-true, false_from_ne_true, option_or, option_map}
use Rattle.desk_rows.specs.laws.Words.{Desk}
use Rattle.desk_edit.specs.declared.command.Command.{Command}
use Rattle.desk_edit.specs.declared.refusal.Refusal.TheVariants.{LogFull}
use Rattle.desk_edit.specs.declared.refusal.GroupRefusal.{GroupRefusal}
use Rattle.desk_edit.specs.Asked.CallOf.{Group}
use Rattle.desk_edit.specs.Groups.{desk_after_all, part_refused, size_refused, group_refused}
use Rattle.desk_edit.specs.Reasons.{refusal_of_group}
use Rattle.desk_edit.specs.Calls.{CallHistory, desk_now, call_limit, refusal_of, after_call}
use Rattle.desk_edit.proofs.Forcing.{carried_on}
use Rattle.desk_calls.specs.Accepted.{after_calls, AreAccepted}
use Rattle.desk_groups.specs.Making.{AcceptsGroups, desk_after_groups}

next : (h : CallHistory) (group : List Command)
    → desk_now (after_call h (Group group)) ≡ desk_after_all (desk_now h) group
unfolding after_call
next h group = carried_on h.start h.done (h.accepted + 1) group

both_none : (s p : Option GroupRefusal) → option_or s p ≡ None → (s ≡ None) × (p ≡ None)
both_none None p e = (refl, e)
both_none (Some why) p e = absurd (cc)

allowed : (h : CallHistory) (group : List Command) → group_refused (desk_now h) group ≡ None → h.accepted < call_limit
    → refusal_of h (Group group) ≡ None
allowed h group free few =
    let both = both_none (size_refused (length group)) (part_refused 0 (desk_now h) group) free in
    let open_log : nat_eq h.accepted call_limit ≡ false =
    false_from_ne_true (nat_eq h.accepted call_limit)
    (λ e. let last = eqb-true h.accepted call_limit e in omega (arith, last, few)) in
    let parts = option_map refusal_of_group (part_refused 0 (desk_now h) group) in
    ap (λ (s : Option GroupRefusal).
    option_or (option_map refusal_of_group s) (cond (nat_eq h.accepted call_limit) (Some LogFull) parts)) both.0
    ∙ ap (λ (b : Bool). cond b (Some LogFull) parts) open_log
    ∙ ap (option_map refusal_of_group) both.1

counted : (h : CallHistory) (group : List Command) (n : ℕ) → h.accepted + (n + 1) ≤ call_limit
    → (after_call h (Group group)).accepted + n ≤ call_limit
unfolding after_call
counted h group n few = omega (arith, few)

pub legal : (h : CallHistory) (groups : List (List Command)) → AcceptsGroups (desk_now h) groups
    → h.accepted + length groups ≤ call_limit → AreAccepted h (map Group groups)
legal h [] accepted few = tt
legal h (g ∷ gs) accepted few = (
  allowed h g accepted.0 (omega (arith, few)),
  legal (after_call h (Group g)) gs (subst (λ (d : Desk). AcceptsGroups d gs) (sym (next h g)) accepted.1)
      (counted h g (length gs) (omega (arith, few))),
)

pub lead : (h : CallHistory) (groups : List (List Command))
    → desk_now (after_calls h (map Group groups)) ≡ desk_after_groups (desk_now h) groups
lead h [] = refl
lead h (g ∷ gs) = lead (after_call h (Group g)) gs ∙ ap (λ (d : Desk). desk_after_groups d gs) (next h g)
