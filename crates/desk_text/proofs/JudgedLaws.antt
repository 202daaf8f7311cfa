-- Reasons against calls, in their order.
use Rattle.std.proofs.Common.{◌≡◌, ℕ, ◌+◌, Bool, true, false, ◌&&◌, nat_le, nat_lt, nat_eq, List, [], ◌∷◌, ◌++◌, length}
use Rattle.std.proofs.Common.{map, Option, Some, None, option_map, if◌then◌else◌, refl, ap, ◌∙◌, arith}
use Rattle.std.proofs.Common.{not, sym, reverse, append_assoc}
use Rattle.std.specs.Option.{option_or}
use Rattle.std.proofs.lemmas.List.{map-append}
use Rattle.desk_rows.specs.declared.key.Key.{Key}
use Rattle.desk_rows.specs.declared.key.Key.TheVariants as keys
use Rattle.std.proofs.lemmas.Bool.{and_parts}
use Rattle.std.proofs.lemmas.Bool.Decides.{nat_tests}
use Rattle.desk_rows.specs.Desk.{Desk}
use Rattle.desk_edit.specs.declared.command.Command.TheVariants.{AddRoom, RemoveRoom, AddMember, RemoveMember}
use Rattle.desk_edit.specs.declared.command.Command.TheVariants.{MoveMember, AddSource, RemoveSource, AddSlot}
use Rattle.desk_edit.specs.declared.command.Command.TheVariants.{RemoveSlot, Subscribe, Unsubscribe, SetGain, Mute}
use Rattle.desk_edit.specs.declared.command.Command.TheVariants.{Unmute, Pin, Unpin, GiveFloor, TakeFloor}
use Rattle.desk_edit.specs.declared.command.Command.{Command}
use Rattle.desk_edit.specs.Asked.{CallOf}
use Rattle.desk_edit.specs.Asked.CallOf.{Apply, Group, Undo, Redo, Revert}
use Rattle.desk_edit.specs.declared.refusal.Reason.{Reason}
use Rattle.desk_edit.specs.declared.refusal.Reason.TheVariants as reasons
use Rattle.desk_edit.specs.Told.{told_of}
use Rattle.desk_text.specs.Text.{told_words, reason_words}
use Rattle.desk_edit.specs.declared.refusal.GroupRefusal.{GroupRefusal}
use Rattle.desk_edit.specs.declared.refusal.GroupRefusal.TheVariants.{Empty, TooLong}
use Rattle.desk_edit.specs.declared.refusal.Refusal.{Refusal}
use Rattle.desk_edit.specs.declared.refusal.Refusal.TheVariants.{LogFull, EmptyGroup, GroupTooLong, PartRefused}
use Rattle.desk_edit.specs.declared.refusal.Refusal.TheVariants.{NotInForce, TooFar, Conflict}
use Rattle.desk_edit.specs.Commands.{desk_after}
use Rattle.desk_edit.specs.Reasons.{group_limit, refusal_for, refusal_of_group}
use Rattle.desk_edit.specs.Groups.{part_or_later, part_refused}
use Rattle.desk_edit.specs.Forms.{form_of}
use Rattle.desk_edit.specs.Refusals.{cases_of, first_case, reason_against, refused}
use Rattle.desk_edit.specs.AsIf.{is_idle, first_in_the_way, moved_keys}
use Rattle.desk_edit.specs.InForce.{Entry, commands_of, desk_with, desk_in_force, in_force, kept, again}
use Rattle.desk_edit.specs.Reverts.{revert_limit, in_call, conflict, is_touched, told_elsewhere, elsewhere, as_if}
use Rattle.desk_edit.specs.Reverts.{is_made, is_far}
use Rattle.desk_edit.specs.Calls.{CallHistory, call_limit, refusal_at, or_log_full}
use Rattle.desk_text.specs.Judged.{log_case, told_as, part_cases, call_cases, case_numbers, turn_of, Rises, IsSingle}
use Rattle.desk_text.specs.Judged.{again_cases, conflict_cases, told_case, elsewhere_cases}

log_last : (cases : List (Bool × Refusal)) (version : ℕ)
    → or_log_full (first_case cases) version ≡ first_case (cases ++ log_case version ∷ [])
log_last [] version = refl
log_last ((true, why) ∷ cases) version = refl
log_last ((false, why) ∷ cases) version = log_last cases version

told_first : (refusal : Reason → Refusal) (cases : List (Bool × Reason))
    → option_map refusal (first_case cases) ≡ first_case (told_as refusal cases)
told_first refusal [] = refl
told_first refusal ((true, why) ∷ cases) = refl
told_first refusal ((false, why) ∷ cases) = told_first refusal cases

-- ---- groups

part_first : (part : ℕ) (cases : List (Bool × Reason)) (later : Option GroupRefusal) (others : List (Bool × Refusal))
    → option_map refusal_of_group later ≡ first_case others
    → option_map refusal_of_group (part_or_later part (first_case cases) later)
    ≡ first_case (told_as (PartRefused part) cases ++ others)
part_first part [] later others h = h
part_first part ((true, why) ∷ cases) later others h = refl
part_first part ((false, why) ∷ cases) later others h = part_first part cases later others h

parts_first : (part : ℕ) (d : Desk) (commands : List Command)
    → option_map refusal_of_group (part_refused part d commands) ≡ first_case (part_cases part d commands)
unfolding reason_against
parts_first part d [] = refl
parts_first part d (command ∷ commands) =
    part_first part (cases_of d (form_of command)) (part_refused (part + 1) (desk_after d command) commands)
    (part_cases (part + 1) (desk_after d command) commands) (parts_first (part + 1) (desk_after d command) commands)

size_first : (none many log : Bool) (parts others : Option Refusal) → parts ≡ others
    → option_or (option_map refusal_of_group (if none then Some Empty else (if many then Some TooLong else None)))
    (if log then Some LogFull else parts)
    ≡ (if none
    then Some EmptyGroup
    else (if many then Some (GroupTooLong group_limit) else (if log then Some LogFull else others)))
size_first true many log parts others h = refl
size_first false true log parts others h = refl
size_first false false true parts others h = refl
size_first false false false parts others h = h

-- ---- reverts

way_first : (call part : ℕ) (cases : List (Bool × Reason)) (rest : Option GroupRefusal) (later : Option Refusal)
    (others : List (Bool × Refusal)) → option_or (option_map (in_call call) rest) later ≡ first_case others
    → option_or (option_map (in_call call) (part_or_later part (first_case cases) rest)) later
    ≡ first_case (told_as (Conflict call part) cases ++ others)
way_first call part [] rest later others h = h
way_first call part ((true, why) ∷ cases) rest later others h = refl
way_first call part ((false, why) ∷ cases) rest later others h = way_first call part cases rest later others h

again_step : (call part : ℕ) (idle : Bool) (cases : List (Bool × Reason)) (next : Option GroupRefusal)
    (later : Option Refusal) (others : List (Bool × Refusal))
    → option_or (option_map (in_call call) next) later ≡ first_case others
    → option_or (option_map (in_call call) (part_or_later part (if idle then None else first_case cases) next)) later
    ≡ first_case ((if idle then [] else told_as (Conflict call part) cases) ++ others)
again_step call part true cases next later others h = h
again_step call part false cases next later others h = way_first call part cases next later others h

again_first : (call part : ℕ) (d : Desk) (commands : List Command) (later : Option Refusal)
    (others : List (Bool × Refusal)) → later ≡ first_case others
    → option_or (option_map (in_call call) (first_in_the_way part d commands)) later
    ≡ first_case (again_cases call part d commands ++ others)
unfolding reason_against
again_first call part d [] later others h = h
again_first call part d (command ∷ commands) later others h =
    let cases : List (Bool × Reason) = cases_of d (form_of command) in
    let here : List (Bool × Refusal) = if is_idle d command then [] else told_as (Conflict call part) cases in
    let rest : List (Bool × Refusal) = again_cases call (part + 1) (desk_after d command) commands in
    again_step call part (is_idle d command) cases (first_in_the_way (part + 1) (desk_after d command) commands) later
    (rest ++ others)
    (again_first call (part + 1) (desk_after d command) commands later others h)
    ∙ ap first_case (sym (append_assoc here rest others))

or_first : (a b : Option Refusal) (xs ys : List (Bool × Refusal)) → a ≡ first_case xs → b ≡ first_case ys
    → option_or a b ≡ first_case (xs ++ ys)
or_first a b xs ys one two = (λ i. option_or (one i) (two i)) ∙ by xs where
  by : (zs : List (Bool × Refusal)) → option_or (first_case zs) (first_case ys) ≡ first_case (zs ++ ys)
  by [] = refl
  by ((true, why) ∷ zs) = refl
  by ((false, why) ∷ zs) = by zs

conflict_first : (d : Desk) (es : List Entry) → conflict d es ≡ first_case (conflict_cases d es)
conflict_first d [] = refl
conflict_first d (e ∷ es) =
    again_first e.number 0 d (commands_of e.deed) (conflict (desk_with d e) es) (conflict_cases (desk_with d e) es)
    (conflict_first (desk_with d e) es)

told_first_case : (touched : Bool) (why : Option Refusal)
    → (if touched then None else why) ≡ first_case (told_case (not touched) why)
told_first_case true None = refl
told_first_case false None = refl
told_first_case true (Some why) = refl
told_first_case false (Some why) = refl

elsewhere_first : (start : Desk) (number : ℕ) (done : List Entry) (ks : List Key)
    → elsewhere start number done ks ≡ first_case (elsewhere_cases start number done ks)
elsewhere_first start number done [] = refl
elsewhere_first start number done (key ∷ ks) =
    let touched = is_touched start (number ∷ []) number key (reverse done) in
    or_first (if touched then None else told_elsewhere key) (elsewhere start number done ks)
    (told_case (not touched) (told_elsewhere key)) (elsewhere_cases start number done ks)
    (told_first_case touched (told_elsewhere key)) (elsewhere_first start number done ks)

revert_first : (made far log there : Bool) (others : Option Refusal) (cases : List (Bool × Refusal))
    → others ≡ first_case cases
    → option_or (if not made then Some NotInForce else (if far then Some (TooFar revert_limit) else None))
    (if log then Some LogFull else (if not there then Some NotInForce else others))
    ≡ first_case ((not made, NotInForce) ∷ (far, TooFar revert_limit) ∷ (log, LogFull) ∷ (not there, NotInForce) ∷
    cases)
revert_first false far log there others cases h = refl
revert_first true true log there others cases h = refl
revert_first true false true there others cases h = refl
revert_first true false false false others cases h = refl
revert_first true false false true others cases h = h

-- ---- all calls

pub asked : (h : CallHistory) (d : Desk) (done undone : ℕ) (call : CallOf)
    → refusal_at h d done undone call ≡ first_case (call_cases h d done undone call)
unfolding refused
asked h d done undone (Apply command) =
    let cases = cases_of d (form_of command) in
    ap (λ (o : Option Refusal). or_log_full o h.accepted) (told_first refusal_for cases)
    ∙ log_last (told_as refusal_for cases) h.accepted
asked h d done undone (Group commands) =
    size_first (nat_eq (length commands) 0) (nat_lt group_limit (length commands)) (nat_eq h.accepted call_limit)
    (option_map refusal_of_group (part_refused 0 d commands)) (first_case (part_cases 0 d commands))
    (parts_first 0 d commands)
asked h d done undone (Undo last) = refl
asked h d done undone (Redo last) = refl
asked h d done undone (Revert number) =
    let base = desk_in_force h.start (kept number h.done) in
    let keys = moved_keys d (as_if h.start h.done number) in
    revert_first (is_made number h.done) (is_far number h.done) (nat_eq h.accepted call_limit)
    (is_made number (in_force h.done))
    (option_or (conflict base (again number h.done)) (elsewhere h.start number h.done keys))
    (conflict_cases base (again number h.done) ++ elsewhere_cases h.start number h.done keys)
    (or_first (conflict base (again number h.done)) (elsewhere h.start number h.done keys)
    (conflict_cases base (again number h.done)) (elsewhere_cases h.start number h.done keys)
    (conflict_first base (again number h.done)) (elsewhere_first h.start number h.done keys))

abbrev rises : List ℕ → Bool
rises [] = true
rises (n ∷ []) = true
rises (n ∷ m ∷ ns) = nat_le n m && rises (m ∷ ns)

by_test : (ns : List ℕ) → rises ns ≡ true → Rises ns
by_test [] h = tt
by_test (n ∷ []) h = tt
by_test (n ∷ m ∷ ns) h =
    let both = and_parts (nat_le n m) (rises (m ∷ ns)) h in
    let first : nat_le n m ≡ true = both.0 in
    (grind (arith, nat_tests), by_test (m ∷ ns) both.1)

tested : (h : CallHistory) (d : Desk) (done undone : ℕ) (call : CallOf) → IsSingle call
    → rises (map turn_of (case_numbers (call_cases h d done undone call))) ≡ true
tested h d done undone (Apply (AddRoom r)) single = refl
tested h d done undone (Apply (RemoveRoom room)) single = refl
tested h d done undone (Apply (AddMember m)) single = refl
tested h d done undone (Apply (RemoveMember member)) single = refl
tested h d done undone (Apply (MoveMember member room)) single = refl
tested h d done undone (Apply (AddSource s)) single = refl
tested h d done undone (Apply (RemoveSource ssrc)) single = refl
tested h d done undone (Apply (AddSlot s)) single = refl
tested h d done undone (Apply (RemoveSlot out_ssrc)) single = refl
tested h d done undone (Apply (Subscribe s)) single = refl
tested h d done undone (Apply (Unsubscribe out_ssrc)) single = refl
tested h d done undone (Apply (SetGain g)) single = refl
tested h d done undone (Apply (Mute m)) single = refl
tested h d done undone (Apply (Unmute source)) single = refl
tested h d done undone (Apply (Pin p)) single = refl
tested h d done undone (Apply (Unpin room)) single = refl
tested h d done undone (Apply (GiveFloor f)) single = refl
tested h d done undone (Apply (TakeFloor room)) single = refl
tested h d done undone (Group commands) single = absurd single
tested h d done undone (Undo last) single = refl
tested h d done undone (Redo last) single = refl
tested h d done undone (Revert number) single = absurd single

pub rising : (h : CallHistory) (d : Desk) (done undone : ℕ) (call : CallOf) → IsSingle call
    → Rises (map turn_of (case_numbers (call_cases h d done undone call)))
rising h d done undone call single =
    by_test (map turn_of (case_numbers (call_cases h d done undone call)))
    (tested h d done undone call single)

-- ---- the numbers of a group's refusals

of_part : (part : ℕ) (cases : List (Bool × Reason)) (others : List (Bool × Refusal))
    → case_numbers others ≡ map (λ c. 20) others
    → case_numbers (told_as (PartRefused part) cases ++ others)
    ≡ map (λ c. 20) (told_as (PartRefused part) cases ++ others)
of_part part [] others h = h
of_part part (c ∷ cases) others h = ap (λ (ns : List ℕ). 20 ∷ ns) (of_part part cases others h)

of_parts : (part : ℕ) (d : Desk) (commands : List Command)
    → case_numbers (part_cases part d commands) ≡ map (λ c. 20) (part_cases part d commands)
of_parts part d [] = refl
of_parts part d (command ∷ commands) =
    of_part part (cases_of d (form_of command)) (part_cases (part + 1) (desk_after d command) commands)
    (of_parts (part + 1) (desk_after d command) commands)

pub group : (h : CallHistory) (d : Desk) (done undone : ℕ) (commands : List Command)
    → case_numbers (call_cases h d done undone (Group commands))
    ≡ 18 ∷ 19 ∷ 17 ∷ map (λ c. 20) (part_cases 0 d commands)
group h d done undone commands = ap (λ (ns : List ℕ). 18 ∷ 19 ∷ 17 ∷ ns) (of_parts 0 d commands)

-- ---- the numbers of a revert's refusals

of_again : (call part : ℕ) (d : Desk) (commands : List Command) (others : List (Bool × Refusal))
    → case_numbers others ≡ map (λ c. 25) others
    → case_numbers (again_cases call part d commands ++ others)
    ≡ map (λ c. 25) (again_cases call part d commands ++ others)
of_again call part d [] others h = h
of_again call part d (command ∷ commands) others h =
    let rest = again_cases call (part + 1) (desk_after d command) commands in
    by (is_idle d command) (of_again call (part + 1) (desk_after d command) commands others h) where
      told : (cases : List (Bool × Reason)) (more : List (Bool × Refusal)) → case_numbers more ≡ map (λ c. 25) more
          → case_numbers (told_as (Conflict call part) cases ++ more)
          ≡ map (λ c. 25) (told_as (Conflict call part) cases ++ more)
      told [] more k = k
      told (c ∷ cases) more k = ap (λ (ns : List ℕ). 25 ∷ ns) (told cases more k)

      by : (b : Bool)
          → case_numbers (again_cases call (part + 1) (desk_after d command) commands ++ others)
          ≡ map (λ c. 25) (again_cases call (part + 1) (desk_after d command) commands ++ others)
          → case_numbers (((if b then [] else told_as (Conflict call part) (cases_of d (form_of command)))
          ++ again_cases call (part + 1) (desk_after d command) commands) ++ others)
          ≡ map (λ c. 25) (((if b then [] else told_as (Conflict call part) (cases_of d (form_of command)))
          ++ again_cases call (part + 1) (desk_after d command) commands) ++ others)
      by true k = k
      by false k =
          let cases = told_as (Conflict call part) (cases_of d (form_of command)) in
          let more = again_cases call (part + 1) (desk_after d command) commands in
          ap case_numbers (append_assoc cases more others)
          ∙ told (cases_of d (form_of command)) (more ++ others) k
          ∙ sym (ap (map (λ c. 25)) (append_assoc cases more others))

of_conflicts : (d : Desk) (es : List Entry)
    → case_numbers (conflict_cases d es) ≡ map (λ c. 25) (conflict_cases d es)
of_conflicts d [] = refl
of_conflicts d (e ∷ es) =
    of_again e.number 0 d (commands_of e.deed) (conflict_cases (desk_with d e) es) (of_conflicts (desk_with d e) es)

of_key : (touched : Bool) (key : Key) → case_numbers (told_case touched (told_elsewhere key))
    ≡ map (λ c. 26) (told_case touched (told_elsewhere key))
of_key touched (keys.Room n) = refl
of_key touched (keys.Member n) = refl
of_key touched (keys.Source n) = refl
of_key touched (keys.Slot n) = refl
of_key touched (keys.Sub n) = refl
of_key touched (keys.Mute n) = refl
of_key touched (keys.Gain m n) = refl
of_key touched (keys.Pin n) = refl
of_key touched (keys.Floor n) = refl

of_elsewhere : (start : Desk) (number : ℕ) (done : List Entry) (ks : List Key)
    → case_numbers (elsewhere_cases start number done ks) ≡ map (λ c. 26) (elsewhere_cases start number done ks)
of_elsewhere start number done [] = refl
of_elsewhere start number done (key ∷ ks) =
    let here = told_case (not (is_touched start (number ∷ []) number key (reverse done))) (told_elsewhere key) in
    let rest = elsewhere_cases start number done ks in
    map-append (λ c. (told_of c.1).number) here rest
    ∙ (λ i. of_key (not (is_touched start (number ∷ []) number key (reverse done))) key i
    ++ of_elsewhere start number done ks i)
    ∙ sym (map-append (λ c. 26) here rest)

pub revert : (h : CallHistory) (d : Desk) (done undone number : ℕ)
    → case_numbers (call_cases h d done undone (Revert number))
    ≡ 23 ∷ 24 ∷ 17 ∷ 23
    ∷ (map (λ c. 25) (conflict_cases (desk_in_force h.start (kept number h.done)) (again number h.done))
    ++ map (λ c. 26) (elsewhere_cases h.start number h.done (moved_keys d (as_if h.start h.done number))))
revert h d done undone number =
    let base = desk_in_force h.start (kept number h.done) in
    let keys = moved_keys d (as_if h.start h.done number) in
    ap (λ (ns : List ℕ). 23 ∷ 24 ∷ 17 ∷ 23 ∷ ns)
    (map-append (λ c. (told_of c.1).number) (conflict_cases base (again number h.done))
    (elsewhere_cases h.start number h.done keys)
    ∙ (λ i. of_conflicts base (again number h.done) i ++ of_elsewhere h.start number h.done keys i))

-- ---- what is printed of a part

pub part : (why : Reason) → reason_words why ≡ told_words (told_of (refusal_for why))
part reasons.Exists = refl
part reasons.NoRoom = refl
part reasons.NoMember = refl
part reasons.NoSource = refl
part reasons.NoSlot = refl
part reasons.WrongKind = refl
part reasons.OtherRoom = refl
part reasons.SsrcTaken = refl
part reasons.BadValue = refl
part reasons.Already = refl
part reasons.NotThere = refl
part reasons.RateMismatch = refl
part (reasons.Full table limit) = refl
