-- Undos and redos in a row.
use Rattle.std.proofs.Common.{◌≡◌, ℕ, zero, suc, ◌+◌, ◌<◌, ◌≤◌, true, List, [], ◌∷◌, ◌++◌, length, fold, drop, reverse}
use Rattle.std.proofs.Common.{None, Some, refl, sym, ap, subst, ◌∙◌, append-nil, append_assoc, arith}
use Rattle.std.proofs.lemmas.List.{length-append, length-reverse, reverse-append, reverse-reverse}
use Rattle.std.proofs.lemmas.List.Sums.{fold_push}
use Rattle.std.proofs.lemmas.Grind.{reverse_onto}
use Rattle.std.proofs.Math.Seq.{drop-append_seam}
use Rattle.undo_log.specs.Timeline.{rewound}
use Rattle.desk_rows.specs.Desk.{Desk}
use Rattle.desk_rows.specs.Edit.{EditOf}
use Rattle.desk_calls.specs.Edits.{fits, after, inverse}
use Rattle.desk_calls.specs.laws.EditLaws.{undoes, rewound_one_more}
use Rattle.desk_calls.specs.Desk.{history_of, Does, DoesEdit, UndoesEdit, RedoesEdit}
use Rattle.desk_edit.specs.Asked.{CallOf as Call}
use Rattle.desk_edit.specs.Asked.CallOf.{Apply, Group, Undo, Redo, Revert}
use Rattle.desk_edit.specs.Calls.{CallHistory, call_limit, refusal_at}
use Rattle.desk_calls.specs.declared.reply.Reply.{Reply}
use Rattle.desk_calls.specs.declared.reply.Reply.TheVariants.{Accepted, Refused}
use Rattle.bridge_core.specs.Steps.{CoreOf, core_desk}
use Rattle.bridge_core.specs.Calls.{Answers}
use Rattle.bridge_core.specs.UndoRuns.{AnswersAll, HasCommands, AcceptsAll, UndoesInARow, RedoesInARow, IsAsWas, undos}
use Rattle.bridge_core.specs.UndoRuns.{redos, all_accepted}

-- ---- one call

free_undo : (h : CallHistory) (done undone : ℕ) (d : Desk) → 0 < done → h.accepted < call_limit
    → refusal_at h d done undone (Undo h.accepted) ≡ None
free_undo h done undone d some free = grind arith

free_redo : (h : CallHistory) (done undone : ℕ) (d : Desk) → 0 < undone → h.accepted < call_limit
    → refusal_at h d done undone (Redo h.accepted) ≡ None
free_redo h done undone d some free = grind arith

undo_accepted : (old new : CoreOf) (reply : Reply) → Answers old new (Undo old.version) reply → 0 < length old.done
    → old.version < call_limit
    → (reply ≡ Accepted (old.version + 1)) × (new.version ≡ old.version + 1)
    × UndoesEdit (core_desk old) (core_desk new)
undo_accepted old new (Accepted number) by some free = (ap Accepted by.0, by.1 ∙ by.0, by.4)
undo_accepted old new (Refused at why) by some free =
    let no : None ≡ Some why =
    sym (free_undo (history_of (core_desk old)) (length old.done) (length old.undone) old.desk some free) ∙ by.2 in
    absurd cc

redo_accepted : (old new : CoreOf) (reply : Reply) → Answers old new (Redo old.version) reply → 0 < length old.undone
    → old.version < call_limit
    → (reply ≡ Accepted (old.version + 1)) × (new.version ≡ old.version + 1)
    × RedoesEdit (core_desk old) (core_desk new)
redo_accepted old new (Accepted number) by some free = (ap Accepted by.0, by.1 ∙ by.0, by.4)
redo_accepted old new (Refused at why) by some free =
    let no : None ≡ Some why =
    sym (free_redo (history_of (core_desk old)) (length old.done) (length old.undone) old.desk some free) ∙ by.2 in
    absurd cc

-- ---- lists with the same end

same_front : {X : Type 0} (ps qs rs ts : List X) → ps ++ qs ≡ rs ++ ts → length qs ≡ length ts → ps ≡ rs
same_front [] qs [] ts is same = refl
same_front [] qs (r ∷ rs) ts is same =
    let long : length qs ≡ suc (length rs + length ts) = ap length is ∙ ap suc (length-append rs ts) in
    absurd (omega arith)
same_front (p ∷ ps) qs [] ts is same =
    let long : suc (length ps + length qs) ≡ length ts = sym (ap suc (length-append ps qs)) ∙ ap length is in
    absurd (omega arith)
same_front (p ∷ ps) qs (r ∷ rs) ts is same = grind (arith, same_front ps qs rs ts)

same_back : {X : Type 0} (ps qs rs ts : List X) → ps ++ qs ≡ rs ++ ts → ps ≡ rs → qs ≡ ts
same_back ps qs rs ts is same =
    sym (drop-append_seam ps qs)
    ∙ ap (drop (length ps)) is
    ∙ ap (λ xs. drop (length xs) (rs ++ ts)) same
    ∙ drop-append_seam rs ts

pushed_length : {X : Type 0} (xs ys : List X) (x : X) → xs ≡ ys ++ x ∷ [] → length xs ≡ suc (length ys)
pushed_length xs ys x is =
    let whole : length xs ≡ length ys + 1 = ap length is ∙ length-append ys (x ∷ []) in omega arith

reverse_pushed : {X : Type 0} (xs : List X) (x : X) → reverse (xs ++ x ∷ []) ≡ x ∷ reverse xs
reverse_pushed xs x = reverse-append xs (x ∷ [])

-- ---- calls in a row

-- these edits were done
record HasDone (first last : CoreOf) (n : ℕ) (es : List (List EditOf)) : Type 0 where
  count : length es ≡ n
  done : last.done ≡ first.done ++ es
  back : rewound after inverse last.desk (reverse es) ≡ first.desk

-- these edits were undone, the last one first
record HasUndone (first last : CoreOf) (n : ℕ) (es : List (List EditOf)) : Type 0 where
  count : length es ≡ n
  done : first.done ≡ last.done ++ es
  undone : last.undone ≡ first.undone ++ reverse es
  again : first.desk ≡ fold after last.desk es
  back : last.desk ≡ rewound after inverse first.desk (reverse es)

-- these edits were done again, in order
record HasRedone (first last : CoreOf) (n : ℕ) (es : List (List EditOf)) : Type 0 where
  count : length es ≡ n
  undone : first.undone ≡ last.undone ++ reverse es
  done : last.done ≡ first.done ++ es
  again : last.desk ≡ fold after first.desk es

one_more_done : (first next last : CoreOf) (n : ℕ) (es : List (List EditOf)) (e : List EditOf)
    → fits first.desk e ≡ true → next.desk ≡ after first.desk e → next.done ≡ first.done ++ e ∷ []
    → HasDone next last n es
    → HasDone first last (suc n) (e ∷ es)
one_more_done first next last n es e fit desk done rest = record {
  count = ap suc rest.count;
  done = rest.done ∙ ap (λ xs. xs ++ es) done ∙ append_assoc first.done (e ∷ []) es;
  back =
      ap (rewound after inverse last.desk) (reverse_onto es e [])
      ∙ rewound_one_more last.desk (reverse es) e
      ∙ ap (λ d. after d (inverse e)) (rest.back ∙ desk)
      ∙ undoes first.desk e fit;
}

one_more_undone : (first next last : CoreOf) (n : ℕ) (es : List (List EditOf))
    (does : UndoesEdit (core_desk first) (core_desk next))
    → HasUndone next last n es → HasUndone first last (suc n) (es ++ does.0 ∷ [])
one_more_undone first next last n es does rest =
    let e = does.0 in
    record {
      count = pushed_length (es ++ e ∷ []) es e refl ∙ ap suc rest.count;
      done = does.1 ∙ ap (λ xs. xs ++ e ∷ []) rest.done ∙ append_assoc last.done es (e ∷ []);
      undone =
          rest.undone
          ∙ ap (λ xs. xs ++ reverse es) does.2
          ∙ append_assoc first.undone (e ∷ []) (reverse es)
          ∙ ap (λ xs. first.undone ++ xs) (sym (reverse_pushed es e));
      again = does.3 ∙ ap (λ d. after d e) rest.again ∙ sym (fold_push after last.desk es e);
      back =
          rest.back
          ∙ ap (λ d. rewound after inverse d (reverse es)) does.4
          ∙ ap (rewound after inverse first.desk) (sym (reverse_pushed es e));
    }

one_more_redone : (first next last : CoreOf) (n : ℕ) (es : List (List EditOf))
    (does : RedoesEdit (core_desk first) (core_desk next))
    → HasRedone next last n es → HasRedone first last (suc n) (does.0 ∷ es)
one_more_redone first next last n es does rest =
    let e = does.0 in
    record {
      count = ap suc rest.count;
      undone =
          does.1
          ∙ ap (λ xs. xs ++ e ∷ []) rest.undone
          ∙ append_assoc last.undone (reverse es) (e ∷ [])
          ∙ ap (λ xs. last.undone ++ xs) (sym (reverse_onto es e []));
      done = rest.done ∙ ap (λ xs. xs ++ es) does.2 ∙ append_assoc first.done (e ∷ []) es;
      again = rest.again ∙ ap (λ d. fold after d es) does.3;
    }

one_more_accepted : (version next n : ℕ) (reply : Reply) (replies later : List Reply) → replies ≡ reply ∷ later
    → reply ≡ Accepted (version + 1) → next ≡ version + 1 → later ≡ all_accepted next n
    → replies ≡ all_accepted version (suc n)
one_more_accepted version next n reply replies later is first takes rest =
    is ∙ ap (λ r. r ∷ later) first ∙ ap (λ rs. Accepted (version + 1) ∷ rs) (rest ∙ ap (λ v. all_accepted v n) takes)

does_edit : (old new : CoreOf) (call : Call) → HasCommands call → Does (core_desk old) (core_desk new) call
    → DoesEdit (core_desk old) (core_desk new)
does_edit old new (Apply command) has does = does.1
does_edit old new (Group commands) has does = does.1
does_edit old new (Undo last) has does = absurd has
does_edit old new (Redo last) has does = absurd has
does_edit old new (Revert number) has does = does.1

commands_done : (first last : CoreOf) (cs : List Call) → AcceptsAll first cs last
    → (es : List (List EditOf)) × HasDone first last (length cs) es
commands_done first last [] is = (
  [],
  record {
    count = refl;
    done = ap (λ (core : CoreOf). core.done) is ∙ sym (append-nil first.done);
    back = ap (λ (core : CoreOf). core.desk) is;
  },
)
commands_done first last (c ∷ cs) accepts =
    let next = accepts.0 in
    let does = does_edit first next c accepts.2 accepts.1.4 in
    let rest = commands_done next last cs accepts.3 in
    (does.0 ∷ rest.0, one_more_done first next last (length cs) rest.0 does.0 does.1 does.2 does.3 rest.1)

commands_undone : (n : ℕ) (first last : CoreOf) (replies : List Reply) → n ≤ length first.done
    → first.version + n ≤ call_limit → AnswersAll first (undos first.version n) replies last
    → (replies ≡ all_accepted first.version n) × (es : List (List EditOf)) × HasUndone first last n es
commands_undone zero first last replies some free answers = (
  answers.0,
  [],
  record {
    count = refl;
    done = ap (λ (core : CoreOf). core.done) (sym answers.1) ∙ sym (append-nil last.done);
    undone = ap (λ (core : CoreOf). core.undone) answers.1 ∙ sym (append-nil first.undone);
    again = ap (λ (core : CoreOf). core.desk) (sym answers.1);
    back = ap (λ (core : CoreOf). core.desk) answers.1;
  },
)
commands_undone (suc n) first last replies some free answers =
    let next = answers.0 in
    let later = answers.2 in
    let here = undo_accepted first next answers.1 answers.4 (omega arith) (omega arith) in
    let version : next.version ≡ first.version + 1 = here.1 in
    let fewer : length first.done ≡ suc (length next.done) = pushed_length first.done next.done here.2.0 here.2.1 in
    let rest =
    commands_undone n next last later (omega arith) (omega arith)
    (subst (λ v. AnswersAll next (undos v n) later last) (sym version) answers.5) in (
      one_more_accepted first.version next.version n answers.1 replies later answers.3 here.0 version rest.0,
      rest.1 ++ here.2.0 ∷ [],
      one_more_undone first next last n rest.1 here.2 rest.2,
    )

commands_redone : (n : ℕ) (first last : CoreOf) (replies : List Reply) → n ≤ length first.undone
    → first.version + n ≤ call_limit → AnswersAll first (redos first.version n) replies last
    → (replies ≡ all_accepted first.version n) × (es : List (List EditOf)) × HasRedone first last n es
commands_redone zero first last replies some free answers = (
  answers.0,
  [],
  record {
    count = refl;
    undone = ap (λ (core : CoreOf). core.undone) (sym answers.1) ∙ sym (append-nil last.undone);
    done = ap (λ (core : CoreOf). core.done) answers.1 ∙ sym (append-nil first.done);
    again = ap (λ (core : CoreOf). core.desk) answers.1;
  },
)
commands_redone (suc n) first last replies some free answers =
    let next = answers.0 in
    let later = answers.2 in
    let here = redo_accepted first next answers.1 answers.4 (omega arith) (omega arith) in
    let version : next.version ≡ first.version + 1 = here.1 in
    let fewer : length first.undone ≡ suc (length next.undone) =
    pushed_length first.undone next.undone here.2.0 here.2.1 in
    let rest =
    commands_redone n next last later (omega arith) (omega arith)
    (subst (λ v. AnswersAll next (redos v n) later last) (sym version) answers.5) in (
      one_more_accepted first.version next.version n answers.1 replies later answers.3 here.0 version rest.0,
      here.2.0 ∷ rest.1,
      one_more_redone first next last n rest.1 here.2 rest.2,
    )

-- ---- the laws

pub undos_accepted : (first last : CoreOf) (n : ℕ) (replies : List Reply) → n ≤ length first.done
    → UndoesInARow first n replies last → replies ≡ all_accepted first.version n
undos_accepted first last n replies some back_by = (commands_undone n first last replies some back_by.0 back_by.1).0

pub redos_accepted : (first last : CoreOf) (n : ℕ) (replies : List Reply) → n ≤ length first.undone
    → RedoesInARow first n replies last → replies ≡ all_accepted first.version n
redos_accepted first last n replies some again_by = (commands_redone n first last replies some again_by.0 again_by.1).0

-- as many commands are done as were accepted
enough : (first last : CoreOf) (n : ℕ) (es : List (List EditOf)) → HasDone first last n es → n ≤ length last.done
enough first last n es is =
    let whole : length last.done ≡ length first.done + length es = ap length is.done ∙ length-append first.done es in
    let count : length es ≡ n = is.count in omega arith

pub come_back : (first middle last : CoreOf) (commands : List Call) (replies : List Reply)
    → AcceptsAll first commands middle → UndoesInARow middle (length commands) replies last
    → (replies ≡ all_accepted middle.version (length commands)) × (last.desk ≡ first.desk) × (last.done ≡ first.done)
come_back first middle last commands replies accepts back_by =
    let there = commands_done first middle commands accepts in
    let back =
    commands_undone (length commands) middle last replies (enough first middle (length commands) there.0 there.1)
    back_by.0 back_by.1 in
    let same : last.done ++ back.1 ≡ first.done ++ there.0 = sym back.2.done ∙ there.1.done in
    let done : last.done ≡ first.done =
    same_front last.done back.1 first.done there.0 same (back.2.count ∙ sym there.1.count) in
    let edits : back.1 ≡ there.0 = same_back last.done back.1 first.done there.0 same done in (
      back.0,
      back.2.back ∙ ap (λ es. rewound after inverse middle.desk (reverse es)) edits ∙ there.1.back,
      done,
    )

pub come_again : (first back last : CoreOf) (n : ℕ) (replies later : List Reply) → n ≤ length first.done
    → UndoesInARow first n replies back → RedoesInARow back n later last
    → (later ≡ all_accepted back.version n) × IsAsWas last first
come_again first back last n replies later some back_by again_by =
    let taken = commands_undone n first back replies some back_by.0 back_by.1 in
    let es = taken.1 in
    let length_back : length back.undone ≡ length first.undone + length (reverse es) =
    ap length taken.2.undone ∙ length-append first.undone (reverse es) in
    let turned : length (reverse es) ≡ n = length-reverse es ∙ taken.2.count in
    let done = commands_redone n back last later (omega arith) again_by.0 again_by.1 in
    let fs = done.1 in
    let turned_again : length (reverse fs) ≡ n = length-reverse fs ∙ done.2.count in
    let same : last.undone ++ reverse fs ≡ first.undone ++ reverse es = sym done.2.undone ∙ taken.2.undone in
    let undone : last.undone ≡ first.undone =
    same_front last.undone (reverse fs) first.undone (reverse es) same (turned_again ∙ sym turned) in
    let edits : fs ≡ es =
    sym (reverse-reverse fs)
    ∙ ap reverse (same_back last.undone (reverse fs) first.undone (reverse es) same undone)
    ∙ reverse-reverse es in (
      done.0,
      (
        done.2.again ∙ ap (fold after back.desk) edits ∙ sym taken.2.again,
        done.2.done ∙ ap (λ xs. back.done ++ xs) edits ∙ sym taken.2.done,
        undone,
      ),
    )

pub commands_come_again : (first middle back last : CoreOf) (commands : List Call) (replies later : List Reply)
    → AcceptsAll first commands middle → UndoesInARow middle (length commands) replies back
    → RedoesInARow back (length commands) later last
    → (later ≡ all_accepted back.version (length commands)) × IsAsWas last middle
commands_come_again first middle back last commands replies later accepts back_by again_by =
    let there = commands_done first middle commands accepts in
    come_again middle back last (length commands) replies later (enough first middle (length commands) there.0 there.1)
    back_by again_by
