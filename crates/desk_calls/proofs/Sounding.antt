-- A desk is sound, and stays so when a call is carried out.
use Rattle.std.specs.Prelude.{◌∷◌, ◌++◌, ◌&&◌, ◌<◌, ◌+◌}
use Rattle.std.proofs.Common.{◌≡◌, ℕ, true, List, [], reverse, length, min, nat_le, refl, sym, ap, subst, ◌∙◌, arith}
use Rattle.std.specs.List.{list_all}
use Rattle.std.proofs.lemmas.List.{length_push}
use Rattle.undo_log.specs.Timeline.{Timeline}
use Rattle.desk_rows.specs.Desk.{Desk, good}
use Rattle.desk_rows.specs.Edit.{EditOf}
use Rattle.desk_edit.specs.InForce.{Entry, falls, desk_in_force}
use Rattle.desk_edit.specs.Calls.{call_limit, no_calls, with_entry, with_undo, with_redo}
use Rattle.desk_calls.specs.Edits.{fits, after, inverse}
use Rattle.desk_calls.specs.laws.EditLaws.{still_good}
use Rattle.desk_calls.specs.Desk.{DeskOf, UndoesEdit, RedoesEdit}
use Rattle.desk_calls.specs.Following.{Follows, HasCalled}
use Rattle.desk_calls.specs.inner.Kept.{EntriesOf}
use Rattle.desk_calls.specs.inner.Sound.{IsSound, desk_seen}
use Rattle.desk_revert.proofs.Numbered.{numbered_more, numbered_still, same_undone, same_redone}
use Rattle.desk_calls.proofs.FollowLaws.{done_on, undone_on, redone_on, same_called}

-- ---- before any call

pub called_new : (rows : Desk) (t : Timeline Desk (List EditOf)) (entries : EntriesOf) → t.start ≡ rows
    → t.state ≡ rows → t.done ≡ [] → t.undone ≡ [] → entries.done ≡ [] → entries.undone ≡ []
    → HasCalled (desk_seen 0 t entries) (no_calls rows)
called_new rows t entries start state done undone calls back = record {
  version = refl;
  history = λ i. record { start = start i; done = calls i; undone = back i; accepted = 0 };
  desk = state;
  follows = subst (λ es. Follows rows [] [] es) (sym done) tt;
  ahead = subst (λ es. Follows rows [] [] (reverse es)) (sym undone) tt;
}

pub sound_new : (rows : Desk) (t : Timeline Desk (List EditOf)) (entries : EntriesOf) → good rows ≡ true
    → t.start ≡ rows → t.state ≡ rows → t.done ≡ [] → t.undone ≡ [] → entries.done ≡ [] → entries.undone ≡ []
    → IsSound (desk_seen 0 t entries)
sound_new rows t entries sound start state done undone calls back =
    let called = called_new rows t entries start state done undone calls back in
    record {
      good = ap good state ∙ sound;
      fewer = omega (arith, ap length done);
      limit = omega arith;
      numbered = λ i.
          list_all (λ x. nat_le x.number 0) (back i ++ reverse (calls i)) && falls (back i ++ reverse (calls i));
      called = subst (λ h. HasCalled (desk_seen 0 t entries) h) (sym called.history) called;
    }

-- ---- more or less spare capacity makes no difference

pub reserved : (version : ℕ) (t u : Timeline Desk (List EditOf)) (entries more : EntriesOf)
    → u ≡ record t { spare = u.spare } → more ≡ record entries { spare = more.spare }
    → desk_seen version u more ≡ record (desk_seen version t entries) { spare = min u.spare more.spare }
reserved version t u entries more same alike = λ i. record {
  version = version;
  history = record {
    start = (same i).start;
    done = (alike i).done;
    undone = (alike i).undone;
    accepted = version;
  };
  desk = (same i).state;
  done = (same i).done;
  undone = (same i).undone;
  spare = min u.spare more.spare;
}

pub reserved_now : (version : ℕ) (t u : Timeline Desk (List EditOf)) (entries more : EntriesOf) (d : DeskOf)
    → u ≡ record t { spare = u.spare } → more ≡ record entries { spare = more.spare }
    → desk_seen version t entries ≡ d → desk_seen version u more ≡ record d { spare = min u.spare more.spare }
reserved_now version t u entries more d same alike is =
    reserved version t u entries more same alike
    ∙ ap (λ (x : DeskOf). record x { spare = min u.spare more.spare }) is

pub sound_reserved : (version : ℕ) (t u : Timeline Desk (List EditOf)) (entries more : EntriesOf)
    → u ≡ record t { spare = u.spare } → more ≡ record entries { spare = more.spare }
    → IsSound (desk_seen version t entries) → IsSound (desk_seen version u more)
sound_reserved version t u entries more same alike s =
    let old = desk_seen version t entries in
    let spare = min u.spare more.spare in
    subst IsSound (sym (reserved version t u entries more same alike))
    (record {
      good = s.good;
      fewer = s.fewer;
      limit = s.limit;
      numbered = s.numbered;
      called = same_called old (record old { spare = spare }) old.history refl s.called;
    })

-- ---- a call

pub sound_done : (old new : DeskOf) (entry : Entry) (es : List EditOf) → IsSound old → fits old.desk es ≡ true
    → old.version < call_limit → entry.number ≡ old.version + 1
    → after old.desk es ≡ desk_in_force old.history.start (old.history.done ++ entry ∷ [])
    → new.version ≡ old.version + 1 → new.history ≡ with_entry old.history entry → new.desk ≡ after old.desk es
    → new.done ≡ old.done ++ es ∷ [] → new.undone ≡ [] → IsSound new
sound_done old new entry es s fit room number leads version turns desk done undone =
    let called = done_on old new old.history entry s.called (version ∙ ap (λ n. n + 1) s.called.version) turns
    (desk ∙ leads) (es, fit, desk, done, undone) in
    record {
      good = ap good desk ∙ still_good old.desk es s.good;
      fewer = omega (arith, ap length done ∙ length_push old.done es, s.fewer, version);
      limit = omega (arith, room, version);
      numbered =
          (λ i. list_all (λ x. nat_le x.number (version i)) ((turns i).undone ++ reverse (turns i).done)
          && falls ((turns i).undone ++ reverse (turns i).done))
          ∙ numbered_more old.version old.history.done old.history.undone entry number s.numbered;
      called = subst (λ k. HasCalled new k) (sym turns) called;
    }

pub sound_undone : (old new : DeskOf) → IsSound old → old.version < call_limit
    → new.version ≡ old.version + 1 → new.history ≡ with_undo old.history → UndoesEdit old new → IsSound new
sound_undone old new s room version turns does =
    let called = undone_on old new old.history s.called (version ∙ ap (λ n. n + 1) s.called.version) turns does in
    record {
      good = ap good does.4 ∙ still_good old.desk (inverse does.0) s.good;
      fewer = omega (arith, ap length does.1 ∙ length_push new.done does.0, s.fewer, version);
      limit = omega (arith, room, version);
      numbered =
          (λ i. list_all (λ x. nat_le x.number (version i)) ((turns i).undone ++ reverse (turns i).done)
          && falls ((turns i).undone ++ reverse (turns i).done))
          ∙ ap (λ es. list_all (λ x. nat_le x.number (old.version + 1)) es && falls es)
          (same_undone old.history.done old.history.undone)
          ∙ numbered_still old.version (old.history.undone ++ reverse old.history.done) s.numbered;
      called = subst (λ k. HasCalled new k) (sym turns) called;
    }

pub sound_redone : (old new : DeskOf) → IsSound old → old.version < call_limit
    → new.version ≡ old.version + 1 → new.history ≡ with_redo old.history → RedoesEdit old new → IsSound new
sound_redone old new s room version turns does =
    let called = redone_on old new old.history s.called (version ∙ ap (λ n. n + 1) s.called.version) turns does in
    record {
      good = ap good does.3 ∙ still_good old.desk does.0 s.good;
      fewer = omega (arith, ap length does.2 ∙ length_push old.done does.0, s.fewer, version);
      limit = omega (arith, room, version);
      numbered =
          (λ i. list_all (λ x. nat_le x.number (version i)) ((turns i).undone ++ reverse (turns i).done)
          && falls ((turns i).undone ++ reverse (turns i).done))
          ∙ ap (λ es. list_all (λ x. nat_le x.number (old.version + 1)) es && falls es)
          (same_redone old.history.done old.history.undone)
          ∙ numbered_still old.version (old.history.undone ++ reverse old.history.done) s.numbered;
      called = subst (λ k. HasCalled new k) (sym turns) called;
    }
