-- The lists of calls, and the history of the same calls.
use Rattle.std.specs.Prelude.{◌+◌}
use Rattle.std.proofs.Common.{◌≡◌, ℕ, Bool, true, false, cond, List, [], ◌∷◌, ◌++◌, map, reverse, length, fold, refl}
use Rattle.std.proofs.Common.{sym}
use Rattle.std.proofs.Common.{ap, subst, ◌∙◌}
use Rattle.std.proofs.lemmas.List.{map-append, length-map, reverse-append}
use Rattle.desk_rows.specs.Desk.{Desk}
use Rattle.desk_edit.specs.Asked.{CallOf}
use Rattle.desk_edit.specs.Asked.CallOf.{Apply, Group, Undo, Redo, Revert}
use Rattle.desk_edit.specs.InForce.{Entry, is_struck, struck_by, from_newest, in_force as entries_in_force}
use Rattle.desk_edit.specs.Calls.{CallHistory, no_calls, after_call, front, final}
use Rattle.desk_calls.specs.Accepted.{after_calls}
use Rattle.desk_calls.specs.Desk.{DeskOf}
use Rattle.desk_calls.specs.Following.{HasCalled, Follows}
use Rattle.desk_calls.proofs.FollowLaws.{as_many, as_many_ahead}
use Rattle.call_history.specs.AcceptedCall.{AcceptedOf, AreNumbered, calls_of}
use Rattle.call_history.specs.Lists.{ListsOf, no_lists, with_call, lists_of, deed_in, entry_of, standing, in_force}

map_front : {X Y : Type 0} (f : X → Y) (xs : List X) → map f (front xs) ≡ front (map f xs)
map_front f [] = refl
map_front f (x ∷ []) = refl
map_front f (x ∷ y ∷ ys) = ap (λ zs. f x ∷ zs) (map_front f (y ∷ ys))

map_final : {X Y : Type 0} (f : X → Y) (xs : List X) → map f (final xs) ≡ final (map f xs)
map_final f [] = refl
map_final f (x ∷ []) = refl
map_final f (x ∷ y ∷ ys) = map_final f (y ∷ ys)

map_turned : {X Y : Type 0} (f : X → Y) (xs : List X) → map f (reverse xs) ≡ reverse (map f xs)
map_turned f [] = refl
map_turned f (x ∷ xs) =
    ap (map f) (reverse-append (x ∷ []) xs)
    ∙ map-append f (reverse xs) (x ∷ [])
    ∙ ap (λ ys. ys ++ f x ∷ []) (map_turned f xs)
    ∙ sym (reverse-append (f x ∷ []) (map f xs))

-- the lists are those of the history
record AreThose (l : ListsOf) (h : CallHistory) : Type 0 where
  done : map entry_of l.done ≡ h.done
  undone : map entry_of l.undone ≡ h.undone

pushed : (ms : List AcceptedOf) (es : List Entry) (m : AcceptedOf) (e : Entry) → entry_of m ≡ e → map entry_of ms ≡ es
    → map entry_of (ms ++ m ∷ []) ≡ es ++ e ∷ []
pushed ms es m e is same = map-append entry_of ms (m ∷ []) ∙ (λ i. same i ++ is i ∷ [])

moved : (xs ys : List AcceptedOf) (gs hs : List Entry) → map entry_of xs ≡ gs → map entry_of ys ≡ hs
    → map entry_of (xs ++ final ys) ≡ gs ++ final hs
moved xs ys gs hs one other =
    map-append entry_of xs (final ys) ∙ (λ i. one i ++ (map_final entry_of ys ∙ ap final other) i)

left : (xs : List AcceptedOf) (gs : List Entry) → map entry_of xs ≡ gs → map entry_of (front xs) ≡ front gs
left xs gs same = map_front entry_of xs ∙ ap front same

-- an accepted call with this number and of these words
stands_for : (m : AcceptedOf) (n : ℕ) (c : CallOf) → m.number ≡ n → m.call ≡ c
    → entry_of m ≡ record { number = n; deed = deed_in c }
stands_for m n c number call = λ i. record { number = number i; deed = deed_in (call i) }

one_more : (l : ListsOf) (h : CallHistory) (m : AcceptedOf) (c : CallOf) → m.call ≡ c → m.number ≡ h.accepted + 1
    → AreThose l h → AreThose (with_call l c m) (after_call h c)
unfolding after_call
one_more l h m (Apply command) is number those = record {
  done = pushed l.done h.done m _ (stands_for m (h.accepted + 1) (Apply command) number is) those.done;
  undone = refl;
}
one_more l h m (Group commands) is number those = record {
  done = pushed l.done h.done m _ (stands_for m (h.accepted + 1) (Group commands) number is) those.done;
  undone = refl;
}
one_more l h m (Revert taken) is number those = record {
  done = pushed l.done h.done m _ (stands_for m (h.accepted + 1) (Revert taken) number is) those.done;
  undone = refl;
}
one_more l h m (Undo last) is number those = record {
  done = left l.done h.done those.done;
  undone = moved l.undone l.done h.undone h.done those.undone those.done;
}
one_more l h m (Redo last) is number those = record {
  done = moved l.done l.undone h.done h.undone those.done those.undone;
  undone = left l.undone h.undone those.undone;
}

one_number : (h : CallHistory) (c : CallOf) → (after_call h c).accepted ≡ h.accepted + 1
unfolding after_call
one_number h (Apply command) = refl
one_number h (Group commands) = refl
one_number h (Undo last) = refl
one_number h (Redo last) = refl
one_number h (Revert number) = refl

all_more : (l : ListsOf) (h : CallHistory) (made : List AcceptedOf) → AreNumbered (h.accepted + 1) made → AreThose l h
    → AreThose (fold (λ k (m : AcceptedOf). with_call k m.call m) l made) (after_calls h (calls_of made))
all_more l h [] numbered those = those
all_more l h (m ∷ made) numbered those =
    all_more (with_call l m.call m) (after_call h m.call) made
    (subst (λ n. AreNumbered (n + 1) made) (sym (one_number h m.call)) numbered.1)
    (one_more l h m m.call refl numbered.0 those)

those_of : (start : Desk) (made : List AcceptedOf) → AreNumbered 1 made
    → AreThose (lists_of made) (after_calls (no_calls start) (calls_of made))
those_of start made numbered = all_more no_lists (no_calls start) made numbered record { done = refl; undone = refl }

pub same_done : (start : Desk) (made : List AcceptedOf) → AreNumbered 1 made
    → map entry_of (lists_of made).done ≡ (after_calls (no_calls start) (calls_of made)).done
same_done start made numbered = (those_of start made numbered).done

pub same_undone : (start : Desk) (made : List AcceptedOf) → AreNumbered 1 made
    → map entry_of (lists_of made).undone ≡ (after_calls (no_calls start) (calls_of made)).undone
same_undone start made numbered = (those_of start made numbered).undone

-- ---- those in force

same_standing : (struck : List ℕ) (ms : List AcceptedOf)
    → map entry_of (standing struck ms) ≡ from_newest struck (map entry_of ms)
same_standing struck [] = refl
same_standing struck (m ∷ ms) =
    by (is_struck struck m.number) (same_standing struck ms) (same_standing (struck_by (deed_in m.call) struck) ms)
  where
    by : (b : Bool) → map entry_of (standing struck ms) ≡ from_newest struck (map entry_of ms)
        → map entry_of (standing (struck_by (deed_in m.call) struck) ms)
        ≡ from_newest (struck_by (deed_in m.call) struck) (map entry_of ms)
        → map entry_of (cond b (standing struck ms) (m ∷ standing (struck_by (deed_in m.call) struck) ms))
        ≡ cond b (from_newest struck (map entry_of ms))
        (entry_of m ∷ from_newest (struck_by (deed_in m.call) struck) (map entry_of ms))
    by true over up = over
    by false over up = ap (λ es. entry_of m ∷ es) up

same_force : (ms : List AcceptedOf) → map entry_of (in_force ms) ≡ entries_in_force (map entry_of ms)
same_force ms =
    map_turned entry_of (standing [] (reverse ms))
    ∙ ap reverse (same_standing [] (reverse ms) ∙ ap (from_newest []) (map_turned entry_of ms))

pub force_of : (start : Desk) (made : List AcceptedOf) → AreNumbered 1 made
    → map entry_of (in_force (lists_of made).done)
    ≡ entries_in_force (after_calls (no_calls start) (calls_of made)).done
force_of start made numbered =
    same_force (lists_of made).done ∙ ap entries_in_force (same_done start made numbered)

-- ---- edits

-- a history keeps its start
one_start : (h : CallHistory) (c : CallOf) → (after_call h c).start ≡ h.start
unfolding after_call
one_start h (Apply command) = refl
one_start h (Group commands) = refl
one_start h (Undo last) = refl
one_start h (Redo last) = refl
one_start h (Revert number) = refl

all_start : (h : CallHistory) (calls : List CallOf) → (after_calls h calls).start ≡ h.start
all_start h [] = refl
all_start h (c ∷ calls) = all_start (after_call h c) calls ∙ one_start h c

module _ (start : Desk) (made : List AcceptedOf) (d : DeskOf) (numbered : AreNumbered 1 made)
    (called : HasCalled d (after_calls (no_calls start) (calls_of made))) where
  abbrev h : CallHistory
  h = after_calls (no_calls start) (calls_of made)

  begins : h.start ≡ start
  begins = all_start (no_calls start) (calls_of made)

  pub edits_done : Follows start [] (map entry_of (lists_of made).done) d.done
  edits_done =
      subst (λ es. Follows start [] es d.done) (sym (same_done start made numbered))
      (subst (λ s. Follows s [] h.done d.done) begins called.follows)

  pub edits_undone :
      Follows start (map entry_of (lists_of made).done) (reverse (map entry_of (lists_of made).undone))
      (reverse d.undone)
  edits_undone =
      subst (λ es. Follows start es (reverse (map entry_of (lists_of made).undone)) (reverse d.undone))
      (sym (same_done start made numbered))
      (subst (λ es. Follows start h.done (reverse es) (reverse d.undone)) (sym (same_undone start made numbered))
      (subst (λ s. Follows s h.done (reverse h.undone) (reverse d.undone)) begins called.ahead))

  pub many_done : length (lists_of made).done ≡ length d.done
  many_done = sym (length-map (lists_of made).done entry_of) ∙ as_many start [] _ d.done edits_done

  pub many_undone : length (lists_of made).undone ≡ length d.undone
  many_undone =
      sym (length-map (lists_of made).undone entry_of)
      ∙ as_many_ahead start (map entry_of (lists_of made).done) _ d.undone edits_undone
