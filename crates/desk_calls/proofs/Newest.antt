-- The newest call, which carried commands out, is taken back by the edits that its undo would absorb.
use Rattle.std.specs.Prelude.{◌∷◌, ◌++◌, ◌+◌, ◌||◌, ◌&&◌}
use Rattle.std.proofs.Common.{◌≡◌, ℕ, Bool, true, false, not, cond, List, [], reverse, map, filter, nat_eq, nat_lt}
use Rattle.std.proofs.Common.{refl, sym, ap, subst, ◌∙◌, arith, None}
use Rattle.std.specs.List.{list_all}
use Rattle.std.specs.Option.{option_or}
use Rattle.std.proofs.lemmas.Bool.{and_parts}
use Rattle.std.proofs.lemmas.Bool.Decides.{nat_tests}
use Rattle.std.proofs.lemmas.List.{reverse-reverse}
use Rattle.desk_rows.specs.declared.key.Key.{Key}
use Rattle.desk_rows.specs.Row.{key_of}
use Rattle.desk_rows.specs.Desk.{Desk, rows_of}
use Rattle.desk_rows.specs.Edit.{EditOf}
use Rattle.desk_edit.specs.Refusals.{has}
use Rattle.desk_edit.specs.AsIf.{is_moved, is_standing}
use Rattle.desk_edit.specs.InForce.{Deed, CarriedOut, TookBack, Entry, carries, struck_by, is_struck, from_newest}
use Rattle.desk_edit.specs.InForce.{in_force, desk_in_force, took_back, lower, walked, falls, numbers_rise, kept, again}
use Rattle.desk_edit.specs.Reverts.{is_made, conflict, is_touched, told_elsewhere, elsewhere, as_if}
use Rattle.desk_edit.proofs.Forcing.{newest_back, planned}
use Rattle.desk_calls.specs.Edits.{fits, after, inverse}
use Rattle.desk_calls.specs.laws.EditLaws.{undoes}
use Rattle.desk_calls.specs.Desk.{DeskOf, desk_without}
use Rattle.desk_calls.specs.Following.{Follows, HasCalled}
use Rattle.desk_calls.specs.inner.Touching.{is_newest, late_refused}
use Rattle.desk_calls.proofs.FollowLaws.{one_less}
use Rattle.desk_calls.proofs.Published.{inverses_fit}
use Rattle.desk_calls.proofs.RevertLemmas.{newest, walked_on, walked_end, made_turned, own_told, passed_over}
use Rattle.desk_calls.proofs.Reverted.{late_last}

-- ---- what is gone past

same_low : (deed : Deed) (n : ℕ) → carries deed ≡ true → lower deed n ≡ n
same_low (CarriedOut commands) n carried = refl
same_low (TookBack number) n carried = absurd cc

none_walked : (n : ℕ) (es : List Entry) → list_all (λ x. nat_lt x.number n) es ≡ true → walked n es ≡ []
none_walked n [] below = refl
none_walked n (e ∷ es) below =
    walked_end n e es (and_parts (nat_lt e.number n) (list_all (λ x. nat_lt x.number n) es) below).0

-- the entry of the call alone
one_walked : (n : ℕ) (e : Entry) (es : List Entry) → falls (e ∷ es) ≡ true → e.number ≡ n → carries e.deed ≡ true
    → walked n (e ∷ es) ≡ e ∷ []
one_walked n e es fall own carried =
    let below = (and_parts (list_all (λ x. nat_lt x.number e.number) es) (falls es) fall).0 in
    walked_on n e es (grind (arith, nat_tests, own))
    ∙ ap (λ low. e ∷ walked low es) (same_low e.deed n carried)
    ∙ ap (λ xs. e ∷ xs) (none_walked n es (ap (λ k. list_all (λ x. nat_lt x.number k) es) (sym own) ∙ below))

own_struck : (n : ℕ) (e : Entry) → e.number ≡ n → is_struck (n ∷ []) e.number ≡ true
own_struck n e own = grind (arith, nat_tests, own)

-- nothing is carried out again
none_again : (n : ℕ) (done : List Entry) (e : Entry) (es : List Entry) → reverse done ≡ e ∷ es
    → falls (e ∷ es) ≡ true → e.number ≡ n → carries e.deed ≡ true → again n done ≡ []
none_again n done e es turned fall own carried =
    ap (λ xs. reverse (from_newest (n ∷ []) xs)) (ap (walked n) turned ∙ one_walked n e es fall own carried)
    ∙ ap reverse (passed_over (n ∷ []) e [] (own_struck n e own))

-- ---- who moves

turned_move : (d e : Desk) (key : Key) → is_moved d e key ≡ is_moved e d key
turned_move d e key = by (has d key) (has e key) where
  by : (x y : Bool) → cond x (not y) y ≡ cond y (not x) x
  by true true = refl
  by true false = refl
  by false true = refl
  by false false = refl

-- none of them is somebody else, where all are touched
none_elsewhere : (start : Desk) (n : ℕ) (done : List Entry) (p : Key → Bool) (keys : List Key)
    → ((key : Key) → p key ≡ true → is_touched start (n ∷ []) n key (reverse done) ≡ true)
    → elsewhere start n done (filter p keys) ≡ None
none_elsewhere start n done p [] all = refl
none_elsewhere start n done p (key ∷ ks) all = by (p key) refl (none_elsewhere start n done p ks all) where
  by : (b : Bool) → p key ≡ b → elsewhere start n done (filter p ks) ≡ None
      → elsewhere start n done (cond b (key ∷ filter p ks) (filter p ks)) ≡ None
  by true told rest = λ i. option_or (cond (all key told i) None (told_elsewhere key)) (rest i)
  by false told rest = rest

-- the entry of the call touched what it moved
own_touched : (start : Desk) (n : ℕ) (key : Key) (e : Entry) (es : List Entry) → e.number ≡ n
    → is_moved (desk_in_force start (reverse es)) (desk_in_force start (reverse (e ∷ es))) key ≡ true
    → is_touched start (n ∷ []) n key (e ∷ es) ≡ true
own_touched start n key e es own moved =
    let on : nat_lt e.number n ≡ false = grind (arith, nat_tests, own) in
    let struck = cond (is_struck (n ∷ []) e.number) (n ∷ []) (struck_by e.deed (n ∷ [])) in
    let rest = is_touched start struck (lower e.deed n) key es in
    λ i. cond (on i) false (((own_struck n e own i || not (carries e.deed)) && moved i) || rest)

-- ---- all

-- the entries end with that of the call, and the desk is where its edits led from the desk before it
record Newest (d : DeskOf) (n : ℕ) (es : List EditOf) : Type 0 where
  before : List Entry
  last : Entry
  is : d.history.done ≡ before ++ last ∷ []
  own : last.number ≡ n
  carried : carries last.deed ≡ true
  fall : falls (last ∷ reverse before) ≡ true
  fits : fits (desk_in_force d.history.start before) es ≡ true
  leads : after (desk_in_force d.history.start before) es ≡ d.desk

same_number : (a b : ℕ) → nat_eq a b ≡ true → a ≡ b
same_number a b same = grind (arith, nat_tests, same)

of_newest : (d : DeskOf) (n : ℕ) (earlier : List (List EditOf)) (es : List EditOf) → HasCalled d d.history
    → numbers_rise d.history.done ≡ true → is_newest n (reverse d.history.done) ≡ true → d.done ≡ earlier ++ es ∷ []
    → Newest d n es
of_newest d n earlier es called rise is has =
    let h = d.history in
    let less =
    one_less h.start [] h.done earlier es (subst (λ xs. Follows h.start [] h.done xs) has called.follows) in
    let turned = newest h.done less.init less.last less.is in
    let told = and_parts (nat_eq less.last.number n) (carries less.last.deed) (ap (is_newest n) (sym turned) ∙ is) in
    record {
      before = less.init;
      last = less.last;
      is = less.is;
      own = same_number less.last.number n told.0;
      carried = told.1;
      fall = ap falls (sym turned) ∙ rise;
      fits = less.fits;
      leads = less.leads ∙ sym called.desk;
    }

-- the desk without the call is the one before it
desk_before : (d : DeskOf) (n : ℕ) (es : List EditOf) → numbers_rise d.history.done ≡ true → (new : Newest d n es)
    → desk_without d n ≡ desk_in_force d.history.start new.before
desk_before d n es rise new =
    let h = d.history in
    let v = h.accepted + 1 in
    (λ i. desk_in_force h.start (new.is i ++ took_back v (sym new.own i) ∷ []))
    ∙ newest_back h.start new.before new.last v (ap numbers_rise (sym new.is) ∙ rise)

pub newest_fits : (d : DeskOf) (n : ℕ) (earlier : List (List EditOf)) (es : List EditOf) → HasCalled d d.history
    → numbers_rise d.history.done ≡ true → is_newest n (reverse d.history.done) ≡ true → d.done ≡ earlier ++ es ∷ []
    → fits d.desk (inverse es) ≡ true
newest_fits d n earlier es called rise is has =
    let new = of_newest d n earlier es called rise is has in
    ap (λ x. fits x (inverse es)) (sym new.leads)
    ∙ inverses_fit (desk_in_force d.history.start new.before) es new.fits

pub newest_leads : (d : DeskOf) (n : ℕ) (earlier : List (List EditOf)) (es : List EditOf) → HasCalled d d.history
    → numbers_rise d.history.done ≡ true → is_newest n (reverse d.history.done) ≡ true → d.done ≡ earlier ++ es ∷ []
    → after d.desk (inverse es) ≡ desk_without d n
newest_leads d n earlier es called rise is has =
    let new = of_newest d n earlier es called rise is has in
    ap (λ x. after x (inverse es)) (sym new.leads)
    ∙ undoes (desk_in_force d.history.start new.before) es new.fits
    ∙ sym (desk_before d n es rise new)

-- nothing stands in the way
pub newest_free : (d : DeskOf) (n : ℕ) (earlier : List (List EditOf)) (es : List EditOf) → HasCalled d d.history
    → numbers_rise d.history.done ≡ true → is_newest n (reverse d.history.done) ≡ true → d.done ≡ earlier ++ es ∷ []
    → late_refused d n ≡ None
newest_free d n earlier es called rise is has =
    let h = d.history in
    let new = of_newest d n earlier es called rise is has in
    let turned = newest h.done new.before new.last new.is in
    let there : is_made n (in_force h.done) ≡ true =
    made_turned n (from_newest [] (reverse h.done))
    ∙ ap (λ xs. is_made n (from_newest [] xs)) turned
    ∙ own_told n [] new.last (reverse new.before) new.fall (grind (arith, nat_tests, new.own)) in
    let way : conflict (desk_in_force h.start (kept n h.done)) (again n h.done) ≡ None =
    ap (conflict (desk_in_force h.start (kept n h.done)))
    (none_again n h.done new.last (reverse new.before) turned new.fall new.own new.carried) in
    let without = as_if h.start h.done n in
    let begins : without ≡ desk_in_force h.start (reverse (reverse new.before)) =
    sym (planned h.start h.done (h.accepted + 1) n rise)
    ∙ desk_before d n es rise new
    ∙ ap (desk_in_force h.start) (sym (reverse-reverse new.before)) in
    let ends : d.desk ≡ desk_in_force h.start (reverse (new.last ∷ reverse new.before)) =
    called.desk ∙ ap (desk_in_force h.start) (sym (reverse-reverse h.done) ∙ ap reverse turned) in
    late_last h.start d.desk h.done n there way
    ∙ none_elsewhere h.start n h.done (λ key. is_standing key && is_moved d.desk without key)
    (map key_of (rows_of d.desk ++ rows_of without))
    (λ key told.
    ap (is_touched h.start (n ∷ []) n key) turned
    ∙ own_touched h.start n key new.last (reverse new.before) new.own
    (sym (λ i. is_moved (begins i) (ends i) key)
    ∙ turned_move without d.desk key
    ∙ (and_parts (is_standing key) (is_moved d.desk without key) told).1))
