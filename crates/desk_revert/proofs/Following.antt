-- Edits that follow entries: one more, one less, and where they lead.
use Rattle.std.proofs.Common.{◌≡◌, ℕ, zero, suc, Bool, true, List, [], ◌∷◌, ◌++◌, fold, take, reverse, refl}
use Rattle.std.proofs.Common.{sym, ap, subst, ◌∙◌, append_assoc, append-nil}
use Rattle.std.proofs.lemmas.List.{reverse-append}
use Rattle.desk_rows.specs.Desk.{Desk}
use Rattle.desk_rows.specs.Edit.{EditOf}
use Rattle.desk_edit.specs.InForce.{Entry, desk_in_force}
use Rattle.desk_edit.specs.Calls.{front}
use Rattle.desk_revert.specs.Follows.{Follows, Stands}

front_push : (xs : List Entry) (x : Entry) → front (xs ++ x ∷ []) ≡ xs
front_push [] x = refl
front_push (y ∷ []) x = refl
front_push (y ∷ z ∷ xs) x = ap (λ ys. y ∷ ys) (front_push (z ∷ xs) x)

-- the last edits are those of the last entry: they fit the desk of the entries before it, and lead to the desk of all
abbrev EndsWith : (Desk → List EditOf → Bool) → (Desk → List EditOf → Desk) → Desk → List Entry → List Entry
    → List (List EditOf) → List EditOf → Type 0
EndsWith fits after start before entries edits es =
    (init : List Entry) × (last : Entry) × (entries ≡ init ++ last ∷ [])
    × Follows fits after start before init edits × (fits (desk_in_force start (before ++ init)) es ≡ true)
    × (after (desk_in_force start (before ++ init)) es ≡ desk_in_force start (before ++ entries))

module _ (fits : Desk → List EditOf → Bool) (after : Desk → List EditOf → Desk) (start : Desk) where
  -- one more entry with its edits, behind all that there are
  pub one_more : (before all cs : List Entry) (es : List (List EditOf)) (c : Entry) (e : List EditOf)
      → all ≡ before ++ cs → Follows fits after start before cs es → fits (desk_in_force start all) e ≡ true
      → after (desk_in_force start all) e ≡ desk_in_force start (all ++ c ∷ [])
      → Follows fits after start before (cs ++ c ∷ []) (es ++ e ∷ [])
  one_more before all [] [] c e is f fit does =
      subst (λ b. Follows fits after start b (c ∷ []) (e ∷ [])) (is ∙ append-nil before) (fit, does, tt)
  one_more before all (b ∷ cs) (x ∷ es) c e is f fit does = (
    f.0,
    f.1,
    one_more (before ++ b ∷ []) all cs es c e (is ∙ sym (append_assoc before (b ∷ []) cs)) f.2 fit does,
  )
  one_more before all [] (x ∷ es) c e is f fit does = absurd f
  one_more before all (b ∷ cs) [] c e is f fit does = absurd f

  pub one_less : (before cs : List Entry) (es : List (List EditOf)) (e : List EditOf)
      → Follows fits after start before cs (es ++ e ∷ []) → EndsWith fits after start before cs es e
  one_less before [] [] e f = absurd f
  one_less before [] (x ∷ es) e f = absurd f
  one_less before (c ∷ []) [] e f = (
    [],
    c,
    refl,
    tt,
    ap (λ b. fits (desk_in_force start b) e) (append-nil before) ∙ f.0,
    ap (λ b. after (desk_in_force start b) e) (append-nil before) ∙ f.1,
  )
  one_less before (c ∷ []) (x ∷ []) e f = absurd f.2
  one_less before (c ∷ []) (x ∷ y ∷ es) e f = absurd f.2
  one_less before (c ∷ b ∷ cs) [] e f = absurd f.2
  one_less before (c ∷ b ∷ cs) (x ∷ es) e f =
      let less = one_less (before ++ c ∷ []) (b ∷ cs) es e f.2 in
      let along : before ++ (c ∷ less.0) ≡ (before ++ c ∷ []) ++ less.0 = sym (append_assoc before (c ∷ []) less.0) in (
        c ∷ less.0,
        less.1,
        ap (λ xs. c ∷ xs) less.2,
        (f.0, f.1, less.3),
        ap (λ xs. fits (desk_in_force start xs) e) along ∙ less.4,
        ap (λ xs. after (desk_in_force start xs) e) along
            ∙ less.5
            ∙ ap (λ xs. desk_in_force start xs) (append_assoc before (c ∷ []) (b ∷ cs)),
      )

  pub all_lead : (before cs : List Entry) (es : List (List EditOf)) → Follows fits after start before cs es
      → fold after (desk_in_force start before) es ≡ desk_in_force start (before ++ cs)
  all_lead before [] [] f = ap (λ xs. desk_in_force start xs) (sym (append-nil before))
  all_lead before (c ∷ cs) (e ∷ es) f =
      ap (λ x. fold after x es) f.1
      ∙ all_lead (before ++ c ∷ []) cs es f.2
      ∙ ap (λ xs. desk_in_force start xs) (append_assoc before (c ∷ []) cs)
  all_lead before [] (e ∷ es) f = absurd f
  all_lead before (c ∷ cs) [] f = absurd f

  -- so many of them lead to the desk of as many entries
  pub first_lead : (n : ℕ) (before cs : List Entry) (es : List (List EditOf))
      → Follows fits after start before cs es
      → fold after (desk_in_force start before) (take n es) ≡ desk_in_force start (before ++ take n cs)
  first_lead zero before cs es f = ap (λ xs. desk_in_force start xs) (sym (append-nil before))
  first_lead (suc n) before [] [] f = ap (λ xs. desk_in_force start xs) (sym (append-nil before))
  first_lead (suc n) before (c ∷ cs) (e ∷ es) f =
      ap (λ x. fold after x (take n es)) f.1
      ∙ first_lead n (before ++ c ∷ []) cs es f.2
      ∙ ap (λ xs. desk_in_force start xs) (append_assoc before (c ∷ []) (take n cs))
  first_lead (suc n) before [] (e ∷ es) f = absurd f
  first_lead (suc n) before (c ∷ cs) [] f = absurd f

  -- ---- the edits of a history, moved with its entries

  pub push_stands : (done undone : List Entry) (edits back : List (List EditOf)) (c : Entry) (e : List EditOf)
      → Stands fits after start done undone edits back → fits (desk_in_force start done) e ≡ true
      → after (desk_in_force start done) e ≡ desk_in_force start (done ++ c ∷ [])
      → Stands fits after start (done ++ c ∷ []) [] (edits ++ e ∷ []) []
  push_stands done undone edits back c e s fit does =
      record { behind = one_more [] done done edits c e refl s.behind fit does; ahead = tt }

  pub undo_stands : (done undone : List Entry) (edits back : List (List EditOf)) (c : Entry) (e : List EditOf)
      → Stands fits after start (done ++ c ∷ []) undone (edits ++ e ∷ []) back
      → Stands fits after start done (undone ++ c ∷ []) edits (back ++ e ∷ [])
  undo_stands done undone edits back c e s =
      let less = one_less [] (done ++ c ∷ []) edits e s.behind in
      let init : less.0 ≡ done =
      sym (front_push less.0 less.1) ∙ ap front (sym less.2) ∙ front_push done c in
      let fit : fits (desk_in_force start done) e ≡ true =
      ap (λ i. fits (desk_in_force start i) e) (sym init) ∙ less.4 in
      let leads : after (desk_in_force start done) e ≡ desk_in_force start (done ++ c ∷ []) =
      ap (λ i. after (desk_in_force start i) e) (sym init) ∙ less.5 in
      record {
        behind = subst (λ i. Follows fits after start [] i edits) init less.3;
        ahead =
            subst (λ cs. Follows fits after start done cs (reverse (back ++ e ∷ [])))
            (sym (reverse-append undone (c ∷ [])))
            (subst (λ es. Follows fits after start done (c ∷ reverse undone) es) (sym (reverse-append back (e ∷ [])))
            (fit, leads, s.ahead));
      }

  pub redo_stands : (done undone : List Entry) (edits back : List (List EditOf)) (c : Entry) (e : List EditOf)
      → Stands fits after start done (undone ++ c ∷ []) edits (back ++ e ∷ [])
      → Stands fits after start (done ++ c ∷ []) undone (edits ++ e ∷ []) back
  redo_stands done undone edits back c e s =
      let next : Follows fits after start done (c ∷ reverse undone) (e ∷ reverse back) =
      subst (λ cs. Follows fits after start done cs (e ∷ reverse back)) (reverse-append undone (c ∷ []))
      (subst (λ es. Follows fits after start done (reverse (undone ++ c ∷ [])) es) (reverse-append back (e ∷ []))
      s.ahead) in
      record {
        behind = one_more [] done done edits c e refl s.behind next.0 next.1;
        ahead = next.2;
      }
