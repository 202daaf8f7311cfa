-- Rows in order are exchanged for others: those that are in one list alone go and come.
use Rattle.std.specs.Prelude.{◌&&◌, ◌||◌, ◌∷◌, ◌++◌}
use Rattle.desk_rows.specs.laws.Words.{◌≡◌, Bool, true, not, List, [], length, refl, sym, ap, ◌∙◌, inl, inr, and_parts}
use Rattle.desk_rows.specs.laws.Words.{append-nil, subst, and_from, or_left, or_right, cases_Bool, list_all, arith}
use Rattle.desk_rows.specs.laws.Words.{Desk, EditOf, good, is_in, in_order, precedes, same_row, with_rows}
use Rattle.desk_rows.specs.laws.Words.{without_rows, take_at, can_take, can_put, put_at}
use Rattle.desk_rows.specs.laws.Equal.{same_row_is, row_itself}
use Rattle.desk_rows.specs.laws.ListLaws.{true_false}
use Rattle.desk_rows.specs.laws.OrderLaws.{both_ways, at_each, from_each, none_before, one_way, in_order-filter}
use Rattle.desk_rows.specs.laws.OrderLaws.{is_in-without_rows, with_rows-without_rows}
use Rattle.desk_rows.specs.laws.Laws.{Apt, good_order, fits_from, after_fits}
use Rattle.desk_rows.specs.Exchange.{exchanged, fits, after}
use Rattle.desk_rows.specs.Edit.{PartOf, ReplacedOf}
use Rattle.desk_revert.specs.Spans.{between, placed_from, Exchanges}
use Rattle.desk_revert.proofs.Spans.{take_span, can_take_span, put_span, can_put_span, span_rises}
use Rattle.desk_rows.specs.declared.edit.Placed.{Placed}
use Rattle.desk_rows.specs.declared.row.Member.{Member}
use Rattle.desk_rows.specs.declared.row.Row.{Row}

-- what stands behind a row is behind it in another list too
behind : (x q : Row) (xs ys : List Row) → list_all (precedes x) xs ≡ true → is_in xs q ≡ true
    → is_in (x ∷ ys) q ≡ true → is_in ys q ≡ true
behind x q xs ys h one two = elim (cases_Bool (same_row q x)) [
  | inl e ↦ absurd (true_false (sym one ∙ ap (is_in xs) (same_row_is q x e) ∙ none_before x xs h))
  | inr e ↦ sym (ap (λ b. b || is_in ys q) e) ∙ two
]

-- of two rows that head lists in order, each is in the other's list: they are one
same_head : (x y : Row) (xs ys : List Row) → list_all (precedes x) xs ≡ true → list_all (precedes y) ys ≡ true
    → is_in (y ∷ ys) x ≡ true → is_in (x ∷ xs) y ≡ true → x ≡ y
same_head x y xs ys a b one two = elim (cases_Bool (same_row x y)) [
  | inl e ↦ same_row_is x y e
  | inr e ↦ elim (cases_Bool (same_row y x)) [
    | inl f ↦ sym (same_row_is y x f)
    | inr f ↦
        let later : is_in ys x ≡ true = sym (ap (λ b. b || is_in ys x) e) ∙ one in
        let earlier : is_in xs y ≡ true = sym (ap (λ b. b || is_in xs y) f) ∙ two in
        absurd (true_false (sym (at_each (precedes x) xs y a earlier)
        ∙ one_way y x (at_each (precedes y) ys x b later)))
  ]
]

-- two lists in order with the same rows are one
pub same_list : (xs ys : List Row) → in_order xs ≡ true → in_order ys ≡ true
    → ((q : Row) → is_in xs q ≡ is_in ys q) → xs ≡ ys
same_list [] [] h k same = refl
same_list [] (y ∷ ys) h k same = absurd (true_false (sym (same y ∙ or_left _ _ (row_itself y))))
same_list (x ∷ xs) [] h k same = absurd (true_false (sym (or_left _ _ (row_itself x)) ∙ same x))
same_list (x ∷ xs) (y ∷ ys) h k same =
    let a = and_parts (list_all (precedes x) xs) (in_order xs) h in
    let b = and_parts (list_all (precedes y) ys) (in_order ys) k in
    let own_x : is_in (x ∷ xs) x ≡ true = or_left _ _ (row_itself x) in
    let own_y : is_in (y ∷ ys) y ≡ true = or_left _ _ (row_itself y) in
    let head : x ≡ y = same_head x y xs ys a.0 b.0 (sym (same x) ∙ own_x) (same y ∙ own_y) in
    let from_x : (q : Row) → is_in xs q ≡ true → is_in ys q ≡ true = λ q one.
    behind x q xs ys a.0 one (ap (λ z. is_in (z ∷ ys) q) head ∙ sym (same q) ∙ or_right _ _ one) in
    let from_y : (q : Row) → is_in ys q ≡ true → is_in xs q ≡ true = λ q one.
    behind y q ys xs b.0 one (ap (λ z. is_in (z ∷ xs) q) (sym head) ∙ same q ∙ or_right _ _ one) in
    let rest : xs ≡ ys =
    same_list xs ys a.1 b.1 (λ q. both_ways (is_in xs q) (is_in ys q) (from_x q) (from_y q)) in
    λ i. head i ∷ rest i

shared : (a b : Bool) → (a && not (a && not b)) ≡ (b && not (b && not a))
shared a b = grind arith

pub exchange : (xs ys : List Row) → in_order xs ≡ true → in_order ys ≡ true
    → with_rows (without_rows xs ys) (without_rows (without_rows ys xs) xs) ≡ ys
exchange xs ys h k =
    let gone = without_rows ys xs in
    let come = without_rows xs ys in
    let kept : without_rows gone xs ≡ without_rows come ys =
    same_list (without_rows gone xs) (without_rows come ys)
    (in_order-filter (λ x. not (is_in gone x)) xs h) (in_order-filter (λ x. not (is_in come x)) ys k) (λ q.
    is_in-without_rows gone xs q
    ∙ ap (λ b. is_in xs q && not b) (is_in-without_rows ys xs q)
    ∙ shared (is_in xs q) (is_in ys q)
    ∙ sym (ap (λ b. is_in ys q && not b) (is_in-without_rows xs ys q))
    ∙ sym (is_in-without_rows come ys q)) in
    ap (with_rows come) kept
    ∙ with_rows-without_rows come ys k (in_order-filter (λ x. not (is_in xs x)) ys k) (from_each (is_in ys) come (λ q
    one. (and_parts (is_in ys q) (not (is_in xs q)) (sym (is_in-without_rows xs ys q) ∙ one)).0))

module _ (d e : Desk) (front gone come back : List Member) (g : good d ≡ true) (h : good e ≡ true)
    (same : e.bridge_ssrc ≡ d.bridge_ssrc) (first : d.members ≡ front ++ (gone ++ back))
    (second : e.members ≡ front ++ (come ++ back)) where
  abbrev edit : EditOf
  edit = between (placed_from (length front) gone) (placed_from (length front) come) d.others e.others

  left : take_at (placed_from (length front) gone) d.members ≡ front ++ back
  left = ap (take_at (placed_from (length front) gone)) first ∙ take_span front gone back

  order : in_order d.others ≡ true
  order = good_order d g

  later_order : in_order e.others ≡ true
  later_order = good_order e h

  apt : Apt d edit
  apt = record {
    take_rise = span_rises (length front) gone;
    take = ap (can_take (placed_from (length front) gone)) first ∙ can_take_span front gone back;
    put_rise = span_rises (length front) come;
    put = ap (can_put (placed_from (length front) come)) left ∙ can_put_span front come back;
    outs_apart = and_from _ _ (and_from _ _ (in_order-filter (λ x. not (is_in e.others x)) d.others order) refl) refl;
    outs_there =
        from_each (is_in d.others) (without_rows e.others d.others) (λ q one.
        (and_parts (is_in d.others q) (not (is_in e.others q)) (sym (is_in-without_rows e.others d.others q) ∙ one)).0);
    ins_apart =
        and_from _ _ (and_from _ _ (in_order-filter (λ x. not (is_in d.others x)) e.others later_order) refl) refl;
    paired = refl;
  }

  leads_there : exchanged d edit ≡ e
  unfolding exchanged
  leads_there =
      let members : put_at (placed_from (length front) come) (take_at (placed_from (length front) gone) d.members)
      ≡ e.members =
      ap (put_at (placed_from (length front) come)) left ∙ put_span front come back ∙ sym second in
      let rows : with_rows (without_rows d.others e.others) (without_rows (without_rows e.others d.others) d.others)
      ≡ e.others =
      exchange d.others e.others order later_order in
      λ i. record { bridge_ssrc = sym same i; members = members i; others = rows i }

  pub span_fits : fits d edit ≡ true
  span_fits = fits_from d edit record { before = g; apt = apt; later = ap good leads_there ∙ h }

  pub span_leads : after d edit ≡ e
  span_leads = after_fits d edit span_fits ∙ leads_there

module _ (d e : Desk) (taken put : List Placed) (g : good d ≡ true) (h : good e ≡ true)
    (same : e.bridge_ssrc ≡ d.bridge_ssrc) (x : Exchanges d.members e.members taken put) where
  spelled : between taken put d.others e.others
      ≡ between (placed_from (length x.front) x.gone) (placed_from (length x.front) x.come) d.others e.others
  spelled = λ i. between (x.takes i) (x.puts i) d.others e.others

  -- one edit between two good desks: it fits the first, and leads to the second
  pub between_fits : fits d (between taken put d.others e.others) ≡ true
  between_fits = ap (fits d) spelled ∙ span_fits d e x.front x.gone x.come x.back g h same x.first x.second

  pub between_leads : after d (between taken put d.others e.others) ≡ e
  between_leads = ap (after d) spelled ∙ span_leads d e x.front x.gone x.come x.back g h same x.first x.second

-- the same by the lists and parts that the code has
pub put_together : (d e : Desk) (ms ns : List Member) (rs ss : List Row) (gone come : List Placed) (out in' : List Row)
    (p q : PartOf) (r : ReplacedOf)
    → ms ≡ d.members → ns ≡ e.members → rs ≡ d.others → ss ≡ e.others → Exchanges ms ns gone come
    → out ≡ without_rows ss rs → in' ≡ without_rows rs ss → p ≡ record { members = gone; others = out }
    → q ≡ record { members = come; others = in' } → r ≡ record { old = []; new = [] } → good d ≡ true → good e ≡ true
    → e.bridge_ssrc ≡ d.bridge_ssrc →
    (fits d (record { taken = p; put = q; replaced = r }) ≡ true)
    × (after d (record { taken = p; put = q; replaced = r }) ≡ e)
put_together d e ms ns rs ss gone come out in' p q r ms_is ns_is rs_is ss_is x out_is in_is p_is q_is r_is g h same =
    let y : Exchanges d.members e.members gone come =
    subst (λ l. Exchanges l e.members gone come) ms_is (subst (λ l. Exchanges ms l gone come) ns_is x) in
    let outs_are : out ≡ without_rows e.others d.others = out_is ∙ (λ i. without_rows (ss_is i) (rs_is i)) in
    let ins_are : in' ≡ without_rows d.others e.others = in_is ∙ (λ i. without_rows (rs_is i) (ss_is i)) in
    let first : p ≡ record { members = gone; others = without_rows e.others d.others } =
    p_is ∙ (λ i. record { members = gone; others = outs_are i }) in
    let second : q ≡ record { members = come; others = without_rows d.others e.others } =
    q_is ∙ (λ i. record { members = come; others = ins_are i }) in
    let all : ◌≡◌ {A = EditOf} (record { taken = p; put = q; replaced = r }) (between gone come d.others e.others) =
    λ i. record { taken = first i; put = second i; replaced = r_is i } in (
      ap (fits d) all ∙ between_fits d e gone come g h same y,
      ap (after d) all ∙ between_leads d e gone come g h same y,
    )

pub exchanged_parts : (ms ns first second : List Member) (gone come : List Placed) (out in' : List Row) (p q : PartOf)
    → ms ≡ first → ns ≡ second → p ≡ record { members = gone; others = out }
    → q ≡ record { members = come; others = in' } → Exchanges ms ns gone come
    → Exchanges first second p.members q.members
exchanged_parts ms ns first second gone come out in' p q ms_is ns_is p_is q_is x =
    subst (λ l. Exchanges l second p.members q.members) ms_is
    (subst (λ l. Exchanges ms l p.members q.members) ns_is
    (subst (λ (r : PartOf). Exchanges ms ns r.members q.members) (sym p_is)
    (subst (λ (r : PartOf). Exchanges ms ns gone r.members) (sym q_is) x)))

-- all members of the first go, and all of the second come
all_exchanged : (xs ys : List Member) → Exchanges xs ys (placed_from 0 xs) (placed_from 0 ys)
all_exchanged xs ys = record {
  front = [];
  gone = xs;
  come = ys;
  back = [];
  first = sym (append-nil xs);
  second = sym (append-nil ys);
  takes = refl;
  puts = refl;
}

pub any_to_any : (d e : Desk) → good d ≡ true → good e ≡ true → e.bridge_ssrc ≡ d.bridge_ssrc
    → (edit : EditOf) × (fits d edit ≡ true) × (after d edit ≡ e)
any_to_any d e g h same =
    let x = all_exchanged d.members e.members in (
      between (placed_from 0 d.members) (placed_from 0 e.members) d.others e.others,
      between_fits d e (placed_from 0 d.members) (placed_from 0 e.members) g h same x,
      between_leads d e (placed_from 0 d.members) (placed_from 0 e.members) g h same x,
    )
