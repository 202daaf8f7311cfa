-- Rows that are put one after another, each behind those that it names, make a desk.
use Rattle.std.specs.Prelude.{◌≡◌, ◌+◌, ◌&&◌, ◌||◌, ◌∷◌, ◌++◌}
use Rattle.desk_rows.specs.laws.Words.{ℕ, nat_le, Bool, true, false, not, cond, List, [], map, filter, count_by, None}
use Rattle.desk_rows.specs.laws.Words.{inl, inr, refl, sym, ap, ◌∙◌, arith, append_assoc, append-nil, list_any}
use Rattle.desk_rows.specs.laws.Words.{list_all}
use Rattle.desk_rows.specs.laws.Words.{list_any-append, and_parts, or_parts, cases_Bool}
use Rattle.desk_rows.specs.laws.Words.{key_of, has_key, is_of, precedes, in_order, is_in, with_row, same_row, Desk}
use Rattle.desk_rows.specs.laws.Words.{good}
use Rattle.desk_rows.specs.laws.Words.{rows_of}
use Rattle.desk_rows.specs.declared.row.Row.{Row}
use Rattle.desk_rows.specs.declared.row.Member.{Member as MemberRow}
use Rattle.desk_rows.specs.declared.key.Key.{Key}
use Rattle.desk_rows.specs.laws.Equal.{same_row_is, row_itself}
use Rattle.desk_rows.specs.laws.ListLaws.{true_false, count_by-append, count_next, none_pass, count_yes, count_some}
use Rattle.desk_rows.specs.laws.ListLaws.{filter_all}
use Rattle.desk_rows.specs.laws.OrderLaws.{count_by-with_rows, at_each, one_way}
use Rattle.desk_rows.specs.laws.Laws.{good_order}
use Rattle.desk_edit.specs.Forms.{form_of}
use Rattle.desk_edit.specs.Commands.{with_put, desk_led}
use Rattle.desk_edit.specs.Refusals.{has, first_case, cases_of}
use Rattle.desk_rows.specs.declared.row.Row.TheVariants as rows
use Rattle.desk_rows.specs.declared.key.Kind.TheVariants as kinds
use Rattle.desk_edit.specs.declared.command.Command.{Command}
use Rattle.desk_edit.specs.declared.command.Form.{Form}
use Rattle.desk_edit.specs.declared.command.Form.TheVariants.{Put}
use Rattle.desk_edit.specs.Commands.{desk_after}
use Rattle.desk_edit.specs.Groups.{desk_after_all}
use Rattle.desk_edit.specs.Refusals.{reason_against, refused}
use Rattle.desk_edit.specs.Reasons.{refusal_for}
use Rattle.std.specs.Prelude.{option_map}
use Rattle.desk_groups.specs.Making.{command_for}
use Rattle.desk_groups.specs.inner.Ranked.{level_of, levels_rise, members_among, AcceptsAll}
use Rattle.desk_groups.proofs.RowLemmas.{rows_count}
use Rattle.desk_groups.proofs.Freedom.{nothing_against, new_key}

-- a command that is not refused leaves a good desk
abbrev pub KeepsGood : Type 0
KeepsGood =
    (d : Desk) (command : Command) → good d ≡ true → refused d command ≡ None → good (desk_after d command) ≡ true

-- ---- two lists in order of which any test counts as many are one

-- an element of one list that is in order is in the other
there : (x : Row) (xs ys : List Row) → ((p : Row → Bool) → count_by p (x ∷ xs) ≡ count_by p ys) → is_in ys x ≡ true
there x xs ys same =
    let own = count_yes (same_row x) x xs (row_itself x) in
    count_some (same_row x) ys (omega (arith, own, same (same_row x)))

heads : (x y : Row) (xs ys : List Row) → list_all (precedes x) xs ≡ true → list_all (precedes y) ys ≡ true
    → is_in (y ∷ ys) x ≡ true → is_in (x ∷ xs) y ≡ true → x ≡ y
heads x y xs ys a b one two = elim (cases_Bool (same_row x y)) [
  | inl e ↦ same_row_is x y e
  | inr e ↦ elim (cases_Bool (same_row y x)) [
    | inl f ↦ sym (same_row_is y x f)
    | inr f ↦
        let later : is_in ys x ≡ true = sym (ap (λ b. b || is_in ys x) e) ∙ one in
        let earlier : is_in xs y ≡ true = sym (ap (λ b. b || is_in xs y) f) ∙ two in
        absurd (true_false (sym (at_each (precedes x) xs y a earlier)
        ∙ one_way y x (at_each (precedes y) ys x b later)))
  ]
]

pub one_list : (xs ys : List Row) → in_order xs ≡ true → in_order ys ≡ true
    → ((p : Row → Bool) → count_by p xs ≡ count_by p ys) → xs ≡ ys
one_list [] [] h k same = refl
one_list [] (y ∷ ys) h k same = absurd (true_false (sym (there y ys [] (λ p. sym (same p)))))
one_list (x ∷ xs) [] h k same = absurd (true_false (sym (there x xs [] same)))
one_list (x ∷ xs) (y ∷ ys) h k same =
    let a = and_parts (list_all (precedes x) xs) (in_order xs) h in
    let b = and_parts (list_all (precedes y) ys) (in_order ys) k in
    let head : x ≡ y =
    heads x y xs ys a.0 b.0 (there x xs (y ∷ ys) same) (there y ys (x ∷ xs) (λ p. sym (same p))) in
    let rest : xs ≡ ys =
    one_list xs ys a.1 b.1 (λ p.
    let one : count_by p (y ∷ xs) ≡ count_by p (y ∷ ys) = ap (λ z. count_by p (z ∷ xs)) (sym head) ∙ same p in
    omega (arith, one, count_next p y xs, count_next p y ys)) in
    λ i. head i ∷ rest i

-- two good desks with the same rows, members in their order, are one
pub same_desk : (d t : Desk) → good d ≡ true → good t ≡ true → d.bridge_ssrc ≡ t.bridge_ssrc → d.members ≡ t.members
    → ((p : Row → Bool) → count_by p (rows_of d) ≡ count_by p (rows_of t)) → d ≡ t
same_desk d t g h ssrc members same =
    let others : d.others ≡ t.others =
    one_list d.others t.others (good_order d g) (good_order t h) (λ p.
    let alike = ap (λ (ms : List MemberRow). count_by (λ m. p (rows.Member m)) ms) members in
    omega (arith, rows_count p d, rows_count p t, alike, same p)) in
    λ i. record { bridge_ssrc = ssrc i; members = members i; others = others i }

-- ---- a row is put

form_is : (r : Row) → form_of (command_for r) ≡ Put r
form_is (rows.Room r) = refl
form_is r = refl

puts : (d : Desk) (r : Row) → desk_after d (command_for r) ≡ with_put d r
unfolding desk_after
puts d r = ap (desk_led d) (form_is r)

none_goes : (d : Desk) (k : Key) → has d k ≡ false → filter (λ x. not (has_key k x)) d.others ≡ d.others
none_goes d k new =
    let both =
    or_parts (list_any (has_key k) (map rows.Member d.members)) (list_any (has_key k) d.others)
    (sym (list_any-append (has_key k) (map rows.Member d.members) d.others) ∙ new) in
    filter_all (λ x. not (has_key k x)) d.others (none_pass (has_key k) d.others both.1)

put_other : (d : Desk) (r : Row) → not (is_of kinds.Member r) ≡ true
    → with_put d r ≡ record d { others = with_row r (filter (λ x. not (has_key (key_of r) x)) d.others) }
put_other d (rows.Member m) h = absurd (true_false (sym h))
put_other d r h = refl

one_more : (d : Desk) (r : Row) (p : Row → Bool)
    → count_by p (rows_of (record d { others = with_row r d.others })) ≡ count_by p (rows_of d) + cond (p r) 1 0
one_more d r p =
    let now = rows_count p (record d { others = with_row r d.others }) in
    let more : count_by p (with_row r d.others) ≡ count_by p (r ∷ []) + count_by p d.others =
    count_by-with_rows p (r ∷ []) d.others in
    let one = count_next p r [] in
    omega (arith, rows_count p d, now, more, one)

other_counts : (d : Desk) (r : Row) → not (is_of kinds.Member r) ≡ true → has d (key_of r) ≡ false → (p : Row → Bool)
    → count_by p (rows_of (with_put d r)) ≡ count_by p (rows_of d) + cond (p r) 1 0
other_counts d r plain new p =
    let is : with_put d r ≡ record d { others = with_row r d.others } =
    put_other d r plain
    ∙ ap (λ (xs : List Row). record d { others = with_row r xs }) (none_goes d (key_of r) new) in
    ap (λ (x : Desk). count_by p (rows_of x)) is ∙ one_more d r p

put_counts : (d : Desk) (r : Row) → has d (key_of r) ≡ false → (p : Row → Bool)
    → count_by p (rows_of (with_put d r)) ≡ count_by p (rows_of d) + cond (p r) 1 0
put_counts d (rows.Member m) new p =
    let now = rows_count p (with_put d (rows.Member m)) in
    let more = count_by-append (λ x. p (rows.Member x)) d.members (m ∷ []) in
    let one = count_next (λ x. p (rows.Member x)) m [] in
    omega (arith, rows_count p d, now, more, one)
put_counts d r new p = other_counts d r refl new p

put_members : (d : Desk) (r : Row) (later : List Row)
    → (with_put d r).members ++ members_among later ≡ d.members ++ members_among (r ∷ later)
put_members d (rows.Member m) later = append_assoc d.members (m ∷ []) (members_among later)
put_members d r later = refl

put_ssrc : (d : Desk) (r : Row) → (with_put d r).bridge_ssrc ≡ d.bridge_ssrc
put_ssrc d (rows.Member m) = refl
put_ssrc d r = refl

-- ---- all

-- with these rows behind it the desk has the rows of the other, members in their order
pub record IsPart (d t : Desk) (rs : List Row) : Type 0 where
  pub good : good d ≡ true
  pub ssrc : d.bridge_ssrc ≡ t.bridge_ssrc
  pub members : d.members ++ members_among rs ≡ t.members
  pub counts : (p : Row → Bool) → count_by p (rows_of d) + count_by p rs ≡ count_by p (rows_of t)

pub record Makes (d : Desk) (commands : List Command) (t : Desk) : Type 0 where
  pub accepted : AcceptsAll d commands
  pub leads : desk_after_all d commands ≡ t

module _ (keeps : KeepsGood) (t : Desk) (h : good t ≡ true) where
  allowed : (d : Desk) (r : Row) (later : List Row) → IsPart d t (r ∷ later)
      → list_all (λ x. nat_le (level_of r) (level_of x)) later ≡ true
      → (reason_against d (command_for r) ≡ None) × (refused d (command_for r) ≡ None)
  unfolding reason_against refused
  allowed d r later part lowest =
      let free = nothing_against d t r later part.good h part.ssrc part.counts lowest in
      let none = ap (λ (f : Form). first_case (cases_of d f)) (form_is r) ∙ free in
      (none, ap (option_map refusal_for) none)

  next_part : (d : Desk) (r : Row) (later : List Row) (e : Desk) → e ≡ with_put d r → good e ≡ true
      → has d (key_of r) ≡ false → IsPart d t (r ∷ later) → IsPart e t later
  next_part d r later e is ok new part = record {
    good = ok;
    ssrc = ap (λ (x : Desk). x.bridge_ssrc) is ∙ put_ssrc d r ∙ part.ssrc;
    members = ap (λ (x : Desk). x.members ++ members_among later) is ∙ put_members d r later ∙ part.members;
    counts = λ p.
        let now = ap (λ (x : Desk). count_by p (rows_of x)) is in
        omega (arith, now, put_counts d r new p, count_next p r later, part.counts p);
  }

  pub makes : (rs : List Row) (d : Desk) → levels_rise rs ≡ true → IsPart d t rs → Makes d (map command_for rs) t
  makes [] d rise part = record {
    accepted = tt;
    leads =
        same_desk d t part.good h part.ssrc (sym (append-nil d.members) ∙ part.members) (λ p.
        omega (arith, part.counts p));
  }
  makes (r ∷ rs) d rise part =
      let both = and_parts (list_all (λ x. nat_le (level_of r) (level_of x)) rs) (levels_rise rs) rise in
      let free = allowed d r rs part both.0 in
      let new = new_key d t r rs part.good h part.ssrc part.counts both.0 in
      let ok = keeps d (command_for r) part.good free.1 in
      let rest =
      makes rs (desk_after d (command_for r)) both.1
      (next_part d r rs (desk_after d (command_for r)) (puts d r) ok new part) in
      record { accepted = (free.0, rest.accepted); leads = rest.leads }
