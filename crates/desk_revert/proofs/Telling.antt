-- The keys of what comes and goes, read off the difference of two desks.
use Rattle.std.specs.Prelude.{◌&&◌, ◌||◌, ◌∷◌, ◌++◌}
use Rattle.desk_rows.specs.laws.Words.{◌≡◌, ℕ, Bool, true, false, not, cond, List, [], map, filter, length, refl, sym}
use Rattle.desk_rows.specs.laws.Words.{ap}
use Rattle.desk_rows.specs.laws.Words.{◌∙◌, or_left, or_right, inl, inr, cases_Bool, filter-append, list_any}
use Rattle.desk_rows.specs.laws.Words.{list_any-append, append-nil, key_of, has_key, is_in, same_row, without_rows}
use Rattle.desk_rows.specs.laws.Words.{Desk, rows_of, arith, append_assoc, ◌+◌}
use Rattle.std.proofs.lemmas.List.{map-append}
use Rattle.desk_rows.specs.laws.Equal.{same_row_is, row_itself, key_itself}
use Rattle.desk_rows.specs.declared.edit.Placed.{Placed}
use Rattle.desk_rows.specs.declared.key.Key.{Key}
use Rattle.desk_rows.specs.declared.key.Key.TheVariants as keys
use Rattle.desk_rows.specs.declared.row.Member.{Member as MemberOf}
use Rattle.desk_rows.specs.declared.row.Row.{Row}
use Rattle.desk_rows.specs.declared.row.Row.TheVariants.{Member}
use Rattle.desk_edit.specs.Refusals.{has}
use Rattle.desk_edit.specs.AsIf.{is_moved, is_standing, moved_keys}
use Rattle.desk_revert.specs.Spans.{placed_from, Exchanges}

-- the keys of members at their places
abbrev pub key_at : Placed → Key
key_at p = keys.Member p.row.member

keys_of_span : (n : ℕ) (ms : List MemberOf) → map key_at (placed_from n ms) ≡ map key_of (map Member ms)
keys_of_span n [] = refl
keys_of_span n (m ∷ ms) = ap (λ ks. keys.Member m.member ∷ ks) (keys_of_span (n + 1) ms)

-- a row that is there has its key there
keyed : (r : Row) (xs : List Row) → is_in xs r ≡ true → list_any (has_key (key_of r)) xs ≡ true
keyed r [] h = absurd cc
keyed r (x ∷ xs) h = elim (cases_Bool (same_row r x)) [
  | inl e ↦
      or_left _ _ (ap (λ z. has_key (key_of r) z) (sym (same_row_is r x e)) ∙ key_itself (key_of r))
  | inr e ↦ or_right _ _ (keyed r xs (sym (ap (λ b. b || is_in xs r) e) ∙ h))
]

-- rows of which no key passes
none_told : (p : Key → Bool) (xs : List Row) → ((r : Row) → is_in xs r ≡ true → p (key_of r) ≡ false)
    → filter p (map key_of xs) ≡ []
none_told p [] none = refl
none_told p (x ∷ xs) none =
    ap (λ b. cond b (key_of x ∷ filter p (map key_of xs)) (filter p (map key_of xs)))
    (none x (or_left _ _ (row_itself x)))
    ∙ none_told p xs (λ r one. none r (or_right _ _ one))

-- rows that are left out have no key that passes
left_out : (p : Key → Bool) (ys xs : List Row)
    → ((r : Row) → is_in xs r ≡ true → is_in ys r ≡ true → p (key_of r) ≡ false)
    → filter p (map key_of xs) ≡ filter p (map key_of (without_rows ys xs))
left_out p ys [] none = refl
left_out p ys (x ∷ xs) none =
    let rest = left_out p ys xs (λ r one other. none r (or_right _ _ one) other) in
    elim (cases_Bool (is_in ys x)) [
      | inl e ↦
          ap (λ b. cond b (key_of x ∷ filter p (map key_of xs)) (filter p (map key_of xs)))
          (none x (or_left _ _ (row_itself x)) e)
          ∙ rest
          ∙ sym (ap (λ b. filter p (map key_of (cond (not b) (x ∷ without_rows ys xs) (without_rows ys xs)))) e)
      | inr e ↦
          ap (λ ks. cond (p (key_of x)) (key_of x ∷ ks) ks) rest
          ∙ sym (ap (λ b. filter p (map key_of (cond (not b) (x ∷ without_rows ys xs) (without_rows ys xs)))) e)
    ]

-- ---- of two desks

abbrev pub told : Desk → Desk → Key → Bool
told d e key = is_standing key && is_moved d e key

stays : (a b : Bool) (s : Bool) → a ≡ true → b ≡ true → (s && cond a (not b) b) ≡ false
stays a b s one two = grind (arith, one, two)

-- a row on both desks is no news
both_have : (d e : Desk) (r : Row) → is_in (rows_of d) r ≡ true → is_in (rows_of e) r ≡ true
    → told d e (key_of r) ≡ false
both_have d e r one two =
    stays (has d (key_of r)) (has e (key_of r)) (is_standing (key_of r)) (keyed r (rows_of d) one)
    (keyed r (rows_of e) two)

in_first : (r : Row) (xs ys : List Row) → is_in xs r ≡ true → is_in (xs ++ ys) r ≡ true
in_first r xs ys h = list_any-append (same_row r) xs ys ∙ or_left _ _ h

in_second : (r : Row) (xs ys : List Row) → is_in ys r ≡ true → is_in (xs ++ ys) r ≡ true
in_second r xs ys h = list_any-append (same_row r) xs ys ∙ or_right _ _ h

in_span : (r : Row) (front span back : List MemberOf) (all : List MemberOf) → all ≡ front ++ (span ++ back)
    → is_in (map Member front) r ≡ true → is_in (map Member all) r ≡ true
in_span r front span back all is h =
    ap (λ ms. is_in (map Member ms) r) is
    ∙ ap (λ rs. is_in rs r) (map-append Member front (span ++ back))
    ∙ in_first r (map Member front) (map Member (span ++ back)) h

in_back : (r : Row) (front span back : List MemberOf) (all : List MemberOf) → all ≡ front ++ (span ++ back)
    → is_in (map Member back) r ≡ true → is_in (map Member all) r ≡ true
in_back r front span back all is h =
    ap (λ ms. is_in (map Member ms) r) is
    ∙ ap (λ rs. is_in rs r)
    (map-append Member front (span ++ back) ∙ ap (λ rs. map Member front ++ rs) (map-append Member span back))
    ∙ in_second r (map Member front) (map Member span ++ map Member back)
    (in_second r (map Member span) (map Member back) h)

-- of a list of rows the keys that pass, part by part
parted : (p : Key → Bool) (xs ys : List Row)
    → filter p (map key_of (xs ++ ys)) ≡ filter p (map key_of xs) ++ filter p (map key_of ys)
parted p xs ys =
    ap (filter p) (map-append key_of xs ys) ∙ filter-append p (map key_of xs) (map key_of ys)

-- only those of the span
of_span : (p : Key → Bool) (front span back : List MemberOf)
    → ((r : Row) → is_in (map Member front) r ≡ true → p (key_of r) ≡ false)
    → ((r : Row) → is_in (map Member back) r ≡ true → p (key_of r) ≡ false)
    → filter p (map key_of (map Member (front ++ (span ++ back)))) ≡ filter p (map key_of (map Member span))
of_span p front span back no_front no_back =
    ap (λ rs. filter p (map key_of rs))
    (map-append Member front (span ++ back) ∙ ap (λ rs. map Member front ++ rs) (map-append Member span back))
    ∙ parted p (map Member front) (map Member span ++ map Member back)
    ∙ (λ i. none_told p (map Member front) no_front i ++ parted p (map Member span) (map Member back) i)
    ∙ ap (λ ks. filter p (map key_of (map Member span)) ++ ks) (none_told p (map Member back) no_back)
    ∙ append-nil (filter p (map key_of (map Member span)))

module _ (d e : Desk) (taken put : List Placed) (x : Exchanges d.members e.members taken put) where
  in_members : (f : Desk) (r : Row) → is_in (map Member f.members) r ≡ true → is_in (rows_of f) r ≡ true
  in_members f r h = in_first r (map Member f.members) f.others h

  in_others : (f : Desk) (r : Row) → is_in f.others r ≡ true → is_in (rows_of f) r ≡ true
  in_others f r h = in_second r (map Member f.members) f.others h

  no_front : (r : Row) → is_in (map Member x.front) r ≡ true → told d e (key_of r) ≡ false
  no_front r h =
      both_have d e r (in_members d r (in_span r x.front x.gone x.back d.members x.first h))
      (in_members e r (in_span r x.front x.come x.back e.members x.second h))

  no_back : (r : Row) → is_in (map Member x.back) r ≡ true → told d e (key_of r) ≡ false
  no_back r h =
      both_have d e r (in_members d r (in_back r x.front x.gone x.back d.members x.first h))
      (in_members e r (in_back r x.front x.come x.back e.members x.second h))

  gone_members : filter (told d e) (map key_at taken) ≡ filter (told d e) (map key_of (map Member d.members))
  gone_members =
      ap (λ ps. filter (told d e) (map key_at ps)) x.takes
      ∙ ap (filter (told d e)) (keys_of_span (length x.front) x.gone)
      ∙ sym (of_span (told d e) x.front x.gone x.back no_front no_back)
      ∙ sym (ap (λ ms. filter (told d e) (map key_of (map Member ms))) x.first)

  come_members : filter (told d e) (map key_at put) ≡ filter (told d e) (map key_of (map Member e.members))
  come_members =
      ap (λ ps. filter (told d e) (map key_at ps)) x.puts
      ∙ ap (filter (told d e)) (keys_of_span (length x.front) x.come)
      ∙ sym (of_span (told d e) x.front x.come x.back no_front no_back)
      ∙ sym (ap (λ ms. filter (told d e) (map key_of (map Member ms))) x.second)

  gone_others : filter (told d e) (map key_of (without_rows e.others d.others))
      ≡ filter (told d e) (map key_of d.others)
  gone_others =
      sym (left_out (told d e) e.others d.others (λ r one other. both_have d e r (in_others d r one) (in_others e r
      other)))

  come_others : filter (told d e) (map key_of (without_rows d.others e.others))
      ≡ filter (told d e) (map key_of e.others)
  come_others =
      sym (left_out (told d e) d.others e.others (λ r one other. both_have d e r (in_others d r other) (in_others e r
      one)))

-- the keys that the four lists of a difference tell are all
pub all_told : (d e : Desk) (taken put : List Placed) (out in' : List Row) (a b c f : List Key)
    → Exchanges d.members e.members taken put → out ≡ without_rows e.others d.others
    → in' ≡ without_rows d.others e.others → a ≡ filter (told d e) (map key_at taken)
    → b ≡ filter (told d e) (map key_of out) → c ≡ filter (told d e) (map key_at put)
    → f ≡ filter (told d e) (map key_of in') → ((a ++ b) ++ c) ++ f ≡ moved_keys d e
all_told d e taken put out in' a b c f x out_is in_is a_is b_is c_is f_is =
    let p = told d e in
    let first = a_is ∙ gone_members d e taken put x in
    let second = b_is ∙ ap (λ rs. filter p (map key_of rs)) out_is ∙ gone_others d e taken put x in
    let third = c_is ∙ come_members d e taken put x in
    let fourth = f_is ∙ ap (λ rs. filter p (map key_of rs)) in_is ∙ come_others d e taken put x in
    let ms = map Member d.members in
    let ns = map Member e.members in
    (λ i. ((first i ++ second i) ++ third i) ++ fourth i)
    ∙ (λ i. (sym (parted p ms d.others) i ++ filter p (map key_of ns)) ++ filter p (map key_of e.others))
    ∙ append_assoc (filter p (map key_of (ms ++ d.others))) (filter p (map key_of ns)) (filter p (map key_of e.others))
    ∙ ap (λ ks. filter p (map key_of (ms ++ d.others)) ++ ks) (sym (parted p ns e.others))
    ∙ sym (parted p (ms ++ d.others) (ns ++ e.others))
