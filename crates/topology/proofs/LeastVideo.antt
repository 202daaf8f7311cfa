-- On a good desk the first video source of a member has its least video SSRC.
use Rattle.std.proofs.Common.{◌≡◌, ℕ, ◌≤◌, Bool, true, false, cond, nat_eq, nat_lt, List, [], ◌∷◌, Option, None, Some}
use Rattle.std.proofs.Common.{refl, sym, ap, ◌∙◌, arith}
use Rattle.std.specs.Option.{is_some}
use Rattle.std.specs.Prelude.{option_map}
use Rattle.std.specs.List.{find, list_all}
use Rattle.std.proofs.lemmas.Bool.{and_parts, true≢false}
use Rattle.std.proofs.lemmas.Bool.Decides.{nat_tests}
use Rattle.desk_rows.specs.declared.row.Source.{Source as SourceRow}
use Rattle.desk_rows.specs.Desk.{Desk, good}
use Rattle.topology.specs.Looking.{source_at}
use Rattle.topology.specs.Choice.{sources_of, is_video_of, first_video}
use Rattle.topology.proofs.Distinct.{at}
use Rattle.topology.proofs.Finding.{found_key, of_found}
use Rattle.topology.proofs.Rising.{rises, Found, all_found, apart}
use Rattle.topology.proofs.Parted.{found_passes, none_found}
use Rattle.topology.proofs.KindRows.{source_ssrc, source_row}
use Rattle.topology.proofs.GoodRows.{sources_rise, each}

-- ---- in any list

-- in a list that rises, the first that passes has the least key of those that pass
least_first : {X : Type 0} (key : X → ℕ) (p q : X → Bool) (x y : X) (xs : List X) → rises key xs ≡ true
    → find p xs ≡ Some x → find q xs ≡ Some y → p y ≡ true → key x ≤ key y
least_first key p q x y [] up first other pass = absurd (cc)
least_first key p q x y (z ∷ zs) up first other pass =
    let both = and_parts (list_all (λ w. nat_lt (key z) (key w)) zs) (rises key zs) up in
    by (p z) (q z) refl first other both.0 (λ first other. least_first key p q x y zs both.1 first other pass)
  where
    less : (a b : ℕ) → nat_lt a b ≡ true → a ≤ b
    less a b e = grind (arith, nat_tests)

    by : (b c : Bool) → p z ≡ b → cond b (Some z) (find p zs) ≡ Some x → cond c (Some z) (find q zs) ≡ Some y
        → list_all (λ w. nat_lt (key z) (key w)) zs ≡ true → (find p zs ≡ Some x → find q zs ≡ Some y → key x ≤ key y)
        → key x ≤ key y
    by true true e first other above later =
        (let one : z ≡ x = cc in
        let two : z ≡ y = cc in let same : key x ≡ key y = ap key (sym one ∙ two) in omega arith)
    by true false e first other above later =
        let one : z ≡ x = cc in
        let lower =
        less (key z) (key y)
        (of_found (λ w. nat_lt (key z) (key w) ≡ true) q y zs (each (λ w. nat_lt (key z) (key w)) zs above) other).0 in
        let same : key z ≡ key x = ap key one in
        omega arith
    by false true e first other above later =
        (let two : z ≡ y = cc in let bad : true ≡ false = sym pass ∙ sym (ap p two) ∙ e in absurd (cc))
    by false false e first other above later = later first other

-- ---- on a good desk

-- a source that sends a member's video
pub the_video : (member : ℕ) (o : Option SourceRow) → option_map (is_video_of member) o ≡ Some true
    → (s : SourceRow) × (o ≡ Some s) × (is_video_of member s ≡ true)
the_video member None h = absurd (cc)
the_video member (Some s) h = (s, refl, cc)

the_first : (d : Desk) (member source : ℕ) → first_video d member ≡ Some source
    → (s : SourceRow) × (find (is_video_of member) (sources_of d) ≡ Some s) × (s.ssrc ≡ source)
the_first d member source h = by (find (is_video_of member) (sources_of d)) h
  where
    by : (o : Option SourceRow) → option_map (λ (s : SourceRow). s.ssrc) o ≡ Some source
        → (s : SourceRow) × (o ≡ Some s) × (s.ssrc ≡ source)
    by None h = absurd (cc)
    by (Some s) h = (s, refl, cc)

pub is_video : (d : Desk) (member source : ℕ) → good d ≡ true → first_video d member ≡ Some source
    → option_map (is_video_of member) (source_at d source) ≡ Some true
is_video d member source g h =
    let first = the_first d member source h in
    let told =
    of_found (Found source_ssrc (sources_of d)) (is_video_of member) first.0 (sources_of d)
    (all_found source_ssrc (sources_of d) (sources_rise d g)) first.1 in
    ap (option_map (is_video_of member)) (sym (ap (source_at d) first.2) ∙ source_row d first.0.ssrc ∙ told.0)
    ∙ ap Some told.1

pub is_least : (d : Desk) (member source other : ℕ) → good d ≡ true → first_video d member ≡ Some source
    → option_map (is_video_of member) (source_at d other) ≡ Some true → source ≤ other
is_least d member source other g h video =
    let first = the_first d member source h in
    let its = the_video member (source_at d other) video in
    let there : at source_ssrc other (sources_of d) ≡ Some its.0 = sym (source_row d other) ∙ its.1 in
    let key : its.0.ssrc ≡ other = found_key source_ssrc other its.0 (sources_of d) there in
    let least =
    least_first source_ssrc (is_video_of member) (λ (s : SourceRow). nat_eq s.ssrc other) first.0 its.0 (sources_of d)
    (sources_rise d g) first.1 there its.2 in
    let is = first.2 in
    omega arith

pub there_is_none : (d : Desk) (member other : ℕ) → good d ≡ true → first_video d member ≡ None
    → ¬ (option_map (is_video_of member) (source_at d other) ≡ Some true)
there_is_none d member other g h video =
    let its = the_video member (source_at d other) video in
    let passes =
    found_passes source_ssrc (is_video_of member) other its.0 (sources_of d)
    (apart source_ssrc (sources_of d) (sources_rise d g)) (sym (source_row d other) ∙ its.1) in
    let none =
    none_found (is_video_of member) (sources_of d) (nothing (find (is_video_of member) (sources_of d)) h) in
    true≢false (sym its.2 ∙ passes ∙ ap (λ ss. is_some (at source_ssrc other ss)) none)
  where
    nothing : (o : Option SourceRow) → option_map (λ (s : SourceRow). s.ssrc) o ≡ None → o ≡ None
    nothing None h = refl
    nothing (Some s) h = absurd (cc)
