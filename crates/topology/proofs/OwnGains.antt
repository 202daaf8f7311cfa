-- A member's own rows tell its gains.
use Rattle.std.proofs.Common.{◌≡◌, ℕ, true, nat_eq, List, [], ◌∷◌, map, length, refl, sym, ap, ◌∙◌, arith}
use Rattle.std.specs.Prelude.{replicate}
use Rattle.std.proofs.lemmas.Bool.{and_parts}
use Rattle.std.proofs.lemmas.Bool.Decides.{nat_tests}
use Rattle.desk_rows.specs.declared.row.Row.{Row}
use Rattle.desk_rows.specs.declared.row.Row.TheVariants.{Gain}
use Rattle.desk_rows.specs.declared.key.Key.TheVariants as keys
use Rattle.desk_rows.specs.Row.{has_key}
use Rattle.desk_rows.specs.Order.{in_order}
use Rattle.desk_rows.specs.Desk.{Desk, good}
use Rattle.desk_rows.specs.laws.OrderLaws.{in_order-filter}
use Rattle.desk_rows.specs.laws.Laws.{good_order}
use Rattle.desk_rows.specs.Naming.{is_gain_of, gains_naming}
use Rattle.topology.specs.declared.hearing.AudioSource.{AudioSource}
use Rattle.topology.specs.Mixes.{full_gain, gain_in, gain_of}
use Rattle.topology.specs.inner.Audible.{gain_among}
use Rattle.topology.proofs.KindRows.{behind_members}
use Rattle.topology.proofs.Heard.{found_among}

own_gain : (member source : ℕ) (r : Row) → has_key (keys.Gain member source) r ≡ true → is_gain_of member r ≡ true
own_gain member source (Gain g) e = (and_parts (nat_eq g.member member) (nat_eq g.source source) e).0
own_gain member source _ e = absurd (cc)

pub own_order : (d : Desk) (member : ℕ) → good d ≡ true → in_order (gains_naming d member) ≡ true
own_order d member g = in_order-filter (is_gain_of member) d.others (good_order d g)

pub told_by_own : (d : Desk) (member source : ℕ)
    → gain_among (gains_naming d member) member source ≡ gain_of d member source
told_by_own d member source =
    ap gain_in (found_among (has_key (keys.Gain member source)) (is_gain_of member) (own_gain member source) d.others
    ∙ sym (behind_members (has_key (keys.Gain member source)) (λ m. refl) d.members d.others))

pub each_by_own : (d : Desk) (member : ℕ) (own : List Row) → own ≡ gains_naming d member → (ss : List AudioSource)
    → map (λ s. gain_among own member s.ssrc) ss ≡ map (λ s. gain_of d member s.ssrc) ss
each_by_own d member own e [] = refl
each_by_own d member own e (s ∷ ss) = λ i.
    (ap (λ rs. gain_among rs member s.ssrc) e ∙ told_by_own d member s.ssrc) i ∷ each_by_own d member own e ss i

pub is_nothing : {X : Type 0} (xs : List X) → nat_eq (length xs) 0 ≡ true → xs ≡ []
is_nothing [] h = refl
is_nothing (x ∷ xs) h = absurd (grind (arith, nat_tests, h))

-- without rows all are full
pub all_full : (d : Desk) (member : ℕ) (own : List Row) → own ≡ gains_naming d member → own ≡ []
    → (n : ℕ) (ss : List AudioSource) → n ≡ length ss → replicate n full_gain ≡ map (λ s. gain_of d member s.ssrc) ss
all_full d member own e none n [] h = ap (λ n. replicate n full_gain) h
all_full d member own e none n (s ∷ ss) h =
    ap (λ n. replicate n full_gain) h
    ∙ (λ i.
    (ap (λ rs. gain_among rs member s.ssrc) (sym none ∙ e) ∙ told_by_own d member s.ssrc) i
    ∷ all_full d member own e none (length ss) ss refl i)
