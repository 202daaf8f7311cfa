-- What the floor of a room shows.
use Rattle.std.proofs.Common.{◌≡◌, ℕ, Bool, true, false, ◌&&◌, nat_eq, Option, None, Some, refl, sym, ap, ◌∙◌, eqb-true}
use Rattle.std.specs.Prelude.{option_map, option_and_then}
use Rattle.std.proofs.lemmas.Bool.{and_parts, eq-eqb, both_ways, false_from_ne_true}
use Rattle.std.proofs.lemmas.Option.{same_Some}
use Rattle.desk_rows.specs.declared.row.Source.{Source as SourceRow}
use Rattle.desk_rows.specs.declared.row.Media.TheVariants.{Video}
use Rattle.desk_rows.specs.Row.{same_media}
use Rattle.desk_rows.specs.Desk.{Desk, good}
use Rattle.topology.specs.Looking.{source_at, is_this, sender_of}
use Rattle.topology.specs.Choice.{first_video}
use Rattle.topology.proofs.Finding.{it_is}
use Rattle.topology.proofs.LeastVideo.{the_video, is_video}

-- a member's first video is its own source
own_first : (d : Desk) (member source n : ℕ) → good d ≡ true → first_video d member ≡ Some source
    → sender_of d source ≡ Some n → nat_eq member n ≡ true
own_first d member source n g first sends =
    let video = the_video member (source_at d source) (is_video d member source g first) in
    let its = same_Some _ n (sym (ap (option_map (λ (s : SourceRow). s.member)) video.1) ∙ sends) in
    let own = and_parts (nat_eq video.0.member member) (same_media video.0.media Video) video.2 in
    eq-eqb member n (sym (eqb-true video.0.member member own.0) ∙ its)

-- so the floor shows a source where the holder is its sender, and it is the first
pub floor_shows : (d : Desk) (source n : ℕ) (o : Option ℕ) → good d ≡ true → sender_of d source ≡ Some n
    → (is_this n o && is_this source (first_video d n)) ≡ is_this source (option_and_then (first_video d) o)
floor_shows d source n None g sends = refl
floor_shows d source n (Some m) g sends = by (nat_eq m n) refl
  where
    by : (b : Bool) → nat_eq m n ≡ b → (b && is_this source (first_video d n)) ≡ is_this source (first_video d m)
    by true e = ap (λ k. is_this source (first_video d k)) (sym (eqb-true m n e))
    by false e =
        sym
        (false_from_ne_true (is_this source (first_video d m)) (λ shows.
        both_ways (nat_eq m n) e (own_first d m source n g (it_is source (first_video d m) shows) sends)))
