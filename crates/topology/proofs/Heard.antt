-- The sources that may be heard, seated at their members' places, are those of the members in their order.
use Rattle.std.proofs.Common.{◌≡◌, ℕ, ◌<◌, Bool, true, false, cond, not, ◌&&◌, nat_eq, List, [], ◌∷◌, map, length}
use Rattle.std.proofs.Common.{Option, None, Some, refl, sym, ap, subst, ◌∙◌}
use Rattle.std.specs.Prelude.{filter, option_and_then}
use Rattle.std.specs.Option.{is_some}
use Rattle.std.specs.List.{All, find, filter_map, cons_option, flat_map}
use Rattle.std.proofs.lemmas.List.Elements.{filter_agree}
use Rattle.desk_rows.specs.declared.row.Row.{Row}
use Rattle.desk_rows.specs.declared.row.Row.TheVariants.{Source, Mute}
use Rattle.desk_rows.specs.declared.row.Member.{Member as MemberRow}
use Rattle.desk_rows.specs.declared.row.Source.{Source as SourceRow}
use Rattle.desk_rows.specs.declared.row.Media.TheVariants.{Audio}
use Rattle.desk_rows.specs.declared.key.Kind.TheVariants as kinds
use Rattle.desk_rows.specs.declared.key.Key.TheVariants as keys
use Rattle.desk_rows.specs.Row.{same_media, has_key}
use Rattle.desk_rows.specs.Kinds.{is_of}
use Rattle.desk_rows.specs.Order.{in_order}
use Rattle.desk_rows.specs.Desk.{Desk, good}
use Rattle.desk_rows.specs.laws.OrderLaws.{in_order-filter}
use Rattle.desk_rows.specs.laws.Laws.{good_order}
use Rattle.topology.specs.declared.hearing.AudioSource.{AudioSource}
use Rattle.topology.specs.declared.seating.Seated.{Seated}
use Rattle.topology.specs.Looking.{source_in, is_muted}
use Rattle.topology.specs.Choice.{sources_of}
use Rattle.topology.specs.Mixes.{is_audible, audio_source, audio_sources}
use Rattle.topology.specs.inner.Seating.{seat, by_members, by_places}
use Rattle.topology.specs.inner.Audible.{is_muted_in, unmuted_seat, audible_seat}
use Rattle.topology.proofs.KindRows.{is_source, its_source, of_kind, behind_members}
use Rattle.topology.proofs.Parted.{filter-and, found_same}
use Rattle.topology.proofs.Seats.{seats_within, seated_in_order}

-- what is found among those that pass another test too
pub found_among : (p q : Row → Bool) → ((r : Row) → p r ≡ true → q r ≡ true) → (rs : List Row)
    → find p (filter q rs) ≡ find p rs
found_among p q passes rs =
    found_same p (filter q rs) rs
    (sym (filter-and p q rs) ∙ filter_agree (λ r. p r && q r) p (λ r. by r (p r) refl) rs)
  where
    by : (r : Row) (b : Bool) → p r ≡ b → (b && q r) ≡ b
    by r true e = passes r e
    by r false e = refl

-- ---- who is heard

abbrev pub sender : SourceRow → ℕ
sender s = s.member

-- an audio source that isn't muted
abbrev pub is_heard : Desk → SourceRow → Bool
is_heard d s = same_media s.media Audio && not (is_muted d s.ssrc)

-- the rows of mutes tell who is muted
mute_kind : (k : ℕ) (r : Row) → has_key (keys.Mute k) r ≡ true → is_of kinds.Mute r ≡ true
mute_kind k (Mute r) e = refl
mute_kind k _ e = absurd (cc)

abbrev pub mutes_of : Desk → List Row
mutes_of d = filter (is_of kinds.Mute) d.others

told_by_mutes : (d : Desk) (k : ℕ) → is_muted_in (mutes_of d) k ≡ is_muted d k
told_by_mutes d k =
    ap is_some (found_among (has_key (keys.Mute k)) (is_of kinds.Mute) (mute_kind k) d.others
    ∙ sym (behind_members (has_key (keys.Mute k)) (λ m. refl) d.members d.others))

-- the seat of a source that may be heard
abbrev heard_seat : Desk → SourceRow → Option (Seated AudioSource)
heard_seat d s = cond (same_media s.media Audio) (unmuted_seat d (mutes_of d) s) None

seat_heard : (d : Desk) (s : SourceRow) → heard_seat d s ≡ cond (is_heard d s) (seat sender audio_source d s) None
seat_heard d s =
    ap (λ b. cond (same_media s.media Audio) (cond b None (seat sender audio_source d s)) None) (told_by_mutes d s.ssrc)
    ∙ by (same_media s.media Audio) (is_muted d s.ssrc)
  where
    by : (a b : Bool)
        → cond a (cond b None (seat sender audio_source d s)) None
        ≡ cond (a && not b) (seat sender audio_source d s) None
    by true true = refl
    by true false = refl
    by false b = refl

-- what f gives of those that pass
passing : {X Y : Type 0} (p : X → Bool) (f g : X → Option Y) → ((x : X) → g x ≡ cond (p x) (f x) None) → (xs : List X)
    → filter_map g xs ≡ filter_map f (filter p xs)
passing p f g same [] = refl
passing p f g same (x ∷ xs) =
    ap (λ o. cons_option o (filter_map g xs)) (same x)
    ∙ ap (cons_option (cond (p x) (f x) None)) (passing p f g same xs)
    ∙ by (p x)
  where
    by : (b : Bool)
        → cons_option (cond b (f x) None) (filter_map f (filter p xs))
        ≡ filter_map f (cond b (x ∷ filter p xs) (filter p xs))
    by true = refl
    by false = refl

-- from the rows of sources
of_row : (d : Desk) (r : Row) (s : SourceRow) → source_in r ≡ Some s → audible_seat d (mutes_of d) r ≡ heard_seat d s
of_row d r s e = ap (audible_seat d (mutes_of d)) (its_source r s e) ∙ by (same_media s.media Audio)
  where
    by : (b : Bool)
        → option_and_then (unmuted_seat d (mutes_of d)) (cond b (Some s) None)
        ≡ cond b (unmuted_seat d (mutes_of d) s) None
    by true = refl
    by false = refl

seats_heard : (d : Desk)
    → filter_map (audible_seat d (mutes_of d)) (filter (is_of kinds.Source) d.others)
    ≡ filter_map (seat sender audio_source d) (filter (is_heard d) (sources_of d))
seats_heard d =
    of_kind source_in (is_of kinds.Source) (audible_seat d (mutes_of d)) (heard_seat d) is_source (of_row d) d.others
    ∙ passing (is_heard d) (seat sender audio_source d) (heard_seat d) (seat_heard d) (sources_of d)

-- member by member
of_members : (d : Desk) (ms : List MemberRow)
    → by_members sender audio_source ms (filter (is_heard d) (sources_of d))
    ≡ flat_map (λ m. map (audio_source m) (filter (is_audible d m) (sources_of d))) ms
of_members d ms =
    (λ k.
    flat_map
    (λ m. map (audio_source m) (sym (filter-and (λ s. nat_eq s.member m.member) (is_heard d) (sources_of d)) k))
    ms)

pub all_heard : (d : Desk) → good d ≡ true
    → by_places (length d.members) (filter_map (audible_seat d (mutes_of d)) (filter (is_of kinds.Source) d.others))
    ≡ audio_sources d
all_heard d g =
    ap (by_places (length d.members)) (seats_heard d)
    ∙ seated_in_order sender audio_source d (filter (is_heard d) (sources_of d)) g
    ∙ of_members d d.members

pub heard_within : (d : Desk)
    → All (λ t. t.place < length d.members)
    (filter_map (audible_seat d (mutes_of d)) (filter (is_of kinds.Source) d.others))
heard_within d =
    subst (All (λ (t : Seated AudioSource). t.place < length d.members)) (sym (seats_heard d))
    (seats_within sender audio_source d (filter (is_heard d) (sources_of d)))

pub mutes_order : (d : Desk) → good d ≡ true → in_order (mutes_of d) ≡ true
mutes_order d g = in_order-filter (is_of kinds.Mute) d.others (good_order d g)
