use Rattle.std.proofs.Common.{◌≡◌, ℤ, List, Option, IfSome, ap, sym, subst, ◌∙◌, is_some}
use Rattle.std.proofs.lemmas.List.{with_items_is}
use Rattle.desk_rows.specs.declared.row.Member.{Member as MemberRow}
use Rattle.desk_rows.specs.Desk.{Desk}
use Rattle.forward_rewrite.specs.Mixes.{PreparedMixOf, format_of}
use Rattle.topology.specs.Looking.{room_rate}
use Rattle.mixer.specs.Hearing.{Voice, member_rate}
use Rattle.mixer.specs.inner.Rooms.{RoomOf, IsRoom}
use Rattle.mixer.specs.inner.Named.{IsHeardOf}
use Rattle.mixer.specs.inner.Ready.{IsPrepared, hears_any}
use Rattle.mixer.proofs.Sounds.{some_then, ok_then}
use Rattle.mixer.proofs.preparing.prepare_for.Goals as goal

pub returns-in-Some-clause-none : goal.returns-in-Some-clause-none
returns-in-Some-clause-none g c =
    let desk = c.args.tick.now.rows.now in
    let member = c.args.member.now in
    let room = c.args.room.now in
    let out = c.listen_in_full.new.samples in
    let shown = c.deref-in-Some.result.now in
    let named = c.in-Some.named in
    let same : shown ≡ out =
    c.deref-in-Some.ensures.value
    ∙ with_items_is c.resize.new.self out (c.listen_in_full.auto.samples ∙ c.deref_mut.ensures.len) in
    ok_then (λ (p : Option PreparedMixOf).
    (d : Desk) (voices : List Voice) (m : MemberRow) → IsHeardOf d voices m shown named
    → is_some p ≡ hears_any d voices m)
    (λ (p : Option PreparedMixOf).
    (voices : List Voice) → IsRoom desk voices room → is_some p ≡ hears_any desk voices member)
    c.prepare_in_full.result
    (λ p none voices is.
    none desk voices member
    (subst (λ (xs : List ℤ). IsHeardOf desk voices member xs named) (sym same) (c.in-Some.ensures.heard voices is)))
    c.prepare_in_full.ensures.none

pub returns-in-Some-clause-some : goal.returns-in-Some-clause-some
returns-in-Some-clause-some g c =
    let desk = c.args.tick.now.rows.now in
    let member = c.args.member.now in
    let room = c.args.room.now in
    let stream = c.args.stream.now in
    let moment = c.args.tick.now.moment in
    let out = c.listen_in_full.new.samples in
    let shown = c.deref-in-Some.result.now in
    let named = c.in-Some.named in
    let format = c.format_of-format.result in
    let same : shown ≡ out =
    c.deref-in-Some.ensures.value
    ∙ with_items_is c.resize.new.self out (c.listen_in_full.auto.samples ∙ c.deref_mut.ensures.len) in
    ok_then (λ (o : Option PreparedMixOf).
    IfSome o (λ p.
    (d : Desk) (voices : List Voice) (m : MemberRow) → IsHeardOf d voices m shown named
    → format ≡ format_of m.codec (member_rate d m) → IsPrepared d voices moment m stream p))
    (λ (o : Option PreparedMixOf).
    IfSome o (λ p. (voices : List Voice) → IsRoom desk voices room → IsPrepared desk voices moment member stream p))
    c.prepare_in_full.result
    (λ o some.
    some_then (λ (p : PreparedMixOf).
    (d : Desk) (voices : List Voice) (m : MemberRow) → IsHeardOf d voices m shown named
    → format ≡ format_of m.codec (member_rate d m) → IsPrepared d voices moment m stream p)
    (λ (p : PreparedMixOf).
    (voices : List Voice) → IsRoom desk voices room → IsPrepared desk voices moment member stream p)
    o
    (λ p prepared voices is.
    prepared desk voices member
    (subst (λ (xs : List ℤ). IsHeardOf desk voices member xs named) (sym same) (c.in-Some.ensures.heard voices is))
    (c.format_of-format.ensures
    ∙ ap (format_of member.codec)
    (ap (λ (r : RoomOf). r.rate) c.room.view_is ∙ is.rate ∙ ap (room_rate desk) c.requires.own)))
    some) c.prepare_in_full.ensures.some
