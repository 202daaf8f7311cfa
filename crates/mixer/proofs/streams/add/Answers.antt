use Rattle.std.proofs.Common.{◌≡◌, List, Option, ap, sym, subst, ◌∙◌, ◌++◌, ◌∷◌, [], append-nil, cond, true, false}
use Rattle.std.proofs.Common.{is_some, IfSome}
use Rattle.std.proofs.lemmas.List.{map_push}
use Rattle.mixer.specs.Hearing.{Voice}
use Rattle.std.specs.List.{AllByRecursion}
use Rattle.mixer.specs.inner.Rooms.{IsRoom}
use Rattle.mixer.specs.inner.Ready.{ReadyOf, IsReady, hears_any, members_of}
use Rattle.mixer.proofs.StreamSteps.{all-push, all-at}
use Rattle.mixer.proofs.streams.add.Goals as goal

pub returns-in_ok-push-clause-ready : goal.returns-in_ok-push-clause-ready
returns-in_ok-push-clause-ready g c all =
    let voices = c.args.tick.now.voices.now in
    let P = IsReady c.args.tick.now.rows.now voices c.args.tick.now.moment c.args.tick.now.streams.now.entries in
    let room : IsRoom c.args.tick.now.rows.now voices c.index.result.now =
    subst (IsRoom c.args.tick.now.rows.now voices) (sym c.index.ensures) (all-at
    (IsRoom c.args.tick.now.rows.now voices) c.place_of.new.rooms.items c.in_ok-place.place _
    c.in_ok-place.ensures.rooms c.in_ok-place.ensures.within) in
    subst (λ (rs : List ReadyOf). AllByRecursion P rs) (sym c.in_ok-push.ensures.items)
    (all-push P c.args.ready.now.items c.in-Some.one all
    ((subst
    (λ (o : Option ReadyOf).
    IfSome o (λ r.
    (r.member ≡ c.args.member.now)
    × ((vs : List Voice) → IsRoom c.args.tick.now.rows.now vs c.index.result.now
    → IsReady c.args.tick.now.rows.now vs c.args.tick.now.moment c.args.tick.now.streams.now.entries r)))
    c.in-Some.is c.in_ok-one.ensures.some).1
    voices room))

pub returns-in_default-clause-members : goal.returns-in_default-clause-members
returns-in_default-clause-members g c =
    let voices = c.args.tick.now.voices.now in
    let m = c.args.member.now in
    let room : IsRoom c.args.tick.now.rows.now voices c.index.result.now =
    subst (IsRoom c.args.tick.now.rows.now voices) (sym c.index.ensures) (all-at
    (IsRoom c.args.tick.now.rows.now voices) c.place_of.new.rooms.items c.in_ok-place.place _
    c.in_ok-place.ensures.rooms c.in_ok-place.ensures.within) in
    let silent : false ≡ hears_any c.args.tick.now.rows.now voices m =
    sym (ap is_some c.in_default.is) ∙ c.in_ok-one.ensures.none voices room in
    sym (append-nil (members_of c.args.ready.now.items))
    ∙ ap (λ b. members_of c.args.ready.now.items ++ cond b (m ∷ []) []) silent

pub returns-in_ok-push-clause-members : goal.returns-in_ok-push-clause-members
returns-in_ok-push-clause-members g c =
    let d = c.args.tick.now.rows.now in
    let voices = c.args.tick.now.voices.now in
    let m = c.args.member.now in
    let old = c.args.ready.now.items in
    let room : IsRoom d voices c.index.result.now =
    subst (IsRoom d voices) (sym c.index.ensures) (all-at (IsRoom d voices) c.place_of.new.rooms.items
    c.in_ok-place.place _ c.in_ok-place.ensures.rooms c.in_ok-place.ensures.within) in
    let loud : true ≡ hears_any d voices m = sym (ap is_some c.in-Some.is) ∙ c.in_ok-one.ensures.none voices room in
    let own : c.in-Some.one.member ≡ m =
    (subst
    (λ (o : Option ReadyOf).
    IfSome o (λ r.
    (r.member ≡ m)
    × ((vs : List Voice) → IsRoom d vs c.index.result.now
    → IsReady d vs c.args.tick.now.moment c.args.tick.now.streams.now.entries r)))
    c.in-Some.is c.in_ok-one.ensures.some).0 in
    ap members_of c.in_ok-push.ensures.items
    ∙ map_push (λ (r : ReadyOf). r.member) old c.in-Some.one
    ∙ ap (λ x. members_of old ++ x ∷ []) own
    ∙ ap (λ b. members_of old ++ cond b (m ∷ []) []) loud
