use Rattle.std.proofs.Common.{◌≡◌, List, length, map, ap, sym, subst, ◌∙◌, arith}
use Rattle.std.proofs.lemmas.List.{length-map, with_items_is}
use Rattle.media_items.specs.Formats.{tick_at}
use Rattle.mix_minus.specs.declared.input.Input.{Input}
use Rattle.rtp_codec.specs.Packet.{number_octets}
use Rattle.mix_minus.specs.Mix.{IsTotal, ReachTo, present_in}
use Rattle.mix_minus.specs.Sums.{AreSmall}
use Rattle.topology.specs.Looking.{room_rate}
use Rattle.mixer.specs.inner.Counted.{member_of, AreBefore}
use Rattle.mixer.specs.inner.Rooms.{plain, plain_voice, of_room}
use Rattle.mixer.proofs.RoomInputs.{reach_of}
use Rattle.mixer.proofs.rooms.room_of.Goals as goal

pub room_total-requires-clause-reach : goal.room_total-requires-clause-reach
room_total-requires-clause-reach g c =
    let d = c.args.rows.now in
    let inputs = c.in_ok-inputs.inputs.items in
    let reach : ReachTo (tick_at (room_rate d c.args.room)) inputs =
    reach_of d c.args.room c.args.voices.now inputs c.requires.long c.in_ok-inputs.ensures in
    let long : length c.deref_mut.result.now ≡ tick_at (room_rate d c.args.room) =
    c.deref_mut.ensures.len ∙ c.in_ok-resize.ensures.len ∙ c.tick_at.ensures ∙ ap tick_at c.room_rate-rate.ensures in
    subst (λ (xs : List Input). ReachTo (length c.deref_mut.result.now) xs) (sym c.deref.ensures.value)
    (subst (λ n. ReachTo n inputs) (sym long) reach)

pub returns-clause-is : goal.returns-clause-is
returns-clause-is g c =
    let d = c.args.rows.now in
    let inputs = c.in_ok-inputs.inputs.items in
    let ws = of_room c.args.room c.args.voices.now in
    let out = c.room_total.new.total in
    let long = c.room_total.auto.total ∙ c.deref_mut.ensures.len in
    let all = with_items_is c.resize.new.self out long in
    let reach : ReachTo (tick_at (room_rate d c.args.room)) inputs =
    reach_of d c.args.room c.args.voices.now inputs c.requires.long c.in_ok-inputs.ensures in
    record {
      rate = c.room_rate-rate.ensures;
      sources = c.in_ok-sources.ensures;
      inputs = c.in_ok-inputs.ensures;
      reach = subst (λ r. ReachTo (tick_at r) inputs) (sym c.room_rate-rate.ensures) reach;
      few =
          omega
          (arith, ap length c.in_ok-inputs.ensures, length-map inputs plain, length-map ws plain_voice, c.requires.few);
      total =
          subst (IsTotal inputs) (sym all)
          (subst (λ (xs : List Input). IsTotal xs out) c.deref.ensures.value c.room_total.ensures.total);
      small = subst (AreSmall 16777216) (sym all) c.room_total.ensures.small;
      members = c.in_ok-members.ensures ∙ ap (map member_of) c.deref-3.ensures.value;
      before =
          subst (λ (xs : List Input). AreBefore c.in_ok-before.before.items xs) c.deref-4.ensures.value
          c.in_ok-before.ensures;
      named = c.in_ok-named.ensures ∙ ap (λ xs. number_octets (present_in xs)) c.deref-2.ensures.value;
      long = ap length all ∙ long ∙ c.in_ok-resize.ensures.len ∙ c.tick_at.ensures;
    }
