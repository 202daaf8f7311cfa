use Rattle.std.proofs.Common.{rules, ◌≡◌, ℕ, List, ◌≤◌, length, map, take, ap, sym, subst, ◌∙◌, arith, All, filter}
use Rattle.rtp_codec.specs.Packet.{most_csrcs}
use Rattle.mix_minus.specs.declared.input.Input.{Input}
use Rattle.mix_minus.specs.Mix.{clamped, heard_sum, contributing}
use Rattle.topology.specs.declared.hearing.AudioSource.{AudioSource}
use Rattle.topology.specs.Mixes.{gain_of}
use Rattle.media_items.specs.Formats.{tick_at}
use Rattle.topology.specs.Looking.{room_rate}
use Rattle.mixer.specs.Hearing.{member_rate, heard_at, part_of, sum_of, contributes}
use Rattle.mixer.specs.inner.Rooms.{RoomOf, of_room}
use Rattle.mixer.proofs.Listed.{listed}
use Rattle.mixer.proofs.HeardOf.{gains_for, heard_of, named_of, others_of, as_many, loud}
use Rattle.mixer.proofs.hearing.listen.Goals as goal

pub mix_by_total-requires-clause-mixable : goal.mix_by_total-requires-clause-mixable
mix_by_total-requires-clause-mixable g c =
    let d = c.args.rows.now in
    let m = c.args.member.now in
    let voices = c.requires.is.0 in
    let is = c.requires.is.1 in
    let ws = of_room c.args.room.now.room voices in
    let inputs : c.deref-3.result.now ≡ c.args.room.now.inputs =
    c.deref-3.ensures.value ∙ ap (λ (r : RoomOf). r.inputs) c.room.view_is in
    let sources : c.deref.result.now ≡ c.args.room.now.sources =
    c.deref.ensures.value ∙ ap (λ (r : RoomOf). r.sources) c.room.view_is in
    let gains : c.write_gains.new.gains ≡ gains_for d m ws =
    c.write_gains.ensures.gains ∙ ap (map (λ (s : AudioSource). gain_of d m.member s.ssrc)) (sources ∙ is.sources) in
    record {
      paired = ap length gains ∙ as_many d m c.args.room.now.inputs ws is.inputs ∙ sym (ap length inputs);
      few = subst (λ (xs : List Input). length xs ≤ 64) (sym inputs) is.few;
      loud =
          subst (λ (xs : List ℕ). All (λ gain. gain ≤ 1024) xs) (sym gains)
          (loud d m (λ source. c.gains_are_small.ensures d m.member source c.write_gains.ensures.good) ws);
    }

pub returns : goal.returns
returns g c voices is =
    let d = c.args.rows.now in
    let m = c.args.member.now in
    let ws = of_room c.args.room.now.room voices in
    let inputs : c.deref-3.result.now ≡ c.args.room.now.inputs =
    c.deref-3.ensures.value ∙ ap (λ (r : RoomOf). r.inputs) c.room.view_is in
    let sources : c.deref.result.now ≡ c.args.room.now.sources =
    c.deref.ensures.value ∙ ap (λ (r : RoomOf). r.sources) c.room.view_is in
    let gains : c.write_gains.new.gains ≡ gains_for d m ws =
    c.write_gains.ensures.gains ∙ ap (map (λ (s : AudioSource). gain_of d m.member s.ssrc)) (sources ∙ is.sources) in
    let out = c.mix_by_total.new.out in
    let long : length out ≡ tick_at (member_rate d m) =
    c.mix_by_total.auto.out ∙ c.requires.long ∙ ap tick_at (is.rate ∙ ap (room_rate d) c.requires.own) in
    let others_are = others_of m voices c.args.room.now.room c.requires.own in
    record {
      samples = listed (heard_at voices d m) out (tick_at (member_rate d m)) long (λ i l.
          c.mix_by_total.ensures.mix i (omega (arith, long))
          ∙ ap (λ (xs : List Input). clamped (heard_sum m.member i xs c.write_gains.new.gains)) inputs
          ∙ ap (λ (gs : List ℕ). clamped (heard_sum m.member i c.args.room.now.inputs gs)) gains
          ∙ ap clamped (heard_of d m i c.args.room.now.inputs ws is.inputs)
          ∙ ap (λ vs. clamped (sum_of (map (part_of d m i) vs))) others_are);
      count = c.mix_by_total.ensures.count;
      few = search rules;
      named = c.mix_by_total.ensures.ssrcs
          ∙ ap (λ (xs : List Input). take most_csrcs (contributing m.member xs c.write_gains.new.gains)) inputs
          ∙ ap (λ (gs : List ℕ). take most_csrcs (contributing m.member c.args.room.now.inputs gs)) gains
          ∙ ap (take most_csrcs) (named_of d m c.args.room.now.inputs ws is.inputs)
          ∙ ap (λ vs. take most_csrcs (map (λ v. v.source.ssrc) (filter (contributes d m) vs))) others_are;
    }
