use Rattle.std.proofs.Common.{refl, ◌≡◌, ◌≤◌, ℕ, ℤ, List, ◌++◌, length, map, take, drop, ap, sym, subst, ◌∙◌, arith}
use Rattle.std.proofs.lemmas.List.{length-append, length-map, length-take-le}
use Rattle.rtp_codec.specs.Packet.{number_octets, most_csrcs}
use Rattle.media_items.specs.Formats.{tick_at}
use Rattle.mix_minus.specs.declared.input.Input.{Input}
use Rattle.mix_minus.specs.Mix.{own_of, present_in, IsLeft}
use Rattle.topology.specs.Looking.{room_rate}
use Rattle.mixer.specs.Hearing.{member_rate}
use Rattle.mixer.specs.inner.Counted.{member_of, AreBefore}
use Rattle.mixer.specs.inner.Rooms.{RoomOf, of_room}
use Rattle.mixer.specs.inner.Named.{IsNamed}
use Rattle.mixer.proofs.HeardOf.{gains_for}
use Rattle.mixer.proofs.NamedOctets.{octets-length}
use Rattle.mixer.proofs.InFull.{IsApart, AreCounted, counted, cut, present_parts, all_full, heard_by_mix}
use Rattle.mixer.proofs.InFull.{contributors_are}
use Rattle.mixer.proofs.hearing.listen_in_full.Goals as goal

pub overflow_sub-through : goal.overflow_sub-through
overflow_sub-through g c =
    let d = c.args.rows.now in
    let m = c.args.member.now in
    let r = c.args.room.now in
    let inputs = r.inputs in
    let k = m.member in
    let start = c.own_start-start.result in
    let count = c.own_in_front-count.result in
    let front = c.split_at.result.0.now in
    let rest = c.split_at.result.1.now in
    let own = c.split_at-2.result.0.now in
    let back = c.split_at-2.result.1.now in
    let seen : c.deref-2.result.now ≡ inputs = c.deref-2.ensures.value ∙ ap (λ (r : RoomOf). r.inputs) c.room.view_is in
    let members : c.deref-3.result.now ≡ map member_of inputs =
    c.deref-3.ensures.value ∙ ap (λ (r : RoomOf). r.members) c.room.view_is ∙ c.requires.is.1.members in
    let front_is : front ≡ take start inputs = c.split_at.ensures.front ∙ ap (take start) seen in
    let rest_is : rest ≡ drop start inputs = c.split_at.ensures.back ∙ ap (drop start) seen in
    let long : length own ≡ count =
    ap length c.split_at-2.ensures.front ∙ length-take-le count rest c.own_in_front-count.ensures.within in
    let all : length (own_of k inputs) ≡ length own =
    sym (c.own_count.ensures inputs members) ∙ c.if-own_count-count.false ∙ sym long in
    let apart : IsApart k inputs front own back =
    cut k inputs front rest own back start count front_is rest_is c.split_at-2.ensures.front c.split_at-2.ensures.back
    c.own_in_front-count.ensures.own c.own_in_front-count.ensures.others all in
    let before_are : AreBefore c.room.inside.before.items inputs =
    subst (λ (xs : List ℕ). AreBefore xs inputs) (sym (ap (λ (r : RoomOf). r.before) c.room.view_is))
    c.requires.is.1.before in
    let within : start ≤ length inputs =
    omega (
      arith,
      c.own_start-start.ensures,
      ap length (c.deref.ensures.value ∙ ap (λ (r : RoomOf). r.members) c.room.view_is ∙ c.requires.is.1.members),
      length-map inputs member_of,
    ) in
    let counts : AreCounted front own c.index.result.now c.index-2.result.now =
    counted k inputs front own back c.room.inside.before.items start count c.index.result.now c.index-2.result.now apart
    front_is within long before_are c.index.ensures c.index-2.ensures in
    counts.rising

pub named_without-requires : goal.named_without-requires
named_without-requires g c =
    let d = c.args.rows.now in
    let m = c.args.member.now in
    let r = c.args.room.now in
    let inputs = r.inputs in
    let k = m.member in
    let start = c.own_start-start.result in
    let count = c.own_in_front-count.result in
    let front = c.split_at.result.0.now in
    let rest = c.split_at.result.1.now in
    let own = c.split_at-2.result.0.now in
    let back = c.split_at-2.result.1.now in
    let seen : c.deref-2.result.now ≡ inputs = c.deref-2.ensures.value ∙ ap (λ (r : RoomOf). r.inputs) c.room.view_is in
    let members : c.deref-3.result.now ≡ map member_of inputs =
    c.deref-3.ensures.value ∙ ap (λ (r : RoomOf). r.members) c.room.view_is ∙ c.requires.is.1.members in
    let front_is : front ≡ take start inputs = c.split_at.ensures.front ∙ ap (take start) seen in
    let rest_is : rest ≡ drop start inputs = c.split_at.ensures.back ∙ ap (drop start) seen in
    let long : length own ≡ count =
    ap length c.split_at-2.ensures.front ∙ length-take-le count rest c.own_in_front-count.ensures.within in
    let all : length (own_of k inputs) ≡ length own =
    sym (c.own_count.ensures inputs members) ∙ c.if-own_count-count.false ∙ sym long in
    let apart : IsApart k inputs front own back =
    cut k inputs front rest own back start count front_is rest_is c.split_at-2.ensures.front c.split_at-2.ensures.back
    c.own_in_front-count.ensures.own c.own_in_front-count.ensures.others all in
    let before_are : AreBefore c.room.inside.before.items inputs =
    subst (λ (xs : List ℕ). AreBefore xs inputs) (sym (ap (λ (r : RoomOf). r.before) c.room.view_is))
    c.requires.is.1.before in
    let within : start ≤ length inputs =
    omega (
      arith,
      c.own_start-start.ensures,
      ap length (c.deref.ensures.value ∙ ap (λ (r : RoomOf). r.members) c.room.view_is ∙ c.requires.is.1.members),
      length-map inputs member_of,
    ) in
    let counts : AreCounted front own c.index.result.now c.index-2.result.now =
    counted k inputs front own back c.room.inside.before.items start count c.index.result.now c.index-2.result.now apart
    front_is within long before_are c.index.ensures c.index-2.ensures in
    let octets : c.deref-5.result.now ≡ number_octets (present_in inputs) =
    c.deref-5.ensures.value ∙ ap (λ (r : RoomOf). r.named) c.room.view_is ∙ c.requires.is.1.named in
    let whole : present_in inputs ≡ present_in front ++ (present_in own ++ present_in back) =
    ap present_in apart.whole ∙ present_parts front own back in
    omega (
      arith,
      ap length octets,
      octets-length (present_in inputs),
      ap length whole,
      length-append (present_in front) (present_in own ++ present_in back),
      length-append (present_in own) (present_in back),
      counts.front_are,
      counts.own_are,
    )

pub returns-clause-heard : goal.returns-clause-heard
returns-clause-heard g c voices is =
    let d = c.args.rows.now in
    let m = c.args.member.now in
    let r = c.args.room.now in
    let inputs = r.inputs in
    let k = m.member in
    let start = c.own_start-start.result in
    let count = c.own_in_front-count.result in
    let front = c.split_at.result.0.now in
    let rest = c.split_at.result.1.now in
    let own = c.split_at-2.result.0.now in
    let back = c.split_at-2.result.1.now in
    let seen : c.deref-2.result.now ≡ inputs = c.deref-2.ensures.value ∙ ap (λ (r : RoomOf). r.inputs) c.room.view_is in
    let members : c.deref-3.result.now ≡ map member_of inputs =
    c.deref-3.ensures.value ∙ ap (λ (r : RoomOf). r.members) c.room.view_is ∙ is.members in
    let front_is : front ≡ take start inputs = c.split_at.ensures.front ∙ ap (take start) seen in
    let rest_is : rest ≡ drop start inputs = c.split_at.ensures.back ∙ ap (drop start) seen in
    let long : length own ≡ count =
    ap length c.split_at-2.ensures.front ∙ length-take-le count rest c.own_in_front-count.ensures.within in
    let all : length (own_of k inputs) ≡ length own =
    sym (c.own_count.ensures inputs members) ∙ c.if-own_count-count.false ∙ sym long in
    let apart : IsApart k inputs front own back =
    cut k inputs front rest own back start count front_is rest_is c.split_at-2.ensures.front c.split_at-2.ensures.back
    c.own_in_front-count.ensures.own c.own_in_front-count.ensures.others all in
    let before_are : AreBefore c.room.inside.before.items inputs =
    subst (λ (xs : List ℕ). AreBefore xs inputs) (sym (ap (λ (r : RoomOf). r.before) c.room.view_is)) is.before in
    let within : start ≤ length inputs =
    omega (
      arith,
      c.own_start-start.ensures,
      ap length (c.deref.ensures.value ∙ ap (λ (r : RoomOf). r.members) c.room.view_is ∙ is.members),
      length-map inputs member_of,
    ) in
    let counts : AreCounted front own c.index.result.now c.index-2.result.now =
    counted k inputs front own back c.room.inside.before.items start count c.index.result.now c.index-2.result.now apart
    front_is within long before_are c.index.ensures c.index-2.ensures in
    let octets : c.deref-5.result.now ≡ number_octets (present_in inputs) =
    c.deref-5.ensures.value ∙ ap (λ (r : RoomOf). r.named) c.room.view_is ∙ is.named in
    let whole : present_in inputs ≡ present_in front ++ (present_in own ++ present_in back) =
    ap present_in apart.whole ∙ present_parts front own back in
    let ws = of_room r.room voices in
    let gains = gains_for d m ws in
    let out = c.mix_of_others.new.out in
    let full = all_full d m inputs ws is.inputs (c.if-not-hears_in_full.ensures.full refl) in
    let total : c.deref-4.result.now ≡ r.total =
    c.deref-4.ensures.value ∙ ap (λ (r : RoomOf). r.total) c.room.view_is in
    let left : IsLeft r.total (own_of k inputs) out =
    subst (λ (xs : List Input). IsLeft r.total xs out) (sym apart.own_are)
    (subst (λ (ts : List ℤ). IsLeft ts own out) total c.mix_of_others.ensures) in
    let long : length out ≡ tick_at (member_rate d m) =
    c.mix_of_others.auto.out ∙ c.requires.long ∙ ap tick_at (is.rate ∙ ap (room_rate d) c.requires.own) in
    let within : length out ≤ length r.total = omega (arith, c.mix_of_others.auto.out, c.requires.long, is.long) in
    record {
      samples =
          heard_by_mix d m voices r.room inputs out c.requires.own is.inputs long
          (c.is_the_mix.ensures inputs gains k r.total out is.total full within left);
      who = subst (IsNamed c.named_without.result)
          (sym (ap (take most_csrcs) (contributors_are d m voices r.room inputs front own back c.requires.own is.inputs
          (c.others_contribute.ensures.others inputs gains k full) apart)))
          (c.named_without.ensures.named (present_in front) (present_in own) (present_in back)
          (octets ∙ ap number_octets whole) (sym counts.front_are) (sym counts.own_are));
    }
