use Rattle.std.proofs.Common.{◌≡◌, ap, sym, ◌∙◌, is_some, take, subst, [], ◌∷◌}
use Rattle.media_items.specs.declared.format.Format.{Format}
use Rattle.forward_rewrite.specs.Mixes.{GivesTick, sounding, sound_of, format_of}
use Rattle.topology.specs.Looking.{room_rate}
use Rattle.mixer.specs.Hearing.{member_rate}
use Rattle.mixer.specs.inner.Rooms.{RoomOf}
use Rattle.mixer.proofs.Sounds.{nothing_heard, something_heard, many}
use Rattle.mixer.proofs.preparing.prepare_by_gains.Goals as goal

pub returns-then-count-eq0-clause-none : goal.returns-then-count-eq0-clause-none
returns-then-count-eq0-clause-none g c voices is =
    sym (nothing_heard c.args.tick.now.rows.now voices c.args.member.now _ c.listen-named.result
    (c.listen-named.ensures voices is) c.if-count-eq0.true)

pub returns-clause-none : goal.returns-clause-none
returns-clause-none g c voices is =
    ap is_some (sym (something_heard c.args.tick.now.rows.now voices c.args.member.now _ c.listen-named.result
    (c.listen-named.ensures voices is) (many c.if-count-eq0.false)))

pub returns-clause-some : goal.returns-clause-some
returns-clause-some g c voices is =
    let d = c.args.tick.now.rows.now in
    let m = c.args.member.now in
    let named = c.listen-named.result in
    let samples = c.listen-named.new.samples in
    let csrcs = take named.count named.ssrcs in
    let next = c.in_ok-prepared.prepared.next in
    let packets = c.in_ok-prepared.prepared.packet ∷ [] in
    let format : c.format_of-format.result ≡ format_of m.codec (member_rate d m) =
    c.format_of-format.ensures
    ∙ ap (format_of m.codec) (ap (λ (r : RoomOf). r.rate) c.room.view_is ∙ is.rate ∙ ap (room_rate d) c.requires.own) in
    record {
      sound = sound_of (format_of m.codec (member_rate d m)) csrcs samples;
      hears = something_heard d voices m samples named (c.listen-named.ensures voices is) (many c.if-count-eq0.false);
      gives =
          subst
          (λ (f : Format).
          GivesTick c.args.stream.now next (sounding (sound_of f csrcs samples) c.args.tick.now.moment) packets)
          format c.in_ok-prepared.ensures.gives;
      ssrc = c.in_ok-prepared.ensures.ssrc;
    }
