use Rattle.std.proofs.Common.{◌≡◌, ◌≤◌, List, length, sym, ap, subst, ◌∙◌, arith}
use Rattle.std.proofs.lemmas.Result.{IfOk-weaker}
use Rattle.rtcp_codec.specs.declared.nack.NackWord.{NackWord}
use Rattle.rtcp_codec.specs.Packet.{Packet}
use Rattle.rtcp_codec.specs.Compound.{IsCompound, written}
use Rattle.rtcp_codec.specs.View.{packets_of}
use Rattle.rtcp_codec.specs.WriteFault.{AreWritable}
use Rattle.sender_feedback.specs.Upstream.{Asker, most_words, upstream_packets}
use Rattle.sender_feedback.proofs.Writable.{as_few, upstream_writable, words_fit, if_ok_both}
use Rattle.sender_feedback.proofs.asking.upstream.Goals as goal

pub compound_of-requires : goal.compound_of-requires
compound_of-requires g c =
    let words = c.in_ok-words.words.items in
    let few : length words ≤ most_words =
    omega (arith, as_few c.args.nacks.now words c.in_ok-words.ensures.names, c.requires.few) in
    let asker : Asker = record { ssrc = c.args.bridge_ssrc; cname = c.args.cname.now } in
    subst AreWritable (sym (ap packets_of c.deref.ensures.value ∙ c.in_ok-packets.ensures.packets))
    (upstream_writable asker c.args.source words c.args.pli c.in_ok-packets.ensures.name few)

pub returns-clause-packed : goal.returns-clause-packed
returns-clause-packed g c words is =
    let asker : Asker = record { ssrc = c.args.bridge_ssrc; cname = c.args.cname.now } in
    let all : packets_of c.deref.result.now ≡ upstream_packets asker c.args.source words c.args.pli =
    ap packets_of c.deref.ensures.value
    ∙ c.in_ok-packets.ensures.packets
    ∙ ap (λ (ws : List NackWord). upstream_packets asker c.args.source ws c.args.pli)
    (c.in_ok-words.ensures.only words is) in
    IfOk-weaker c.compound_of.result _ _ (λ v e. e ∙ ap written all) c.compound_of.ensures.items

pub returns-clause-found : goal.returns-clause-found
returns-clause-found g c =
    let asker : Asker = record { ssrc = c.args.bridge_ssrc; cname = c.args.cname.now } in
    let words = c.in_ok-words.words.items in
    let all : packets_of c.deref.result.now ≡ upstream_packets asker c.args.source words c.args.pli =
    ap packets_of c.deref.ensures.value ∙ c.in_ok-packets.ensures.packets in
    if_ok_both c.compound_of.result _ _ _
    (λ v e k.
    let compound = subst (λ (ps : List Packet). IsCompound ps v.items) all k in (
      words,
      record {
        packing =
            record {
              names = c.in_ok-words.ensures.names;
              packed = c.in_ok-words.ensures.packed;
              fits = words_fit asker c.args.source words c.args.pli v.items compound;
            };
        octets_are = e ∙ ap written all;
        compound = compound;
      },
    ))
    c.compound_of.ensures.items c.compound_of.ensures.compound
