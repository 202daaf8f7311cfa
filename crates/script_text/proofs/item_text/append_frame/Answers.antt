use Rattle.std.proofs.Common.{◌≡◌, ◌+◌, ◌<◌, ◌≤◌, ◌∷◌, ◌++◌, codes, length, map, take, OnOk, OnErr, vec_len}
use Rattle.std.proofs.Common.{vec_capacity, ℕ, List, ap, ◌∙◌, subst, arith}
use Rattle.std.proofs.lemmas.List.{take_all}
use Rattle.frame_gate.specs.Frame.{SourcePacket}
use Rattle.media_items.specs.Frame.{SourceFrame}
use Rattle.desk_text.specs.Text.{Word, fixed, value, line_text}
use Rattle.desk_text.specs.Shown.{said}
use Rattle.script_text.specs.Requests.{front_values}
use Rattle.script_text.specs.inner.Shown.{packet_word}
use Rattle.script_text.proofs.ItemTextLemmas.{frame_told}
use Rattle.script_text.proofs.item_text.append_frame.Goals as goal

pub returns-clause-ok : goal.returns-clause-ok
returns-clause-ok g c =
    let f : SourceFrame = c.args.media.now in
    let n = c.from-count.result in
    let sent = c.sent.result.now in
    let all : take n sent ≡ f.frame.packets =
    take_all n sent (omega (arith, c.from-count.ensures, c.len.ensures.count, ap length c.sent.ensures.packets))
    ∙ (c.sent.ensures.packets ∙ ap (λ (m : SourceFrame). m.frame.packets) c.media.view_is) in
    let words =
    ap (map said) c.as_slice.ensures.value
    ∙ (c.push_packets.ensures
    ∙ (ap (λ (ws : List Word). ws ++ map packet_word (take n sent)) c.frame_front-words.ensures.words
    ∙ ap (λ (ps : List SourcePacket). (fixed (codes "frame") ∷ map value (front_values f)) ++ map packet_word ps)
    all)) in
    subst (λ (t : List ℕ). OnOk c.print_line.result (c.print_line.new.out.items ≡ c.args.out.now.items ++ t))
    (frame_told f _ words) c.print_line.ensures.ok

pub returns-clause-full : goal.returns-clause-full
returns-clause-full g c =
    let f : SourceFrame = c.args.media.now in
    let n = c.from-count.result in
    let sent = c.sent.result.now in
    let all : take n sent ≡ f.frame.packets =
    take_all n sent (omega (arith, c.from-count.ensures, c.len.ensures.count, ap length c.sent.ensures.packets))
    ∙ (c.sent.ensures.packets ∙ ap (λ (m : SourceFrame). m.frame.packets) c.media.view_is) in
    let words =
    ap (map said) c.as_slice.ensures.value
    ∙ (c.push_packets.ensures
    ∙ (ap (λ (ws : List Word). ws ++ map packet_word (take n sent)) c.frame_front-words.ensures.words
    ∙ ap (λ (ps : List SourcePacket). (fixed (codes "frame") ∷ map value (front_values f)) ++ map packet_word ps)
    all)) in
    subst
    (λ (t : List ℕ). OnErr c.print_line.result (vec_capacity c.args.out.now < vec_len c.args.out.now + length t))
    (frame_told f _ words) c.print_line.ensures.full
