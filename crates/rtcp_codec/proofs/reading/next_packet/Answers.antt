-- The packet that is read is the one at the front.
use Rattle.std.proofs.Common.{◌≡◌, ◌∙◌, ◌+◌, ◌%◌, ◌≤◌, List, ℕ, length, take, drop, sym, ap, subst}
use Rattle.rtcp_codec.specs.Compound.{packet_at, padding_of, kind_at, count, body_of, IsWholeBody}
use Rattle.rtcp_codec.specs.View.{packet_of}
use Rattle.rtcp_codec.proofs.Unique.{stands, same_stand}
use Rattle.rtcp_codec.proofs.reading.next_packet.Goals as goal

pub body_at-body-requires : goal.body_at-body-requires
body_at-body-requires g c =
    let at : c.split_at.result.0.now ≡ packet_at c.args.octets.now =
    c.split_at.ensures.front ∙ ap (λ (n : ℕ). take n c.args.octets.now) c.size_at.ensures in
    subst (λ (l : List ℕ). 4 + padding_of l ≤ length l) (sym at)
    (stands c.requires.0 c.args.octets.now c.requires.1 c.requires.2).padding

pub packet_from-requires-clause-words : goal.packet_from-requires-clause-words
packet_from-requires-clause-words g c =
    let at : c.split_at.result.0.now ≡ packet_at c.args.octets.now =
    c.split_at.ensures.front ∙ ap (λ (n : ℕ). take n c.args.octets.now) c.size_at.ensures in
    subst (λ (l : List ℕ). length l % 4 ≡ 0) (sym (c.body_at-body.ensures ∙ ap body_of at))
    (stands c.requires.0 c.args.octets.now c.requires.1 c.requires.2).words

pub packet_from-requires-clause-whole : goal.packet_from-requires-clause-whole
packet_from-requires-clause-whole g c =
    let packet = c.split_at.result.0.now in
    let at : packet ≡ packet_at c.args.octets.now =
    c.split_at.ensures.front ∙ ap (λ (n : ℕ). take n c.args.octets.now) c.size_at.ensures in
    subst (λ (l : List ℕ). IsWholeBody (kind_at packet) (count packet) l) (sym c.body_at-body.ensures)
    (subst (λ (l : List ℕ). IsWholeBody (kind_at l) (count l) (body_of l)) (sym at)
    (stands c.requires.0 c.args.octets.now c.requires.1 c.requires.2).whole_body)

pub returns-clause-same : goal.returns-clause-same
returns-clause-same g c = λ p rest t.
    same_stand p (packet_of c.in_ok-packet.packet) c.args.octets.now rest c.split_at.result.0.now
    c.split_at.result.1.now c.body_at-body.result.now t
    (c.split_at.ensures.front ∙ ap (λ (n : ℕ). take n c.args.octets.now) c.size_at.ensures)
    (c.split_at.ensures.back ∙ ap (λ (n : ℕ). drop n c.args.octets.now) c.size_at.ensures) c.body_at-body.ensures
    c.in_ok-packet.ensures
