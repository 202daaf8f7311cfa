use Rattle.std.proofs.Common.{◌≡◌, ℕ, ◌<◌, ◌∷◌, ◌++◌, List, Some, slice_index_or, take, drop, suc, length, ap, sym, ◌∙◌}
use Rattle.std.proofs.Math.Seq.{split_at}
use Rattle.desk_rows.specs.declared.row.Member.{Member as MemberRow}
use Rattle.desk_rows.specs.Desk.{Desk}
use Rattle.topology.specs.Mixes.{mix_member}
use Rattle.mixer.proofs.streams.mix_member.Goals as goal

-- the member at a place has the mixes of its own
at_place : (d : Desk) (ms : List MemberRow) (i ssrc : ℕ) (e : MemberRow) → ms ≡ d.members → i < length ms
    → (slice_index_or ms i e).out_audio ≡ ssrc
    → ((before : List MemberRow) (m : MemberRow) (after : List MemberRow) → d.members ≡ before ++ m ∷ after
    → mix_member d m.out_audio ≡ Some m)
    → Some (slice_index_or ms i e) ≡ mix_member d ssrc
at_place d ms i ssrc e same within own apart =
    sym (ap (mix_member d) (sym own)
    ∙ apart (take i ms) (slice_index_or ms i e) (drop (suc i) ms) (sym same ∙ split_at ms i e within))

pub returns-then-member-out_audio : goal.returns-then-member-out_audio
returns-then-member-out_audio g c =
    let d = c.args.rows.now in
    at_place d c.members-members.result.now c.args.place _ _ c.members-members.ensures.members c.if-place-members.true
    c.if-member-out_audio.true
    (λ before m after split. c.mixes_are_apart.ensures d before m after c.members-members.ensures.good split)
