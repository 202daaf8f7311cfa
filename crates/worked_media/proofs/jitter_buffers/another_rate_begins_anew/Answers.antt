use Rattle.std.proofs.Common.{◌≡◌, ◌∙◌, ap, ◌+◌, subst, ℕ, List, [], ◌∷◌, pos, length, Some, None, Option}
use Rattle.rtp_codec.specs.declared.address.Address.{Address}
use Rattle.playout.specs.Playout.{begun_by, present}
use Rattle.playout.specs.Calls.{PlaysOut, at_rate}
use Rattle.playout.specs.Playouts.{AudioEvent, PutOf, TakeAll, play_on}
use Rattle.worked_media.specs.Sent.{owner}
use Rattle.worked_media.proofs.jitter_buffers.another_rate_begins_anew.Goals as goal

pub returns : goal.returns
returns c =
    let events : List AudioEvent =
    PutOf 21 (owner 1 7).address 100 1000 (pos 5 ∷ pos 6 ∷ []) ∷ PutOf 21 (owner 1 7).address 50 1000 (pos 7 ∷ [])
    ∷ TakeAll ∷ TakeAll ∷ TakeAll ∷ [] in
    (subst (λ (a : Address). PlaysOut (at_rate 50 (play_on 21 a events)) c.peek.new.out c.peek.result)
    c.requires.address (c.peek.ensures events c.requires.had)).1
    ∙ ap (λ (n : ℕ). present (begun_by 50 1000 (pos 7 ∷ [])).pairs ((begun_by 50 1000 (pos 7 ∷ [])).position + 3) n)
    c.peek.auto.out
