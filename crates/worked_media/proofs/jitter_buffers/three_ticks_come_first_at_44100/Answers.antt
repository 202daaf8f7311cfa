use Rattle.std.proofs.Common.{◌≡◌, ◌∙◌, ap, ◌+◌, subst, ℕ, List, [], ◌∷◌, pos, length, Some, None, Option}
use Rattle.rtp_codec.specs.declared.address.Address.{Address}
use Rattle.playout.specs.Playout.{begun_by, present}
use Rattle.playout.specs.Calls.{PlaysOut, at_rate}
use Rattle.playout.specs.Playouts.{AudioEvent, PutOf, TakeAll, play_on}
use Rattle.worked_media.specs.Sent.{owner}
use Rattle.worked_media.proofs.jitter_buffers.three_ticks_come_first_at_44100.Goals as goal

pub returns-clause-early : goal.returns-clause-early
returns-clause-early c had =
    let events : List AudioEvent = PutOf 21 (owner 1 7).address 44100 1000 (pos 5 ∷ []) ∷ TakeAll ∷ TakeAll ∷ [] in
    (subst (λ (a : Address). PlaysOut (at_rate 44100 (play_on 21 a events)) c.peek.new.out c.peek.result)
    c.requires.address (c.peek.ensures events had)).1
    ∙ ap
    (λ (n : ℕ). present (begun_by 44100 1000 (pos 5 ∷ [])).pairs ((begun_by 44100 1000 (pos 5 ∷ [])).position + 1764) n)
    c.peek.auto.out

pub returns-clause-then : goal.returns-clause-then
returns-clause-then c had =
    let events : List AudioEvent =
    PutOf 21 (owner 1 7).address 44100 1000 (pos 5 ∷ []) ∷ TakeAll ∷ TakeAll ∷ TakeAll ∷ [] in
    (subst (λ (a : Address). PlaysOut (at_rate 44100 (play_on 21 a events)) c.peek.new.out c.peek.result)
    c.requires.address (c.peek.ensures events had)).1
    ∙ ap
    (λ (n : ℕ). present (begun_by 44100 1000 (pos 5 ∷ [])).pairs ((begun_by 44100 1000 (pos 5 ∷ [])).position + 2646) n)
    c.peek.auto.out
