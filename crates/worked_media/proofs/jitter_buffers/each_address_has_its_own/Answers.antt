use Rattle.std.proofs.Common.{◌≡◌, ◌∙◌, ap, ◌+◌, subst, ℕ, List, [], ◌∷◌, pos, length, Some, None, Option}
use Rattle.rtp_codec.specs.declared.address.Address.{Address}
use Rattle.playout.specs.Playout.{begun_by, present}
use Rattle.playout.specs.Calls.{PlaysOut, at_rate}
use Rattle.playout.specs.Playouts.{AudioEvent, PutOf, TakeAll, play_on}
use Rattle.worked_media.specs.Sent.{owner}
use Rattle.worked_media.proofs.jitter_buffers.each_address_has_its_own.Goals as goal

pub returns-clause-two : goal.returns-clause-two
returns-clause-two c e =
    let events : List AudioEvent =
    PutOf 21 (owner 1 7).address 50 1000 (pos 5 ∷ pos 6 ∷ []) ∷ PutOf 21 (owner 2 8).address 50 1000 (pos 9 ∷ [])
    ∷ TakeAll ∷ TakeAll ∷ TakeAll ∷ [] in
    (subst (λ (a : Address). PlaysOut (at_rate 50 (play_on 21 a events)) c.peek.new.out c.peek.result) e
    (c.peek.ensures events c.requires.had)).1
    ∙ ap
    (λ (n : ℕ).
    present (begun_by 50 1000 (pos 5 ∷ pos 6 ∷ [])).pairs ((begun_by 50 1000 (pos 5 ∷ pos 6 ∷ [])).position + 3) n)
    c.peek.auto.out

pub returns-clause-one : goal.returns-clause-one
returns-clause-one c e =
    let events : List AudioEvent =
    PutOf 21 (owner 1 7).address 50 1000 (pos 5 ∷ pos 6 ∷ []) ∷ PutOf 21 (owner 2 8).address 50 1000 (pos 9 ∷ [])
    ∷ TakeAll ∷ TakeAll ∷ TakeAll ∷ [] in
    (subst (λ (a : Address). PlaysOut (at_rate 50 (play_on 21 a events)) c.peek.new.out c.peek.result) e
    (c.peek.ensures events c.requires.had)).1
    ∙ ap (λ (n : ℕ). present (begun_by 50 1000 (pos 9 ∷ [])).pairs ((begun_by 50 1000 (pos 9 ∷ [])).position + 3) n)
    c.peek.auto.out

pub returns-clause-none : goal.returns-clause-none
returns-clause-none c e =
    let events : List AudioEvent =
    PutOf 21 (owner 1 7).address 50 1000 (pos 5 ∷ pos 6 ∷ []) ∷ PutOf 21 (owner 2 8).address 50 1000 (pos 9 ∷ [])
    ∷ TakeAll ∷ TakeAll ∷ TakeAll ∷ [] in
    (subst (λ (a : Address). PlaysOut (at_rate 50 (play_on 21 a events)) c.peek.new.out c.peek.result) e
    (c.peek.ensures events c.requires.had)).1
