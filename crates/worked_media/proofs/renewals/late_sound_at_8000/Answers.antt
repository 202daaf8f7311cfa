use Rattle.std.proofs.Common.{◌∙◌, ap, ◌+◌, ℕ, List, [], ◌∷◌, ◌++◌, pos, replicate}
use Rattle.playout.specs.Playout.{Play, begun_by, present}
use Rattle.playout.specs.Playouts.{AudioEvent, PutOf, TakeAll, Renewing, Has}
use Rattle.worked_media.specs.Late.{member, long_ago}
use Rattle.worked_media.proofs.renewals.late_sound_at_8000.Goals as goal

pub returns-clause-short : goal.returns-clause-short
returns-clause-short c =
    let renewing : List AudioEvent = long_ago 8000 ++ Renewing ∷ [] in
    let first : List AudioEvent = renewing ++ PutOf 21 member 8000 1000 (replicate 1600 (pos 7)) ∷ [] in
    let second : List AudioEvent = first ++ PutOf 21 member 8000 1000 (replicate 799 (pos 7)) ∷ [] in
    let has_second : Has c.put-2.new.self second =
    c.in_ok-put-2.ensures.has first
    (c.in_ok-put.ensures.has renewing (c.renew.ensures (long_ago 8000) c.requires.had)) in
    let one : List AudioEvent = second ++ TakeAll ∷ [] in
    let two : List AudioEvent = one ++ TakeAll ∷ [] in
    let three : List AudioEvent = two ++ TakeAll ∷ [] in
    let has : Has c.take_all-3.new.self three =
    c.take_all-3.ensures two (c.take_all-2.ensures one (c.take_all.ensures second has_second)) in
    let play : Play = begun_by 8000 1000 (pos 5 ∷ []) in
    (c.peek-short.ensures three has).1
    ∙ ap (λ (n : ℕ). present play.pairs (play.position + 2560) n) c.peek-short.auto.out

pub returns-clause-limit : goal.returns-clause-limit
returns-clause-limit c =
    let renewing : List AudioEvent = long_ago 8000 ++ Renewing ∷ [] in
    let first : List AudioEvent = renewing ++ PutOf 21 member 8000 1000 (replicate 1600 (pos 7)) ∷ [] in
    let second : List AudioEvent = first ++ PutOf 21 member 8000 1000 (replicate 799 (pos 7)) ∷ [] in
    let has_second : Has c.put-2.new.self second =
    c.in_ok-put-2.ensures.has first
    (c.in_ok-put.ensures.has renewing (c.renew.ensures (long_ago 8000) c.requires.had)) in
    let one : List AudioEvent = second ++ TakeAll ∷ [] in
    let two : List AudioEvent = one ++ TakeAll ∷ [] in
    let three : List AudioEvent = two ++ TakeAll ∷ [] in
    let has : Has c.take_all-3.new.self three =
    c.take_all-3.ensures two (c.take_all-2.ensures one (c.take_all.ensures second has_second)) in
    let last : List AudioEvent = three ++ PutOf 21 member 8000 1000 (pos 7 ∷ []) ∷ [] in
    let four : List AudioEvent = last ++ TakeAll ∷ [] in
    let five : List AudioEvent = four ++ TakeAll ∷ [] in
    let six : List AudioEvent = five ++ TakeAll ∷ [] in
    let has_six : Has c.take_all-6.new.self six =
    c.take_all-6.ensures five
    (c.take_all-5.ensures four (c.take_all-4.ensures last (c.in_ok-put-3.ensures.has three has))) in
    let play : Play = begun_by 8000 1000 (pos 7 ∷ []) in
    (c.peek-limit.ensures six has_six).1
    ∙ ap (λ (n : ℕ). present play.pairs (play.position + 480) n) c.peek-limit.auto.out
