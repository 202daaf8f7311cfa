-- What a mixer sends of which all streams are one lane's.
use Rattle.std.proofs.Common.{◌≡◌, ℕ, List, sym, subst, ◌∙◌}
use Rattle.desk_rows.specs.Desk.{Desk}
use Rattle.mixer.specs.Hearing.{Given}
use Rattle.mixer.specs.Mixes.{MixSent, sent_by, lanes_own}
use Rattle.mixer.specs.Mixers.{MixerOf, WasGiven, Ticks}

-- what goes out in a tick, by the desk that stands there
pub sends : (lane lanes : ℕ) (old new : MixerOf) (d e : Desk) (moment : ℕ) (sent : List MixSent)
    (given : Desk → List Given)
    → lane ≡ 0 → lanes ≡ 1 → d ≡ e
    → WasGiven 0 1 old (given d) → Ticks lane lanes old new d moment sent
    → sent ≡ lanes_own 0 1 (sent_by (given e) e moment)
sends lane lanes old new d e moment sent given one alone is w ticks =
    let w' =
    subst (λ l. WasGiven l lanes old (given d)) (sym one) (subst (λ n. WasGiven 0 n old (given d)) (sym alone) w) in
    (ticks (given d) w').0 ∙ (λ i. lanes_own (one i) (alone i) (sent_by (given (is i)) (is i) moment))
