use Rattle.std.proofs.Common.{◌-◌, length, take, drop, map, ℕ, List, Bor, sym, ap, ◌∙◌, arith}
use Rattle.std.proofs.lemmas.List.{take-map, drop-map, take_all, length-drop}
use Rattle.desk_http.proofs.rows.lines_in_part.Goals as goal

pub returns-in-Done : goal.returns-in-Done
returns-in-Done c =
    let lines = c.args.lines.now in
    rw c.in-Done.is (sym (take-map (λ (x : Bor (List ℕ)). x.now) c.undone_at.result lines)
    ∙ ap (λ n. take n (map {A = Bor (List ℕ)} {B = List ℕ} (λ x. x.now) lines)) c.undone_at.ensures.value)

pub returns-in-Undone : goal.returns-in-Undone
returns-in-Undone c =
    let lines = c.args.lines.now in
    let at = c.undone_at-in-Undone.result in
    rw c.in-Undone.is
    (ap (map {A = Bor (List ℕ)} {B = List ℕ} (λ x. x.now))
    (take_all (length lines - at) (drop at lines) (omega (arith, length-drop at lines)))
    ∙ sym (drop-map (λ (x : Bor (List ℕ)). x.now) at lines)
    ∙ ap (λ n. drop n (map {A = Bor (List ℕ)} {B = List ℕ} (λ x. x.now) lines)) c.undone_at-in-Undone.ensures.value)
