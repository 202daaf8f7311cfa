use Rattle.std.proofs.Common.{◌≡◌, ◌≤◌, ℕ, Option, None, Some, IfSome, refl, ap, sym, subst, ◌∙◌}
use Rattle.std.proofs.lemmas.Option.{IfSome_then}
use Rattle.std.specs.Option.{option_and_then, option_or}
use Rattle.topology.specs.Choice.{first_video, is_barred}
use Rattle.topology.specs.Looking.{holder}
use Rattle.worked_desk.proofs.Falling.{only_this}
use Rattle.worked_desk.proofs.choosing.sends_the_least_video_of_the_floor.Goals as goal

pub returns : goal.returns
returns c = λ slot room member other is unsubscribed index in_room unpinned holds video.
    let d = c.args.rows.now in
    let law = c.nothing_falls_through.ensures in
    let with_floor : (first : Option ℕ) → first_video d member ≡ first
    → IfSome c.choice.result (λ chosen. chosen ≤ other) = λ (first : Option ℕ).
    elim first as (λ (k : Option ℕ). first_video d member ≡ k → IfSome c.choice.result (λ chosen. chosen ≤ other)) [
      | None ↦ λ none.
          let nothing =
          ap (λ p. option_or p (option_and_then (first_video d) (holder d room))) unpinned
          ∙ ap (option_and_then (first_video d)) holds
          ∙ none in
          subst (λ (o : Option ℕ). IfSome o (λ chosen. chosen ≤ other))
          (sym (c.choice.ensures.source ∙ law.unshown d c.args.out_ssrc room slot is unsubscribed in_room nothing)) tt
      | Some source ↦ λ found.
          let chosen =
          c.choice.ensures.source
          ∙ law.floor d c.args.out_ssrc room member source slot is unsubscribed index in_room unpinned holds found in
          IfSome_then c.choice.result (only_this c.choice.result (is_barred d slot source) source chosen)
          (λ one same.
          subst (λ n. n ≤ other) (sym same)
          (c.first_videos_are_least.ensures.least d member source other c.choice.ensures.good found video))
    ] in
    with_floor (first_video d member) refl
