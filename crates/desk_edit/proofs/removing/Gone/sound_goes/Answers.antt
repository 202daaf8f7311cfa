use Rattle.desk_edit.proofs.Words.{refl, ap, ◌∙◌, list_any, has_key}
use Rattle.desk_rows.specs.declared.key.Key.TheVariants as keys
use Rattle.desk_edit.proofs.removing.Gone.sound_goes.Goals as goal
use Rattle.desk_edit.proofs.GoneLemmas.{stream_goes}

pub returns : goal.returns
returns g c =
    let x = c.args.self.now in
    c.any_source.ensures ∙ ap (list_any (has_key (keys.Source c.args.ssrc))) (c.deref.ensures.value ∙ x.sources_go)
    ∙ stream_goes x.going.rows.now x.going.key x.going.good x.low (keys.Source c.args.ssrc) refl
