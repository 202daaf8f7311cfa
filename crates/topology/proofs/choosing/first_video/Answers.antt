use Rattle.std.proofs.Common.{◌≡◌, sym, ap, ◌∙◌}
use Rattle.std.specs.Prelude.{option_map}
use Rattle.std.specs.List.{find, filter_map}
use Rattle.desk_rows.specs.declared.row.Source.{Source}
use Rattle.topology.specs.Looking.{source_in}
use Rattle.topology.specs.Choice.{is_video_of, sources_of}
use Rattle.topology.proofs.KindRows.{source_rows}
use Rattle.topology.proofs.choosing.first_video.Goals as goal

pub returns-in-None : goal.returns-in-None
returns-in-None g c =
    let d = c.args.rows.now in
    let these : filter_map source_in c.others_of.result.now ≡ sources_of d =
    ap (filter_map source_in) c.others_of.ensures.rows ∙ source_rows d in
    sym (ap (option_map (λ (s : Source). s.ssrc))
    (sym (ap (find (is_video_of c.args.member)) these) ∙ sym c.first_among.ensures ∙ c.in-None.is))

pub returns-in-Some : goal.returns-in-Some
returns-in-Some g c =
    let d = c.args.rows.now in
    let these : filter_map source_in c.others_of.result.now ≡ sources_of d =
    ap (filter_map source_in) c.others_of.ensures.rows ∙ source_rows d in
    sym (ap (option_map (λ (s : Source). s.ssrc))
    (sym (ap (find (is_video_of c.args.member)) these) ∙ sym c.first_among.ensures ∙ c.in-Some.is))
