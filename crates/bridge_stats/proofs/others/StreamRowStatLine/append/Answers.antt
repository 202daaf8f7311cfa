use Rattle.std.proofs.Common.{◌∙◌, ℕ, List, [], ◌∷◌, ◌++◌, codes, map, ap}
use Rattle.std.specs.List.{flat_map}
use Rattle.bridge_stats.specs.Paths.{path_parts}
use Rattle.bridge_stats.specs.Shown.{stream_parts, path_in}
use Rattle.bridge_stats.specs.Text.{LinePart, next_text}
use Rattle.bridge_stats.specs.inner.Said.{said}
use Rattle.bridge_stats.proofs.GrowLemmas.{grows_same, said_texts, line_halves}
use Rattle.bridge_stats.proofs.others.StreamRowStatLine.append.Goals as goal

pub returns : goal.returns
returns g c =
    let row = c.args.self.now in
    let fields = c.stream_fields-fields.result in
    let way = c.path_fields-way.result in
    let first = codes "stream" in
    let end : List LinePart → List ℕ = λ l. flat_map next_text l ++ 10 ∷ [] in
    grows_same _ _ _ _ _ (ap (λ (t : List ℕ). first ++ (t ++ end (map said way))) (said_texts fields)
    ∙ (ap (λ (l : List LinePart). first ++ (flat_map next_text l ++ end (map said way))) c.stream_fields-fields.ensures
    ∙ (ap (λ (l : List LinePart). first ++ (flat_map next_text (stream_parts row) ++ end l))
    (c.path_fields-way.ensures ∙ ap path_parts c.path_in.ensures)
    ∙ line_halves first (stream_parts row) (path_parts (path_in row.report))))) c.append_long_line.ensures
