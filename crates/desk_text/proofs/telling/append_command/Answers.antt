use Rattle.std.proofs.Common.{◌++◌, map, ap, ◌∙◌}
use Rattle.std.specs.List.{flat_map}
use Rattle.desk_text.specs.Values.{of_row}
use Rattle.desk_text.specs.inner.Growing.{buffer_of}
use Rattle.desk_text.proofs.GrowLemmas.{grows_same}
use Rattle.desk_text.specs.inner.Pieces.{next_value}
use Rattle.desk_text.proofs.LineLemmas.{command_joined}
use Rattle.desk_text.proofs.telling.append_command.Goals as goal

pub returns : goal.returns
returns g c =
    grows_same (buffer_of c.args.out.now) (buffer_of c.append_named.new.out) _ _ c.append_named.result
    (ap (λ t. t ++ flat_map next_value c.as_slice.result.now) c.name.ensures
    ∙ command_joined c.args.command.now c.as_slice.result.now
    (ap (map of_row) c.as_slice.ensures.value ∙ c.values.ensures))
    c.append_named.ensures
