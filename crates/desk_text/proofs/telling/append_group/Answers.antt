use Rattle.desk_text.specs.inner.Growing.{buffer_of}
use Rattle.desk_text.proofs.GrowLemmas.{grows_same}
use Rattle.desk_text.proofs.LineLemmas.{group_joined}
use Rattle.desk_text.proofs.telling.append_group.Goals as goal

pub returns : goal.returns
returns g c =
    grows_same (buffer_of c.args.out.now) (buffer_of c.append_parts.new.out) _ _ c.append_parts.result
    (group_joined c.args.commands.now) c.append_parts.ensures
