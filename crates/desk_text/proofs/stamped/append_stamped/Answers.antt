use Rattle.desk_text.specs.inner.Growing.{buffer_of}
use Rattle.desk_text.proofs.GrowLemmas.{grows_same}
use Rattle.desk_text.proofs.LineLemmas.{stamped_joined}
use Rattle.desk_text.proofs.stamped.append_stamped.Goals as goal

pub returns : goal.returns
returns g c =
    grows_same (buffer_of c.args.out.now) (buffer_of c.append_both.new.out) _ _ c.append_both.result
    (stamped_joined c.args.call.now) c.append_both.ensures
