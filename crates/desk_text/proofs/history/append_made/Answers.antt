use Rattle.desk_text.specs.inner.Growing.{buffer_of}
use Rattle.desk_text.proofs.GrowLemmas.{grows_same}
use Rattle.desk_text.proofs.LineLemmas.{made_joined}
use Rattle.desk_text.proofs.history.append_made.Goals as goal

pub returns : goal.returns
returns g c =
    grows_same (buffer_of c.args.out.now) (buffer_of c.append_both.new.out) _ _ c.append_both.result
    (made_joined c.args.made.now) c.append_both.ensures
