use Rattle.bridge_stats.proofs.GrowLemmas.{grows_same, said_texts}
use Rattle.bridge_stats.proofs.appending.append_more.Goals as goal

pub returns : goal.returns
returns g c = grows_same _ _ _ _ _ (said_texts c.args.fields.now) c.append_fields.ensures
