use Rattle.bridge_stats.specs.Stats.{no_stats}
use Rattle.bridge_stats.proofs.WholeLemmas.{is_run, all_taken}
use Rattle.bridge_stats.proofs.laws.all_are_counted.Goals as goal

pub returns : goal.returns
returns c = record {
  taken = λ all stats noted. all_taken all no_stats stats noted;
  sources = λ all stats sender noted none few. (is_run all no_stats stats noted few none).more sender;
}
