use Rattle.x_bench.proofs.running.by_lanes.Given as goal

abbrev pub ghosts-by_publisher : goal.ghosts-by_publisher
ghosts-by_publisher g a = record { publisher = a.opened }
