use Rattle.std.proofs.Common.{◌++◌, ◌∙◌, List, Some, map, sym, ap}
use Rattle.std.specs.List.{flat_map}
use Rattle.event_loop.specs.Tries.{came_in, moments_in}
use Rattle.whole_laws.proofs.WholeLemmas.{tried_all, came_all}
use Rattle.whole_laws.proofs.laws.fronts_that_ran.Goals as goal

pub returns : goal.returns
returns g c first last turns left rounds done nothing read told tried =
    let m = c.all_that_is_tried_is_meant.ensures turns first.history last.history done in
    record {
      rounds = rounds;
      done = done;
      came = came_all left.read first.history.came last.history.came (flat_map came_in turns) nothing.came
          (c.all_that_came_is_in_turns.ensures.came turns first.history last.history done) read;
      moments = came_all left.told first.history.told last.history.told (flat_map moments_in turns) nothing.told
          (c.all_that_came_is_in_turns.ensures.told turns first.history last.history done) told;
      tries = m.0;
      meant = m.1;
      tried = tried_all left.tried first.history.tried last.history.tried _ nothing.tried tried m.1.1;
    }
