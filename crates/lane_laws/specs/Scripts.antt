-- The script of a lane: its items, each behind the calls that lead to its version (own).
use Rattle.std.specs.Prelude.{ℕ, ◌-◌, List, [], ◌∷◌, ◌++◌, map, take, drop}
use Rattle.desk_edit.specs.Asked.{CallOf as Call}
use Rattle.bridge_core.specs.Events.{Event}
use Rattle.media_workers.specs.LaneRuns.{Versioned}

-- what the script asks behind so many calls, for these further calls and these items; last stand the calls behind the
-- last item
abbrev pub script_from : ℕ → List Call → List Versioned → List Event
script_from told calls [] = map Event.called calls
script_from told calls (x ∷ xs) =
    map Event.called (take (x.version - told) calls)
    ++ Event.item 0 x.input ∷ script_from x.version (drop (x.version - told) calls) xs
