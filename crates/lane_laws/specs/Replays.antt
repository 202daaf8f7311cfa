-- A lane that is run again, alone, by what its sink was told (own).
use Rattle.std.specs.Prelude.{◌≡◌, ℕ, Bool, List, [], ◌∷◌, length, map, filter}
use Rattle.std.specs.List.{flat_map}
use Rattle.desk_rows.specs.Desk.{Desk}
use Rattle.desk_edit.specs.Asked.{CallOf as Call}
use Rattle.desk_edit.specs.Calls.{no_calls}
use Rattle.sender_feedback.specs.Upstream.{Asker}
use Rattle.bridge_core.specs.Sent.{Sent, sent_of}
use Rattle.bridge_core.specs.Lanes.{is_lanes}
use Rattle.bridge_core.specs.Steps.{sends}
use Rattle.bridge_core.specs.Events.{steps_of}
use Rattle.operator_desk.specs.Entry.{EntryOf}
use Rattle.media_workers.specs.declared.lane_end.LaneEnd.{LaneEnd}
use Rattle.media_workers.specs.LaneRuns.{Versioned, Hears}
use Rattle.media_workers.specs.Ports.{PortOf}
use Rattle.media_workers.specs.Bridges.{Taking, Hearing, AllEnded, AllTold}
use Rattle.lane_laws.specs.Merges.{merge, InOrder, UpTo}
use Rattle.lane_laws.specs.Learnt.{AllSeen, EndedAfter}

-- all that a bridge of one lane sends, in order, for these calls and these items: each item after the call that led to
-- its version, and before the next one
abbrev pub sent_alone : Asker → Desk → List Call → List Versioned → List Sent
sent_alone who start calls items =
    flat_map (λ es. es) (sends who 1 start (steps_of (no_calls start) (merge calls (items ∷ []))))

-- how the lanes ended of whose sinks it is known what they were told
abbrev pub all_ended : {N P S : Type 0} (answers : P → ℕ → Bool → Type 0) (taken : Taking S) (hearing : Hearing S)
    (ports : List (PortOf P S)) (ends : List (LaneEnd N S)) → AllTold answers taken hearing ports ends
    → AllEnded answers taken ports ends
all_ended answers taken hearing [] [] told = tt
all_ended answers taken hearing [] (e ∷ es) told = told
all_ended answers taken hearing (p ∷ ps) [] told = told
all_ended answers taken hearing (p ∷ ps) (e ∷ es) told =
    (told.0.ended, all_ended answers taken hearing ps es told.1)

-- The lanes of one bridge have ended beside this log, and the sink of each was told what its lane handled. What each
-- entry saw of these lanes, too, is a beginning of the published lists.
pub record ToldAfter {N P S : Type 0} (answers : P → ℕ → Bool → Type 0) (taken : Taking S) (hearing : Hearing S)
    (start : Desk) (log : List EntryOf) (ports : List (PortOf P S)) (ends : List (LaneEnd N S)) : Type 0 where
  pub after : EndedAfter answers taken start log ports ends
  pub told : AllTold answers taken hearing ports ends
  pub seen : AllSeen after.lists answers taken ports ends (all_ended answers taken hearing ports ends told)

-- the same lanes: what they handled is what their sinks were told
abbrev pub by_told : {N P S : Type 0} {answers : P → ℕ → Bool → Type 0} {taken : Taking S} {hearing : Hearing S}
    {start : Desk} {log : List EntryOf} {ports : List (PortOf P S)} {ends : List (LaneEnd N S)} →
    ToldAfter answers taken hearing start log ports ends → EndedAfter answers taken start log ports ends
by_told {N} {P} {S} {answers} {taken} {hearing} {start} {log} {ports} {ends} h = record {
  first = h.after.first;
  legal = h.after.legal;
  lists = h.after.lists;
  desks = h.after.desks;
  new = h.after.new;
  begin = h.after.begin;
  ended = all_ended answers taken hearing ports ends h.told;
  seen = h.seen;
}

-- The lane of this place, of so many, is run again by what its sink was told: of all that a bridge of one lane sends
-- for these calls and these items, what is about the lane's streams is just what the lane sent, in its order. The
-- versions of the items don't fall, and none is greater than the number of calls.
pub record IsReplayed {N S : Type 0} (taken : Taking S) (hearing : Hearing S) (who : Asker) (many place : ℕ)
    (start : Desk) (calls : List Call) (sink : S) (end : LaneEnd N S) (items : List Versioned) : Type 0 where
  pub heard : Hears hearing sink end.sink items
  pub order : InOrder 0 items
  pub few : UpTo (length calls) items
  pub sent : map sent_of (taken end.sink) ≡ filter (is_lanes place many) (sent_alone who start calls items)
