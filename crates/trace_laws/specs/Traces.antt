-- A lane's part of a trace as a script, and what it asks for (own).
use Rattle.std.specs.Prelude.{◌≡◌, ℕ, ◌≤◌, true, false, List, [], ◌∷◌, ◌++◌, length, map, max}
use Rattle.std.specs.List.{flat_map, list_all, AllByRecursion}
use Rattle.desk_edit.specs.Asked.{CallOf}
use Rattle.desk_edit.specs.Asked.CallOf.{Apply, Group, Undo, Redo, Revert}
use Rattle.desk_edit.specs.Reasons.{group_limit}
use Rattle.sender_feedback.specs.Upstream.{Asker}
use Rattle.bridge_core.specs.Sent.{Sent}
use Rattle.media_workers.specs.LaneRuns.{Versioned}
use Rattle.desk_text.specs.Values.{last_operator}
use Rattle.desk_text.specs.Calls.{IsCall}
use Rattle.desk_text.specs.Lines.{item_limit, is_printable}
use Rattle.script_text.specs.Requests.{Request, Nothing, Begin, Desk, Item}
use Rattle.script_text.specs.ItemLines.{item_line}
use Rattle.script_text.specs.FirstLine.{IsNamed}
use Rattle.script_text.specs.Decodings.{Decoding}
use Rattle.script_text.specs.Scripts.{sent_in, answers_of}
use Rattle.call_history.specs.AcceptedCall.{AcceptedOf}
use Rattle.trace_text.specs.TraceLines.{marked, first_line}
use Rattle.trace_text.specs.declared.speaker.Speaker.TheVariants.{Front, Lane}
use Rattle.trace_scripts.specs.Scripts.{item_done, between, script_lines}
use Rattle.trace_laws.specs.Items.{IsInput}

-- who has a name that a line may hold, as each bridge has that is traced
pub record IsWritten (who : Asker) : Type 0 where
  pub named : IsNamed who
  pub name : list_all is_printable who.cname ≡ true

-- a call whose numbers are in range
pub record IsToldCall (m : AcceptedOf) : Type 0 where
  pub op : m.op ≤ last_operator
  pub call : IsCall m.call

-- a group has no more commands than a desk accepts
abbrev pub IsWithin : CallOf → Type 0
IsWithin (Apply command) = Unit {0}
IsWithin (Group commands) = length commands ≤ group_limit
IsWithin (Undo last) = Unit {0}
IsWithin (Redo last) = Unit {0}
IsWithin (Revert number) = Unit {0}

-- an item whose numbers are in range, and whose line isn't too long
pub record IsToldItem (x : Versioned) : Type 0 where
  pub input : IsInput x.input
  pub few : length (item_line x.input) ≤ item_limit

-- the numbers of all these calls are in range
abbrev pub AreToldCalls : List AcceptedOf → Type 0
AreToldCalls calls = AllByRecursion IsToldCall calls

-- no group among these calls has more commands than that
abbrev pub AreWithin : List AcceptedOf → Type 0
AreWithin calls = AllByRecursion (λ (m : AcceptedOf). IsWithin m.call) calls

-- the numbers of all these items are in range, and no line of theirs is too long
abbrev pub AreToldItems : List Versioned → Type 0
AreToldItems items = AllByRecursion IsToldItem items

-- what calls ask
abbrev pub asked_calls : List AcceptedOf → List CallOf
asked_calls calls = map (λ (m : AcceptedOf). m.call) calls

-- the first line of a lane, and the lines of its items behind those of the calls that lead to their versions: its part
-- of a trace, without the words that name the lane before each line
abbrev pub lane_script : (lane : ℕ) → Asker → List AcceptedOf → List Versioned → List ℕ
lane_script lane who calls items =
    first_line (Lane lane) who.ssrc who.cname ++ script_lines Front 0 (map item_done items) calls

-- a lane's part of a trace, as the trace has it
abbrev pub lane_part : (lane : ℕ) → Asker → List AcceptedOf → List Versioned → List ℕ
lane_part lane who calls items =
    marked (Lane lane) (first_line (Lane lane) who.ssrc who.cname)
    ++ script_lines (Lane lane) 0 (map item_done items) calls

-- what the line of a call asks for
abbrev pub call_asked : AcceptedOf → Request
call_asked m = Desk m.op m.call

-- what the lines of items ask for, behind so many told calls of these: each item behind the calls that lead to its
-- version
abbrev pub items_asked : (told : ℕ) → List AcceptedOf → List Versioned → List Request
items_asked told calls [] = []
items_asked told calls (x ∷ xs) =
    map call_asked (between told x.version calls) ++ Item x.input ∷ items_asked (max told x.version) calls xs

-- what the whole script asks for: the last line is empty, since an LF ends the line before it
abbrev pub lane_asked : Asker → List AcceptedOf → List Versioned → List Request
lane_asked who calls items = Begin who false ∷ items_asked 0 calls items ++ Nothing ∷ []

-- all that a script sends for items, in order
abbrev pub script_sent : Decoding → List ℕ → List Sent
script_sent decoding text = flat_map (λ es. es) (sent_in (answers_of decoding text))
