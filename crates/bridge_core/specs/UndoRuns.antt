-- Calls in a row: commands, groups and reverts, as many undos, and as many redos (own).
use Rattle.std.specs.Prelude.{◌≡◌, ℕ, zero, suc, ◌+◌, ◌≤◌, List, [], ◌∷◌}
use Rattle.desk_edit.specs.Asked.{CallOf as Call}
use Rattle.desk_edit.specs.Asked.CallOf.{Apply, Group, Undo, Redo, Revert}
use Rattle.desk_calls.specs.declared.reply.Reply.{Reply}
use Rattle.desk_calls.specs.declared.reply.Reply.TheVariants.{Accepted}
use Rattle.desk_edit.specs.Calls.{call_limit}
use Rattle.bridge_core.specs.Steps.{CoreOf}
use Rattle.bridge_core.specs.Calls.{Answers}

-- from the first core to the last, each answers one of the calls
abbrev pub AnswersAll : CoreOf → List Call → List Reply → CoreOf → Type 0
AnswersAll first [] replies last = (replies ≡ []) × (last ≡ first)
AnswersAll first (call ∷ calls) replies last =
    (next : CoreOf) × (reply : Reply) × (later : List Reply) ×
    (replies ≡ reply ∷ later) × Answers first next call reply × AnswersAll next calls later last

-- a call that is done and can be undone: a command, a group of commands, or a revert
abbrev pub HasCommands : Call → Type 0
HasCommands (Apply command) = Unit {0}
HasCommands (Group commands) = Unit {0}
HasCommands (Undo last) = ⊥
HasCommands (Redo last) = ⊥
HasCommands (Revert number) = Unit {0}

-- from the first core to the last, each accepts one of the calls, none of which is an undo or a redo
abbrev pub AcceptsAll : CoreOf → List Call → CoreOf → Type 0
AcceptsAll first [] last = last ≡ first
AcceptsAll first (call ∷ calls) last =
    (next : CoreOf) × Answers first next call (Accepted (first.version + 1)) × HasCommands call
    × AcceptsAll next calls last

-- this many undos in a row, from this version on: each names the last accepted call
abbrev pub undos : ℕ → ℕ → List Call
undos version zero = []
undos version (suc n) = Undo version ∷ undos (version + 1) n

-- this many redos in a row, from this version on: each names the last accepted call
abbrev pub redos : ℕ → ℕ → List Call
redos version zero = []
redos version (suc n) = Redo version ∷ redos (version + 1) n

-- the answers to this many calls in a row, from this version on: all are accepted
abbrev pub all_accepted : ℕ → ℕ → List Reply
all_accepted version zero = []
all_accepted version (suc n) = Accepted (version + 1) ∷ all_accepted (version + 1) n

-- a core answers this many undos in a row so, which don't exceed its log
abbrev pub UndoesInARow : CoreOf → ℕ → List Reply → CoreOf → Type 0
UndoesInARow first n replies last =
    (first.version + n ≤ call_limit) × AnswersAll first (undos first.version n) replies last

-- a core answers this many redos in a row so, which don't exceed its log
abbrev pub RedoesInARow : CoreOf → ℕ → List Reply → CoreOf → Type 0
RedoesInARow first n replies last =
    (first.version + n ≤ call_limit) × AnswersAll first (redos first.version n) replies last

-- the desk, what is done and what is undone are the same
abbrev pub IsAsWas : CoreOf → CoreOf → Type 0
IsAsWas now was = (now.desk ≡ was.desk) × (now.done ≡ was.done) × (now.undone ≡ was.undone)
