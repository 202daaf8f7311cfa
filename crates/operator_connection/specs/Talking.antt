-- The state of an operator's connection, step by step (own).
use Rattle.std.specs.Prelude.{◌≡◌, ◌⊎◌, ◌++◌, ℕ, zero, suc, Bool, true, false, not, ◌&&◌, ◌||◌, nat_eq, nat_le}
use Rattle.std.specs.Prelude.{if◌then◌else◌, List, [], ◌∷◌, length, take, drop, Result, Ok, Err}
use Rattle.std.specs.IoError.{error_kind}
use Rattle.std.specs.declared.io.Error.{Error}
use Rattle.std.specs.declared.io.ErrorKind.{ErrorKind}
use Rattle.std.specs.declared.io.ErrorKind.TheVariants as kinds
use Rattle.desk_text.specs.declared.fault.Fault.TheVariants.{LineTooLong}
use Rattle.operator_lines.specs.Fed.{Brings}
use Rattle.operator_lines.specs.Outbound.{is_too_much}
use Rattle.operator_lines.specs.Operators.{Replying, Showing, AnswersLine, fault_line}
use Rattle.operator_lines.specs.declared.answering.Next.{Next}
use Rattle.operator_lines.specs.declared.answering.Next.TheVariants as next
use Rattle.operator_connection.specs.declared.talking.LinkState.{LinkState}
use Rattle.operator_connection.specs.declared.talking.LinkState.TheVariants.{Open, Ending, Lost, Stopping}
use Rattle.operator_connection.specs.declared.talking.Came.{Came}
use Rattle.operator_connection.specs.declared.talking.Came.TheVariants as came

-- lines are read and answered
abbrev pub is_open : LinkState → Bool
is_open Open = true
is_open Ending = false
is_open Lost = false
is_open Stopping = false

-- how many nanoseconds a connection without a seat may be silent: 30 s
abbrev pub longest_silence : ℕ
longest_silence = 30000000000

-- how many nanoseconds a connection that ends has to take what waits for it: 5 s, anew with each octet that it takes
abbrev pub ending_time : ℕ
ending_time = 5000000000

-- how many it has when the bridge is stopped: 1 s
abbrev pub stopping_time : ℕ
stopping_time = 1000000000

-- it is to be closed, while these octets wait to be written, this many nanoseconds after its last change
abbrev pub is_over : LinkState → (seated : Bool) → (waiting : List ℕ) → (passed : ℕ) → Bool
is_over Open seated waiting passed = not seated && nat_le longest_silence passed
is_over Ending seated waiting passed = nat_eq (length waiting) 0 || nat_le ending_time passed
is_over Lost seated waiting passed = true
is_over Stopping seated waiting passed = nat_eq (length waiting) 0 || nat_le stopping_time passed

-- its state when the bridge is stopped
abbrev pub after_stop : LinkState → LinkState
after_stop Open = Stopping
after_stop Ending = Stopping
after_stop Lost = Lost
after_stop Stopping = Stopping

-- the moment of its last change then
abbrev pub since_stop : LinkState → (now since : ℕ) → ℕ
since_stop Open now since = now
since_stop Ending now since = now
since_stop Lost now since = since
since_stop Stopping now since = since

-- lost if more waits than an operator may leave unread
abbrev pub unless_too_much : List ℕ → LinkState → LinkState
unless_too_much waiting standing = if is_too_much waiting then Lost else standing

-- its state after an answered line, while these octets wait to be written
abbrev pub after_line : Next → List ℕ → LinkState
after_line next.Stay waiting = unless_too_much waiting Open
after_line next.Quit waiting = unless_too_much waiting Ending
after_line next.Stop waiting = Stopping

-- these lines are answered one after another, each while the connection is open
abbrev pub AnswersLines :
    {D : Type 0} → Replying D → Showing D → List (List ℕ) → D → D → (before after : List ℕ) → (from to : LinkState)
    → Type 0
AnswersLines replies shows [] old new before after from to = (new ≡ old) × (after ≡ before) × (to ≡ from)
AnswersLines {D = D} replies shows (line ∷ lines) old new before after from to =
    (from ≡ Open)
    × (mid : D) × (between : List ℕ) × (becomes : Next)
    × AnswersLine replies shows old mid line before between becomes
    × AnswersLines replies shows lines mid new between after (after_line becomes between) to

-- the first of these lines are answered: all, unless one of them ended the connection or the bridge was stopped
abbrev pub AnswersFirst :
    {D : Type 0} → Replying D → Showing D → List (List ℕ) → D → D → (before after : List ℕ) → LinkState → Bool → Type 0
AnswersFirst replies shows lines old new before after to stopped =
    (count : ℕ)
    × AnswersLines replies shows (take count lines) old new before after Open to
    × ((take count lines ≡ lines) ⊎ (is_open to ≡ false) ⊎ (stopped ≡ true))

-- a line that is too long is refused behind all other lines, while the connection is open
abbrev pub refuses : (is_too_long stopped : Bool) → LinkState → Bool
refuses is_too_long stopped standing = is_too_long && not stopped && is_open standing

-- it is refused so, or there is none
abbrev pub Refuses : Bool → (before after : List ℕ) → (from to : LinkState) → Type 0
Refuses true before after from to = (after ≡ before ++ fault_line 0 LineTooLong) × (to ≡ Ending)
Refuses false before after from to = (after ≡ before) × (to ≡ from)

-- these lines are answered, and then one that is too long is refused
abbrev pub AnswersAll :
    {D : Type 0} → Replying D → Showing D → List (List ℕ) → (is_too_long : Bool) → D → D → (before after : List ℕ)
    → LinkState → Bool → Type 0
AnswersAll replies shows lines is_too_long old new before after to stopped =
    (between : List ℕ) × (standing : LinkState)
    × AnswersFirst replies shows lines old new before between standing stopped
    × Refuses (refuses is_too_long stopped standing) between after standing to

-- octets follow a stream: the lines that they end are answered, and then one that is too long is refused
abbrev pub AnswersOctets :
    {D : Type 0} → Replying D → Showing D → (stream octets : List ℕ) → D → D → (before after : List ℕ) → LinkState
    → Bool → Type 0
AnswersOctets replies shows stream octets old new before after to stopped =
    (lines : List (List ℕ)) × (is_too_long : Bool)
    × Brings stream octets lines is_too_long
    × AnswersAll replies shows lines is_too_long old new before after to stopped

-- memory ran out while these lines were answered: the first of them were, and then a call may have been carried out
abbrev pub AnswersSome :
    {D : Type 0} → Replying D → Showing D → List (List ℕ) → D → (before after : List ℕ) → Type 0
AnswersSome {D = D} replies shows lines old before after =
    (count : ℕ) × (mid : D) × (to : LinkState)
    × AnswersLines replies shows (take count lines) old mid before after Open to

-- memory ran out while octets that follow a stream were heard, or while the lines that they end were answered
abbrev pub BreaksOff :
    {D : Type 0} → Replying D → Showing D → (stream octets : List ℕ) → D → (before after : List ℕ) → Type 0
BreaksOff replies shows stream octets old before after =
    (after ≡ before)
    ⊎ ((lines : List (List ℕ)) × (is_too_long : Bool)
    × Brings stream octets lines is_too_long × AnswersSome replies shows lines old before after)

-- what an error of a socket means: nothing yet, nothing this time, or the end
abbrev pub came_by : ErrorKind → Came
came_by kinds.WouldBlock = came.Later
came_by kinds.Interrupted = came.Again
came_by kind = came.Failed

-- what a socket's answer means
abbrev pub came_of : Result ℕ Error → Came
came_of (Ok zero) = came.End
came_of (Ok (suc n)) = came.Octets (suc n)
came_of (Err error) = came_by (error_kind error)

-- the state of an open connection after a read
abbrev pub after_read : Came → LinkState → LinkState
after_read (came.Octets n) standing = standing
after_read came.End standing = Ending
after_read came.Later standing = standing
after_read came.Again standing = standing
after_read came.Failed standing = Lost

-- the moment of its last change after a read that brought no octets
abbrev pub since_read : Came → (now since : ℕ) → ℕ
since_read (came.Octets n) now since = since
since_read came.End now since = now
since_read came.Later now since = since
since_read came.Again now since = since
since_read came.Failed now since = since

-- its state after a write: a socket that takes nothing is lost
abbrev pub after_write : Came → LinkState → LinkState
after_write (came.Octets n) standing = standing
after_write came.End standing = Lost
after_write came.Later standing = standing
after_write came.Again standing = standing
after_write came.Failed standing = Lost

-- the moment of its last change after a write: one that ends, and takes octets, has its time anew
abbrev pub since_write : Came → LinkState → (now since : ℕ) → ℕ
since_write (came.Octets n) Open now since = since
since_write (came.Octets n) Ending now since = now
since_write (came.Octets n) Lost now since = since
since_write (came.Octets n) Stopping now since = since
since_write came.End standing now since = since
since_write came.Later standing now since = since
since_write came.Again standing now since = since
since_write came.Failed standing now since = since

-- what still waits after a write
abbrev pub left_after : Came → List ℕ → List ℕ
left_after (came.Octets n) waiting = drop n waiting
left_after came.End waiting = waiting
left_after came.Later waiting = waiting
left_after came.Again waiting = waiting
left_after came.Failed waiting = waiting
