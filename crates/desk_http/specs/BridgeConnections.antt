-- A line that is sent to the bridge, and how it is replied to (own).
use Rattle.std.specs.Prelude.{◌≡◌, ℕ, ◌+◌, ◌-◌, ◌^◌, Bool, true, false, not, ◌&&◌, ◌||◌, if◌then◌else◌, nat_eq, nat_le}
use Rattle.std.specs.Prelude.{List, [], ◌∷◌, ◌++◌, length, take, min, codes}
use Rattle.std.specs.Prelude.{Option, Some, None, option_map}
use Rattle.std.specs.Str.{bytes_eq}
use Rattle.std.specs.Option.{option_and_then, is_some}
use Rattle.std.specs.declared.alloc.Global.{Global}
use Rattle.std.specs.declared.vec.Vec.{Vec}
use Rattle.desk_http.specs.declared.responding.BridgeReply.{BridgeReply}
use Rattle.desk_http.specs.declared.responding.BridgeReply.TheVariants as replies
use Rattle.desk_http.specs.declared.bridge_request.ReplyProgress.{ReplyProgress}
use Rattle.desk_http.specs.declared.bridge_request.ReplyProgress.TheVariants as progresses
use Rattle.desk_http.specs.declared.bridge_connection.BridgeConnection.{BridgeConnection}
use Rattle.desk_http.specs.declared.bridge_connection.RequestOutcome.{RequestOutcome}
use Rattle.desk_http.specs.declared.bridge_connection.RequestOutcome.TheVariants.{Answered, Busy, Unsent, Unanswered}
use Rattle.desk_http.specs.BridgeRequests.{progress_of, before_last_lf}

-- milliseconds that the bridge has to accept a connection and to reply
abbrev pub reply_timeout : ℕ
reply_timeout = 2000

-- the line that is under way
abbrev pub line_of : BridgeConnection → Option (List ℕ)
line_of connection = option_map (λ e. e.line.items) connection.request

-- what has come since the line is under way
abbrev pub received_of : BridgeConnection → Option (List ℕ)
received_of connection = option_map (λ e. e.received.items) connection.request

-- the progress of the reply to the line under way
abbrev pub progress_in : BridgeConnection → Option ReplyProgress
progress_in connection = option_map (λ e. progress_of e.line.items e.received.items) connection.request

-- this line is under way, and nothing of it was sent yet
pub record IsStarted (line_sent : List ℕ) (now : ℕ) (connection : BridgeConnection) : Type 0 where
  pub line : line_of connection ≡ Some line_sent
  pub received : received_of connection ≡ Some []
  pub output : connection.output.items ≡ line_sent ++ 10 ∷ []
  pub sent : connection.sent ≡ 0
  pub deadline : connection.deadline ≡ min (now + reply_timeout) (2 ^ 64 - 1)

-- the line, and what of it is to be sent and was sent, stay as they are
pub record KeepsLine (old new : BridgeConnection) : Type 0 where
  pub line : line_of new ≡ line_of old
  pub output : new.output.items ≡ old.output.items
  pub sent : new.sent ≡ old.sent
  pub deadline : new.deadline ≡ old.deadline

-- all of the line was sent, and its LF
abbrev pub is_sent : BridgeConnection → Bool
is_sent connection = nat_le (length connection.output.items) connection.sent

-- how a request ends that gets no whole reply: it counts as unsent only where none of its octets was sent
abbrev pub unanswered : BridgeConnection → RequestOutcome
unanswered connection = if nat_eq connection.sent 0 then Unsent else Unanswered

-- no reply is waited for any longer: the connection has ended, or the time is over
abbrev pub has_failed : BridgeConnection → ℕ → Bool
has_failed connection now = not connection.is_open || nat_le connection.deadline now

-- how the request ends, if it does: a reply counts only after the whole line, and only if nothing comes with it
abbrev pub outcome_by : BridgeConnection → ℕ → ReplyProgress → Option RequestOutcome
outcome_by connection now progresses.Complete = Some (if is_sent connection then Answered else unanswered connection)
outcome_by connection now progresses.Busy = Some Busy
outcome_by connection now progresses.Malformed = Some (unanswered connection)
outcome_by connection now progresses.Partial = if has_failed connection now then Some (unanswered connection) else None

-- how the request under way ends, if it does
abbrev pub outcome_of : BridgeConnection → ℕ → Option RequestOutcome
outcome_of connection now = option_and_then (outcome_by connection now) (progress_in connection)

-- the reply by how a request ended, and by what has come
abbrev pub reply_by : RequestOutcome → Vec ℕ Global → BridgeReply
reply_by Answered received = replies.Text received
reply_by Busy received = replies.Busy
reply_by Unsent received = replies.Gone
reply_by Unanswered received = replies.Lost

-- the line of a request that has ended, and its reply
abbrev pub finished_in : BridgeConnection → ℕ → Option (Vec ℕ Global × BridgeReply)
finished_in connection now =
    option_and_then (λ e. option_map (λ outcome. (e.line, reply_by outcome e.received)) (outcome_of connection now))
    connection.request

-- the request got a whole reply
abbrev pub is_answered : Option RequestOutcome → Bool
is_answered (Some Answered) = true
is_answered (Some Busy) = false
is_answered (Some Unsent) = false
is_answered (Some Unanswered) = false
is_answered None = false

-- the connection is used again: it is open, and the request got a whole reply
abbrev pub is_reused : BridgeConnection → ℕ → Bool
is_reused connection now = connection.is_open && is_answered (outcome_of connection now)

-- the line that gives the connection a name
abbrev pub naming_line : List ℕ → List ℕ
naming_line name = codes "as " ++ name

-- the line gives the connection a name
abbrev pub is_naming : List ℕ → Bool
is_naming line = nat_le 3 (length line) && bytes_eq (take 3 line) (codes "as ")

-- the bridge repeats the line: it gives the name
abbrev pub is_repeated : List ℕ → Option (List ℕ) → Bool
is_repeated line None = false
is_repeated line (Some text) = bytes_eq text line

-- the connection has its name after the reply to a line
abbrev pub named_by : Bool → List ℕ → List ℕ → Bool
named_by is_named line received = if is_naming line then is_repeated line (before_last_lf received) else is_named

-- a fact that holds, if there is one
abbrev pub is_true_of : Option Bool → Bool
is_true_of None = false
is_true_of (Some holds) = holds

-- the connection has its name after the request that has ended: one that is closed has none
abbrev pub is_named_after : BridgeConnection → ℕ → Bool
is_named_after connection now =
    is_reused connection now
    && is_true_of (option_map (λ e. named_by connection.is_named e.line.items e.received.items) connection.request)

-- the bridge knows the connection by this name
abbrev pub has_name : BridgeConnection → List ℕ → Bool
has_name connection name = connection.is_open && connection.is_named && bytes_eq connection.name.items name

-- the connection's name stays as it is
pub record KeepsName (old new : BridgeConnection) : Type 0 where
  pub name : new.name ≡ old.name
  pub is_named : new.is_named ≡ old.is_named

-- the connection stays open only where octets have come while a line is under way
abbrev pub is_open_after : BridgeConnection → List ℕ → Bool
is_open_after connection octets = connection.is_open && is_some connection.request && not (nat_eq (length octets) 0)

-- more may come of a reply, or the end of a connection without a request
abbrev pub may_have_more : Option ReplyProgress → Bool
may_have_more None = true
may_have_more (Some progresses.Partial) = true
may_have_more (Some progresses.Complete) = false
may_have_more (Some progresses.Busy) = false
may_have_more (Some progresses.Malformed) = false

-- the socket is to be read
abbrev pub wants_read : BridgeConnection → Bool
wants_read connection = connection.is_open && may_have_more (progress_in connection)
