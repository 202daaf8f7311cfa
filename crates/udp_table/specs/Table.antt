-- The drops of a socket in the system's table of UDP sockets (Linux, /proc/net/udp, proc_net(5)).
use Rattle.std.specs.Prelude.{ℕ, ◌+◌, ◌==◌, ◌&&◌, Bool, false, nat_lt, nat_eq, List, [], ◌∷◌, ◌++◌, length, fold}
use Rattle.std.specs.Prelude.{Option, None, Some, Result, Ok, Err, if◌then◌else◌}
use Rattle.udp_table.specs.Words.{word_at, word_number}
use Rattle.udp_table.specs.declared.fault.TableFault.{TableFault}
use Rattle.udp_table.specs.declared.fault.TableFault.TheVariants.{NoLine, OtherForm}

-- how many octets of a line are read: lines of the system have 127, or some more where their numbers are long (own)
abbrev pub most_kept : ℕ
most_kept = 256

-- how many words of a line stand before the inode, and before the drops, which are the last
abbrev pub before_inode : ℕ
before_inode = 9

abbrev pub before_drops : ℕ
before_drops = 12

-- a text in lines: those that an LF (10) ended, without it, and what stands behind the last LF
pub record Cut : Type 0 where
  pub ended : List (List ℕ)
  pub rest : List ℕ

-- a text of which nothing has come
abbrev pub uncut : Cut
uncut = record { ended = []; rest = [] }

-- a line with one more octet, as long as it isn't too long
abbrev pub longer : List ℕ → ℕ → List ℕ
longer line octet = if nat_lt (length line) most_kept then line ++ octet ∷ [] else line

-- the lines with one more octet
abbrev pub with_octet : Cut → ℕ → Cut
with_octet c octet =
    if nat_eq octet 10 then record { ended = c.ended ++ c.rest ∷ []; rest = [] }
    else record { ended = c.ended; rest = longer c.rest octet }

-- the text, cut at each LF
abbrev pub cut : List ℕ → Cut
cut text = fold with_octet uncut text

-- the number is this inode
abbrev pub is_inode : ℕ → Option ℕ → Bool
is_inode inode None = false
is_inode inode (Some n) = n == inode

-- the drops, if they are a number
abbrev pub drops_or_fault : Option ℕ → Result ℕ TableFault
drops_or_fault None = Err OtherForm
drops_or_fault (Some drops) = Ok drops

-- all octets of a line are read, and no word stands behind the drops
abbrev pub is_whole : List ℕ → Bool
is_whole line = nat_lt (length line) most_kept && length (word_at (before_drops + 1) line) == 0

-- the drops that a socket's line tells
abbrev pub drops_in : List ℕ → Result ℕ TableFault
drops_in line = if is_whole line then drops_or_fault (word_number (word_at before_drops line)) else Err OtherForm

-- what a line tells of the socket that has this inode: nothing, if it is another's
abbrev pub line_tells : ℕ → List ℕ → Option (Result ℕ TableFault)
line_tells inode line = if is_inode inode (word_number (word_at before_inode line)) then Some (drops_in line) else None

-- this, or else that
abbrev pub or_else : {A : Type 0} → Option A → Option A → Option A
or_else None other = other
or_else (Some told) other = Some told

-- what the first line tells that is the socket's
abbrev pub first_told : ℕ → List (List ℕ) → Option (Result ℕ TableFault)
first_told inode [] = None
first_told inode (line ∷ lines) = or_else (line_tells inode line) (first_told inode lines)

-- what was told, or that there is no line
abbrev pub told_or_none : Option (Result ℕ TableFault) → Result ℕ TableFault
told_or_none None = Err NoLine
told_or_none (Some told) = told

-- how many datagrams the system dropped at the socket that has this inode
abbrev pub socket_drops : ℕ → List ℕ → Result ℕ TableFault
socket_drops inode text = told_or_none (first_told inode (cut text).ended)
