-- The lines that the page takes for the bridge (own).
use Rattle.std.specs.Prelude.{ℕ, Bool, not, ◌&&◌, ◌||◌, List, length, take, nat_lt, nat_le, nat_eq, codes, slice_index}
use Rattle.std.specs.List.{list_all, prefix_len}
use Rattle.std.specs.Str.{bytes_eq}

-- an octet from a space to `~`
abbrev pub is_printable : ℕ → Bool
is_printable octet = nat_le 32 octet && nat_le octet 126

-- the most octets of a line, as the bridge takes them
abbrev pub longest_line : ℕ
longest_line = 4096

-- one line of 1 to 4,096 printable octets
abbrev pub is_line : List ℕ → Bool
is_line body = nat_lt 0 (length body) && nat_le (length body) longest_line && list_all is_printable body

-- an octet from `!` to `~`
abbrev pub is_visible : ℕ → Bool
is_visible octet = nat_lt 32 octet && nat_le octet 126

-- the most octets of a person's name, as the bridge takes it
abbrev pub longest_person : ℕ
longest_person = 64

-- the name of a person: a word of 1 to 64 visible octets
abbrev pub is_person : List ℕ → Bool
is_person name = nat_lt 0 (length name) && nat_le (length name) longest_person && list_all is_visible name

-- an octet that isn't a space
abbrev pub is_not_space : ℕ → Bool
is_not_space octet = not (nat_eq octet 32)

-- the octets before the first space
abbrev pub first_word : List ℕ → List ℕ
first_word line = take (prefix_len is_not_space line) line

-- the first word is `names`: the line never goes to the bridge, which has no names
abbrev pub is_names_line : List ℕ → Bool
is_names_line line = bytes_eq (first_word line) (codes "names")

-- the line asks for the stream of events: it never goes to the bridge
abbrev pub is_events_line : List ℕ → Bool
is_events_line line = bytes_eq (first_word line) (codes "events")

-- the line is a path, which begins with a slash (47): it never goes to the bridge, since it asks for a file
abbrev pub is_file_line : List ℕ → Bool
is_file_line line = nat_le 1 (length line) && nat_eq (slice_index line 0) 47

-- the most octets of a change of names
abbrev pub longest_change : ℕ
longest_change = 262144

-- a change of names that isn't too long
abbrev pub is_change : List ℕ → Bool
is_change body = nat_le (length body) longest_change && is_names_line body

-- the word asks about the log, the desk's groups, its lease, the connection or its lines
abbrev pub is_asking : List ℕ → Bool
is_asking word =
    bytes_eq word (codes "calls") || bytes_eq word (codes "groups") || bytes_eq word (codes "lease")
    || bytes_eq word (codes "as") || bytes_eq word (codes "why") || bytes_eq word (codes "help")

-- the first word asks for more than one line, for lines from then on, for the end of the connection or of the bridge,
-- for something of the connection's own, for names, for the stream of events, or for a file
abbrev pub is_reserved : List ℕ → Bool
is_reserved line =
    bytes_eq (first_word line) (codes "show") || bytes_eq (first_word line) (codes "history")
    || bytes_eq (first_word line) (codes "stats") || bytes_eq (first_word line) (codes "levels")
    || bytes_eq (first_word line) (codes "watch")
    || bytes_eq (first_word line) (codes "quit") || bytes_eq (first_word line) (codes "stop")
    || is_asking (first_word line) || is_names_line line || is_events_line line
    || is_file_line line
