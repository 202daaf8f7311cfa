-- The lines of a stream of octets, and whether one is too long (own).
use Rattle.std.specs.Prelude.{ℕ, Bool, not, if◌then◌else◌, nat_eq, nat_le, List, [], ◌∷◌, ◌++◌, length, fold, map}
use Rattle.std.specs.List.{take_while, list_all}
use Rattle.std.specs.Str.Lines.{strip_carriage_return}

-- a stream in parts: those that an LF (10) ended, without it, and what stands behind the last LF
pub record Cut : Type 0 where
  pub ended : List (List ℕ)
  pub rest : List ℕ

-- a stream of which nothing has come
abbrev pub uncut : Cut
uncut = record { ended = []; rest = [] }

-- the parts with one more octet
abbrev pub with_octet : Cut → ℕ → Cut
with_octet c x =
    if nat_eq x 10 then record { ended = c.ended ++ c.rest ∷ []; rest = [] }
    else record { ended = c.ended; rest = c.rest ++ x ∷ [] }

-- the stream, cut at each LF
abbrev pub cut : List ℕ → Cut
cut stream = fold with_octet uncut stream

-- how many octets a line has at most, a CR at its end counted and its LF not
abbrev pub line_limit : ℕ
line_limit = 4096

-- the part is no longer than a line may be
abbrev pub is_short : List ℕ → Bool
is_short part = nat_le (length part) line_limit

-- the ended parts before the first one that is too long, without a CR at their end
abbrev pub lines_in : Cut → List (List ℕ)
lines_in c = map strip_carriage_return (take_while is_short c.ended)

-- a part is too long, whether an LF has ended it or not
abbrev pub too_long_in : Cut → Bool
too_long_in c = not (list_all is_short (c.ended ++ c.rest ∷ []))

-- the lines of a stream, as far as it has come
abbrev pub lines_of : List ℕ → List (List ℕ)
lines_of stream = lines_in (cut stream)

-- a line of the stream is too long
abbrev pub is_too_long : List ℕ → Bool
is_too_long stream = too_long_in (cut stream)
