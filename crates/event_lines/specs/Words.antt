-- Why something failed, in words (own; those of errno(3) for the numbers of the system).
use Rattle.std.specs.Prelude.{ℕ, ℤ, pos, negsuc, if◌then◌else◌, ◌==◌, List, ◌++◌, codes, Option, Some, None}
use Rattle.std.specs.Fmt.{decimal}
use Rattle.std.specs.declared.io.ErrorKind.{ErrorKind}
use Rattle.std.specs.declared.io.ErrorKind.TheVariants as kinds
use Rattle.event_lines.specs.declared.why.WhyFailed.{WhyFailed}
use Rattle.event_lines.specs.declared.why.WhyFailed.TheVariants.{System, OutOfMemory, NoThread, Busy, Unnumbered}

-- the system's words for a number that is met often
abbrev pub system_words : ℕ → Option (List ℕ)
system_words n =
    if n == 1 then Some (codes "operation not permitted") else
    if n == 2 then Some (codes "no such file") else
    if n == 5 then Some (codes "input/output error") else
    if n == 11 then Some (codes "resource temporarily unavailable") else
    if n == 12 then Some (codes "cannot allocate memory") else
    if n == 13 then Some (codes "permission denied") else
    if n == 20 then Some (codes "not a directory") else
    if n == 21 then Some (codes "is a directory") else
    if n == 23 then Some (codes "too many open files in system") else
    if n == 24 then Some (codes "too many open files") else
    if n == 36 then Some (codes "file name too long") else
    if n == 40 then Some (codes "too many levels of symbolic links") else
    if n == 97 then Some (codes "address family not supported") else
    if n == 98 then Some (codes "address in use") else
    if n == 99 then Some (codes "cannot assign requested address") else
    if n == 100 then Some (codes "network is down") else
    if n == 105 then Some (codes "no buffer space available") else
    if n == 110 then Some (codes "connection timed out") else
    if n == 111 then Some (codes "connection refused") else
    None

-- the words for a number: without any the number itself
abbrev pub number_text : ℕ → Option (List ℕ) → List ℕ
number_text n (Some words) = words
number_text n None = codes "error " ++ decimal n

-- how a failure is printed
abbrev pub why_text : WhyFailed → List ℕ
why_text (System n) = number_text n (system_words n)
why_text OutOfMemory = codes "out of memory"
why_text NoThread = codes "no thread could be started"
why_text Busy = codes "busy"
why_text Unnumbered = codes "failed"

-- why a call without a number failed
abbrev pub unnumbered_of : ErrorKind → WhyFailed
unnumbered_of kinds.OutOfMemory = OutOfMemory
unnumbered_of kind = Unnumbered

-- why the system's call failed, by its number, if it has one, and its kind
abbrev pub why_of : Option ℤ → ErrorKind → WhyFailed
why_of (Some (pos n)) kind = System n
why_of (Some (negsuc n)) kind = Unnumbered
why_of None kind = unnumbered_of kind
