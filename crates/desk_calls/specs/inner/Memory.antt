-- Out of memory beside a full log (own).
use Rattle.std.specs.Prelude.{ℕ, nat_eq, if◌then◌else◌}
use Rattle.desk_edit.specs.declared.refusal.Refusal.{Refusal}
use Rattle.desk_edit.specs.declared.refusal.Refusal.TheVariants.{LogFull, OutOfMemory}
use Rattle.desk_edit.specs.Calls.{call_limit}

-- what a refusal by `plan` is told as: out of memory comes after the log
abbrev pub before_memory : Refusal → ℕ → Refusal
before_memory OutOfMemory version = if nat_eq version call_limit then LogFull else OutOfMemory
before_memory why version = why
