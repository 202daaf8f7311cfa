-- A delay of whole seconds is told exactly, in units of 1/65536 second (RFC 3550 section 6.4.1, DLSR).
use Rattle.std.specs.Prelude.{◌≡◌, ℕ, ◌+◌, ◌*◌, ◌<◌, ◌^◌, Some}
use Rattle.source_valid.specs.declared.heard.Heard.{Heard}
use Rattle.source_valid.specs.Reports.{dlsr_of}

abbrev pub Delays : Type 0
Delays =
    (h : Heard) (seconds : ℕ) → seconds < 2 ^ 16 → dlsr_of (Some h) (h.moment + seconds * 10 ^ 9) ≡ seconds * 2 ^ 16
