-- How `confbridge serve` ends (own).
use Rattle.std.specs.Prelude.{ℕ, List, ◌++◌, codes, Result, Ok, Err}
use Rattle.std.specs.declared.io.ErrorKind.{ErrorKind}
use Rattle.udp_wire.specs.declared.ending.FrontFault.{FrontFault}
use Rattle.udp_wire.specs.declared.ending.FrontFault.TheVariants.{OutOfMemory}
use Rattle.front_settings.specs.declared.fault.SettingsFault.{SettingsFault}
use Rattle.front_settings.specs.declared.fault.SettingsFault.TheVariants as settings
use Rattle.udp_wire.specs.Ended.{front_text, front_status_of, ended_by_io}
use Rattle.front_settings.specs.SettingsTold.{settings_text}
use Rattle.confbridge.specs.declared.ending.ServeFault.{ServeFault}
use Rattle.confbridge.specs.declared.ending.ServeFault.TheVariants.{Settings, Front}

-- how a fault is printed
abbrev pub serve_text : ServeFault → List ℕ
serve_text (Settings fault) = codes "settings: " ++ settings_text fault
serve_text (Front fault) = front_text fault

-- the exit status: 1 for the settings, and else that of the bridge
abbrev pub serve_status_of : {T : Type 0} → Result T ServeFault → ℕ
serve_status_of (Ok done) = 0
serve_status_of (Err (Settings fault)) = 1
serve_status_of (Err (Front fault)) = front_status_of (Err fault)

-- how a bridge ends by a fault of its settings: by that fault, unless memory ran out
abbrev pub by_settings : SettingsFault → ServeFault
by_settings settings.BadToml = Settings settings.BadToml
by_settings (settings.MissingKey key) = Settings (settings.MissingKey key)
by_settings (settings.BadValue key) = Settings (settings.BadValue key)
by_settings (settings.UnknownKey key) = Settings (settings.UnknownKey key)
by_settings settings.OutOfMemory = Front OutOfMemory

-- how it ends by a fault of its own
abbrev pub by_front : FrontFault → ServeFault
by_front fault = Front fault

-- how it ends when the file of its settings can't be read
abbrev pub by_io : ErrorKind → ServeFault
by_io kind = Front (ended_by_io kind)
