-- How a fault of the settings is reported (own).
use Rattle.std.specs.Prelude.{◌≡◌, ℕ, List, ◌++◌, codes, string_bytes, Result, Ok, Err}
use Rattle.front_settings.specs.declared.fault.SettingsFault.{SettingsFault}
use Rattle.front_settings.specs.declared.fault.SettingsFault.TheVariants.{BadToml, MissingKey, BadValue}
use Rattle.front_settings.specs.declared.fault.SettingsFault.TheVariants.{UnknownKey, OutOfMemory}
use Rattle.front_settings.specs.Settings.{Trouble, bad_toml, missing_key, bad_value, unknown_key, key_text}

-- a fault reports the trouble that was read, unless memory ran out
abbrev pub TellsTrouble : {A : Type 0} → SettingsFault → Result A Trouble → Type 0
TellsTrouble BadToml read = read ≡ Err bad_toml
TellsTrouble (MissingKey key) read = read ≡ Err (missing_key key)
TellsTrouble (BadValue key) read = read ≡ Err (bad_value key)
TellsTrouble (UnknownKey key) read = read ≡ Err (unknown_key (string_bytes key))
TellsTrouble OutOfMemory read = Unit {0}

-- what a function returned, seen by view, is what was read, unless memory ran out
abbrev pub Gives : {X A : Type 0} → (X → A) → Result X SettingsFault → Result A Trouble → Type 0
Gives view (Ok x) read = read ≡ Ok (view x)
Gives view (Err fault) read = TellsTrouble fault read

-- how a fault is printed
abbrev pub settings_text : SettingsFault → List ℕ
settings_text BadToml = codes "1 BadToml"
settings_text (MissingKey key) = codes "2 MissingKey " ++ key_text key
settings_text (BadValue key) = codes "3 BadValue " ++ key_text key
settings_text (UnknownKey key) = codes "4 UnknownKey " ++ string_bytes key
settings_text OutOfMemory = codes "out of memory"
