-- The settings that a table of TOML gives, or its first fault (own).
use Rattle.std.specs.Prelude.{◌^◌, ◌-◌, ℕ, Bool, not, if◌then◌else◌, List, [], ◌∷◌}
use Rattle.std.specs.Prelude.{filter, fold, codes, Option, Some, None, Result, Ok, Err}
use Rattle.std.specs.List.{list_any}
use Rattle.std.specs.Ordering.{nat_cmp, is_lt}
use Rattle.std.specs.Cmp.Lexicographic.{slice_cmp}
use Rattle.std.specs.Str.{bytes_eq}
use Rattle.toml.specs.Data.{Data, Members, no_members, member, get_member}
use Rattle.bridge_core.specs.Calls.{most_lanes}
use Rattle.front_settings.specs.declared.setup.FrontSettings.{FrontSettings}
use Rattle.front_settings.specs.declared.setup.SettingKey.{SettingKey}
use Rattle.front_settings.specs.declared.setup.SettingKey.TheVariants.{Udp, Tcp, Lanes, Operators}
use Rattle.front_settings.specs.declared.setup.SettingKey.TheVariants.{ReportMs, BridgeSsrc, Cname, Trace}
use Rattle.front_settings.specs.declared.setup.SettingKey.TheVariants.{ReceiveBuffer, SendBuffer}
use Rattle.front_settings.specs.SettingValues.{address_in, loopback_in, number_in, cname_in, trace_in}

-- what is wrong with settings; an unknown key is named by its octets
pub data Trouble : Type 0 where
  bad_toml : Trouble
  missing_key : SettingKey → Trouble
  bad_value : SettingKey → Trouble
  unknown_key : List ℕ → Trouble

-- how a key is written
abbrev pub key_text : SettingKey → List ℕ
key_text Udp = codes "udp"
key_text Tcp = codes "tcp"
key_text Lanes = codes "lanes"
key_text Operators = codes "operators"
key_text ReportMs = codes "report_ms"
key_text BridgeSsrc = codes "bridge_ssrc"
key_text Cname = codes "cname"
key_text Trace = codes "trace"
key_text ReceiveBuffer = codes "receive_buffer"
key_text SendBuffer = codes "send_buffer"

-- a value, or the trouble: what follows is judged only behind a value
infixl 10 ◌>>=◌
abbrev ◌>>=◌ : {A B : Type 0} → Result A Trouble → (A → Result B Trouble) → Result B Trouble
(Ok x) >>= f = f x
(Err e) >>= f = Err e

-- what a value is, if it is good
abbrev pub good_value : {A : Type 0} → SettingKey → Option A → Result A Trouble
good_value key None = Err (bad_value key)
good_value key (Some x) = Ok x

-- the value at a required key
abbrev pub needed : {A : Type 0} → SettingKey → (Data → Option A) → Option Data → Result A Trouble
needed key read None = Err (missing_key key)
needed key read (Some value) = good_value key (read value)

-- the value at a key, with a default if it is left out
abbrev pub given : {A : Type 0} → SettingKey → (Data → Option A) → A → Option Data → Result A Trouble
given key read default None = Ok default
given key read default (Some value) = good_value key (read value)

-- the keys of a table
abbrev pub keys_in : Members → List (List ℕ)
keys_in no_members = []
keys_in (member key value rest) = key ∷ keys_in rest

-- the text is how a setting's key is written
unfoldable pub is_known : List ℕ → Bool
is_known text =
    list_any (λ key. bytes_eq text (key_text key))
    (Udp ∷ Tcp ∷ Lanes ∷ Operators ∷ ReportMs ∷ BridgeSsrc ∷ Cname ∷ Trace ∷ ReceiveBuffer ∷ SendBuffer ∷ [])

-- the lesser of two texts, octet by octet
abbrev pub lesser : List ℕ → List ℕ → List ℕ
lesser a b = if is_lt (slice_cmp nat_cmp a b) then a else b

-- the least text of all
abbrev pub least : List (List ℕ) → Option (List ℕ)
least [] = None
least (text ∷ texts) = Some (fold lesser text texts)

-- the least key of a table that is no setting's
abbrev pub unknown_in : Members → Option (List ℕ)
unknown_in table = least (filter (λ text. not (is_known text)) (keys_in table))

-- no key may be left
abbrev pub none_unknown : Option (List ℕ) → Result (Unit {0}) Trouble
none_unknown None = Ok tt
none_unknown (Some text) = Err (unknown_key text)

-- how many operators there are seats for at most
abbrev pub most_operators : ℕ
most_operators = 16

-- the fewest milliseconds between two reports: the least interval of a session of 360 kbit/s (RFC 3550 section 6.2)
abbrev pub least_report_ms : ℕ
least_report_ms = 1000

-- the most milliseconds between two reports, also where none are given: the least interval of any session (RFC 3550
-- section 6.2)
abbrev pub most_report_ms : ℕ
most_report_ms = 5000

-- the fewest and the most octets that a buffer of the socket is asked to have, and how many it is where none are given
abbrev pub least_buffer : ℕ
least_buffer = 4096

abbrev pub most_buffer : ℕ
most_buffer = 10 ^ 9

abbrev pub usual_buffer : ℕ
usual_buffer = 2 ^ 22

-- how many octets a buffer is asked to have
abbrev pub buffer_at : SettingKey → Option Data → Result ℕ Trouble
buffer_at key value = given key (number_in least_buffer most_buffer) usual_buffer value

-- the settings of a table, or its first trouble: key by key, and then the keys that are left
unfoldable pub settings_of : Members → Result FrontSettings Trouble
settings_of table = do
  let value : SettingKey → Option Data = λ key. get_member (key_text key) table
  udp ← needed Udp address_in (value Udp)
  tcp ← needed Tcp loopback_in (value Tcp)
  lanes ← given Lanes (number_in 1 most_lanes) 1 (value Lanes)
  operators ← given Operators (number_in 1 most_operators) 1 (value Operators)
  report_ms ← given ReportMs (number_in least_report_ms most_report_ms) most_report_ms (value ReportMs)
  bridge_ssrc ← given BridgeSsrc (number_in 0 (2 ^ 32 - 1)) 1 (value BridgeSsrc)
  cname ← given Cname cname_in (codes "bridge") (value Cname)
  trace ← given Trace (trace_in operators cname) None (value Trace)
  receive_buffer ← buffer_at ReceiveBuffer (value ReceiveBuffer)
  send_buffer ← buffer_at SendBuffer (value SendBuffer)
  none_left ← none_unknown (unknown_in table)
  Ok (record {
    udp = udp;
    tcp = tcp;
    lanes = lanes;
    operators = operators;
    report_ms = report_ms;
    bridge = record { bridge_ssrc = bridge_ssrc; cname = cname };
    trace = trace;
    receive_buffer = receive_buffer;
    send_buffer = send_buffer;
  })

-- the settings of a text, by the table that it is, if it is one
abbrev pub read_of : Option Members → Result FrontSettings Trouble
read_of None = Err bad_toml
read_of (Some table) = settings_of table
