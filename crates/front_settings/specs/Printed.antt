-- How a bridge prints where it listens (own).
use Rattle.std.specs.Prelude.{ℕ, List, ◌++◌, codes}
use Rattle.rtp_codec.specs.Address.{address_text}
use Rattle.front_settings.specs.declared.listening.Listening.{Listening}

-- where a bridge listens, as it is printed
abbrev pub listening_text : Listening → List ℕ
listening_text listening = codes "udp " ++ address_text listening.udp ++ codes " and tcp " ++ address_text listening.tcp
