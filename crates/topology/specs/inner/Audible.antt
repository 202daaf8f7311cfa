-- How the audio sources that may be heard, and the gains for them, are found from their rows. No public clause cites
-- this.
use Rattle.std.specs.Prelude.{ℕ, Bool, if◌then◌else◌, List, Option, None, Some}
use Rattle.std.specs.Option.{is_some, option_and_then}
use Rattle.std.specs.List.{find}
use Rattle.desk_rows.specs.declared.row.Source.{Source as SourceRow}
use Rattle.desk_rows.specs.declared.row.Row.{Row}
use Rattle.desk_rows.specs.declared.row.Row.TheVariants.{Source}
use Rattle.desk_rows.specs.declared.row.Media.TheVariants.{Audio}
use Rattle.desk_rows.specs.declared.key.Key.TheVariants as keys
use Rattle.desk_rows.specs.Row.{same_media, has_key}
use Rattle.desk_rows.specs.Desk.{Desk}
use Rattle.topology.specs.declared.hearing.AudioSource.{AudioSource}
use Rattle.topology.specs.declared.seating.Seated.{Seated}
use Rattle.topology.specs.Mixes.{audio_source, gain_in}
use Rattle.topology.specs.inner.Seating.{seat}

-- the audio source in a row
abbrev pub audio_in : Row → Option SourceRow
audio_in (Source s) = if same_media s.media Audio then Some s else None
audio_in _ = None

-- the source is muted in these rows
abbrev pub is_muted_in : List Row → ℕ → Bool
is_muted_in mutes source = is_some (find (has_key (keys.Mute source)) mutes)

-- a source at its member's place, unless it is muted in these rows
abbrev pub unmuted_seat : Desk → List Row → SourceRow → Option (Seated AudioSource)
unmuted_seat d mutes s = if is_muted_in mutes s.ssrc then None else seat (λ s. s.member) audio_source d s

-- the source in a row at its member's place, if it is audio and not muted in these rows
abbrev pub audible_seat : Desk → List Row → Row → Option (Seated AudioSource)
audible_seat d mutes r = option_and_then (unmuted_seat d mutes) (audio_in r)

-- the gain that these rows have for a member and a source
abbrev pub gain_among : List Row → ℕ → ℕ → ℕ
gain_among gains member source = gain_in (find (has_key (keys.Gain member source)) gains)
