-- Items whose numbers are in range, so that their lines are read as these items (own).
use Rattle.std.specs.Prelude.{◌≡◌, ◌≢◌, ◌^◌, ◌<◌, true, [], FitsSigned}
use Rattle.std.specs.List.{All}
use Rattle.std.specs.Int.{w16}
use Rattle.rtcp_codec.specs.Report.{FitsBlock, FitsLost}
use Rattle.media_items.specs.Inputs.{Input, Sound, Request, Told, is_sized}
use Rattle.media_items.specs.Inputs.Input.{frame, audio, tick, nack, block, pli, report, renew}
use Rattle.desk_text.specs.Addresses.{IsAddress}
use Rattle.desk_text.specs.Values.{AllFit}
use Rattle.script_text.specs.Requests.{IsFrame}
use Rattle.script_text.specs.ItemLines.{end_values}

-- sound has one of the clock rates, a sample at least, no more than a packet may have, and all numbers are in range
pub record IsAudio (s : Sound) : Type 0 where
  pub from : AllFit (end_values s.address s.source)
  pub ts : s.ts < 2 ^ 32
  pub sized : is_sized (audio s) ≡ true
  pub samples : All (FitsSigned w16) s.samples

-- a number is asked for at least, and all numbers are in range
pub record IsNack (r : Request) : Type 0 where
  pub from : AllFit (end_values r.from r.out_ssrc)
  pub some : r.numbers ≢ []
  pub numbers : All (λ number. number < 2 ^ 16) r.numbers

-- a report block's numbers fit its fields, and its losses have 24 bits with a sign
pub record IsBlock (t : Told) : Type 0 where
  pub from : IsAddress t.from
  pub numbers : FitsBlock t.block
  pub lost : FitsLost t.block.lost

-- an item that a lane may be given, with all its numbers in range
abbrev pub IsInput : Input → Type 0
IsInput (frame f) = IsFrame f
IsInput (audio s) = IsAudio s
IsInput (tick moment) = moment < 2 ^ 64
IsInput (nack r) = IsNack r
IsInput (block t) = IsBlock t
IsInput (pli l) = AllFit (end_values l.from l.out_ssrc)
IsInput (report moment) = moment < 2 ^ 64
IsInput renew = Unit {0}
