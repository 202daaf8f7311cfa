use Rattle.std.proofs.Common.{refl}
use Rattle.desk_rows.specs.Exchange.{fits, is_apt, exchanged}
use Rattle.desk_rows.specs.Desk.{good}
use Rattle.worked_desk.proofs.Computed.{answers}
use Rattle.worked_desk.specs.FullDesks.{of_audio}
use Rattle.worked_desk.specs.FitCases.{putting_a_65th_source}
use Rattle.worked_desk.proofs.fitting.fits_beside_64_audio_sources.Goals as goal

pub returns : goal.returns
unfolding fits is_apt exchanged good
returns c = answers fits (of_audio 64) putting_a_65th_source refl c.requires c.fits.ensures.answer
