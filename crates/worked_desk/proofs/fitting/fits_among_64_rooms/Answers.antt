use Rattle.std.proofs.Common.{refl}
use Rattle.desk_rows.specs.Exchange.{fits, is_apt, exchanged}
use Rattle.desk_rows.specs.Desk.{good}
use Rattle.worked_desk.proofs.Computed.{answers}
use Rattle.worked_desk.specs.FullDesks.{of_rooms}
use Rattle.worked_desk.specs.FitCases.{putting_a_65th_room}
use Rattle.worked_desk.proofs.fitting.fits_among_64_rooms.Goals as goal

pub returns : goal.returns
unfolding fits is_apt exchanged good
returns c = answers fits (of_rooms 64) putting_a_65th_room refl c.requires c.fits.ensures.answer
