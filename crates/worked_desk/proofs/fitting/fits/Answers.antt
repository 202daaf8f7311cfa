use Rattle.std.proofs.Common.{refl}
use Rattle.desk_rows.specs.Exchange.{fits, is_apt, exchanged}
use Rattle.desk_rows.specs.Desk.{good}
use Rattle.worked_desk.proofs.Computed.{answers}
use Rattle.worked_desk.specs.TwoRooms.{two_rooms}
use Rattle.worked_desk.specs.FitCases.{taking, taking_members, putting_members, putting, putting_subs, replacing}
use Rattle.worked_desk.specs.FitCases.{moving}
use Rattle.worked_desk.proofs.fitting.fits.Goals as goal

pub returns-clause-taking : goal.returns-clause-taking
unfolding fits is_apt exchanged good
returns-clause-taking c = answers fits two_rooms taking refl c.requires c.fits.ensures.answer

pub returns-clause-taking_members : goal.returns-clause-taking_members
unfolding fits is_apt exchanged good
returns-clause-taking_members c = answers fits two_rooms taking_members refl c.requires c.fits.ensures.answer

pub returns-clause-putting_members : goal.returns-clause-putting_members
unfolding fits is_apt exchanged good
returns-clause-putting_members c = answers fits two_rooms putting_members refl c.requires c.fits.ensures.answer

pub returns-clause-putting : goal.returns-clause-putting
unfolding fits is_apt exchanged good
returns-clause-putting c = answers fits two_rooms putting refl c.requires c.fits.ensures.answer

pub returns-clause-putting_subs : goal.returns-clause-putting_subs
unfolding fits is_apt exchanged good
returns-clause-putting_subs c = answers fits two_rooms putting_subs refl c.requires c.fits.ensures.answer

pub returns-clause-replacing : goal.returns-clause-replacing
unfolding fits is_apt exchanged good
returns-clause-replacing c = answers fits two_rooms replacing refl c.requires c.fits.ensures.answer

pub returns-clause-moving : goal.returns-clause-moving
unfolding fits is_apt exchanged good
returns-clause-moving c = answers fits two_rooms moving refl c.requires c.fits.ensures.answer
