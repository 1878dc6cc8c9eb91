use Rattle.model.proofs.AllLaws.{fits_newest}
use Rattle.model.proofs.laws.fits_the_newest.Goals as goal

pub returns : goal.returns
returns c = fits_newest
