use Rattle.spc700_asm.proofs.ShortListings.{listed_shortly}
use Rattle.spc700_asm.proofs.laws.a_listing_is_short.Goals as goal

pub returns : goal.returns
returns c = listed_shortly
