use Rattle.spc700_asm.proofs.Reassembled.{listings_differ}
use Rattle.spc700_asm.proofs.laws.listings_of_other_bytes_differ.Goals as goal

pub returns : goal.returns
returns c = listings_differ
