use Rattle.brr_decode.specs.Kept.{samples_of}
use Rattle.brr_decode.proofs.Samples.{no_samples}
use Rattle.sample_rip.proofs.walk.RipWalk.new.Goals as goal

pub returns-clause-over : goal.returns-clause-over
unfolding samples_of
returns-clause-over c = λ memory. no_samples
