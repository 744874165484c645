use Rattle.brr_decode.proofs.Samples.{IsKept-samples_of}
use Rattle.brr_decode.proofs.laws.each_sample_is_kept.Goals as goal

pub returns : goal.returns
returns c = IsKept-samples_of
