use Rattle.std.proofs.Common.{◌≡◌, ◌++◌, length}
use Rattle.num_fix.specs.SignedWords.{signed_words}
use Rattle.wav_form.proofs.mono.samples.Given as goal

abbrev pub invariant-pairs : goal.invariant-pairs
invariant-pairs l = l.samples.items ++ signed_words l.rest ≡ signed_words l.bytes

abbrev pub decreases-pairs : goal.decreases-pairs
decreases-pairs l = length l.rest
