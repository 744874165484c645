use Rattle.std.proofs.Common.{◌≡◌, take, length, ◌++◌}
use Rattle.std.specs.List.{flat_map}
use Rattle.wav_form.specs.Wave.{header_of, sample_bytes}
use Rattle.command_brr.proofs.command.wave.Given as goal

abbrev pub invariant-loop-sample : goal.invariant-loop-sample
invariant-loop-sample l = l.wave.items ≡ header_of 1 (length l.samples) ++ flat_map sample_bytes (take l.sample-index l.samples)
