-- The limits as products of familiar numbers.
use Rattle.std.specs.Prelude.{◌≡◌, ◌*◌}
use Rattle.std.proofs.Common.{refl}
use Rattle.num_fix.specs.Limits.{max_frames, max_sample_number, max_input}

-- an hour has 3,600 seconds of 32,000 frames
an_hour : max_frames ≡ 3600 * 32000
an_hour = refl

-- samples are numbered for 125,000 seconds, a little under 35 hours
the_last_sample : max_sample_number ≡ 125000 * 32000
the_last_sample = refl

-- a megabyte has 1,024 kilobytes
a_megabyte : max_input ≡ 1024 * 1024
a_megabyte = refl
