-- The files of RIFF/WAVE that are written: PCM of 16 bits at 32,000 frames a second, each number with its low byte first.
use Rattle.std.specs.Prelude.{ℕ, ◌+◌, ◌*◌, ℤ, List, ◌++◌, length, codes}
use Rattle.std.specs.List.{flat_map}
use Rattle.std.specs.Int.{w16, cast_unsigned}
use Rattle.byteorder.specs.Endian.{little_bytes}
use Rattle.num_fix.specs.declared.Frame.{Frame}
use Rattle.num_fix.specs.declared.TheConstants.{SAMPLE_RATE}

-- the bytes of a frame: one sample of two bytes for each channel
abbrev pub frame_size : (channels : ℕ) → ℕ
frame_size channels = 2 * channels

-- the fields of the `fmt ` chunk: format 1 is PCM, then channels, rate, byte rate, block align and bits
abbrev pub format_fields : (channels : ℕ) → List ℕ
format_fields channels =
    little_bytes 2 1 ++ little_bytes 2 channels ++ little_bytes 4 SAMPLE_RATE ++ little_bytes 4 (SAMPLE_RATE * frame_size channels)
    ++ little_bytes 2 (frame_size channels) ++ little_bytes 2 16

-- the 44 bytes before so many frames
unfoldable pub header_of : (channels frames : ℕ) → List ℕ
header_of channels frames =
    codes "RIFF" ++ little_bytes 4 (36 + frames * frame_size channels) ++ codes "WAVE"
    ++ codes "fmt " ++ little_bytes 4 16 ++ format_fields channels
    ++ codes "data" ++ little_bytes 4 (frames * frame_size channels)

-- a sample
abbrev pub sample_bytes : ℤ → List ℕ
sample_bytes sample = little_bytes 2 (cast_unsigned w16 sample)

-- a whole file of one channel
abbrev pub mono_wave : (samples : List ℤ) → List ℕ
mono_wave samples = header_of 1 (length samples) ++ flat_map sample_bytes samples

-- a frame: the sample of the left side, then that of the right
abbrev pub frame_bytes : Frame → List ℕ
frame_bytes frame = sample_bytes frame.left ++ sample_bytes frame.right

-- a whole file of two channels
abbrev pub stereo_wave : (frames : List Frame) → List ℕ
stereo_wave frames = header_of 2 (length frames) ++ flat_map frame_bytes frames
