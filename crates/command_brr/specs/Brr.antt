-- What `brr` answers.
use Rattle.std.specs.Prelude.{ℕ, ◌/◌, ℤ, List, [], ◌∷◌, ◌++◌, length, Option, codes, decimal}
use Rattle.brr_decode.specs.Stream.{decoded_stream}
use Rattle.brr_decode.specs.declared.stream.BrrRefusal.{BrrRefusal}
use Rattle.brr_decode.specs.declared.stream.BrrRefusal.TheVariants as brr
use Rattle.wav_form.specs.Wave.{mono_wave}
use Rattle.command_runner.specs.Answer.{Answer, done}
use Rattle.command_runner.specs.declared.refusals.Refusal.{Refusal}
use Rattle.command_runner.specs.declared.refusals.Refusal.TheVariants.{Input, OutOfMemory}
use Rattle.input_files.specs.Reading.{input_limit, bytes_in, answer_from, refused_by}
use Rattle.exit_status.specs.declared.cause.Cause.{Cause}
use Rattle.exit_status.specs.declared.cause.Cause.TheVariants.{InputTooLong, BrrLength}

-- the refusal of bytes that are not decoded
abbrev pub brr_refusal : BrrRefusal → Refusal Cause
brr_refusal (brr.Length n) = Input (BrrLength n)
brr_refusal brr.OutOfMemory = OutOfMemory

abbrev pub brr_report : (bytes : List ℕ) → (samples : List ℤ) → List ℕ
brr_report bytes samples = codes "blocks " ++ decimal (length bytes / 9) ++ codes " samples " ++ decimal (length samples) ++ codes "\n"

-- what bytes that were decoded to these samples answer
abbrev pub samples_answer : (output bytes : List ℕ) → (samples : List ℤ) → Answer Cause
samples_answer output bytes samples = done (record { name = output; bytes = mono_wave samples } ∷ []) (brr_report bytes samples)

-- what the decoding of these bytes to this name answers
abbrev pub decoding_answer : (output bytes : List ℕ) → Answer Cause
decoding_answer output bytes = answer_from (refused_by brr_refusal (decoded_stream bytes)) (samples_answer output bytes)

-- the same by what the input holds
abbrev pub brr_answer : (output : List ℕ) → (held : Option (List ℕ)) → Answer Cause
brr_answer output held = answer_from (bytes_in input_limit InputTooLong held) (decoding_answer output)
