-- What `encode` answers.
use Rattle.std.specs.Prelude.{ℕ, ◌+◌, ℤ, List, [], ◌∷◌, ◌++◌, length, Option, None, Some, Result, Ok, Err, codes, decimal, if◌then◌else◌}
use Rattle.text_form.specs.Digits.{two_digits}
use Rattle.brr_encode.specs.Encoding.{padded_samples}
use Rattle.brr_encode.specs.Report.{reports_of}
use Rattle.brr_encode.specs.declared.encoder.EncodeRefusal.{EncodeRefusal}
use Rattle.brr_encode.specs.declared.encoder.EncodeRefusal.TheVariants as encoder
use Rattle.brr_encode.specs.declared.report.BlockReport.{BlockReport}
use Rattle.brr_search.specs.Found.{found_samples}
use Rattle.brr_search.specs.Options.{candidates_of, is_looped, loop_block_of, is_past}
use Rattle.brr_search.specs.declared.options.EncodeOptions.{EncodeOptions}
use Rattle.wav_form.specs.Mono.{mono_samples}
use Rattle.wav_form.specs.declared.refusal.WavRefusal.{WavRefusal}
use Rattle.command_runner.specs.Answer.{Answer, done, refused}
use Rattle.command_runner.specs.declared.refusals.Refusal.{Refusal}
use Rattle.command_runner.specs.declared.refusals.Refusal.TheVariants.{Input, OutOfMemory}
use Rattle.input_files.specs.Reading.{wave_limit, bytes_in, answer_from, refused_by}
use Rattle.exit_status.specs.declared.cause.Cause.{Cause}
use Rattle.exit_status.specs.declared.cause.Cause.TheVariants.{WavForm, EncodeSize, InputTooLong}

-- the refusal of samples that are not encoded, of which there are so many
abbrev pub encode_refusal : (count : ℕ) → EncodeRefusal → Refusal Cause
encode_refusal count encoder.Empty = Input (EncodeSize count)
encode_refusal count encoder.TooLong = Input (EncodeSize count)
encode_refusal count encoder.OutOfMemory = OutOfMemory

-- the line of a block, which has this place among the blocks
abbrev pub block_line : (place : ℕ) → BlockReport → List ℕ
block_line place report =
    codes "block " ++ decimal place ++ codes " header " ++ two_digits report.header
    ++ codes " worst " ++ decimal report.worst ++ codes " squares " ++ decimal report.squares ++ codes "\n"

-- the lines of blocks, the first of which has this place
abbrev pub block_lines : (place : ℕ) → List BlockReport → List ℕ
block_lines place [] = []
block_lines place (report ∷ reports) = block_line place report ++ block_lines (place + 1) reports

-- the line of the place at which a loop goes on, where the words say it
abbrev pub loop_line : (loop_at : Option ℕ) → List ℕ
loop_line None = []
loop_line (Some sample) = codes "loop " ++ decimal sample ++ codes "\n"

-- a line for each block, how many there are, and the place of the loop
abbrev pub encode_report : List BlockReport → (loop_at : Option ℕ) → List ℕ
encode_report reports loop_at = block_lines 0 reports ++ codes "blocks " ++ decimal (length reports) ++ codes "\n" ++ loop_line loop_at

-- the output of this name with these blocks, and the report on them
abbrev pub blocks_answer : (output : List ℕ) → EncodeOptions → (samples : List ℤ) → (blocks : List ℕ) → Answer Cause
blocks_answer output options samples blocks =
    done (record { name = output; bytes = blocks } ∷ []) (encode_report (reports_of blocks (padded_samples samples)) options.loop_at)

-- what the encoding of samples to this name answers
abbrev pub encoding_answer : (output : List ℕ) → EncodeOptions → (samples : List ℤ) → Answer Cause
encoding_answer output options samples =
    if is_past (length samples) options.loop_at then refused (Input (EncodeSize (length samples)))
    else answer_from
    (refused_by (encode_refusal (length samples)) (found_samples (candidates_of options) (loop_block_of options) samples (is_looped options)))
    (blocks_answer output options samples)

-- the same by what the bytes of the input are: samples, or no file of one channel
abbrev pub samples_answer : (output : List ℕ) → EncodeOptions → Result (List ℤ) WavRefusal → Answer Cause
samples_answer output options (Ok samples) = encoding_answer output options samples
samples_answer output options (Err refusal) = refused (Input WavForm)

-- the same by the bytes of the input
abbrev pub wave_answer : (output : List ℕ) → EncodeOptions → (bytes : List ℕ) → Answer Cause
wave_answer output options bytes = samples_answer output options (mono_samples bytes)

-- the same by what the input holds
abbrev pub encode_answer : (output : List ℕ) → EncodeOptions → (held : Option (List ℕ)) → Answer Cause
encode_answer output options held = answer_from (bytes_in wave_limit InputTooLong held) (wave_answer output options)
