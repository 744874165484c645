-- What `dis` answers.
use Rattle.std.specs.Prelude.{ℕ, ◌+◌, List, [], ◌∷◌, ◌++◌, length, Option, codes, decimal, count_by, nat_lt, if◌then◌else◌}
use Rattle.aram_core.specs.declared.aram.TheConstants.{MEMORY_SIZE}
use Rattle.spc700_asm.specs.Characters.{is_line_feed}
use Rattle.spc700_asm.specs.Listing.{listing}
use Rattle.command_runner.specs.Answer.{Answer, done, refused}
use Rattle.command_runner.specs.declared.refusals.Refusal.TheVariants.{Input}
use Rattle.input_files.specs.Reading.{input_limit, bytes_in, answer_from}
use Rattle.exit_status.specs.declared.cause.Cause.{Cause}
use Rattle.exit_status.specs.declared.cause.Cause.TheVariants.{InputTooLong, CodeLength}

-- how many lines a text has, each ended by a line feed
abbrev pub line_count : (text : List ℕ) → ℕ
line_count text = count_by is_line_feed text

abbrev pub dis_report : (text : List ℕ) → List ℕ
dis_report text = codes "lines " ++ decimal (line_count text) ++ codes "\n"

-- what code that was listed so answers
abbrev pub listing_answer : (output text : List ℕ) → Answer Cause
listing_answer output text = done (record { name = output; bytes = text } ∷ []) (dis_report text)

-- what the listing of this code to this name answers; the code is to end with the memory at the latest
abbrev pub code_answer : (origin : ℕ) → (output bytes : List ℕ) → Answer Cause
code_answer origin output bytes =
    if nat_lt MEMORY_SIZE (origin + length bytes) then refused (Input (CodeLength (length bytes) origin))
    else listing_answer output (listing origin bytes)

-- the same by what the input holds
abbrev pub dis_answer : (origin : ℕ) → (output : List ℕ) → (held : Option (List ℕ)) → Answer Cause
dis_answer origin output held = answer_from (bytes_in input_limit InputTooLong held) (code_answer origin output)
