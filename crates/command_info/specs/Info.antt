-- What `info` answers.
use Rattle.std.specs.Prelude.{ℕ, ◌+◌, List, [], ◌∷◌, ◌++◌, length, Option, codes, decimal, if◌then◌else◌}
use Rattle.std.specs.List.{flat_map}
use Rattle.command_runner.specs.Answer.{Answer, done}
use Rattle.spc_form.specs.Layout.{minor_of, pc_of, a_of, x_of, y_of, psw_of, sp_of}
use Rattle.spc_form.specs.Tags.{has_tags, text_of}
use Rattle.spc_form.specs.declared.tags.Tag.{Tag}
use Rattle.spc_form.specs.declared.tags.Tag.TheVariants.{Title, Game, Dumper, Comments, Date, Seconds, Fade, Artist}
use Rattle.text_form.specs.Digits.{two_digits, four_digits}
use Rattle.report_text.specs.Texts.{shown_text}
use Rattle.exit_status.specs.declared.cause.Cause.{Cause}
use Rattle.input_files.specs.Reading.{input_limit, bytes_in, answer_from}
use Rattle.input_files.specs.Inputs.{file_of}
use Rattle.exit_status.specs.declared.cause.Cause.TheVariants.{SpcLength}

abbrev pub tag_name : Tag → List ℕ
tag_name Title = codes "title"
tag_name Game = codes "game"
tag_name Dumper = codes "dumper"
tag_name Comments = codes "comments"
tag_name Date = codes "date"
tag_name Seconds = codes "seconds"
tag_name Fade = codes "fade"
tag_name Artist = codes "artist"

abbrev pub all_tags : List Tag
all_tags = Title ∷ Game ∷ Dumper ∷ Comments ∷ Date ∷ Seconds ∷ Fade ∷ Artist ∷ []

-- the line of a tag
abbrev pub tag_line : (file : List ℕ) → Tag → List ℕ
tag_line file tag = tag_name tag ++ codes " " ++ shown_text (text_of file tag) ++ codes "\n"

-- whether there are tags, and their lines
abbrev pub tag_lines : (file : List ℕ) → List ℕ
tag_lines file = if has_tags file then codes "tags yes\n" ++ flat_map (tag_line file) all_tags else codes "tags no\n"

-- a register of eight bits after its name
abbrev pub register_text : (name : List ℕ) → (value : ℕ) → List ℕ
register_text name value = codes " " ++ name ++ codes " " ++ two_digits value

-- the program counter; A, X and Y; the status and the stack pointer
abbrev pub counter_text : (file : List ℕ) → List ℕ
counter_text file = codes "pc " ++ four_digits (pc_of file)

abbrev pub data_text : (file : List ℕ) → List ℕ
data_text file =
    register_text (codes "a") (a_of file) ++ register_text (codes "x") (x_of file) ++ register_text (codes "y") (y_of file)

abbrev pub status_text : (file : List ℕ) → List ℕ
status_text file = register_text (codes "psw") (psw_of file) ++ register_text (codes "sp") (sp_of file)

-- the line of the processor's registers
abbrev pub register_line : (file : List ℕ) → List ℕ
register_line file = counter_text file ++ data_text file ++ status_text file ++ codes "\n"

-- the report on a file, whose input had this size
abbrev pub info_report : (size : ℕ) → (file : List ℕ) → List ℕ
info_report size file =
    codes "length " ++ decimal size ++ codes "\nminor " ++ decimal (minor_of file) ++ codes "\n"
    ++ tag_lines file ++ register_line file

-- what the bytes of an input answer
abbrev pub fields_answer : (bytes : List ℕ) → Answer Cause
fields_answer bytes = answer_from (file_of bytes) (λ file. done [] (info_report (length bytes) file))

-- What `info` answers, by what the input holds. A longer one than is read is refused for its length.
abbrev pub info_answer : (held : Option (List ℕ)) → Answer Cause
info_answer held = answer_from (bytes_in input_limit (SpcLength (input_limit + 1)) held) fields_answer
