-- What `cuts` answers: the frames of the cuts of a list, each a slice of the tune's run, and the book of the list.
use Rattle.std.specs.Prelude.{ℕ, ℤ, List, [], ◌∷◌, None, Option}
use Rattle.wav_form.specs.Wave.{stereo_wave}
use Rattle.cut_form.specs.declared.cut.Cut.{Cut}
use Rattle.cut_form.specs.CutBook.{cut_book}
use Rattle.cut_form.specs.Slices.{cut_frames}
use Rattle.command_runner.specs.Answer.{Answer, done}
use Rattle.command_runner.specs.NamedInputs.{NamedInput, Held, first, second, third}
use Rattle.command_runner.specs.Stream.{pair}
use Rattle.exit_status.specs.declared.cause.Cause.{Cause}
use Rattle.input_files.specs.Reading.{answer_from, input_limit, input_up_to}
use Rattle.input_files.specs.Inputs.{spc_input, table_input, file_in, table_in}
use Rattle.tune_opening.specs.Tune.{tune_frames, tune_pages}
use Rattle.session_files.specs.CutFiles.{cuts_report}
use Rattle.command_cuts.specs.Lists.{cuts_in}

-- what cuts answer over a file and a table, with these voices muted: their frames are those of the run before any fade
abbrev pub list_answer : (wave : List ℕ) → (muted : ℕ) → (file : List ℕ) → (table : List ℤ) → List Cut → Answer Cause
list_answer wave muted file table cuts =
    done (pair wave None (stereo_wave (cut_frames (tune_frames file table muted 0) cuts)) [])
    (cuts_report cuts (cut_book (tune_pages file table muted) cuts))

-- the same by what the list holds, by what the table holds, and by what the inputs hold: the file comes first
abbrev pub table_answer : (wave : List ℕ) → (muted : ℕ) → (held_list : Option (List ℕ)) → (file : List ℕ) → (table : List ℤ) → Answer Cause
table_answer wave muted held_list file table = answer_from (cuts_in held_list) (list_answer wave muted file table)

abbrev pub file_answer : (wave : List ℕ) → (muted : ℕ) → (held_table held_list : Option (List ℕ)) → (file : List ℕ) → Answer Cause
file_answer wave muted held_table held_list file = answer_from (table_in held_table) (table_answer wave muted held_list file)

abbrev pub cuts_answer : (wave : List ℕ) → (muted : ℕ) → (held_file held_table held_list : Option (List ℕ)) → Answer Cause
cuts_answer wave muted held_file held_table held_list = answer_from (file_in held_file) (file_answer wave muted held_table held_list)

-- what is answered, by what the inputs of these names hold
abbrev pub cuts_over : (wave : List ℕ) → (muted : ℕ) → Held → Answer Cause
cuts_over wave muted = λ held. cuts_answer wave muted (first held) (second held) (third held)

-- the inputs of these names, in the order in which they are read
abbrev pub cuts_inputs : (file table list : List ℕ) → List NamedInput
cuts_inputs file table list = spc_input file ∷ table_input table ∷ input_up_to input_limit list ∷ []
