-- What `serve` answers: the frames that a session plays, each cut a slice of the tune's run, and a reply to each line of its script.
use Rattle.std.specs.Prelude.{ℕ, ◌≤◌, ℤ, List, [], ◌∷◌, None, Option}
use Rattle.wav_form.specs.Wave.{stereo_wave}
use Rattle.page_pool.specs.Pool.{max_pages}
use Rattle.cut_form.specs.declared.script.ScriptLine.{ScriptLine}
use Rattle.cut_form.specs.declared.script.Reply.{Reply}
use Rattle.cut_form.specs.Checkpoints.{min_pages}
use Rattle.cut_form.specs.Session.{opened_session, replies, played_cuts}
use Rattle.cut_form.specs.Slices.{cut_frames}
use Rattle.command_runner.specs.Answer.{Answer, done}
use Rattle.command_runner.specs.NamedInputs.{NamedInput, Held, first, second, third}
use Rattle.command_runner.specs.Stream.{pair}
use Rattle.exit_status.specs.declared.cause.Cause.{Cause}
use Rattle.input_files.specs.Reading.{answer_from, input_limit, input_up_to}
use Rattle.input_files.specs.Inputs.{spc_input, table_input, file_in, table_in}
use Rattle.command_serve.specs.declared.options.SessionOptions.{SessionOptions}
use Rattle.tune_opening.specs.Tune.{tune_frames, tune_pages}
use Rattle.session_files.specs.Replies.{report_on}
use Rattle.command_serve.specs.Scripts.{script_in}

-- as many pages as a memory has, or more, up to the most of a pool
abbrev pub AreOptionsInRange : SessionOptions → Type 0
AreOptionsInRange options = (min_pages ≤ options.pages) × (options.pages ≤ max_pages)

-- the replies to lines of a session over a tune: so many slots for the pages of its checkpoints, and these voices muted
abbrev pub tune_replies : SessionOptions → (file : List ℕ) → (table : List ℤ) → List ScriptLine → List Reply
tune_replies options file table lines =
    let pages = tune_pages file table options.muted in
    replies options.pages pages (opened_session pages) lines

-- the sound file of what they show to have been played, and the replies, one a line
abbrev pub replies_answer : (wave : List ℕ) → (muted : ℕ) → (file : List ℕ) → (table : List ℤ) → List Reply → Answer Cause
replies_answer wave muted file table known =
    done (pair wave None (stereo_wave (cut_frames (tune_frames file table muted 0) (played_cuts known))) []) (report_on known)

-- what a script answers over a file and a table
abbrev pub script_answer : (wave : List ℕ) → SessionOptions → (file : List ℕ) → (table : List ℤ) → List ScriptLine → Answer Cause
script_answer wave options file table lines = replies_answer wave options.muted file table (tune_replies options file table lines)

-- the same by what the script holds, by what the table holds, and by what the inputs hold: the file comes first
abbrev pub table_answer : (wave : List ℕ) → SessionOptions → (held_script : Option (List ℕ))
    → (file : List ℕ) → (table : List ℤ) → Answer Cause
table_answer wave options held_script file table = answer_from (script_in held_script) (script_answer wave options file table)

abbrev pub file_answer : (wave : List ℕ) → SessionOptions → (held_table held_script : Option (List ℕ)) → (file : List ℕ) → Answer Cause
file_answer wave options held_table held_script file = answer_from (table_in held_table) (table_answer wave options held_script file)

abbrev pub serve_answer : (wave : List ℕ) → SessionOptions → (held_file held_table held_script : Option (List ℕ)) → Answer Cause
serve_answer wave options held_file held_table held_script = answer_from (file_in held_file) (file_answer wave options held_table held_script)

-- what is answered, by what the inputs of these names hold
abbrev pub serve_over : (wave : List ℕ) → SessionOptions → Held → Answer Cause
serve_over wave options = λ held. serve_answer wave options (first held) (second held) (third held)

-- the inputs of these names, in the order in which they are read
abbrev pub serve_inputs : (file table script : List ℕ) → List NamedInput
serve_inputs file table script = spc_input file ∷ table_input table ∷ input_up_to input_limit script ∷ []
