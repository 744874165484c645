-- What `rip` answers: each wanted entry of the directory as a sound file of one channel, and a line on each.
use Rattle.std.specs.Prelude.{ℕ, List, ◌++◌, filter, map, length, slice_index, Option, codes, decimal}
use Rattle.std.specs.List.{flat_map, range_with_len}
use Rattle.text_form.specs.Digits.{two_digits, four_digits}
use Rattle.spc_form.specs.Layout.{dsp_of}
use Rattle.spc_form.specs.Opening.{opening_memory}
use Rattle.sample_rip.specs.Entries.{max_entries, is_wanted}
use Rattle.sample_rip.specs.Rip.{rip_found, rip_samples}
use Rattle.sample_rip.specs.Reencoded.{rip_report}
use Rattle.sample_rip.specs.declared.found.RipFound.{RipFound}
use Rattle.sample_rip.specs.declared.found.RipEnd.{RipEnd}
use Rattle.sample_rip.specs.declared.found.RipEnd.TheVariants.{NoLoop, Loop, Outside, Open}
use Rattle.sample_rip.specs.declared.reencoding.RipReport.{RipReport}
use Rattle.snd_host.specs.Host.{Output}
use Rattle.wav_form.specs.Wave.{mono_wave}
use Rattle.command_runner.specs.Answer.{Answer, done}
use Rattle.exit_status.specs.declared.cause.Cause.{Cause}
use Rattle.input_files.specs.Reading.{answer_from}
use Rattle.input_files.specs.Inputs.{file_in}

-- the entries that are wanted, in ascending order
abbrev pub wanted_in : (registers : List ℕ) → Option (ℕ × ℕ) → List ℕ
wanted_in registers range = filter (is_wanted registers range) (range_with_len 0 max_entries)

-- the page of the directory, by the registers of the S-DSP
abbrev pub directory_page : (registers : List ℕ) → ℕ
directory_page registers = slice_index registers 0x5D

-- the name of an entry's output
abbrev pub entry_name : (prefix : List ℕ) → (entry : ℕ) → List ℕ
entry_name prefix entry = prefix ++ two_digits entry ++ codes ".wav"

-- the sound file of an entry, by the memory and the page of its directory
abbrev pub entry_output : (prefix memory : List ℕ) → (dir entry : ℕ) → Output
entry_output prefix memory dir entry = record { name = entry_name prefix entry; bytes = mono_wave (rip_samples memory (rip_found memory dir entry)) }

-- where a sample loops to
abbrev pub loop_text : RipEnd → List ℕ
loop_text NoLoop = codes "-"
loop_text (Loop sample) = decimal sample
loop_text Outside = codes "outside"
loop_text Open = codes "open"

-- where a sample starts, how many blocks it has, and where it loops to
abbrev pub found_text : RipFound → List ℕ
found_text found = codes " start " ++ four_digits found.start ++ codes " blocks " ++ decimal found.blocks ++ codes " loop " ++ loop_text found.«end»

-- the errors of a sample that is encoded again
abbrev pub error_text : RipReport → List ℕ
error_text report = codes " worst " ++ decimal report.worst ++ codes " squares " ++ decimal report.squares ++ codes "\n"

-- the line of an entry
abbrev pub entry_line : (memory : List ℕ) → (dir entry : ℕ) → List ℕ
entry_line memory dir entry =
    codes "entry " ++ two_digits entry ++ found_text (rip_found memory dir entry) ++ error_text (rip_report memory (rip_found memory dir entry))

-- the report on entries: a line on each, and their number
abbrev pub entries_report : (memory : List ℕ) → (dir : ℕ) → (entries : List ℕ) → List ℕ
entries_report memory dir entries = flat_map (entry_line memory dir) entries ++ codes "entries " ++ decimal (length entries) ++ codes "\n"

-- what the entries of a directory answer
abbrev pub entries_answer : (prefix memory : List ℕ) → (dir : ℕ) → (entries : List ℕ) → Answer Cause
entries_answer prefix memory dir entries = done (map (entry_output prefix memory dir) entries) (entries_report memory dir entries)

-- what an SPC file answers, in the state that it opens
abbrev pub file_answer : (prefix : List ℕ) → Option (ℕ × ℕ) → (file : List ℕ) → Answer Cause
file_answer prefix range file = entries_answer prefix (opening_memory file) (directory_page (dsp_of file)) (wanted_in (dsp_of file) range)

-- the same by what the input holds
abbrev pub rip_answer : (prefix : List ℕ) → Option (ℕ × ℕ) → (held : Option (List ℕ)) → Answer Cause
rip_answer prefix range held = answer_from (file_in held) (file_answer prefix range)
