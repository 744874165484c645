-- What the commands answer, and which inputs they read.
use Rattle.std.specs.Prelude.{List, [], ◌∷◌}
use Rattle.snd_host.specs.Host.{Files}
use Rattle.command_runner.specs.NamedInputs.{NamedInput, Held, first, held_by}
use Rattle.command_runner.specs.OutputCalls.{Order, at_once, in_turn}
use Rattle.input_files.specs.Reading.{input_limit, wave_limit, input_up_to}
use Rattle.input_files.specs.Inputs.{spc_input}
use Rattle.command_runner.specs.Answer.{Answer, refused}
use Rattle.command_runner.specs.declared.refusals.Refusal.TheVariants.{Usage}
use Rattle.exit_status.specs.declared.cause.Cause.{Cause}
use Rattle.command_brr.specs.Brr.{brr_answer}
use Rattle.command_encode.specs.Encode.{encode_answer}
use Rattle.command_check.specs.Check.{check_answer}
use Rattle.command_demo.specs.Demo.{demo_answer}
use Rattle.command_help.specs.Help.{help_answer, version_answer}
use Rattle.command_render.specs.Render.{render_over, render_inputs}
use Rattle.command_info.specs.Info.{info_answer}
use Rattle.command_asm.specs.Asm.{asm_answer}
use Rattle.command_dis.specs.Dis.{dis_answer}
use Rattle.command_rip.specs.Rip.{rip_answer}
use Rattle.command_cuts.specs.Cuts.{cuts_over, cuts_inputs}
use Rattle.command_serve.specs.Serve.{serve_over, serve_inputs}
use Rattle.command_line.specs.Command.{Command, usage, help, version, brr, info, encode, render, demo, check, asm, dis, rip, cuts, serve}

-- the inputs that a command names, in the order of the words, and what each is to hold
abbrev pub inputs_of : Command → List NamedInput
inputs_of usage = []
inputs_of help = []
inputs_of version = []
inputs_of (brr input output) = input_up_to input_limit input ∷ []
inputs_of (info input) = spc_input input ∷ []
inputs_of (encode input output options) = input_up_to wave_limit input ∷ []
inputs_of (render file table wave options) = render_inputs file table
inputs_of (demo number output) = []
inputs_of (check number) = []
inputs_of (asm input origin output) = input_up_to input_limit input ∷ []
inputs_of (dis input origin output) = input_up_to input_limit input ∷ []
inputs_of (rip file prefix range) = spc_input file ∷ []
inputs_of (cuts file table list wave muted) = cuts_inputs file table list
inputs_of (serve file table script wave options) = serve_inputs file table script

-- In which order a command makes its outputs: `rip` one after another, and every other command at once.
abbrev pub order_of : Command → Order
order_of (rip file prefix range) = in_turn
order_of command = at_once

-- what a command answers, by what its inputs hold, in their order
abbrev pub answer_by : Command → Held → Answer Cause
answer_by usage held = refused Usage
answer_by help held = help_answer
answer_by version held = version_answer
answer_by (brr input output) held = brr_answer output (first held)
answer_by (info input) held = info_answer (first held)
answer_by (encode input output options) held = encode_answer output options (first held)
answer_by (render file table wave options) held = render_over wave options held
answer_by (demo number output) held = demo_answer number output
answer_by (check number) held = check_answer number
answer_by (asm input origin output) held = asm_answer origin output (first held)
answer_by (dis input origin output) held = dis_answer origin output (first held)
answer_by (rip file prefix range) held = rip_answer prefix range (first held)
answer_by (cuts file table list wave muted) held = cuts_over wave muted held
answer_by (serve file table script wave options) held = serve_over wave options held

-- the same by what the names hold
abbrev pub answer_of : Command → Files → Answer Cause
answer_of command files = answer_by command (held_by files (inputs_of command))
