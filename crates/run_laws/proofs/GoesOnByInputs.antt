-- Each command that reads several inputs is refused where one of them is refused that isn't the last.
use Rattle.std.proofs.Common.{◌≡◌, false, List, [], ◌∷◌, Some}
use Rattle.std.specs.Prelude.{Result, Ok, Err, is_ok}
use Rattle.command_runner.specs.Answer.{Answer}
use Rattle.command_runner.specs.NamedInputs.{first, second}
use Rattle.command_runner.specs.declared.refusals.Refusal.{Refusal}
use Rattle.input_files.specs.Reading.{answer_from}
use Rattle.input_files.specs.Inputs.{file_in, table_in}
use Rattle.command_line.specs.Command.{Command, usage, help, version, brr, info, encode, render, demo, check, asm, dis, rip, cuts, serve}
use Rattle.command_render.specs.Render.{file_answer as render_file_answer}
use Rattle.command_cuts.specs.Cuts.{table_answer as cuts_table_answer, file_answer as cuts_file_answer}
use Rattle.command_serve.specs.Serve.{table_answer as serve_table_answer, file_answer as serve_file_answer}
use Rattle.run_laws.specs.Answers.{answer_by, inputs_of}
use Rattle.run_laws.proofs.Reached.{GoesOn, IsAnswered}

refused_here : {T C : Type 0} (given : Result T (Refusal C)) (next : T → Answer C) → is_ok given ≡ false → IsAnswered (answer_from given next) → ⊥
refused_here (Err why) next failed answered = cc
refused_here (Ok value) next failed answered = cc

refused_later : {T C : Type 0} (given : Result T (Refusal C)) (next : T → Answer C) → ((value : T) → IsAnswered (next value) → ⊥) → IsAnswered (answer_from given next) → ⊥
refused_later (Err why) next later answered = cc
refused_later (Ok value) next later answered = later value answered

pub goes_on : (command : Command) → GoesOn (inputs_of command) (answer_by command)
goes_on usage = tt
goes_on help = tt
goes_on version = tt
goes_on (brr input output) = tt
goes_on (info input) = tt
goes_on (encode input output options) = tt
goes_on (render file table wave options) = ((λ bytes rest failed. refused_here (file_in (Some bytes)) (render_file_answer wave options (first rest)) failed), (λ bytes is. tt))
goes_on (demo number output) = tt
goes_on (check number) = tt
goes_on (asm input origin output) = tt
goes_on (dis input origin output) = tt
goes_on (rip file prefix range) = tt
goes_on (cuts file table list wave muted) = (
  (λ bytes rest failed. refused_here (file_in (Some bytes)) (cuts_file_answer wave muted (first rest) (second rest)) failed),
  λ bytes is. (
    (λ weights rest failed. refused_later (file_in (Some bytes)) (cuts_file_answer wave muted (Some weights) (first rest))
        (λ spc. refused_here (table_in (Some weights)) (cuts_table_answer wave muted (first rest) spc) failed)),
    λ weights is. tt,
  ),
)
goes_on (serve file table script wave options) = (
  (λ bytes rest failed. refused_here (file_in (Some bytes)) (serve_file_answer wave options (first rest) (second rest)) failed),
  λ bytes is. (
    (λ weights rest failed. refused_later (file_in (Some bytes)) (serve_file_answer wave options (Some weights) (first rest))
        (λ spc. refused_here (table_in (Some weights)) (serve_table_answer wave options (first rest) spc) failed)),
    λ weights is. tt,
  ),
)
