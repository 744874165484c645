-- What `demo` answers.
use Rattle.std.specs.Prelude.{ℕ, List, [], ◌∷◌, codes}
use Rattle.demo_gen.specs.Demo.{demo_bytes}
use Rattle.command_runner.specs.Answer.{Answer, done}
use Rattle.exit_status.specs.declared.cause.Cause.{Cause}

abbrev pub demo_answer : (number : ℕ) → (output : List ℕ) → Answer Cause
demo_answer number output = done (record { name = output; bytes = demo_bytes number } ∷ []) (codes "bytes 66048\n")
