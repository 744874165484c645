-- The echo over the samples of a batch. A row is what there is for each sample, from 0 on.
use Rattle.std.specs.Prelude.{ℕ, zero, suc, List, [], ◌∷◌, ◌++◌, ℤ}
use Rattle.num_fix.specs.SignedWords.{number_at}
use Rattle.num_fix.specs.declared.Frame.{Frame}
use Rattle.echo_unit.specs.Echo.{EchoState, next_echo, echo_memory, echo_heard, output_frame}
use Rattle.echo_unit.specs.declared.regs.EchoRegs.{EchoRegs}
use Rattle.echo_unit.specs.declared.rows.SumRows.{SumRows}

-- what the echo leaves and gives
pub record EchoOver : Type 0 where
  pub echo : EchoState
  pub memory : List ℕ
  pub frames : List Frame

-- the echo over the rows of main sums and of what is sent to it
abbrev pub echo_over : EchoRegs → (main sent : ℕ → Frame) → EchoState → (memory : List ℕ) → (samples : ℕ) → EchoOver
echo_over regs main sent echo memory zero = record { echo = echo; memory = memory; frames = [] }
echo_over regs main sent echo memory (suc j) =
    let now = echo_over regs main sent echo memory j in
    record {
      echo = next_echo now.echo regs now.memory;
      memory = echo_memory now.echo regs now.memory (sent j);
      frames = now.frames ++ output_frame regs (main j) (echo_heard now.echo regs now.memory) ∷ [];
    }

-- the row of pairs of two rows of numbers
abbrev pub pair_of : (left right : List ℤ) → ℕ → Frame
pair_of left right j = record { left = number_at left j; right = number_at right j }

-- the main sums of each sample
abbrev pub main_of : SumRows → ℕ → Frame
main_of sums = pair_of sums.main_left sums.main_right

-- what is sent to the echo in each sample
abbrev pub sent_of : SumRows → ℕ → Frame
sent_of sums = pair_of sums.sent_left sums.sent_right

-- the echo over the sums of a batch
abbrev pub echo_over_sums : EchoRegs → SumRows → EchoState → (memory : List ℕ) → (samples : ℕ) → EchoOver
echo_over_sums regs sums = echo_over regs (main_of sums) (sent_of sums)
