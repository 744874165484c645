-- The echo's run over rows that agree, and one step more of ENDX.
use Rattle.std.proofs.Common.{◌≡◌, ℕ, zero, suc, ◌+◌, ◌<◌, List, refl, add-one, arith}
use Rattle.num_fix.specs.declared.Frame.{Frame}
use Rattle.voice_unit.specs.declared.interface.VoiceOut.{VoiceOut}
use Rattle.echo_unit.specs.Echo.{EchoState}
use Rattle.echo_unit.specs.EchoOverBatch.{echo_over}
use Rattle.echo_unit.specs.declared.regs.EchoRegs.{EchoRegs}
use Rattle.dsp_state.specs.Results.{next_endx}
use Rattle.batch_rows.specs.Once.{endx_after}

-- rows that agree give the same run
pub echo_over-rows : (regs : EchoRegs) (main others sent sent_others : ℕ → Frame) (echo : EchoState) (memory : List ℕ) (n : ℕ)
    → ((j : ℕ) → j < n → main j ≡ others j) → ((j : ℕ) → j < n → sent j ≡ sent_others j)
    → echo_over regs main sent echo memory n ≡ echo_over regs others sent_others echo memory n
echo_over-rows regs main others sent sent_others echo memory zero same same_sent = refl
echo_over-rows regs main others sent sent_others echo memory (suc n) same same_sent =
    rw (echo_over-rows regs main others sent sent_others echo memory n (λ j below. same j (omega (arith, below))) (λ j below. same_sent j (omega (arith, below))), same n (omega arith), same_sent n (omega arith)) refl

pub endx_after-more : (rows : ℕ → List VoiceOut) (endx j : ℕ) → endx_after rows endx (j + 1) ≡ next_endx (endx_after rows endx j) (rows j)
endx_after-more rows endx j = rw add-one refl
