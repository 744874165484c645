use Rattle.std.proofs.Common.{◌≡◌, ◌<◌, ◌^◌, ℕ, true, length, slice_index}
use Rattle.voice_unit.specs.Voice.{is_modulated}
use Rattle.dsp_state.specs.declared.registers.TheConstants.{PMON}
use Rattle.dsp_state.specs.declared.state.ChipState.{ChipState}
use Rattle.batch_rows.specs.Reads.{AreReadsOf}
use Rattle.batch_rows.specs.Rows.{inputs}
use Rattle.batch_rows.proofs.Remains.{Remains}
use Rattle.batch_rows.proofs.playing.play_each.Given as goal

abbrev pub invariant-loop-v : goal.invariant-loop-v
invariant-loop-v l = record {
  remains : (k : ℕ) (s : ChipState) → AreReadsOf k l.n s l.reads
      → Remains (inputs k s l.reads.memory.now) l.n l.volumes l.initial.voices l.v l.made.rows.outs l.voices l.made.last l.made.rows.ends l.made.sums;
  taken : l.v < 8 → is_modulated (slice_index l.reads.registers.now PMON) l.v ≡ true → l.previous ≡ l.made.rows.outs;
  lower : (j : ℕ) → j < 64 → slice_index l.made.rows.ends j < 2 ^ l.v;
  eight : length l.voices ≡ 8;
  eight_answers : length l.made.last ≡ 8;
}
