use Rattle.std.proofs.Common.{◌≡◌, ℕ, List, ◌++◌, pos, take, drop, map, length}
use Rattle.dsp_state.specs.Settings.{settings_of}
use Rattle.dsp_state.specs.Sample.{SharedInput, VoiceResult, results_from}
use Rattle.dsp_core.proofs.voices.step_voices.Given as goal

abbrev pub invariant-loop-v : goal.invariant-loop-v
invariant-loop-v l = record {
  voices : (registers : List ℕ) (muted : ℕ) → l.reads.settings.now ≡ settings_of registers muted → let shared : SharedInput = record { registers = registers; common = l.reads.common; memory = l.reads.memory.now; table = l.reads.table.now; counter = l.reads.clock } in
      map (λ (one : VoiceResult). one.voice) (results_from shared 0 (pos 0) l.initial.voices)
      ≡ take l.v l.voices ++ map (λ (one : VoiceResult). one.voice) (results_from shared l.v l.previous (drop l.v l.voices));
  answers : (registers : List ℕ) (muted : ℕ) → l.reads.settings.now ≡ settings_of registers muted → let shared : SharedInput = record { registers = registers; common = l.reads.common; memory = l.reads.memory.now; table = l.reads.table.now; counter = l.reads.clock } in
      map (λ (one : VoiceResult). one.answer) (results_from shared 0 (pos 0) l.initial.voices)
      ≡ take l.v l.answers ++ map (λ (one : VoiceResult). one.answer) (results_from shared l.v l.previous (drop l.v l.voices));
  eight_voices : length l.voices ≡ 8;
  eight_answers : length l.answers ≡ 8;
}
