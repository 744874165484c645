use Rattle.std.proofs.Common.{rules, arith}
use Rattle.std.proofs.lemmas.Grind.{common_steps}
use Rattle.dsp_core.proofs.voices.step_voices.Goals as goal

pub loop-v-preserved : goal.loop-v-preserved
loop-v-preserved c = record {
  voices = λ registers muted is. grind (arith, common_steps, c.loop-v.invariant.voices registers muted is, c.step_voice-answer.ensures.voice registers muted is, c.step_voice-answer.ensures.answer registers muted is);
  answers = λ registers muted is. grind (arith, common_steps, c.loop-v.invariant.answers registers muted is, c.step_voice-answer.ensures.voice registers muted is, c.step_voice-answer.ensures.answer registers muted is);
  eight_voices = search rules;
  eight_answers = search rules;
}
