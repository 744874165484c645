use Rattle.std.proofs.Common.{arith, ◌≡◌, ◌≤◌, to_z, of_z, length, rules, ◌∙◌}
use Rattle.std.proofs.lemmas.Grind.{common_steps}
use Rattle.std.specs.Int.{w16}
use Rattle.dsp_state.specs.Mix.{main_frame, sent_frame}
use Rattle.dsp_state.specs.declared.volumes.Volumes.{Volumes}
use Rattle.dsp_state.proofs.Shares.{sum_over, frame_of}
use Rattle.dsp_state.proofs.mix.sum_voices.Goals as goal

pub returns-clause-main : goal.returns-clause-main
unfolding main_frame
returns-clause-main c =
    let past : length c.args.volumes.now ≤ c.loop-v.v = search rules in
    let left = sum_over (λ (one : Volumes). one.left) c.args.volumes.now c.args.answers.now c.loop-v.v _ _ past c.loop-v.invariant.main_left in
    let right = sum_over (λ (one : Volumes). one.right) c.args.volumes.now c.args.answers.now c.loop-v.v _ _ past c.loop-v.invariant.main_right in
    let whole_left : to_z w16 (of_z w16 c.loop-v.total.main.left) ≡ c.loop-v.total.main.left = search rules in
    let whole_right : to_z w16 (of_z w16 c.loop-v.total.main.right) ≡ c.loop-v.total.main.right = search rules in
    frame_of _ _ _ (whole_left ∙ left) (whole_right ∙ right)

pub returns-clause-sent : goal.returns-clause-sent
unfolding sent_frame
returns-clause-sent c =
    let past : length c.args.volumes.now ≤ c.loop-v.v = search rules in
    let left = sum_over (λ (one : Volumes). one.sent_left) c.args.volumes.now c.args.answers.now c.loop-v.v _ _ past c.loop-v.invariant.sent_left in
    let right = sum_over (λ (one : Volumes). one.sent_right) c.args.volumes.now c.args.answers.now c.loop-v.v _ _ past c.loop-v.invariant.sent_right in
    let whole_left : to_z w16 (of_z w16 c.loop-v.total.sent.left) ≡ c.loop-v.total.sent.left = search rules in
    let whole_right : to_z w16 (of_z w16 c.loop-v.total.sent.right) ≡ c.loop-v.total.sent.right = search rules in
    frame_of _ _ _ (whole_left ∙ left) (whole_right ∙ right)

pub loop-v-preserved : goal.loop-v-preserved
loop-v-preserved c = grind (arith, common_steps)
