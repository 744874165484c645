use Rattle.std.proofs.Common.{◌≡◌, pos, drop}
use Rattle.dsp_state.specs.Mix.{clamped_sum, shares_at}
use Rattle.dsp_state.specs.declared.volumes.Volumes.{Volumes}
use Rattle.dsp_state.proofs.mix.sum_voices.Given as goal

-- the sums of the voices so far, and those still to be added
abbrev pub invariant-loop-v : goal.invariant-loop-v
invariant-loop-v l = record {
  main_left : clamped_sum (pos 0) (shares_at (λ (one : Volumes). one.left) l.volumes l.answers) ≡ clamped_sum l.total.main.left (shares_at (λ (one : Volumes). one.left) (drop l.v l.volumes) (drop l.v l.answers));
  main_right : clamped_sum (pos 0) (shares_at (λ (one : Volumes). one.right) l.volumes l.answers) ≡ clamped_sum l.total.main.right (shares_at (λ (one : Volumes). one.right) (drop l.v l.volumes) (drop l.v l.answers));
  sent_left : clamped_sum (pos 0) (shares_at (λ (one : Volumes). one.sent_left) l.volumes l.answers) ≡ clamped_sum l.total.sent.left (shares_at (λ (one : Volumes). one.sent_left) (drop l.v l.volumes) (drop l.v l.answers));
  sent_right : clamped_sum (pos 0) (shares_at (λ (one : Volumes). one.sent_right) l.volumes l.answers) ≡ clamped_sum l.total.sent.right (shares_at (λ (one : Volumes). one.sent_right) (drop l.v l.volumes) (drop l.v l.answers));
}
