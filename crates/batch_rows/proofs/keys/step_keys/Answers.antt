use Rattle.std.proofs.Common.{◌≤◌, ◌≡◌, ℕ, suc, ap, sym, ◌∙◌, arith}
use Rattle.std.proofs.lemmas.Bool.Decides.{nat_tests}
use Rattle.std.proofs.lemmas.List.{get_or-replicate}
use Rattle.dsp_state.specs.declared.state.ChipState.{ChipState}
use Rattle.batch_rows.specs.KeysAndNoise.{noise_after, IsUnkeyed}
use Rattle.batch_rows.specs.Rows.{keys_after}
use Rattle.batch_rows.proofs.KeysApart.{all_idle, noise-keys_after, keys_and_noise_alone}
use Rattle.batch_rows.proofs.keys.step_keys.Goals as goal

-- samples in which nothing fires and no key-on is pending
module _ (c : goal.After-idle_rows) where
  none : c.keyed_samples-keyed.result ≡ 0
  none = grind (arith, nat_tests, c.if-keyed-eq0.true)

  all : c.first_firing-firing.result ≡ c.args.samples.now.n
  all = grind (arith, nat_tests, c.if-firing-n.true)

  at_once : IsUnkeyed (keys_after c.args.samples.now.number c.args.state.now 0)
  at_once = rw none at (c.keyed_samples-keyed.ensures.rest c.args.samples.now.number (omega (arith, none, c.requires.batch.some)))

  untaken : c.args.state.now.hidden.kon_latched ≡ 0
  unfolding keys_after
  untaken = at_once.kon_latched

  idle : (j : ℕ) → j ≤ c.args.samples.now.n → keys_after c.args.samples.now.number c.args.state.now j ≡ c.args.state.now
  idle =
      all_idle c.args.samples.now.number c.args.state.now c.args.samples.now.n at_once
      (λ j early late. rw c.requires.rate at (c.first_firing-firing.ensures.quiet c.args.samples.now.number j c.requires.batch.clock (omega (arith, all, late))))

pub returns-then-firing-n-clause-state : goal.returns-then-firing-n-clause-state
returns-then-firing-n-clause-state c = sym (idle c c.args.samples.now.n (omega arith))

pub returns-then-firing-n-clause-rows : goal.returns-then-firing-n-clause-rows
returns-then-firing-n-clause-rows c = record {
  noise = λ j below. rw (c.idle_rows.ensures.noise, idle c (suc j) below) (get_or-replicate 64 j c.args.state.now.hidden.noise 0 (omega (arith, below, c.requires.batch.few)));
  polls = λ j below. c.idle_rows.ensures.polls j (omega (arith, below, c.requires.batch.few));
  kon_latched = λ j below. rw (c.idle_rows.ensures.kon, idle c (suc j) below, untaken c) (get_or-replicate {A = ℕ} 64 j 0 0 (omega (arith, below, c.requires.batch.few)));
}

pub returns-then-firing-n-clause-noise : goal.returns-then-firing-n-clause-noise
returns-then-firing-n-clause-noise c j below =
    rw (c.idle_rows.ensures.noise, get_or-replicate 64 j c.args.state.now.hidden.noise 0 (omega (arith, below, c.requires.batch.few))) c.idle_rows.ensures.bound

-- the noise is stepped from that of the state, which the polls left
noise_is : (c : goal.After-new) (j : ℕ) → noise_after c.args.rate c.args.samples.now.number c.poll_each-kon.new.state.hidden.noise j ≡ (keys_after c.args.samples.now.number c.args.state.now j).hidden.noise
noise_is c j =
    let kept : c.poll_each-kon.new.state.hidden.noise ≡ c.args.state.now.hidden.noise = ap (λ (s : ChipState). s.hidden.noise) c.poll_each-kon.ensures.state in
    rw (kept, c.requires.rate) (sym (noise-keys_after c.args.samples.now.number c.args.state.now j))

pub returns-clause-state : goal.returns-clause-state
returns-clause-state c =
    let s : ChipState = c.args.state.now in
    let end : ChipState = keys_after c.args.samples.now.number s c.args.samples.now.n in
    let noise : c.step_noise_each-noise.new.noise ≡ end.hidden.noise = c.step_noise_each-noise.ensures.noise c.args.samples.now.number c.requires.batch.clock ∙ noise_is c c.args.samples.now.n in
    rw (noise, c.poll_each-kon.ensures.state) (keys_and_noise_alone c.args.samples.now.number s c.args.samples.now.n)

pub returns-clause-rows : goal.returns-clause-rows
returns-clause-rows c = record {
  noise = λ j below. rw c.new.ensures.noise (c.step_noise_each-noise.ensures.row c.args.samples.now.number j c.requires.batch.clock below ∙ noise_is c (suc j));
  polls = λ j below. rw c.new.ensures.poll (c.polls_from.ensures j (omega (arith, below, c.requires.batch.few)));
  kon_latched = λ j below. rw c.new.ensures.kon (c.poll_each-kon.ensures.kon_latched j below);
}

pub returns-clause-noise : goal.returns-clause-noise
returns-clause-noise c j below = rw c.new.ensures.noise (c.step_noise_each-noise.ensures.bound j below)
