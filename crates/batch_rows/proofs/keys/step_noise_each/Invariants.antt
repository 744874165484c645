use Rattle.std.proofs.Common.{◌≡◌, ◌+◌, ◌-◌, ◌<◌, ◌≤◌, ℕ, suc, true, length, slice_index}
use Rattle.rate_clock.specs.Counter.{counter_at, fires}
use Rattle.batch_rows.specs.KeysAndNoise.{noise_after}
use Rattle.batch_rows.proofs.keys.step_noise_each.Given as goal

abbrev pub invariant-firings : goal.invariant-firings
invariant-firings l = record {
  within : l.at ≤ l.n;
  some : l.at < l.n → 0 < l.rate;
  fires : (k : ℕ) → l.first ≡ counter_at k → l.at < l.n → fires l.rate (counter_at (k + l.at)) ≡ true;
  noise : (k : ℕ) → l.first ≡ counter_at k → l.noise ≡ noise_after l.rate k l.fn.noise l.at;
  row : (k j : ℕ) → l.first ≡ counter_at k → j < l.at → slice_index l.row j ≡ noise_after l.rate k l.fn.noise (suc j);
  bound : (j : ℕ) → j < l.n → slice_index l.row j < 0x8000;
  long : length l.row ≡ 64;
}

abbrev pub decreases-firings : goal.decreases-firings
decreases-firings l = l.n - l.at
