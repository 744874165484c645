-- What a server needs of whole machines: how they are saved and loaded, and where a run takes them. W is the type of the
-- machines, V of what is saved of one beside its memory.
use Rattle.std.specs.Prelude.{◌≡◌, ℕ, ◌+◌, ◌≤◌, List, ◌++◌, length}
use Rattle.num_fix.specs.declared.Frame.{Frame}

pub record Machines (W V : Type 0) : Type 0 where
  -- what is saved of a machine, and its memory
  pub state : W → V
  pub memory : W → List ℕ
  -- the samples made before what was saved
  pub sample : V → ℕ
  -- a machine once that is loaded over a memory; what no run changes stays
  pub loaded : W → V → (memory : List ℕ) → W
  -- the run to so many samples: where it ends, and the frames that it emits
  pub after_run : (samples : ℕ) → W → W
  pub run_frames : (samples : ℕ) → W → List Frame

-- What a server uses of them. No contract cites it.
pub record AreLawful {W V : Type 0} (machines : Machines W V) : Type 0 where
  pub loads_back : (w : W) → machines.loaded w (machines.state w) (machines.memory w) ≡ w
  pub loads_over : (w : W) (s t : V) (memory other : List ℕ) → machines.loaded (machines.loaded w s memory) t other ≡ machines.loaded w t other
  pub loads_after : (n : ℕ) (w : W) (s : V) (memory : List ℕ) → machines.loaded (machines.after_run n w) s memory ≡ machines.loaded w s memory
  pub sample_loaded : (w : W) (s : V) (memory : List ℕ) → machines.sample (machines.state (machines.loaded w s memory)) ≡ machines.sample s
  pub stays : (w : W) → machines.after_run (machines.sample (machines.state w)) w ≡ w
  pub makes : (n : ℕ) (w : W) → machines.sample (machines.state w) ≤ n → machines.sample (machines.state (machines.after_run n w)) ≡ n
  pub goes_on : (k n : ℕ) (w : W) → k ≤ n → machines.after_run n (machines.after_run k w) ≡ machines.after_run n w
  pub counts : (n : ℕ) (w : W) → machines.sample (machines.state w) ≤ n → length (machines.run_frames n w) + machines.sample (machines.state w) ≡ n
  pub emits : (k n : ℕ) (w : W) → k ≤ n → machines.run_frames n w ≡ machines.run_frames k w ++ machines.run_frames n (machines.after_run k w)
