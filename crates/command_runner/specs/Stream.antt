-- Two outputs that are written at once.
use Rattle.std.specs.Prelude.{◌≡◌, ℕ, ◌+◌, ◌-◌, ◌≤◌, ◌<◌, Bool, false, List, [], ◌∷◌, ◌++◌, Option, Some, None, slice_get}
use Rattle.snd_host.specs.Host.{Output}
use Rattle.snd_host.specs.declared.host.OutFile.{OutFile}
use Rattle.command_runner.specs.declared.streaming.Targets.{Targets}

-- bytes of a sound file and of a trace
pub record Both : Type 0 where
  pub wave : List ℕ
  pub trace : List ℕ

-- the outputs of a stream: the sound file, and the trace only where it has a name
abbrev pub pair : (wave : List ℕ) (trace : Option (List ℕ)) → List ℕ → List ℕ → List Output
pair wave None xs ys = record { name = wave; bytes = xs } ∷ []
pair wave (Some trace) xs ys = record { name = wave; bytes = xs } ∷ record { name = trace; bytes = ys } ∷ []

-- the outputs of a stream: the head of the sound file, and what is made of each
abbrev pub stream_outputs : (wave : List ℕ) (trace : Option (List ℕ)) (head : List ℕ) → Both → List Output
stream_outputs wave trace head made = pair wave trace (head ++ made.wave) made.trace

-- the trace, where there is one, has the number after that of the sound file, n
abbrev pub IsTrace : Option (List ℕ) → Option OutFile → ℕ → Type 0
IsTrace None None n = Unit {0}
IsTrace None (Some file) n = ⊥
IsTrace (Some name) None n = ⊥
IsTrace (Some name) (Some file) n = file.0 ≡ n + 1

-- The sound file has this number, and the trace, where there is one, the next.
pub record AreTargets (trace : Option (List ℕ)) (n : ℕ) (targets : Targets) : Type 0 where
  pub wave : targets.wave.0 ≡ n
  pub trace_number : IsTrace trace targets.trace n

abbrev pub IsOpenAfter : List Bool → ℕ → Option OutFile → Type 0
IsOpenAfter ended n None = Unit {0}
IsOpenAfter ended n (Some file) = (n < file.0) × (slice_get ended (file.0 - 2) ≡ Some false)

-- The outputs of a stream were created and not ended.
pub record AreOpen (ended : List Bool) (targets : Targets) : Type 0 where
  pub low : 2 ≤ targets.wave.0
  pub wave_open : slice_get ended (targets.wave.0 - 2) ≡ Some false
  pub trace_open : IsOpenAfter ended targets.wave.0 targets.trace
