-- How many outputs a host may have created before a run.
use Rattle.std.specs.Prelude.{ℕ, ◌<◌, length}
use Rattle.snd_host.specs.History.{ended_of}
use Rattle.snd_host.specs.Host.{HostState}

-- a run is begun on a host on which fewer outputs were created than this: what it creates is far below what is left
abbrev pub max_outputs_before : ℕ
max_outputs_before = 4000000000

-- fewer than that were created on the host
abbrev pub HasFewOutputs : HostState → Type 0
HasFewOutputs state = length (ended_of state.calls) < max_outputs_before
