-- What contracts see of a host in memory that gives and takes one byte at a time.
use Rattle.snd_host.specs.Host.{HostState}
use Rattle.snd_host.specs.Memory.{memory_state}
use Rattle.snd_host.specs.declared.memory.MemHost.{MemHost}
use Rattle.snd_host.specs.declared.drip.DripHost.{DripHost}

-- the host inside
abbrev pub inside : DripHost → MemHost
inside host = host.host

-- It is at a moment what the host inside is, but for its calls: of those that were made of it, a read shows its own buffer, and a failed write its piece.
abbrev pub drip_state : DripHost → HostState
drip_state host = record (memory_state (inside host)) { calls = host.log.calls }
