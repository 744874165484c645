-- The calls that make outputs and write a report.
use Rattle.std.specs.Prelude.{◌≡◌, ◌≢◌, ◌==◌, ◌+◌, ℕ, true, List, [], ◌∷◌, ◌++◌, map, Option, Some, None, if◌then◌else◌}
use Rattle.std.specs.List.{AllByRecursion, list_any}
use Rattle.snd_host.specs.Calls.{Call, created, wrote, finished}
use Rattle.snd_host.specs.Follows.{AreWrites}
use Rattle.snd_host.specs.Host.{Output}
use Rattle.command_runner.specs.InOrder.{Then, NoCalls}

-- The number of an output, and the bytes that it gets.
abbrev pub Target : Type 0
Target = ℕ × List ℕ

-- outputs by their numbers, from n on, and their bytes
abbrev pub numbered : (n : ℕ) → List Output → List Target
numbered n [] = []
numbered n (output ∷ outputs) = (n, output.bytes) ∷ numbered (n + 1) outputs

-- one output, or two
abbrev pub both : ℕ → Option ℕ → List ℕ → List ℕ → List Target
both n None xs ys = (n, xs) ∷ []
both n (Some m) xs ys = (n, xs) ∷ (m, ys) ∷ []

-- A write of some bytes to an output of one of these numbers.
abbrev pub IsWriteTo : List Target → Call → Type 0
IsWriteTo targets (wrote file bytes) = (list_any (λ target. target.0 == file) targets ≡ true) × (bytes ≢ [])
IsWriteTo targets call = ⊥

-- the bytes of writes to the output of this number
abbrev pub bytes_to : (file : ℕ) → List Call → List ℕ
bytes_to file [] = []
bytes_to file (wrote f bytes ∷ calls) = if f == file then bytes ++ bytes_to file calls else bytes_to file calls
bytes_to file (call ∷ calls) = bytes_to file calls

-- Interleaved writes: each is to one of these outputs and not empty, and those to each output join to its bytes.
pub record AreWoven (targets : List Target) (calls : List Call) : Type 0 where
  pub each : AllByRecursion (IsWriteTo targets) calls
  pub joined : AllByRecursion (λ target. bytes_to target.0 calls ≡ target.1) targets

-- Outputs of these names are created, the first of which gets the number n.
abbrev pub creations : (n : ℕ) → List Output → List Call
creations n [] = []
creations n (output ∷ outputs) = created output.name n ∷ creations (n + 1) outputs

-- The outputs of these numbers are ended.
abbrev pub endings : List Target → List Call
endings targets = map (λ target. finished target.0) targets

abbrev pub AreCreations : (n : ℕ) → List Output → List Call → Type 0
AreCreations n outputs calls = calls ≡ creations n outputs

abbrev pub AreEndings : List Target → List Call → Type 0
AreEndings targets calls = calls ≡ endings targets

-- Outputs are made at once: all are created, then all are written, then all are ended, each in its order. The first gets the number n.
abbrev pub MakesAtOnce : (n : ℕ) → List Output → List Call → Type 0
MakesAtOnce n outputs = Then (AreCreations n outputs) (Then (AreWoven (numbered n outputs)) (AreEndings (numbered n outputs)))

-- Outputs are made one after another.
abbrev pub MakesInTurn : (n : ℕ) → List Output → List Call → Type 0
MakesInTurn n [] calls = NoCalls calls
MakesInTurn n (output ∷ outputs) calls = Then (MakesAtOnce n (output ∷ [])) (MakesInTurn (n + 1) outputs) calls

-- In which order several outputs are made.
pub data Order : Type 0 where
  at_once : Order
  in_turn : Order

abbrev pub MakesAs : Order → (n : ℕ) → List Output → List Call → Type 0
MakesAs at_once n outputs calls = MakesAtOnce n outputs calls
MakesAs in_turn n outputs calls = MakesInTurn n outputs calls

-- The outputs are made, and then the report is written.
abbrev pub DeliversAs : Order → (n : ℕ) → List Output → (report : List ℕ) → List Call → Type 0
DeliversAs order n outputs report = Then (MakesAs order n outputs) (AreWrites 0 report)
