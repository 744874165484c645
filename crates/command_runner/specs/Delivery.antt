-- Outputs that a delivery makes: how many can be created, and which part of them was made.
use Rattle.std.specs.Prelude.{◌≡◌, ℕ, ◌+◌, ◌≤◌, ◌<◌, Bool, true, false, List, [], ◌∷◌, ◌++◌, length, map, replicate, slice_index}
use Rattle.snd_host.specs.History.{ended_of}
use Rattle.snd_host.specs.Host.{HostState, Output, IsPrefix, max_outputs, longest_output_name}

-- Two outputs more have numbers below 2 ^ 32.
abbrev pub CanDeliver : HostState → Type 0
CanDeliver state = length (ended_of state.calls) + 1 < max_outputs

-- So many outputs more have numbers below 2 ^ 32.
abbrev pub CanDeliverAll : (count : ℕ) → HostState → Type 0
CanDeliverAll count state = length (ended_of state.calls) + count < max_outputs

-- Of these outputs the first were begun, with a prefix of the bytes of each: their names are the first names.
abbrev pub IsBegun : List Output → List Output → Type 0
IsBegun [] outputs = Unit {0}
IsBegun (o ∷ begun) [] = ⊥
IsBegun (o ∷ begun) (output ∷ outputs) = (o.name ≡ output.name) × IsPrefix o.bytes output.bytes × IsBegun begun outputs

-- Of the outputs that were begun those that were ended have all their bytes. There is a flag for each, whether it was ended.
abbrev pub EndedAreWhole : (begun : List Output) → (flags : List Bool) → (outputs : List Output) → Type 0
EndedAreWhole [] flags outputs = Unit {0}
EndedAreWhole (o ∷ begun) [] outputs = Unit {0}
EndedAreWhole (o ∷ begun) (flag ∷ flags) [] = Unit {0}
EndedAreWhole (o ∷ begun) (flag ∷ flags) (output ∷ outputs) = (flag ≡ true → o.bytes ≡ output.bytes) × EndedAreWhole begun flags outputs

-- Outputs are ended in their order: so many of these flags are true, and none behind them.
pub record AreEndedInOrder (flags : List Bool) : Type 0 where
  pub ended : ℕ
  pub others : ℕ
  pub split : flags ≡ replicate ended true ++ replicate others false

-- Each of these outputs, the first of which gets the number n, has a room that takes it and a name that is not too long.
abbrev pub HaveRooms : List Output → List ℕ → ℕ → Type 0
HaveRooms [] rooms n = Unit {0}
HaveRooms (output ∷ outputs) rooms n =
    (n < length rooms) × (length output.bytes ≤ slice_index rooms n) × (length output.name ≤ longest_output_name) × HaveRooms outputs rooms (n + 1)

-- a flag for each of these outputs: it was ended
abbrev pub all_ended : List Output → List Bool
all_ended outputs = map (λ _. true) outputs
