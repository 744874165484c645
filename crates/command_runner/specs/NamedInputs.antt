-- The inputs that a command names, and the calls that read them.
use Rattle.std.specs.Prelude.{◌≡◌, ℕ, Bool, true, false, List, [], ◌∷◌, map, Option, Some, None, if◌then◌else◌}
use Rattle.snd_host.specs.Calls.{Call}
use Rattle.snd_host.specs.Host.{Files}
use Rattle.snd_host.specs.Takes.{Takes}
use Rattle.command_runner.specs.InOrder.{Then, NoCalls}

-- An input that is to be read: its name, how many bytes it may have, and whether what it holds is accepted, so that the next one is read.
pub record NamedInput : Type 0 where
  pub name : List ℕ
  pub limit : ℕ
  pub accepts : Option (List ℕ) → Bool

-- There is an input.
abbrev pub are_some : List NamedInput → Bool
are_some [] = false
are_some (input ∷ inputs) = true

-- What inputs hold, in their order: no bytes, some, or the input is not there.
abbrev pub Held : Type 0
Held = List (Option (List ℕ))

-- what the first of them holds
abbrev pub first : Held → Option (List ℕ)
first [] = None
first (held ∷ others) = held

-- what those after it hold
abbrev pub later : Held → Held
later [] = []
later (held ∷ others) = others

-- what the second and the third hold
abbrev pub second : Held → Option (List ℕ)
second held = first (later held)

abbrev pub third : Held → Option (List ℕ)
third held = first (later (later held))

-- what inputs hold, by what the names hold
abbrev pub held_by : Files → List NamedInput → Held
held_by files inputs = map (λ input. files input.name) inputs

-- what inputs hold that gave these bytes
abbrev pub held_of : (given : List (List ℕ)) → Held
held_of given = map (λ bytes. Some bytes) given

-- Inputs are opened and read one after another, each once, to its end or to one byte past its limit, up to the first that is refused. These are
-- the bytes that they gave.
abbrev pub TakesInOrder : List NamedInput → (given : List (List ℕ)) → List Call → Type 0
TakesInOrder [] given calls = (given ≡ []) × NoCalls calls
TakesInOrder (input ∷ inputs) [] calls = ⊥
TakesInOrder (input ∷ inputs) (bytes ∷ given) calls =
    Then (Takes input.name input.limit bytes) (TakesInOrder (if input.accepts (Some bytes) then inputs else []) given) calls
