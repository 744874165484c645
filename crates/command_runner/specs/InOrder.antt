-- What calls do one after another.
use Rattle.std.specs.Prelude.{◌≡◌, List, [], ◌++◌}
use Rattle.snd_host.specs.Calls.{Call}

-- Calls do the one thing, and then the other.
pub record Then (First Second : List Call → Type 0) (calls : List Call) : Type 0 where
  pub front : List Call
  pub back : List Call
  pub split : calls ≡ front ++ back
  pub does_first : First front
  pub does_second : Second back

-- There are no calls.
abbrev pub NoCalls : List Call → Type 0
NoCalls calls = calls ≡ []
