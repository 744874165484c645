-- Calls of which none failed but the last.
use Rattle.std.specs.Prelude.{◌≡◌, ◌≢◌, ◌⊎◌, List, [], ◌∷◌, ◌++◌}
use Rattle.std.specs.List.{AllByRecursion}
use Rattle.snd_host.specs.Calls.{Call, opened, read, created, wrote, finished}
use Rattle.snd_host.specs.Follows.{failure_of}

-- The call didn't fail, and it is no write of no bytes.
abbrev pub IsPlain : Call → Type 0
IsPlain (opened name file) = Unit {0}
IsPlain (read file room bytes) = Unit {0}
IsPlain (created name file) = Unit {0}
IsPlain (wrote file bytes) = bytes ≢ []
IsPlain (finished file) = Unit {0}
IsPlain call = ⊥

-- None of these calls failed but the last one, if that did, and none is a write of no bytes.
pub record OnlyLastFails (calls : List Call) : Type 0 where
  pub done : List Call
  pub last : List Call
  pub split : calls ≡ done ++ last
  pub plain : AllByRecursion IsPlain done
  pub fails : (last ≡ []) ⊎ ((call : Call) × IsPlain call × (last ≡ failure_of call ∷ []))
