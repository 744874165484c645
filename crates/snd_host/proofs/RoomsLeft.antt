-- What calls leave of the rooms of a steady host as it was, where each of them does. A failed call leaves all rooms.
use Rattle.std.proofs.Common.{◌≡◌, ℕ, List, [], ◌∷◌, refl, ◌∙◌}
use Rattle.std.specs.List.{AllByRecursion}
use Rattle.snd_host.specs.Calls.{Call, opened, not_opened, read, not_read, created, not_created, wrote, not_written, finished, not_finished}
use Rattle.snd_host.specs.Follows.{failure_of}
use Rattle.snd_host.specs.History.{rooms_after, rooms_over}

-- What is seen of the rooms is the same after a call.
abbrev pub Leaves : {A : Type 0} → (seen : List ℕ → A) → Call → Type 0
Leaves seen call = (rooms : List ℕ) → seen (rooms_after call rooms) ≡ seen rooms

-- all rooms
abbrev pub rooms_as_they_are : List ℕ → List ℕ
rooms_as_they_are rooms = rooms

pub left : {A : Type 0} (seen : List ℕ → A) (calls : List Call) (rooms : List ℕ) → AllByRecursion (Leaves seen) calls → seen (rooms_over calls rooms) ≡ seen rooms
left seen [] rooms each = refl
left seen (c ∷ calls) rooms each = left seen calls (rooms_after c rooms) each.1 ∙ each.0 rooms

pub failure_leaves : {A : Type 0} (seen : List ℕ → A) (c : Call) → Leaves seen (failure_of c)
failure_leaves seen (opened name n) = λ rooms. refl
failure_leaves seen (not_opened name) = λ rooms. refl
failure_leaves seen (read n room bytes) = λ rooms. refl
failure_leaves seen (not_read n room) = λ rooms. refl
failure_leaves seen (created name n) = λ rooms. refl
failure_leaves seen (not_created name) = λ rooms. refl
failure_leaves seen (wrote n bytes) = λ rooms. refl
failure_leaves seen (not_written n piece) = λ rooms. refl
failure_leaves seen (finished n) = λ rooms. refl
failure_leaves seen (not_finished n) = λ rooms. refl
