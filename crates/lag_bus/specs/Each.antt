-- What holds of each element of a list, in proofs on records.
use Rattle.std.specs.Prelude.{ℕ, ◌<◌, ◌≤◌, List, [], ◌∷◌}
use Rattle.trace_form.specs.declared.record.Record.{Record}
use Rattle.trace_form.specs.declared.record.Record.TheVariants.{Reg, Port, Voice}

-- P holds of each element
abbrev pub Each : {X : Type 0} → (X → Type 0) → List X → Type 0
Each P [] = Unit {0}
Each P (x ∷ xs) = P x × Each P xs

-- a record is of a voice, in a sample from number a on and before number b
abbrev pub IsVoiceWithin : (a b : ℕ) → Record → Type 0
IsVoiceWithin a b (Voice sample voice level out block keyed ended) = (a ≤ sample) × (sample < b)
IsVoiceWithin a b (Reg sample addr value) = ⊥
IsVoiceWithin a b (Port sample port value) = ⊥
