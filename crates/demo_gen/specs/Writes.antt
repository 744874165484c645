-- What the driver writes while it runs, at each tick of timer 0 one byte of each of three tables of 256 bytes (own).
-- Two draws make a write of a register of the S-DSP: its address by the first, its value by the second.
use Rattle.std.specs.Prelude.{ℕ, suc, ◌+◌, ◌*◌, ◌%◌, List, [], ◌∷◌, slice_index}
use Rattle.demo_gen.specs.Draws.{draw, joined}

-- which register: in turn KON, and PITCHH, SRCN and VOLL of a voice by a drawn byte
abbrev pub register : (turn byte : ℕ) → ℕ
register turn byte = let voice = 0x10 * (byte % 8) in slice_index (0x4C ∷ (voice + 3) ∷ (voice + 4) ∷ voice ∷ []) (turn % 4)

-- which value by a drawn byte: of a pitch the high byte has 5 bits here, and there are 8 samples
abbrev pub value : (turn byte : ℕ) → ℕ
value turn byte = slice_index (byte ∷ byte % 0x20 ∷ byte % 8 ∷ byte ∷ []) (turn % 4)

-- the tables, by draws from the state s on
abbrev pub registers : (s : ℕ) → List ℕ
registers s = joined 256 (λ turn. register turn (draw s (2 * turn)) ∷ [])

abbrev pub values : (s : ℕ) → List ℕ
values s = joined 256 (λ turn. value turn (draw s (suc (2 * turn))) ∷ [])
