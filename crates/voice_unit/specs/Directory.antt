-- The directory of samples: four bytes an entry, the address of the first block and that of the block to loop to.
use Rattle.std.specs.Prelude.{ℕ, ◌+◌, ◌*◌, ◌%◌, List}
use Rattle.aram_core.specs.Memory.{word_at}

-- the address of the entry of a sample's number in the directory at page DIR
abbrev pub entry_address : (dir srcn : ℕ) → ℕ
entry_address dir srcn = (dir * 0x100 + srcn * 4) % 0x10000

-- the address of the first block
unfoldable pub start_word : (dir srcn : ℕ) → List ℕ → ℕ
start_word dir srcn memory = word_at memory (entry_address dir srcn)

-- the address of the block that follows the last one
unfoldable pub loop_word : (dir srcn : ℕ) → List ℕ → ℕ
loop_word dir srcn memory = word_at memory ((entry_address dir srcn + 2) % 0x10000)
