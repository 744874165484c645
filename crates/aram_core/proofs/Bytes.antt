-- The byte at an address, once a byte is put at another.
use Rattle.std.proofs.Common.{◌≡◌, ◌≢◌, ℕ, ◌%◌, List}
use Rattle.std.proofs.lemmas.List.{get_or-set_other}
use Rattle.aram_core.specs.Memory.{byte_at, with_byte}

pub byte_at-with_byte_other : (memory : List ℕ) (address at value : ℕ) → at % 0x10000 ≢ address % 0x10000 → byte_at (with_byte memory address value) at ≡ byte_at memory at
byte_at-with_byte_other memory address at value other = get_or-set_other memory (address % 0x10000) (at % 0x10000) value 0 other
