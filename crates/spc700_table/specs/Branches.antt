-- Where a branch leads (Anomie's SPC700 Doc, relative addressing).
use Rattle.std.specs.Prelude.{ℕ, ◌+◌, ◌%◌, nat_lt, if◌then◌else◌}

-- the address that a signed distance leads to from the address after the instruction
abbrev pub branch_target : (next distance : ℕ) → ℕ
branch_target next distance = (next + (if nat_lt distance 0x80 then distance else distance + 0xff00)) % 0x10000
