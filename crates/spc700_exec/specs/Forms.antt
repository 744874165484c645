-- Which forms the operations have: none that a line of theirs would meet by a default.
use Rattle.std.specs.Prelude.{Bool, true, false, ◌&&◌, ◌||◌, not, if◌then◌else◌}
use Rattle.spc700_alu.specs.declared.bits.BitKind.{BitKind}
use Rattle.spc700_alu.specs.declared.bits.BitKind.TheVariants as Kind
use Rattle.spc700_table.specs.declared.Form.{Form}
use Rattle.spc700_table.specs.declared.Form.TheVariants as F
use Rattle.spc700_table.specs.declared.OpRow.{OpRow}
use Rattle.spc700_table.specs.Opcodes.{is_distance}
use Rattle.spc700_exec.specs.Operations.{Operation, operation_of, OnStatus, OnA, OnYa, Branch, BitBranch, CompareBranch, CountBranch, Move, Calculate, Compare, Modify, BitToCarry, BitInPlace, BitTest, WordOnYa, WordStore, WordModify, Push, Pop, Jump, Call, TableCall, Break, Return, InterruptReturn, Halt}
use Rattle.spc700_exec.specs.Accesses.{in_memory}

abbrev pub is_none : Form → Bool
is_none F.None = true
is_none _ = false

abbrev pub is_register : Form → Bool
is_register F.A = true
is_register F.X = true
is_register F.Y = true
is_register F.Sp = true
is_register F.Psw = true
is_register _ = false

abbrev pub is_immediate : Form → Bool
is_immediate F.Imm = true
is_immediate _ = false

abbrev pub is_bit : Form → Bool
is_bit (F.DirectBit bit) = true
is_bit F.Bit = true
is_bit _ = false

-- a bit that is meant as its complement, and the operations that take it so
abbrev pub is_complement : Form → Bool
is_complement F.NotBit = true
is_complement _ = false

abbrev pub complements : BitKind → Bool
complements Kind.OrNot = true
complements Kind.AndNot = true
complements _ = false

abbrev pub is_entry : Form → Bool
is_entry (F.Table n) = true
is_entry _ = false

-- a byte of memory that isn't a bit
abbrev pub is_address : Form → Bool
is_address form = in_memory form && not (is_bit form || is_complement form)

-- a byte that can be written, and one that can be read
abbrev pub is_target : Form → Bool
is_target form = is_register form || is_address form

abbrev pub is_source : Form → Bool
is_source form = is_target form || is_immediate form

-- the forms of an operation suit it
abbrev pub suits : Operation → (first second : Form) → Bool
suits (OnStatus change) a b = true
suits (OnA change) a b = true
suits (OnYa change) a b = true
suits (Branch condition) a b = is_distance a
suits (BitBranch on) a b = is_bit a && is_distance b
suits CompareBranch a b = is_address a && is_distance b
suits CountBranch a b = is_target a && is_distance b
suits Move a b = is_target a && is_source b
suits (Calculate calculate) a b = is_target a && is_source b
suits Compare a b = is_target a && is_source b
suits (Modify change) a b = is_target a
suits (BitToCarry kind) a b = if complements kind then is_complement b else is_bit b
suits (BitInPlace kind) a b = is_bit a
suits (BitTest change) a b = is_address a
suits (WordOnYa calculate) a b = is_address b
suits WordStore a b = is_address a
suits (WordModify change) a b = is_address a
suits Push a b = is_register a
suits Pop a b = is_register a
suits Jump a b = is_address a
suits Call a b = is_address a
suits TableCall a b = is_entry a
suits Break a b = is_none a
suits Return a b = true
suits InterruptReturn a b = true
suits Halt a b = true

abbrev pub row_suits : OpRow → Bool
row_suits row = suits (operation_of row.kind row.first row.second) row.first row.second
