-- The opcode map of the SPC700 (Anomie's SPC700 Doc, the instruction list): column by column, where the column is the low
-- digit of an opcode, with the rows by its high digit, 0 to F.
use Rattle.std.specs.Prelude.{ℕ, ◌+◌, ◌-◌, ◌/◌, ◌%◌, List, [], ◌∷◌, ◌++◌, map, slice_index_or, Bool, true, false, if◌then◌else◌}
use Rattle.std.specs.List.{range_with_len}
use Rattle.spc700_table.specs.declared.Kind.{Kind}
use Rattle.spc700_table.specs.declared.Kind.TheVariants.{Nop, Bpl, Clrp, Bmi, Setp, Bvc, Clrc, Bvs, Setc, Bcc, Ei, Bcs, Di, Bne, Clrv, Beq, Tcall, Set1, Clr1, Bbs, Bbc, Or, And, Eor, Cmp, Adc, Sbc, Mov, Or1, Decw, Incw, And1, Cmpw, Addw, Eor1, Subw, Mov1, Movw, Not1, Asl, Rol, Lsr, Ror, Dec, Inc, Push, Notc, Tset1, Cbne, Tclr1, Dbnz, Pop, Div, Das, Brk, Jmp, Bra, Call, Pcall, Ret, Reti, Xcn, Mul, Daa, Sleep, Stop}
use Rattle.spc700_table.specs.declared.Form.{Form}
use Rattle.spc700_table.specs.declared.Form.TheVariants.{None, A, X, Y, Ya, Psw, Sp, Carry, Imm, Direct, DirectX, DirectY, Abs, AbsX, AbsY, PtrX, PtrY, PtrXInc, IndX, IndY, AbsPtrX, Bit, NotBit, DirectBit, Rel, Upper, Table}
use Rattle.spc700_table.specs.declared.OpRow.{OpRow}
use Rattle.spc700_table.specs.Cycles.{printed_cycles}

-- the branches with a condition, which take 2 cycles less where they are not taken
abbrev pub is_conditional : Kind → Bool
is_conditional Bpl = true
is_conditional Bmi = true
is_conditional Bvc = true
is_conditional Bvs = true
is_conditional Bcc = true
is_conditional Bcs = true
is_conditional Bne = true
is_conditional Beq = true
is_conditional Bbs = true
is_conditional Bbc = true
is_conditional Cbne = true
is_conditional Dbnz = true
is_conditional _ = false

-- an instruction of two operands, the destination first, by the count that the cycle map prints for it
abbrev op : Kind → Form → Form → ℕ → OpRow
op kind first second printed = record {
  kind = kind;
  first = first;
  second = second;
  cycles = if is_conditional kind then printed - 2 else printed;
  taken = printed;
}

-- one without operands, and one of one operand
abbrev op0 : Kind → ℕ → OpRow
op0 kind = op kind None None

abbrev op1 : Kind → Form → ℕ → OpRow
op1 kind first = op kind first None

-- columns x4 to x9: the kinds of the pairs of rows 0 and 1, 2 and 3, and so on up to A and B
abbrev operations : List Kind
operations = Or ∷ And ∷ Eor ∷ Cmp ∷ Adc ∷ Sbc ∷ []

-- each kind twice, first as in the even row, then as in the odd row
abbrev in_pairs : (even odd : Kind → ℕ → OpRow) → List Kind → List (ℕ → OpRow)
in_pairs even odd [] = []
in_pairs even odd (kind ∷ kinds) = even kind ∷ odd kind ∷ in_pairs even odd kinds

-- columns x4 to x7: `op A,form`, then the stores of A and the loads of A
abbrev on_accumulator : (even odd : Form) → List (ℕ → OpRow)
on_accumulator even odd =
    in_pairs (λ kind. op kind A even) (λ kind. op kind A odd) operations
    ++ op Mov even A ∷ op Mov odd A ∷ op Mov A even ∷ op Mov A odd ∷ []

-- columns x2 and x3: the bit is the row divided by 2
abbrev on_bits : (even odd : Kind) (second : Form) → List ℕ → List (ℕ → OpRow)
on_bits even odd second [] = []
on_bits even odd second (bit ∷ bits) =
    op even (DirectBit bit) second ∷ op odd (DirectBit bit) second ∷ on_bits even odd second bits

-- columns xB and xC: the shifts, DEC and INC
abbrev on_one_operand : (even odd : Form) → List (ℕ → OpRow)
on_one_operand even odd =
    in_pairs (λ kind. op1 kind even) (λ kind. op1 kind odd) (Asl ∷ Rol ∷ Lsr ∷ Ror ∷ Dec ∷ Inc ∷ [])

abbrev x0 : List (ℕ → OpRow)
x0 =
    op0 Nop ∷ op1 Bpl Rel ∷ op0 Clrp ∷ op1 Bmi Rel ∷ op0 Setp ∷ op1 Bvc Rel ∷ op0 Clrc ∷ op1 Bvs Rel
    ∷ op0 Setc ∷ op1 Bcc Rel ∷ op0 Ei ∷ op1 Bcs Rel ∷ op0 Di ∷ op1 Bne Rel ∷ op0 Clrv ∷ op1 Beq Rel ∷ []

abbrev x1 : List (ℕ → OpRow)
x1 = map (λ row. op1 Tcall (Table row)) (range_with_len 0 16)

abbrev x2 : List (ℕ → OpRow)
x2 = on_bits Set1 Clr1 None (range_with_len 0 8)

abbrev x3 : List (ℕ → OpRow)
x3 = on_bits Bbs Bbc Rel (range_with_len 0 8)

abbrev x4 : List (ℕ → OpRow)
x4 = on_accumulator Direct DirectX

abbrev x5 : List (ℕ → OpRow)
x5 = on_accumulator Abs AbsX

abbrev x6 : List (ℕ → OpRow)
x6 = on_accumulator PtrX AbsY

abbrev x7 : List (ℕ → OpRow)
x7 = on_accumulator IndX IndY

abbrev x8 : List (ℕ → OpRow)
x8 =
    in_pairs (λ kind. op kind A Imm) (λ kind. op kind Direct Imm) operations
    ++ op Cmp X Imm ∷ op Mov Direct X ∷ op Mov A Imm ∷ op Mov X Direct ∷ []

abbrev x9 : List (ℕ → OpRow)
x9 =
    in_pairs (λ kind. op kind Direct Direct) (λ kind. op kind PtrX PtrY) operations
    ++ op Mov Abs X ∷ op Mov DirectY X ∷ op Mov X Abs ∷ op Mov X DirectY ∷ []

abbrev xA : List (ℕ → OpRow)
xA =
    op Or1 Carry Bit ∷ op1 Decw Direct ∷ op Or1 Carry NotBit ∷ op1 Incw Direct
    ∷ op And1 Carry Bit ∷ op Cmpw Ya Direct ∷ op And1 Carry NotBit ∷ op Addw Ya Direct
    ∷ op Eor1 Carry Bit ∷ op Subw Ya Direct ∷ op Mov1 Carry Bit ∷ op Movw Ya Direct
    ∷ op Mov1 Bit Carry ∷ op Movw Direct Ya ∷ op1 Not1 Bit ∷ op Mov Direct Direct ∷ []

abbrev xB : List (ℕ → OpRow)
xB =
    on_one_operand Direct DirectX
    ++ op Mov Direct Y ∷ op Mov DirectX Y ∷ op Mov Y Direct ∷ op Mov Y DirectX ∷ []

abbrev xC : List (ℕ → OpRow)
xC =
    on_one_operand Abs A
    ++ op Mov Abs Y ∷ op1 Dec Y ∷ op Mov Y Abs ∷ op1 Inc Y ∷ []

abbrev xD : List (ℕ → OpRow)
xD =
    op1 Push Psw ∷ op1 Dec X ∷ op1 Push A ∷ op1 Inc X ∷ op1 Push X ∷ op Mov X A ∷ op1 Push Y ∷ op Mov A X
    ∷ op Mov Y Imm ∷ op Mov X Sp ∷ op Cmp Y Imm ∷ op Mov Sp X ∷ op Mov X Imm ∷ op Mov A Y ∷ op0 Notc ∷ op Mov Y A ∷ []

abbrev xE : List (ℕ → OpRow)
xE =
    op1 Tset1 Abs ∷ op Cmp X Abs ∷ op Cbne Direct Rel ∷ op Cmp X Direct
    ∷ op1 Tclr1 Abs ∷ op Cmp Y Abs ∷ op Dbnz Direct Rel ∷ op Cmp Y Direct
    ∷ op1 Pop Psw ∷ op Div Ya X ∷ op1 Pop A ∷ op0 Das
    ∷ op1 Pop X ∷ op Cbne DirectX Rel ∷ op1 Pop Y ∷ op Dbnz Y Rel ∷ []

abbrev xF : List (ℕ → OpRow)
xF =
    op0 Brk ∷ op1 Jmp AbsPtrX ∷ op1 Bra Rel ∷ op1 Call Abs ∷ op1 Pcall Upper ∷ op1 Jmp Abs ∷ op0 Ret ∷ op0 Reti
    ∷ op Mov Direct Imm ∷ op0 Xcn ∷ op Mov PtrXInc A ∷ op Mov A PtrXInc ∷ op1 Mul Ya ∷ op0 Daa ∷ op0 Sleep ∷ op0 Stop ∷ []

-- the opcode map: its columns x0 to xF
unfoldable pub columns : List (List (ℕ → OpRow))
columns = x0 ∷ x1 ∷ x2 ∷ x3 ∷ x4 ∷ x5 ∷ x6 ∷ x7 ∷ x8 ∷ x9 ∷ xA ∷ xB ∷ xC ∷ xD ∷ xE ∷ xF ∷ []

-- the row of an opcode: column by its low digit, row by its high digit
unfoldable pub row_of : ℕ → OpRow
row_of opcode = slice_index_or (slice_index_or columns (opcode % 16) []) (opcode / 16) (op0 Nop) (printed_cycles opcode)

-- the distance of a branch
abbrev pub is_distance : Form → Bool
is_distance Rel = true
is_distance _ = false

-- Whether the bytes of an instruction's operands stand in the order of its text, the first operand's before the second's: they do
-- where the second is a distance, which comes last. Else the second's, the source's, stand before the first's.
abbrev pub is_in_text_order : OpRow → Bool
is_in_text_order row = is_distance row.second

-- how many bytes an operand of a form has after the opcode
abbrev pub operand_bytes : Form → ℕ
operand_bytes Imm = 1
operand_bytes Direct = 1
operand_bytes DirectX = 1
operand_bytes DirectY = 1
operand_bytes IndX = 1
operand_bytes IndY = 1
operand_bytes (DirectBit bit) = 1
operand_bytes Rel = 1
operand_bytes Upper = 1
operand_bytes Abs = 2
operand_bytes AbsX = 2
operand_bytes AbsY = 2
operand_bytes AbsPtrX = 2
operand_bytes Bit = 2
operand_bytes NotBit = 2
operand_bytes None = 0
operand_bytes A = 0
operand_bytes X = 0
operand_bytes Y = 0
operand_bytes Ya = 0
operand_bytes Psw = 0
operand_bytes Sp = 0
operand_bytes Carry = 0
operand_bytes PtrX = 0
operand_bytes PtrY = 0
operand_bytes PtrXInc = 0
operand_bytes (Table n) = 0

-- how many bytes the instruction of an opcode has, the opcode among them
abbrev pub length_of : ℕ → ℕ
length_of opcode = 1 + operand_bytes (row_of opcode).first + operand_bytes (row_of opcode).second
