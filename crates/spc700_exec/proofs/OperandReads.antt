-- The reads that find an operand are those of the table of accesses, each at its address.
use Rattle.std.proofs.Common.{◌≡◌, ℕ, ◌+◌, ◌*◌, ◌/◌, ◌%◌, List, [], ◌∷◌, ◌++◌, Bool, true, false, refl, sym, ap, ◌∙◌}
use Rattle.spc700_table.specs.declared.Form.{Form}
use Rattle.spc700_table.specs.declared.Form.TheVariants as F
use Rattle.spc700_table.specs.declared.OpRow.{OpRow}
use Rattle.spc700_exec.specs.declared.cpu.Cpu.{Cpu}
use Rattle.spc700_exec.specs.declared.operand.Operand.{Operand}
use Rattle.spc700_exec.specs.declared.operand.Operand.TheVariants as P
use Rattle.spc700_exec.specs.Script.{Script, Read}
use Rattle.spc700_exec.specs.Operands.{direct, next_in_page, call_entry, fetched, fetched_word, read_word, addressed, address_of}
use Rattle.spc700_exec.proofs.Steady.{changes_x, looks_at_x}
use Rattle.spc700_exec.specs.Accesses.{Side, First, Second, Access, OperandRead, PointerRead, Progress, with_bytes, pointer_address, byte_address, form_of, Makes, operand_reads, in_memory}

abbrev pub at_memory : Operand → Bool
at_memory (P.At at) = true
at_memory (P.BitAt at bit) = true
at_memory _ = false

module _ (row : OpRow) (start : Cpu) where
  -- the registers where an operand is addressed: those after the opcode, but for PC, and X as the other operand left it
  abbrev pub addressing : (pc x : ℕ) → Cpu
  addressing pc x = record start { pc = pc; x = x }

  read_operand : (side : Side) (bytes : List ℕ) (p : Progress) (n : List Access) (next : ℕ → Script) → ((b : ℕ) → Makes row start (with_bytes side (bytes ++ b ∷ []) (record p { pc = (p.pc + 1) % 0x10000 })) n (next b)) → Makes row start (with_bytes side bytes p) (OperandRead side ∷ n) (Read p.pc next)
  read_operand First bytes p n next h = ((refl, refl), h)
  read_operand Second bytes p n next h = ((refl, refl), h)

  read_pointer : (side : Side) (bytes : List ℕ) (at : ℕ) (p : Progress) (n : List Access) (next : ℕ → Script) → at ≡ pointer_address (form_of side row) start bytes → ((b : ℕ) → Makes row start (with_bytes side (bytes ++ b ∷ []) p) n (next b)) → Makes row start (with_bytes side bytes p) (PointerRead side ∷ n) (Read at next)
  read_pointer First bytes at p n next e h = ((refl, e), h)
  read_pointer Second bytes at p n next e h = ((refl, e), h)

  -- an operand that a form gives once these bytes were read: it stands in memory exactly if the form's byte does
  pub record IsFound (form : Form) (bytes : List ℕ) (operand : Operand) : Type 0 where
    pub memory : at_memory operand ≡ in_memory form
    pub place : address_of operand ≡ byte_address form start bytes

  abbrev pub further : Progress → (pc : ℕ) → Progress
  further p pc = record p { pc = pc }

  abbrev pub next_pc : ℕ → ℕ
  next_pc pc = (pc + 1) % 0x10000

  -- what follows an operand
  abbrev pub Follows : Side → Form → Progress → (x : ℕ) → List Access → (Operand → Cpu → Script) → Type 0
  Follows side form p x n next =
      (operand : Operand) (bytes : List ℕ) (pc y : ℕ) → IsFound form bytes operand → (changes_x form ≡ false → y ≡ x) → Makes row start (with_bytes side bytes (further p pc)) n (next operand (addressing pc y))

  -- one byte and two bytes of an operand, and the two of its pointer
  one_byte : (side : Side) (p : Progress) (x : ℕ) (n : List Access) (next : Operand → Cpu → Script) (operand : ℕ → Operand) → ((d : ℕ) → Makes row start (with_bytes side (d ∷ []) (further p (next_pc p.pc))) n (next (operand d) (addressing (next_pc p.pc) x))) → Makes row start (with_bytes side [] p) (OperandRead side ∷ n) (fetched (addressing p.pc x) (λ d cpu. next (operand d) cpu))
  one_byte side p x n next operand h = read_operand side [] p n (λ d. next (operand d) (addressing (next_pc p.pc) x)) h

  two_bytes : (side : Side) (p : Progress) (x : ℕ) (n : List Access) (next : Operand → Cpu → Script) (operand : ℕ → Operand) → ((low high : ℕ) → Makes row start (with_bytes side (low ∷ high ∷ []) (further p (next_pc (next_pc p.pc)))) n (next (operand (low + 0x100 * high)) (addressing (next_pc (next_pc p.pc)) x))) → Makes row start (with_bytes side [] p) (OperandRead side ∷ OperandRead side ∷ n) (fetched_word (addressing p.pc x) (λ word cpu. next (operand word) cpu))
  two_bytes side p x n next operand h =
      let last : ℕ → ℕ → Script = λ low high. next (operand (low + 0x100 * high)) (addressing (next_pc (next_pc p.pc)) x) in
      read_operand side [] p (OperandRead side ∷ n) (λ low. Read (next_pc p.pc) (last low)) (λ low.
      read_operand side (low ∷ []) (further p (next_pc p.pc)) n (last low) (h low))

  two_pointer_bytes : (side : Side) (bytes : List ℕ) (at at_high : ℕ) (p : Progress) (n : List Access) (next : ℕ → Script) → at ≡ pointer_address (form_of side row) start bytes → ((low : ℕ) → at_high ≡ pointer_address (form_of side row) start (bytes ++ low ∷ [])) → ((low high : ℕ) → Makes row start (with_bytes side ((bytes ++ low ∷ []) ++ high ∷ []) p) n (next (low + 0x100 * high))) → Makes row start (with_bytes side bytes p) (PointerRead side ∷ PointerRead side ∷ n) (read_word at at_high next)
  two_pointer_bytes side bytes at at_high p n next e e_high h =
      read_pointer side bytes at p (PointerRead side ∷ n) (λ low. Read at_high (λ high. next (low + 0x100 * high))) e (λ low.
      read_pointer side (bytes ++ low ∷ []) at_high p n (λ high. next (low + 0x100 * high)) (e_high low) (h low))

  -- the address of a pointer's byte, by the form of the operand's side
  pointed : (side : Side) (form : Form) (at : ℕ) (bytes : List ℕ) → form_of side row ≡ form → at ≡ pointer_address form start bytes → at ≡ pointer_address (form_of side row) start bytes
  pointed side form at bytes e h = h ∙ sym (ap (λ f. pointer_address f start bytes) e)

  -- a form that gives a register or nothing, and one that gives a byte of the instruction or of memory
  pub after_addressed : (side : Side) (form : Form) (p : Progress) (x : ℕ) (n : List Access) (next : Operand → Cpu → Script) → form_of side row ≡ form → (looks_at_x form ≡ true → x ≡ start.x) → Follows side form p x n next → Makes row start (with_bytes side [] p) (operand_reads side form ++ n) (addressed form (addressing p.pc x) next)
  after_addressed side F.A p x n next e ex h = h P.A [] p.pc x (record { memory = refl; place = refl }) (λ _. refl)
  after_addressed side F.X p x n next e ex h = h P.X [] p.pc x (record { memory = refl; place = refl }) (λ _. refl)
  after_addressed side F.Y p x n next e ex h = h P.Y [] p.pc x (record { memory = refl; place = refl }) (λ _. refl)
  after_addressed side F.Sp p x n next e ex h = h P.Sp [] p.pc x (record { memory = refl; place = refl }) (λ _. refl)
  after_addressed side F.Psw p x n next e ex h = h P.Psw [] p.pc x (record { memory = refl; place = refl }) (λ _. refl)
  after_addressed side F.Ya p x n next e ex h = h P.Implied [] p.pc x (record { memory = refl; place = refl }) (λ _. refl)
  after_addressed side F.Carry p x n next e ex h = h P.Implied [] p.pc x (record { memory = refl; place = refl }) (λ _. refl)
  after_addressed side F.None p x n next e ex h = h P.Implied [] p.pc x (record { memory = refl; place = refl }) (λ _. refl)
  after_addressed side F.PtrY p x n next e ex h = h (P.At (direct start start.y)) [] p.pc x (record { memory = refl; place = refl }) (λ _. refl)
  after_addressed side (F.Table i) p x n next e ex h = h (P.At (call_entry i)) [] p.pc x (record { memory = refl; place = refl }) (λ _. refl)
  after_addressed side F.PtrX p x n next e ex h = h (P.At (direct start x)) [] p.pc x (record { memory = refl; place = ap (direct start) (ex refl) }) (λ _. refl)
  after_addressed side F.PtrXInc p x n next e ex h = h (P.At (direct start x)) [] p.pc ((x + 1) % 0x100) (record { memory = refl; place = ap (direct start) (ex refl) }) (λ same. absurd (cc))
  after_addressed side F.Imm p x n next e ex h =
      let operand : ℕ → Operand = λ d. P.Value d in
      one_byte side p x n next operand (λ d. h (operand d) (d ∷ []) (next_pc p.pc) x (record { memory = refl; place = refl }) (λ _. refl))
  after_addressed side F.Rel p x n next e ex h =
      let operand : ℕ → Operand = λ d. P.Value d in
      one_byte side p x n next operand (λ d. h (operand d) (d ∷ []) (next_pc p.pc) x (record { memory = refl; place = refl }) (λ _. refl))
  after_addressed side F.Direct p x n next e ex h =
      let operand : ℕ → Operand = λ d. P.At (direct start d) in
      one_byte side p x n next operand (λ d. h (operand d) (d ∷ []) (next_pc p.pc) x (record { memory = refl; place = refl }) (λ _. refl))
  after_addressed side F.DirectY p x n next e ex h =
      let operand : ℕ → Operand = λ d. P.At (direct start (d + start.y)) in
      one_byte side p x n next operand (λ d. h (operand d) (d ∷ []) (next_pc p.pc) x (record { memory = refl; place = refl }) (λ _. refl))
  after_addressed side F.Upper p x n next e ex h =
      let operand : ℕ → Operand = λ d. P.At (0xff00 + d) in
      one_byte side p x n next operand (λ d. h (operand d) (d ∷ []) (next_pc p.pc) x (record { memory = refl; place = refl }) (λ _. refl))
  after_addressed side (F.DirectBit bit) p x n next e ex h =
      let operand : ℕ → Operand = λ d. P.BitAt (direct start d) bit in
      one_byte side p x n next operand (λ d. h (operand d) (d ∷ []) (next_pc p.pc) x (record { memory = refl; place = refl }) (λ _. refl))
  after_addressed side F.DirectX p x n next e ex h =
      let operand : ℕ → Operand = λ d. P.At (direct start (d + x)) in
      one_byte side p x n next operand (λ d. h (operand d) (d ∷ []) (next_pc p.pc) x (record { memory = refl; place = ap (λ x. direct start (d + x)) (ex refl) }) (λ _. refl))
  after_addressed side F.Abs p x n next e ex h =
      let operand : ℕ → Operand = λ word. P.At word in
      two_bytes side p x n next operand (λ low high. h (operand (low + 0x100 * high)) (low ∷ high ∷ []) (next_pc (next_pc p.pc)) x (record { memory = refl; place = refl }) (λ _. refl))
  after_addressed side F.AbsY p x n next e ex h =
      let operand : ℕ → Operand = λ word. P.At ((word + start.y) % 0x10000) in
      two_bytes side p x n next operand (λ low high. h (operand (low + 0x100 * high)) (low ∷ high ∷ []) (next_pc (next_pc p.pc)) x (record { memory = refl; place = refl }) (λ _. refl))
  after_addressed side F.Bit p x n next e ex h =
      let operand : ℕ → Operand = λ word. P.BitAt (word % 0x2000) (word / 0x2000) in
      two_bytes side p x n next operand (λ low high. h (operand (low + 0x100 * high)) (low ∷ high ∷ []) (next_pc (next_pc p.pc)) x (record { memory = refl; place = refl }) (λ _. refl))
  after_addressed side F.NotBit p x n next e ex h =
      let operand : ℕ → Operand = λ word. P.BitAt (word % 0x2000) (word / 0x2000) in
      two_bytes side p x n next operand (λ low high. h (operand (low + 0x100 * high)) (low ∷ high ∷ []) (next_pc (next_pc p.pc)) x (record { memory = refl; place = refl }) (λ _. refl))
  after_addressed side F.AbsX p x n next e ex h =
      let operand : ℕ → Operand = λ word. P.At ((word + x) % 0x10000) in
      two_bytes side p x n next operand (λ low high. h (operand (low + 0x100 * high)) (low ∷ high ∷ []) (next_pc (next_pc p.pc)) x (record { memory = refl; place = ap (λ x. (low + 0x100 * high + x) % 0x10000) (ex refl) }) (λ _. refl))
  after_addressed side F.IndX p x n next e ex h =
      let operand : ℕ → Operand = λ word. P.At word in
      let pc = next_pc p.pc in
      let at : ℕ → ℕ = λ d. direct start (d + x) in
      read_operand side [] p (PointerRead side ∷ PointerRead side ∷ n) (λ d. read_word (at d) (next_in_page (at d)) (λ a. next (operand a) (addressing pc x))) (λ d.
      two_pointer_bytes side (d ∷ []) (at d) (next_in_page (at d)) (further p pc) n (λ a. next (operand a) (addressing pc x))
      (pointed side F.IndX (at d) (d ∷ []) e (ap (λ x. direct start (d + x)) (ex refl)))
      (λ low. pointed side F.IndX (next_in_page (at d)) (d ∷ low ∷ []) e (ap (λ x. next_in_page (direct start (d + x))) (ex refl)))
      (λ low high. h (operand (low + 0x100 * high)) (d ∷ low ∷ high ∷ []) pc x (record { memory = refl; place = refl }) (λ _. refl)))
  after_addressed side F.IndY p x n next e ex h =
      let operand : ℕ → Operand = λ word. P.At ((word + start.y) % 0x10000) in
      let pc = next_pc p.pc in
      let at : ℕ → ℕ = λ d. direct start d in
      read_operand side [] p (PointerRead side ∷ PointerRead side ∷ n) (λ d. read_word (at d) (next_in_page (at d)) (λ a. next (operand a) (addressing pc x))) (λ d.
      two_pointer_bytes side (d ∷ []) (at d) (next_in_page (at d)) (further p pc) n (λ a. next (operand a) (addressing pc x))
      (pointed side F.IndY (at d) (d ∷ []) e refl)
      (λ low. pointed side F.IndY (next_in_page (at d)) (d ∷ low ∷ []) e refl)
      (λ low high. h (operand (low + 0x100 * high)) (d ∷ low ∷ high ∷ []) pc x (record { memory = refl; place = refl }) (λ _. refl)))
  after_addressed side F.AbsPtrX p x n next e ex h =
      let operand : ℕ → Operand = λ word. P.At word in
      let pc = next_pc (next_pc p.pc) in
      let at : ℕ → ℕ → ℕ = λ low high. (low + 0x100 * high + x) % 0x10000 in
      let next_at : ℕ → ℕ → ℕ = λ low high. (low + 0x100 * high + x + 1) % 0x10000 in
      let t : ℕ → ℕ → Script = λ low high. read_word (at low high) (next_at low high) (λ a. next (operand a) (addressing pc x)) in
      read_operand side [] p (OperandRead side ∷ PointerRead side ∷ PointerRead side ∷ n) (λ low. Read (next_pc p.pc) (λ high. t low high)) (λ low.
      read_operand side (low ∷ []) (further p (next_pc p.pc)) (PointerRead side ∷ PointerRead side ∷ n) (λ high. t low high) (λ high.
      two_pointer_bytes side (low ∷ high ∷ []) (at low high) (next_at low high) (further p pc) n (λ a. next (operand a) (addressing pc x))
      (pointed side F.AbsPtrX (at low high) (low ∷ high ∷ []) e (ap (λ x. (low + 0x100 * high + x) % 0x10000) (ex refl)))
      (λ b. pointed side F.AbsPtrX (next_at low high) (low ∷ high ∷ b ∷ []) e (ap (λ x. (low + 0x100 * high + x + 1) % 0x10000) (ex refl)))
      (λ b c. h (operand (b + 0x100 * c)) (low ∷ high ∷ b ∷ c ∷ []) pc x (record { memory = refl; place = refl }) (λ _. refl))))
