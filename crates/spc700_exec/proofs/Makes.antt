-- Each operation makes the accesses of the table of accesses, each at its address.
use Rattle.std.proofs.Common.{◌≡◌, ℕ, ◌+◌, ◌-◌, ◌%◌, ◌^◌, ◌==◌, List, [], ◌∷◌, ◌++◌, Bool, true, false, refl, sym, ap, ◌∙◌, subst, inl, inr}
use Rattle.std.proofs.lemmas.Bool.{and_parts}
use Rattle.std.specs.Prelude.{if◌then◌else◌, not, ◌&&◌}
use Rattle.std.proofs.lemmas.List.{append-nil, append_assoc}
use Rattle.spc700_table.specs.declared.Form.{Form}
use Rattle.spc700_table.specs.declared.Form.TheVariants as F
use Rattle.spc700_table.specs.declared.OpRow.{OpRow}
use Rattle.spc700_table.specs.Opcodes.{is_distance}
use Rattle.spc700_alu.specs.Flags.{with_nz, with_nz16}
use Rattle.spc700_alu.specs.Bytes.{cmp_of}
use Rattle.spc700_alu.specs.Bits.{bitop_of}
use Rattle.spc700_exec.specs.declared.cpu.Cpu.{Cpu}
use Rattle.spc700_exec.specs.declared.operand.Operand.{Operand}
use Rattle.spc700_exec.specs.declared.operand.Both.{Both}
use Rattle.spc700_exec.specs.declared.operand.Operand.TheVariants as P
use Rattle.spc700_exec.specs.Script.{Script}
use Rattle.spc700_exec.specs.Operands.{with_next_pc, next_in_page, call_entry, addressed, both_addressed, loaded, stored, address_of, bit_of, loaded_word, stored_word, pushed, popped, pushed_word}
use Rattle.spc700_exec.specs.Operations.{Operation, ya, flag_is, OnStatus, OnA, OnYa, Branch, BitBranch, CompareBranch, CountBranch, Move, Calculate, Compare, Modify, BitToCarry, BitInPlace, BitTest, WordOnYa, WordStore, WordModify, Push, Pop, Jump, Call, TableCall, Break, Return, InterruptReturn, Halt}
use Rattle.spc700_exec.specs.Forms.{is_none, is_register, is_bit, is_address, is_target, is_source, is_entry}
use Rattle.spc700_exec.specs.Lines.{branch_end, done, with_nz_of_move, with_ya}
use Rattle.spc700_exec.specs.Instruction.{line_of}
use Rattle.spc700_exec.proofs.Steady.{changes_x, looks_at_x, is_steady, not_both, IsListed}
use Rattle.spc700_exec.proofs.OperandReads.{at_memory, IsFound, Follows, after_addressed}
use Rattle.spc700_exec.specs.Accesses.{after_access, Side, First, Second, Access, OperandRead, SourceRead, SourceReadHigh, DestinationWrite, DestinationWriteHigh, StackWrite, StackRead, VectorRead, VectorReadHigh, Progress, begun, bytes_of, byte_address, form_of, Makes, operand_reads, source_first, distance_last, if_in_memory, source, destination, entry_number, accesses_of}

form_of_distance : (form : Form) → is_distance form ≡ true → form ≡ F.Rel
form_of_distance F.Rel h = refl
form_of_distance _ h = absurd (cc)

no_distance : (form : Form) → is_source form ≡ true → is_distance form ≡ false
no_distance F.Rel h = absurd (cc)
no_distance _ h = refl

no_entry : (form : Form) → is_none form ≡ true → entry_number form ≡ 0
no_entry F.None h = refl
no_entry _ h = absurd (cc)

-- the byte of a register is read and written with no access
no_reads : (side : Side) (form : Form) → is_register form ≡ true → operand_reads side form ≡ []
no_reads side F.A h = refl
no_reads side F.X h = refl
no_reads side F.Y h = refl
no_reads side F.Sp h = refl
no_reads side F.Psw h = refl
no_reads side _ h = absurd (cc)

no_byte : (form : Form) (access : Access) → is_register form ≡ true → if_in_memory form access ≡ []
no_byte F.A access h = refl
no_byte F.X access h = refl
no_byte F.Y access h = refl
no_byte F.Sp access h = refl
no_byte F.Psw access h = refl
no_byte _ access h = absurd (cc)

module _ (row : OpRow) (start : Cpu) where
  -- the byte of an operand that was found is read, and written, at the place of its form
  loaded_operand : (side : Side) (p : Progress) (operand : Operand) (n : List Access) (cpu : Cpu) (next : ℕ → Script) → address_of operand ≡ byte_address (form_of side row) start (bytes_of side p) → ((v : ℕ) → Makes row start p n (next v)) → Makes row start p ((if at_memory operand then SourceRead side ∷ [] else []) ++ n) (loaded operand cpu next)
  loaded_operand side p (P.At at) n cpu next e h = ((refl, e), h)
  loaded_operand side p (P.BitAt at bit) n cpu next e h = ((refl, e), h)
  loaded_operand side p P.A n cpu next e h = h _
  loaded_operand side p P.X n cpu next e h = h _
  loaded_operand side p P.Y n cpu next e h = h _
  loaded_operand side p P.Sp n cpu next e h = h _
  loaded_operand side p P.Psw n cpu next e h = h _
  loaded_operand side p (P.Value byte) n cpu next e h = h _
  loaded_operand side p P.Implied n cpu next e h = h _

  after_loaded : (side : Side) (p : Progress) (operand : Operand) (n : List Access) (cpu : Cpu) (next : ℕ → Script) → IsFound row start (form_of side row) (bytes_of side p) operand → ((v : ℕ) → Makes row start p n (next v)) → Makes row start p (source side row ++ n) (loaded operand cpu next)
  after_loaded side p operand n cpu next f h =
      let P : Bool → Type 0 = λ b. Makes row start p ((if b then SourceRead side ∷ [] else []) ++ n) (loaded operand cpu next) in
      subst P f.memory (loaded_operand side p operand n cpu next f.place h)

  stored_operand : (p : Progress) (operand : Operand) (n : List Access) (v : ℕ) (cpu : Cpu) (next : Cpu → Script) → address_of operand ≡ byte_address row.first start p.first → ((cpu : Cpu) → Makes row start p n (next cpu)) → Makes row start p ((if at_memory operand then DestinationWrite First ∷ [] else []) ++ n) (stored operand v cpu next)
  stored_operand p (P.At at) n v cpu next e h = ((refl, e), h _)
  stored_operand p (P.BitAt at bit) n v cpu next e h = ((refl, e), h _)
  stored_operand p P.A n v cpu next e h = h _
  stored_operand p P.X n v cpu next e h = h _
  stored_operand p P.Y n v cpu next e h = h _
  stored_operand p P.Sp n v cpu next e h = h _
  stored_operand p P.Psw n v cpu next e h = h _
  stored_operand p (P.Value byte) n v cpu next e h = h _
  stored_operand p P.Implied n v cpu next e h = h _

  after_stored : (p : Progress) (operand : Operand) (n : List Access) (v : ℕ) (cpu : Cpu) (next : Cpu → Script) → IsFound row start row.first p.first operand → ((cpu : Cpu) → Makes row start p n (next cpu)) → Makes row start p (destination row ++ n) (stored operand v cpu next)
  after_stored p operand n v cpu next f h =
      let P : Bool → Type 0 = λ b. Makes row start p ((if b then DestinationWrite First ∷ [] else []) ++ n) (stored operand v cpu next) in
      subst P f.memory (stored_operand p operand n v cpu next f.place h)

  -- the same at the end of a list
  nothing_more : (p : Progress) (accesses : List Access) (t : Script) → Makes row start p (accesses ++ []) t → Makes row start p accesses t
  nothing_more p accesses t h = subst (λ (l : List Access). Makes row start p l t) (append-nil accesses) h

  last_loaded : (side : Side) (p : Progress) (operand : Operand) (cpu : Cpu) (next : ℕ → Script) → IsFound row start (form_of side row) (bytes_of side p) operand → ((v : ℕ) → Makes row start p [] (next v)) → Makes row start p (source side row) (loaded operand cpu next)
  last_loaded side p operand cpu next f h = nothing_more p (source side row) (loaded operand cpu next) (after_loaded side p operand [] cpu next f h)

  last_stored : (p : Progress) (operand : Operand) (v : ℕ) (cpu : Cpu) (next : Cpu → Script) → IsFound row start row.first p.first operand → ((cpu : Cpu) → Makes row start p [] (next cpu)) → Makes row start p (destination row) (stored operand v cpu next)
  last_stored p operand v cpu next f h = nothing_more p (destination row) (stored operand v cpu next) (after_stored p operand [] v cpu next f h)

  after_branch_end : (p : Progress) (on : Bool) (r : ℕ) (cpu : Cpu) → Makes row start p [] (branch_end on r row cpu)
  after_branch_end p true r cpu = inr refl
  after_branch_end p false r cpu = inl refl

  -- the first operand alone, from the start
  first_operand : (n : List Access) (next : Operand → Cpu → Script) → Follows row start First row.first (begun start) start.x n next → Makes row start (begun start) (operand_reads First row.first ++ n) (addressed row.first start next)
  first_operand n next h = after_addressed row start First row.first (begun start) start.x n next refl (λ _. refl) h

  second_operand : (n : List Access) (next : Operand → Cpu → Script) → Follows row start Second row.second (begun start) start.x n next → Makes row start (begun start) (operand_reads Second row.second ++ n) (addressed row.second start next)
  second_operand n next h = after_addressed row start Second row.second (begun start) start.x n next refl (λ _. refl) h

  -- both operands, in the order of their bytes
  abbrev AfterBoth : List Access → (Both → Cpu → Script) → Type 0
  AfterBoth n next =
      (both : Both) (p : Progress) (cpu : Cpu) → IsFound row start row.first p.first both.first → IsFound row start row.second p.second both.second → Makes row start p n (next both cpu)

  abbrev pair : (first second : Operand) → Both
  pair first second = record { first = first; second = second }

  first_then_second : (n : List Access) (next : Both → Cpu → Script) → is_steady row ≡ true → AfterBoth n next → Makes row start (begun start) ((operand_reads First row.first ++ operand_reads Second row.second) ++ n) (addressed row.first start (λ first cpu. addressed row.second cpu (λ second cpu. next (pair first second) cpu)))
  first_then_second n next steady h =
      let t = addressed row.first start (λ first cpu. addressed row.second cpu (λ second cpu. next (pair first second) cpu)) in
      let apart = not_both (changes_x row.first) (looks_at_x row.second) (and_parts (not (changes_x row.second && looks_at_x row.first)) _ steady).1 in
      subst (λ (l : List Access). Makes row start (begun start) l t) (sym (append_assoc (operand_reads First row.first) (operand_reads Second row.second) n))
      (first_operand (operand_reads Second row.second ++ n) (λ first cpu. addressed row.second cpu (λ second cpu. next (pair first second) cpu)) (λ first bytes pc y f stays.
      after_addressed row start Second row.second (record { pc = pc; sp = start.sp; first = bytes; second = [] }) y n (λ second cpu. next (pair first second) cpu) refl (λ looks. stays (apart looks)) (λ second more pc z g _. h (pair first second) _ _ f g)))

  second_then_first : (n : List Access) (next : Both → Cpu → Script) → is_steady row ≡ true → AfterBoth n next → Makes row start (begun start) ((operand_reads Second row.second ++ operand_reads First row.first) ++ n) (addressed row.second start (λ second cpu. addressed row.first cpu (λ first cpu. next (pair first second) cpu)))
  second_then_first n next steady h =
      let t = addressed row.second start (λ second cpu. addressed row.first cpu (λ first cpu. next (pair first second) cpu)) in
      let apart = not_both (changes_x row.second) (looks_at_x row.first) (and_parts (not (changes_x row.second && looks_at_x row.first)) _ steady).0 in
      subst (λ (l : List Access). Makes row start (begun start) l t) (sym (append_assoc (operand_reads Second row.second) (operand_reads First row.first) n))
      (second_operand (operand_reads First row.first ++ n) (λ second cpu. addressed row.first cpu (λ first cpu. next (pair first second) cpu)) (λ second bytes pc y g stays.
      after_addressed row start First row.first (record { pc = pc; sp = start.sp; first = []; second = bytes }) y n (λ first cpu. next (pair first second) cpu) refl (λ looks. stays (apart looks)) (λ first more pc z f _. h (pair first second) _ _ f g)))

  abbrev in_order : (Both → Cpu → Script) → Script
  in_order next = addressed row.first start (λ first cpu. addressed row.second cpu (λ second cpu. next (pair first second) cpu))

  abbrev second_first : (Both → Cpu → Script) → Script
  second_first next = addressed row.second start (λ second cpu. addressed row.first cpu (λ first cpu. next (pair first second) cpu))

  after_distance_last : (n : List Access) (next : Both → Cpu → Script) → is_steady row ≡ true → is_distance row.second ≡ true → AfterBoth n next → Makes row start (begun start) (distance_last row ++ n) (both_addressed row start next)
  unfolding both_addressed
  after_distance_last n next steady is h =
      subst (λ (b : Bool). Makes row start (begun start) (distance_last row ++ n) (if b then in_order next else second_first next)) (sym is) (first_then_second n next steady h)

  after_source_first : (n : List Access) (next : Both → Cpu → Script) → is_steady row ≡ true → is_source row.second ≡ true → AfterBoth n next → Makes row start (begun start) (source_first row ++ n) (both_addressed row start next)
  unfolding both_addressed
  after_source_first n next steady is h =
      subst (λ (b : Bool). Makes row start (begun start) (source_first row ++ n) (if b then in_order next else second_first next)) (sym (no_distance row.second is)) (second_then_first n next steady h)

  -- the first operand read, changed and written
  changed_in_place : (next : Operand → Cpu → Script) → ((operand : Operand) (p : Progress) (cpu : Cpu) → IsFound row start row.first p.first operand → Makes row start p (source First row ++ destination row) (next operand cpu)) → Makes row start (begun start) (operand_reads First row.first ++ (source First row ++ destination row)) (addressed row.first start next)
  changed_in_place next h = first_operand (source First row ++ destination row) next (λ o bytes pc y f _. h o _ _ f)

  -- TCALL: its entry is that of its form
  called_entry : (form : Form) (next : Operand → Cpu → Script) → row.first ≡ form → is_entry form ≡ true → ((entry : Operand) → address_of entry ≡ call_entry (entry_number row.first) → Makes row start (begun start) (StackWrite ∷ StackWrite ∷ VectorRead ∷ VectorReadHigh ∷ []) (next entry start)) → Makes row start (begun start) (StackWrite ∷ StackWrite ∷ VectorRead ∷ VectorReadHigh ∷ []) (addressed form start next)
  called_entry (F.Table n) next e h follows = follows (P.At (call_entry n)) (ap (λ form. call_entry (entry_number form)) (sym e))
  called_entry _ next e h follows = absurd (cc)

  pub Makes-line_of : (op : Operation) → IsListed row op → Makes row start (begun start) (accesses_of op row) (line_of op row start)
  Makes-line_of (OnStatus change) listed = inl refl
  Makes-line_of (OnA change) listed = inl refl
  Makes-line_of (OnYa change) listed = inl refl
  Makes-line_of (Branch condition) listed =
      let t = line_of (Branch condition) row start in
      subst (λ (form : Form). Makes row start (begun start) (operand_reads First form) t) (sym (form_of_distance row.first listed.suits))
      ((refl, refl), λ r. after_branch_end (after_access (OperandRead First) r (begun start)) (condition start.psw) r (with_next_pc start))
  Makes-line_of (BitBranch on) listed =
      let next : Both → Cpu → Script = λ both cpu. loaded both.first cpu (λ byte. loaded both.second cpu (λ r. branch_end (flag_is (2 ^ bit_of both.first) on byte) r row cpu)) in
      after_distance_last (source First row ++ source Second row) next listed.steady (and_parts (is_bit row.first) (is_distance row.second) listed.suits).1 (λ both p cpu f g. after_loaded First p both.first (source Second row) _ _ f (λ v. last_loaded Second p both.second _ _ g (λ r. after_branch_end p _ r _)))
  Makes-line_of CompareBranch listed =
      let next : Both → Cpu → Script = λ both cpu. loaded both.first cpu (λ byte. loaded both.second cpu (λ r. branch_end (not (cpu.a == byte)) r row cpu)) in
      after_distance_last (source First row ++ source Second row) next listed.steady (and_parts (is_address row.first) (is_distance row.second) listed.suits).1 (λ both p cpu f g. after_loaded First p both.first (source Second row) _ _ f (λ v. last_loaded Second p both.second _ _ g (λ r. after_branch_end p _ r _)))
  Makes-line_of CountBranch listed =
      let less : ℕ → ℕ = λ byte. (byte + 0x100 - 1) % 0x100 in
      let next : Both → Cpu → Script = λ both cpu. loaded both.first cpu (λ byte. loaded both.second cpu (λ r. stored both.first (less byte) cpu (λ cpu. branch_end (not (less byte == 0)) r row cpu))) in
      after_distance_last (source First row ++ (source Second row ++ destination row)) next listed.steady (and_parts (is_target row.first) (is_distance row.second) listed.suits).1 (λ both p cpu f g. after_loaded First p both.first (source Second row ++ destination row) _ _ f (λ v. after_loaded Second p both.second (destination row) _ _ g (λ r. last_stored p both.first _ _ _ f (λ cpu. after_branch_end p _ r cpu))))
  Makes-line_of Move listed =
      let next : Both → Cpu → Script = λ both cpu. loaded both.second cpu (λ v. stored both.first v cpu (λ cpu. done row (with_nz_of_move both.first v cpu))) in
      after_source_first (source Second row ++ destination row) next listed.steady (and_parts (is_target row.first) (is_source row.second) listed.suits).1 (λ both p cpu f g. after_loaded Second p both.second (destination row) _ _ g (λ v. last_stored p both.first v _ _ f (λ cpu. inl refl)))
  Makes-line_of (Calculate calculate) listed =
      let next : Both → Cpu → Script = λ both cpu. loaded both.second cpu (λ b. loaded both.first cpu (λ a. let out = calculate a b cpu.psw in stored both.first out.value (record cpu { psw = out.psw }) (λ cpu. done row cpu))) in
      after_source_first (source Second row ++ (source First row ++ destination row)) next listed.steady (and_parts (is_target row.first) (is_source row.second) listed.suits).1 (λ both p cpu f g. after_loaded Second p both.second (source First row ++ destination row) _ _ g (λ b. after_loaded First p both.first (destination row) _ _ f (λ a. last_stored p both.first _ _ _ f (λ cpu. inl refl))))
  Makes-line_of Compare listed =
      let next : Both → Cpu → Script = λ both cpu. loaded both.second cpu (λ b. loaded both.first cpu (λ a. done row (record cpu { psw = cmp_of a b cpu.psw }))) in
      after_source_first (source Second row ++ source First row) next listed.steady (and_parts (is_target row.first) (is_source row.second) listed.suits).1 (λ both p cpu f g. after_loaded Second p both.second (source First row) _ _ g (λ b. last_loaded First p both.first _ _ f (λ a. inl refl)))
  Makes-line_of (Modify change) listed =
      let next : Operand → Cpu → Script = λ o cpu. loaded o cpu (λ byte. let out = change byte cpu.psw in stored o out.value (record cpu { psw = out.psw }) (λ cpu. done row cpu)) in
      changed_in_place next (λ o p cpu f. after_loaded First p o (destination row) _ _ f (λ v. last_stored p o _ _ _ f (λ cpu. inl refl)))
  Makes-line_of (BitToCarry kind) listed =
      let next : Operand → Cpu → Script = λ o cpu. loaded o cpu (λ byte. done row (record cpu { psw = (bitop_of kind byte (bit_of o) cpu.psw).psw })) in
      second_operand (source Second row) next (λ o bytes pc y f _. last_loaded Second _ o _ _ f (λ v. inl refl))
  Makes-line_of (BitInPlace kind) listed =
      let next : Operand → Cpu → Script = λ o cpu. loaded o cpu (λ byte. stored o (bitop_of kind byte (bit_of o) cpu.psw).value cpu (λ cpu. done row cpu)) in
      changed_in_place next (λ o p cpu f. after_loaded First p o (destination row) _ _ f (λ v. last_stored p o _ _ _ f (λ cpu. inl refl)))
  Makes-line_of (BitTest change) listed =
      let next : Operand → Cpu → Script = λ o cpu. loaded o cpu (λ byte. stored o (change byte cpu.a) (record cpu { psw = with_nz ((cpu.a + 0x100 - byte) % 0x100) cpu.psw }) (λ cpu. done row cpu)) in
      changed_in_place next (λ o p cpu f. after_loaded First p o (destination row) _ _ f (λ v. last_stored p o _ _ _ f (λ cpu. inl refl)))
  Makes-line_of (WordOnYa calculate) listed =
      let next : Operand → Cpu → Script = λ o cpu. loaded_word o (λ w. done row (with_ya (calculate (ya cpu) w cpu.psw) cpu)) in
      second_operand (SourceRead Second ∷ SourceReadHigh Second ∷ []) next (λ o bytes pc y f _. ((refl, f.place), λ low. ((refl, ap next_in_page f.place), λ high. inl refl)))
  Makes-line_of WordStore listed =
      let next : Operand → Cpu → Script = λ o cpu. stored_word o (ya cpu) (done row cpu) in
      first_operand (DestinationWrite First ∷ DestinationWriteHigh First ∷ []) next (λ o bytes pc y f _. ((refl, f.place), ((refl, ap next_in_page f.place), inl refl)))
  Makes-line_of (WordModify change) listed =
      let next : Operand → Cpu → Script = λ o cpu. loaded_word o (λ w. stored_word o (change w) (done row (record cpu { psw = with_nz16 (change w) cpu.psw }))) in
      first_operand (SourceRead First ∷ SourceReadHigh First ∷ DestinationWrite First ∷ DestinationWriteHigh First ∷ []) next (λ o bytes pc y f _. ((refl, f.place), λ low. ((refl, ap next_in_page f.place), λ high. ((refl, f.place), ((refl, ap next_in_page f.place), inl refl)))))
  Makes-line_of Push listed =
      let next : Operand → Cpu → Script = λ o cpu. loaded o cpu (λ byte. pushed byte cpu (λ cpu. done row cpu)) in
      let e = ap (λ (l : List Access). l ++ (source First row ++ StackWrite ∷ [])) (no_reads First row.first listed.suits) ∙ ap (λ (l : List Access). l ++ StackWrite ∷ []) (no_byte row.first (SourceRead First) listed.suits) in
      subst (λ (l : List Access). Makes row start (begun start) l (line_of Push row start)) e
      (first_operand (source First row ++ StackWrite ∷ []) next (λ o bytes pc y f _. after_loaded First _ o (StackWrite ∷ []) _ _ f (λ v. ((refl, refl), inl refl))))
  Makes-line_of Pop listed =
      let next : Operand → Cpu → Script = λ o cpu. popped cpu (λ byte cpu. stored o byte cpu (λ cpu. done row cpu)) in
      let e = ap (λ (l : List Access). l ++ StackRead ∷ destination row) (no_reads First row.first listed.suits) ∙ ap (λ (l : List Access). StackRead ∷ l) (no_byte row.first (DestinationWrite First) listed.suits) in
      subst (λ (l : List Access). Makes row start (begun start) l (line_of Pop row start)) e
      (first_operand (StackRead ∷ destination row) next (λ o bytes pc y f _. ((refl, refl), λ v. last_stored _ o v _ _ f (λ cpu. inl refl))))
  Makes-line_of Jump listed =
      let next : Operand → Cpu → Script = λ o cpu. done row (record cpu { pc = address_of o }) in
      nothing_more (begun start) (operand_reads First row.first) (line_of Jump row start) (first_operand [] next (λ o bytes pc y f _. inl refl))
  Makes-line_of Call listed =
      let next : Operand → Cpu → Script = λ o cpu. pushed_word cpu.pc cpu (λ cpu. done row (record cpu { pc = address_of o })) in
      first_operand (StackWrite ∷ StackWrite ∷ []) next (λ o bytes pc y f _. ((refl, refl), ((refl, refl), inl refl)))
  Makes-line_of TableCall listed =
      let next : Operand → Cpu → Script = λ entry cpu. pushed_word cpu.pc cpu (λ cpu. loaded_word entry (λ a. done row (record cpu { pc = a }))) in
      called_entry row.first next refl listed.suits (λ entry place. ((refl, refl), ((refl, refl), ((refl, place), λ low. ((refl, ap next_in_page place), λ high. inl refl)))))
  Makes-line_of Break listed =
      let place = sym (ap call_entry (no_entry row.first listed.suits)) in
      ((refl, refl), ((refl, refl), ((refl, refl), ((refl, place), λ low. ((refl, ap next_in_page place), λ high. inl refl)))))
  Makes-line_of Return listed = ((refl, refl), λ low. ((refl, refl), λ high. inl refl))
  Makes-line_of InterruptReturn listed = ((refl, refl), λ psw. ((refl, refl), λ low. ((refl, refl), λ high. inl refl)))
  Makes-line_of Halt listed = tt
