-- A machine that asks what comes next runs the script.
use Rattle.std.proofs.Common.{◌≡◌, ℕ, zero, suc, ◌+◌, List, [], ◌∷◌, ◌++◌, refl, ◌∙◌}
use Rattle.std.specs.Prelude.{Some}
use Rattle.spc700_exec.specs.declared.cpu.Cpu.{Cpu}
use Rattle.spc700_exec.specs.Bus.{BusMeaning, byte_read, after_read, after_write}
use Rattle.spc700_exec.specs.Script.{Script, Read, Write, End, Time, outcome}
use Rattle.spc700_exec.specs.Next.{Action, ReadAt, WriteAt, Ends, action, by_action, driven_outcome}

same_by_action : {R : Type 0} (read read' : ℕ → R) (write write' : ℕ → ℕ → R) (end : Cpu → Time → R) (a : Action) → ((at : ℕ) → read at ≡ read' at) → ((at value : ℕ) → write at value ≡ write' at value) → by_action read write end a ≡ by_action read' write' end a
same_by_action read read' write write' end (ReadAt at) r w = r at
same_by_action read read' write write' end (WriteAt at value) r w = w at value
same_by_action read read' write write' end (Ends cpu time) r w = refl

-- after a read, the questions are those of what follows the byte
questions_after_read : {S : Type 0} (n : ℕ) (bus : BusMeaning S) (start made : ℕ) (at : ℕ) (follow : ℕ → Script) (byte : ℕ) (got : List ℕ) (puts : ℕ) (s : S) → driven_outcome n bus start made (action (Read at follow)) (byte ∷ got) puts s ≡ driven_outcome n bus start made (action (follow byte)) got puts s
questions_after_read zero bus start made at follow byte got puts s = refl
questions_after_read (suc n) bus start made at follow byte got puts s =
    same_by_action _ _ _ _ _ (action (follow byte) got puts)
    (λ a. questions_after_read n bus start (made + 1) at follow byte (got ++ byte_read bus a s ∷ []) puts (after_read bus a s))
    (λ a v. questions_after_read n bus start (made + 1) at follow byte got (suc puts) (after_write bus a v s))

-- and after a write those of what follows it
questions_after_write : {S : Type 0} (n : ℕ) (bus : BusMeaning S) (start made : ℕ) (at value : ℕ) (follow : Script) (got : List ℕ) (puts : ℕ) (s : S) → driven_outcome n bus start made (action (Write at value follow)) got (suc puts) s ≡ driven_outcome n bus start made (action follow) got puts s
questions_after_write zero bus start made at value follow got puts s = refl
questions_after_write (suc n) bus start made at value follow got puts s =
    same_by_action _ _ _ _ _ (action follow got puts)
    (λ a. questions_after_write n bus start (made + 1) at value follow (got ++ byte_read bus a s ∷ []) puts (after_read bus a s))
    (λ a v. questions_after_write n bus start (made + 1) at value follow got (suc puts) (after_write bus a v s))

pub driven_outcome_of_action : {S : Type 0} (bus : BusMeaning S) (start made : ℕ) (t : Script) (s : S) → (n : ℕ) × (driven_outcome n bus start made (action t) [] 0 s ≡ Some (outcome bus start made t s))
driven_outcome_of_action bus start made (End cpu time) s = (1, refl)
driven_outcome_of_action bus start made (Read at follow) s =
    let rest = driven_outcome_of_action bus start (made + 1) (follow (byte_read bus at s)) (after_read bus at s) in
    (suc rest.0, questions_after_read rest.0 bus start (made + 1) at follow (byte_read bus at s) [] 0 (after_read bus at s) ∙ rest.1)
driven_outcome_of_action bus start made (Write at value follow) s =
    let rest = driven_outcome_of_action bus start (made + 1) follow (after_write bus at value s) in
    (suc rest.0, questions_after_write rest.0 bus start (made + 1) at value follow [] 0 (after_write bus at value s) ∙ rest.1)
