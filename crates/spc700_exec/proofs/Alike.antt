-- Two states of a bus that differ only in what was emitted before: whatever a script does to both, they go on alike.
use Rattle.std.proofs.Common.{◌≡◌, ℕ, ◌+◌, ◌-◌, Bool, true, false, List, ◌++◌, refl, sym, ◌∙◌, ap, subst, append_assoc}
use Rattle.std.specs.Prelude.{nat_lt, if◌then◌else◌}
use Rattle.spc700_exec.specs.declared.cpu.Cpu.{Cpu}
use Rattle.spc700_exec.specs.Bus.{BusMeaning, byte_read, after_read, after_write}
use Rattle.spc700_exec.specs.Script.{Script, Read, Write, End, cycles_at, outcome}
use Rattle.spc700_exec.specs.Instruction.{script, step_outcome}
use Rattle.spc700_exec.specs.Emitting.{IsEmitting, IsAhead}

module _ {S I : Type 0} (bus : BusMeaning S) (cleared : S → S) (items : S → List I) (law : IsEmitting bus cleared items) where
  pub clock-cleared : (s t : S) → cleared s ≡ cleared t → bus.clock s ≡ bus.clock t
  clock-cleared s t same = sym (law.clock s) ∙ ap bus.clock same ∙ law.clock t

  IsAhead-pass : (before : List I) (s t : S) (c : ℕ) → IsAhead cleared items before s t → IsAhead cleared items before (bus.pass s c) (bus.pass t c)
  IsAhead-pass before s t c a = record {
    same = law.pass_next s c ∙ ap (λ (x : S). cleared (bus.pass x c)) a.same ∙ sym (law.pass_next t c);
    front = law.pass_items s c ∙ (λ i. a.front i ++ items (bus.pass (a.same i) c)) ∙ append_assoc before (items t) (items (bus.pass (cleared t) c)) ∙ ap (λ (l : List I). before ++ l) (sym (law.pass_items t c));
  }

  IsAhead-read : (before : List I) (s t : S) (at : ℕ) → IsAhead cleared items before s t → IsAhead cleared items before (bus.read s at).1 (bus.read t at).1
  IsAhead-read before s t at a = record {
    same = law.read_next s at ∙ ap (λ (x : S). cleared (bus.read x at).1) a.same ∙ sym (law.read_next t at);
    front = law.read_items s at ∙ (λ i. a.front i ++ items (bus.read (a.same i) at).1) ∙ append_assoc before (items t) (items (bus.read (cleared t) at).1) ∙ ap (λ (l : List I). before ++ l) (sym (law.read_items t at));
  }

  IsAhead-write : (before : List I) (s t : S) (at value : ℕ) → IsAhead cleared items before s t → IsAhead cleared items before (bus.write s at value) (bus.write t at value)
  IsAhead-write before s t at value a = record {
    same = law.write_next s at value ∙ ap (λ (x : S). cleared (bus.write x at value)) a.same ∙ sym (law.write_next t at value);
    front = law.write_items s at value ∙ (λ i. a.front i ++ items (bus.write (a.same i) at value)) ∙ append_assoc before (items t) (items (bus.write (cleared t) at value)) ∙ ap (λ (l : List I). before ++ l) (sym (law.write_items t at value));
  }

  same_byte : (s t : S) (at : ℕ) → cleared s ≡ cleared t → (bus.read s at).0 ≡ (bus.read t at).0
  same_byte s t at same = law.read_byte s at ∙ ap (λ (x : S). (bus.read x at).0) same ∙ sym (law.read_byte t at)

  IsAhead-either : (before : List I) (s t : S) (b : Bool) (c : ℕ) → IsAhead cleared items before s t → IsAhead cleared items before (if b then bus.pass s c else s) (if b then bus.pass t c else t)
  IsAhead-either before s t true c a = IsAhead-pass before s t c a
  IsAhead-either before s t false c a = a

  IsAhead-outcome : (it : Script) (start made : ℕ) (before : List I) (s t : S) → IsAhead cleared items before s t → ((outcome bus start made it s).0 ≡ (outcome bus start made it t).0) × IsAhead cleared items before (outcome bus start made it s).1 (outcome bus start made it t).1
  IsAhead-outcome (Read at next) start made before s t a =
      let passed = IsAhead-pass before s t 1 a in
      let after = IsAhead-read before (bus.pass s 1) (bus.pass t 1) at passed in
      subst (λ (b : ℕ). ((outcome bus start (made + 1) (next (byte_read bus at s)) (after_read bus at s)).0 ≡ (outcome bus start (made + 1) (next b) (after_read bus at t)).0)
      × IsAhead cleared items before (outcome bus start (made + 1) (next (byte_read bus at s)) (after_read bus at s)).1 (outcome bus start (made + 1) (next b) (after_read bus at t)).1)
      (same_byte (bus.pass s 1) (bus.pass t 1) at passed.same)
      (IsAhead-outcome (next (byte_read bus at s)) start (made + 1) before (after_read bus at s) (after_read bus at t) after)
  IsAhead-outcome (Write at value next) start made before s t a =
      IsAhead-outcome next start (made + 1) before (after_write bus at value s) (after_write bus at value t) (IsAhead-write before (bus.pass s 1) (bus.pass t 1) at value (IsAhead-pass before s t 1 a))
  IsAhead-outcome (End cpu time) start made before s t a =
      (refl, IsAhead-either before s t (nat_lt made (cycles_at start time)) (cycles_at start time - made) a)

  -- and so does a step of the processor
  pub IsAhead-step_outcome : (cpu : Cpu) (before : List I) (s t : S) → IsAhead cleared items before s t → ((step_outcome bus cpu s).0 ≡ (step_outcome bus cpu t).0) × IsAhead cleared items before (step_outcome bus cpu s).1 (step_outcome bus cpu t).1
  IsAhead-step_outcome cpu before s t a =
      subst (λ (k : ℕ). ((outcome bus (bus.clock s) 0 (script cpu) s).0 ≡ (outcome bus k 0 (script cpu) t).0) × IsAhead cleared items before (outcome bus (bus.clock s) 0 (script cpu) s).1 (outcome bus k 0 (script cpu) t).1)
      (clock-cleared s t a.same) (IsAhead-outcome (script cpu) (bus.clock s) 0 before s t a)
