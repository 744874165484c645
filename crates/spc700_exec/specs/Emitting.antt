-- What a bus emits comes after what it emitted before, and nothing depends on that: neither an answer nor what is emitted.
use Rattle.std.specs.Prelude.{◌≡◌, ℕ, List, [], ◌++◌}
use Rattle.spc700_exec.specs.Bus.{BusMeaning}

-- `items` are those emitted since the last drain; `cleared` is the bus without them
pub record IsEmitting {S I : Type 0} (bus : BusMeaning S) (cleared : S → S) (items : S → List I) : Type 0 where
  pub again : (s : S) → cleared (cleared s) ≡ cleared s
  pub none : (s : S) → items (cleared s) ≡ []
  pub clock : (s : S) → bus.clock (cleared s) ≡ bus.clock s
  pub read_byte : (s : S) (at : ℕ) → (bus.read s at).0 ≡ (bus.read (cleared s) at).0
  pub read_next : (s : S) (at : ℕ) → cleared (bus.read s at).1 ≡ cleared (bus.read (cleared s) at).1
  pub read_items : (s : S) (at : ℕ) → items (bus.read s at).1 ≡ items s ++ items (bus.read (cleared s) at).1
  pub write_next : (s : S) (at value : ℕ) → cleared (bus.write s at value) ≡ cleared (bus.write (cleared s) at value)
  pub write_items : (s : S) (at value : ℕ) → items (bus.write s at value) ≡ items s ++ items (bus.write (cleared s) at value)
  pub pass_next : (s : S) (cycles : ℕ) → cleared (bus.pass s cycles) ≡ cleared (bus.pass (cleared s) cycles)
  pub pass_items : (s : S) (cycles : ℕ) → items (bus.pass s cycles) ≡ items s ++ items (bus.pass (cleared s) cycles)

-- the first bus emitted these items and then what the second one did; else they are the same
pub record IsAhead {S I : Type 0} (cleared : S → S) (items : S → List I) (before : List I) (s t : S) : Type 0 where
  pub same : cleared s ≡ cleared t
  pub front : items s ≡ before ++ items t
