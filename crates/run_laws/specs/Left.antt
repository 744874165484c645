-- What calls leave: over the list of calls before them and that after them, each with the newest call first.
use Rattle.std.specs.Prelude.{◌≡◌, ◌≢◌, ◌⊎◌, ℕ, Bool, List, [], ◌++◌}
use Rattle.snd_host.specs.Calls.{Call}
use Rattle.snd_host.specs.Host.{Output, next_count, Rose, IsPrefix}
use Rattle.command_runner.specs.Answer.{Answer, outputs_of, report_of}
use Rattle.command_runner.specs.Delivery.{IsBegun, EndedAreWhole, AreEndedInOrder, all_ended}
use Rattle.snd_host.specs.History.{given_of, ended_of, in_faults, note_faults, out_faults}

-- The report grew by these bytes, and these outputs were created, each with a flag that it was ended.
pub record Leaves (reported : List ℕ) (outputs : List Output) (flags : List Bool) (old new : List Call) : Type 0 where
  pub report : (given_of new).report ≡ (given_of old).report ++ reported
  pub created : (given_of new).created ≡ (given_of old).created ++ outputs
  pub ended : ended_of new ≡ ended_of old ++ flags

-- No output was created, and the report didn't grow.
abbrev pub LeavesNothing : (old new : List Call) → Type 0
LeavesNothing old new = Leaves [] [] [] old new

-- The outputs of the answer were created, in order, with all their bytes and ended, and the report grew by its report.
abbrev pub LeavesAll : {C : Type 0} → Answer C → (old new : List Call) → Type 0
LeavesAll a old new = Leaves (report_of a) (outputs_of a) (all_ended (outputs_of a)) old new

-- The names created are the first names of the answer, each output holds a prefix of its bytes, and the report grew by a prefix of its report.
pub record LeavesPart {C : Type 0} (a : Answer C) (old new : List Call) : Type 0 where
  pub report : List ℕ
  pub outputs : List Output
  pub flags : List Bool
  pub leaves : Leaves report outputs flags old new
  pub reported : IsPrefix report (report_of a)
  pub begun : IsBegun outputs (outputs_of a)
  -- An output that was ended has all its bytes, and those before it were ended too.
  pub ended_whole : EndedAreWhole outputs flags (outputs_of a)
  pub in_order : AreEndedInOrder flags

-- Where the report grew, the outputs of the answer were created before, in order, with all their bytes, and ended.
abbrev pub ReportsLast : {C : Type 0} → Answer C → (old new : List Call) → Type 0
ReportsLast a old new = (given_of new).report ≢ (given_of old).report →
    ((given_of new).created ≡ (given_of old).created ++ outputs_of a) × (ended_of new ≡ ended_of old ++ all_ended (outputs_of a))

-- The complaint grew by a prefix of this line, and by all of it where the count of notes didn't rise; at most one write to it failed.
pub record Complains (line : List ℕ) (old new : List Call) : Type 0 where
  pub complaint : List ℕ
  pub given : (given_of new).complaint ≡ (given_of old).complaint ++ complaint
  pub part : IsPrefix complaint line
  pub all : (Rose (note_faults old) (note_faults new) → ⊥) → complaint ≡ line
  pub once : (note_faults new ≡ note_faults old) ⊎ (note_faults new ≡ next_count (note_faults old))

-- No count of faults rose.
pub record NoneRose (old new : List Call) : Type 0 where
  pub inputs : Rose (in_faults old) (in_faults new) → ⊥
  pub notes : Rose (note_faults old) (note_faults new) → ⊥
  pub outputs : Rose (out_faults old) (out_faults new) → ⊥
