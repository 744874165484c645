-- What is emitted before the first pending sample, and what is not.
use Rattle.std.specs.Prelude.{◌≡◌, ℕ, ◌-◌, List, [], length, take, drop, Bool, not, nat_le, nat_lt}
use Rattle.std.specs.List.{filter}
use Rattle.num_fix.specs.declared.Frame.{Frame}
use Rattle.trace_form.specs.declared.record.Record.{Record}
use Rattle.trace_form.specs.declared.record.Record.TheVariants.{Reg, Port, Voice}

-- Whether a record stands before the first item of the sample of number k. A write has the number of the samples made before
-- it, and so stands before the items of the sample of that number.
abbrev pub is_before_sample : (k : ℕ) → Record → Bool
is_before_sample k (Reg sample addr value) = nat_le sample k
is_before_sample k (Port sample port value) = nat_le sample k
is_before_sample k (Voice sample voice level out block keyed ended) = nat_lt sample k

-- the frames of the samples before those pending, and the frames of these
abbrev pub ready_frames : (pending : ℕ) → List Frame → List Frame
ready_frames pending frames = take (length frames - pending) frames

abbrev pub pending_frames : (pending : ℕ) → List Frame → List Frame
pending_frames pending frames = drop (length frames - pending) frames

-- the records before the first item of the first pending sample, which is number `first`, and those after it
abbrev pub ready_records : (first : ℕ) → List Record → List Record
ready_records first records = filter (is_before_sample first) records

abbrev pub pending_records : (first : ℕ) → List Record → List Record
pending_records first records = filter (λ item. not (is_before_sample first item)) records

-- all that stands before the first pending sample was handed over
pub record NoneIsReady (pending first : ℕ) (frames : List Frame) (records : List Record) : Type 0 where
  pub no_frame : ready_frames pending frames ≡ []
  pub no_record : ready_records first records ≡ []
