-- What is held while samples are pending, and what it comes to once they are made.
use Rattle.std.specs.Prelude.{◌≡◌, ◌<◌, ◌≤◌, ℕ, ◌+◌, ◌*◌, List, [], ◌++◌, length, slice_index_or, true, false, ◌||◌, ◌==◌, if◌then◌else◌, None, IfSome}
use Rattle.std.specs.List.{filter}
use Rattle.std.specs.FinSet as set
use Rattle.aram_core.specs.Pages.{Pages}
use Rattle.aram_core.specs.declared.window.Window.{Window}
use Rattle.num_fix.specs.declared.Frame.{Frame}
use Rattle.trace_form.specs.declared.record.Record.{Record}
use Rattle.ports_timers.specs.Io.{is_within}
use Rattle.chip_form.specs.declared.pages.ReachPages.{ReachPages}
use Rattle.chip_form.specs.Samples.{SamplesResult, samples, in_mask}
use Rattle.chip_form.specs.ChipMeaning.{ChipMeaning}
use Rattle.trace_form.specs.Capacities.{frame_capacity, record_capacity}
use Rattle.chip_form.specs.Limits.{max_samples_of_batch, max_samples_of_chip}
use Rattle.lag_bus.specs.Each.{Each}
use Rattle.lag_bus.specs.Merge.{merge}
use Rattle.lock_step.specs.SampleNumbers.{sample_number}
use Rattle.lag_bus.specs.Ready.{is_before_sample}
use Rattle.lag_bus.specs.Deferred.{Deferred}
use Rattle.lag_bus.specs.declared.reach_cache.ReachCache.{ReachCache}
use Rattle.lag_bus.specs.Book.{may_be_read}

pub record Held (S : Type 0) : Type 0 where
  -- the chip's state, the number of its next sample, and the batches and samples that it made in all
  pub state : S
  pub number : ℕ
  pub batches : ℕ
  pub total : ℕ
  pub memory : List ℕ
  -- the frames and records made, and the events that wait
  pub frames : List Frame
  pub records : List Record
  pub ring : List Record
  pub mask : ℕ
  pub pending : ℕ

-- the pending samples
abbrev pub pending_samples : {S : Type 0} → ChipMeaning S → Held S → SamplesResult S
pending_samples chip h = samples chip.one_sample h.pending h.number h.state h.memory

-- what there is once they are made
abbrev pub deferred_of : {S : Type 0} → ChipMeaning S → Held S → Deferred S
deferred_of chip h = record {
  chip = (pending_samples chip h).state;
  memory = (pending_samples chip h).memory;
  frames = h.frames ++ (pending_samples chip h).frames;
  records = h.records ++ merge (filter (in_mask h.mask) (pending_samples chip h).records) h.ring;
  mask = h.mask;
  due = h.number + h.pending;
  pending = h.pending;
  events = length h.ring;
  reach = chip.reach h.state h.memory;
  batches = h.batches;
  total = h.total;
  frames_used = length h.frames + h.pending;
  records_used = length h.records + length h.ring + 8 * h.pending;
}

-- what always holds of it
pub record IsHeld {S : Type 0} (chip : ChipMeaning S) (h : Held S) : Type 0 where
  pub is_valid : chip.is_valid h.state ≡ true
  pub pending : h.pending ≤ max_samples_of_batch
  pub number_fits : h.number + h.pending ≤ max_samples_of_chip
  -- an event came after the first of the pending samples, and before the next sample
  pub after_first : Each (λ event. h.number < sample_number event) h.ring
  pub before_next : Each (λ event. is_before_sample (h.number + h.pending) event ≡ true) h.ring
  pub none_waits : h.pending ≡ 0 → h.ring ≡ []
  pub made_before : Each (λ item. is_before_sample h.number item ≡ true) h.records
  pub frames_fit : length h.frames + h.pending ≤ frame_capacity
  pub records_fit : length h.records + length h.ring + 8 * h.pending ≤ record_capacity

-- where memory alone ends on a page: before the ports of page 0, or before the ROM
abbrev pub end_of_memory_alone : (page : ℕ) → ℕ
end_of_memory_alone page = if page == 0 then 0xF0 else 0xFFC0

-- A page of a kind is marked by where memory alone ends on it, or by an address before that. The mark 0 says nothing of its page.
abbrev pub AreMarks : (IsOfKind : (page : ℕ) → Type 0) → (marks : List ℕ) → Type 0
AreMarks IsOfKind marks = (page : ℕ) → 0 < slice_index_or marks page 0 → IsOfKind page × (slice_index_or marks page 0 ≤ end_of_memory_alone page)

-- What holds of all that was kept, whatever the chip's state is: a page that is marked as unwritten isn't one of the window's, and
-- where nothing of reads was kept there is no mark of an unread page.
pub record IsKept (pages : Window → Pages) (known : ReachCache) : Type 0 where
  pub unwritten : AreMarks (λ page. set.contains (pages known.window) page ≡ false) known.unwritten
  pub none : known.has_reads ≡ false → (known.entangled ≡ None) × AreMarks (λ page. ⊥) known.unread

-- what was asked of a reach beside the pages that samples write, and not dropped, is so
pub record AreReadsKnown (reach : ReachPages) (known : ReachCache) : Type 0 where
  pub entangled : IfSome known.entangled (λ is_entangled. is_entangled ≡ reach.entangled)
  -- samples to come don't read a page that is marked as unread, so that a write to it is nothing to them
  pub unread : AreMarks (λ page. (reach.entangled || set.contains reach.read_pages page) ≡ false) known.unread

-- What was asked of the reach over a memory, and not dropped, is so. Whatever is in memory, samples write within the window.
pub record IsKnown (pages : Window → Pages) (reach : List ℕ → ReachPages) (memory : List ℕ) (known : ReachCache) : Type 0 where
  pub kept : IsKept pages known
  pub window : (any : List ℕ) → (reach any).write_pages ≡ pages known.window
  pub reads : AreReadsKnown (reach memory) known

-- what was asked of the reach over a memory is answered, and what is kept of it is so
pub record IsAnswered {A : Type 0} (pages : Window → Pages) (reach : List ℕ → ReachPages) (memory : List ℕ) (kept : ReachCache)
    (question : ReachPages → A) (result : A) : Type 0 where
  pub answer : result ≡ question (reach memory)
  pub known : IsKnown pages reach memory kept

-- What is kept of the reach over a memory is so, and over any other memory too where samples may read the byte at an address: a write to
-- it may change the reach.
pub record IsKeptThroughWrite (pages : Window → Pages) (reach : List ℕ → ReachPages) (memory : List ℕ) (at : ℕ) (kept : ReachCache) : Type 0 where
  pub known : IsKnown pages reach memory kept
  pub any : may_be_read (reach memory) at ≡ true → (other : List ℕ) → IsKnown pages reach other kept

-- memory alone is at an address
abbrev pub IsMemoryAlone : (at : ℕ) → Type 0
IsMemoryAlone at = (is_within 0xF0 0xFF at ≡ false) × (at < 0xFFC0)
