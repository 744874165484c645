-- What a chip with deferred samples comes to, after each change of what is held.
use Rattle.std.proofs.Common.{◌≡◌, ◌≢◌, if◌then◌else◌, nat_le, ℕ, zero, suc, ◌+◌, ◌-◌, ◌*◌, ◌<◌, ◌≤◌, List, [], ◌∷◌, ◌++◌, length, Bool, true, false, not, ◌||◌, ◌==◌, inl, inr, refl, ap, subst, sym, ◌∙◌, arith, rules, append_assoc, length-append}
use Rattle.std.proofs.lemmas.Bool.{cases_Bool, or_parts, not-true}
use Rattle.std.proofs.lemmas.Bool.Decides.{nat_tests}
use Rattle.std.proofs.lemmas.List.{append-nil}
use Rattle.std.proofs.Math.Seq.{take-append_seam, drop-append_seam}
use Rattle.std.proofs.lemmas.List.Elements.{filter-append}
use Rattle.std.specs.List.{filter}
use Rattle.aram_core.specs.Memory.{byte_at, with_byte}
use Rattle.aram_core.specs.Pages.{Pages}
use Rattle.aram_core.specs.declared.window.Window.{Window}
use Rattle.trace_form.specs.declared.record.Record.{Record}
use Rattle.trace_form.specs.declared.record.Record.TheVariants.{Reg, Port, Voice}
use Rattle.chip_form.specs.Limits.{max_samples_of_chip}
use Rattle.chip_form.specs.Samples.{SampleResult, SamplesResult, samples, in_mask}
use Rattle.chip_form.proofs.OneMoreSample.{samples_none, samples_more}
use Rattle.chip_form.specs.ChipMeaning.{ChipMeaning}
use Rattle.chip_form.specs.ChipLaws.{IsLawfulChip}
use Rattle.lag_bus.specs.Each.{Each, IsVoiceWithin}
use Rattle.lag_bus.specs.Merge.{merge}
use Rattle.lock_step.specs.SampleNumbers.{sample_number}
use Rattle.lag_bus.specs.Ready.{is_before_sample, ready_frames, pending_frames, ready_records, pending_records, NoneIsReady}
use Rattle.lag_bus.specs.Book.{may_be_read, may_be_written}
use Rattle.lag_bus.specs.Deferred.{deferred_with_sample}
use Rattle.lag_bus.specs.Held.{Held, IsHeld, IsKnown, AreReadsKnown, pending_samples, deferred_of}
use Rattle.lag_bus.specs.declared.reach_cache.ReachCache.{ReachCache}
use Rattle.chip_form.specs.declared.pages.ReachPages.{ReachPages}
use Rattle.lag_bus.proofs.MergedRecords.{Each-append, Each-map, Each-filter, Each-merge, merge_voices, merge_event, merge_nothing, length-merge, number_before, later_before, event_after, voice_before, voice_after, voice_number, filter_all, filter_none}
use Rattle.chip_form.proofs.LawfulSamples.{frame_count_of_samples, is_valid-samples, voices_of_mask}
use Rattle.lag_bus.proofs.VoicesWithin.{voices_within, voices_within-samples}

-- the voices of a sample have its number
number_of_voice : (k : ℕ) (item : Record) → IsVoiceWithin k (k + 1) item → sample_number item ≡ k
number_of_voice k (Voice sample voice level out block keyed ended) w = omega arith
number_of_voice k (Reg sample addr value) w = absurd w
number_of_voice k (Port sample port value) w = absurd w

opposite : (k : ℕ) (b : Bool) (item : Record) → is_before_sample k item ≡ b → not (is_before_sample k item) ≡ not b
opposite k b item h = ap not h

-- what is held once the pending samples are made
abbrev pub held_after_settle : {S : Type 0} → ChipMeaning S → (batches total : ℕ) → Held S → Held S
held_after_settle chip batches total h = record {
  state = (pending_samples chip h).state;
  number = h.number + h.pending;
  batches = batches;
  total = total;
  memory = (pending_samples chip h).memory;
  frames = h.frames ++ (pending_samples chip h).frames;
  records = h.records ++ merge (filter (in_mask h.mask) (pending_samples chip h).records) h.ring;
  ring = [];
  mask = h.mask;
  pending = 0;
}

-- what is held of a chip that has made no sample
pub held_new : {S : Type 0} (chip : ChipMeaning S) (h : Held S) → chip.is_valid h.state ≡ true → h.number ≡ 0 → h.pending ≡ 0 → h.frames ≡ [] → h.records ≡ [] → h.ring ≡ []
    → IsHeld chip h
held_new chip h valid number pending frames records ring =
    let no_frame : length h.frames ≡ 0 = rw frames refl in
    let no_record : length h.records ≡ 0 = rw records refl in
    let no_event : length h.ring ≡ 0 = rw ring refl in
    record {
      is_valid = valid;
      pending = omega (arith, pending);
      number_fits = omega (arith, number, pending);
      after_first = rw ring tt;
      before_next = rw ring tt;
      none_waits = λ _. ring;
      made_before = rw records tt;
      frames_fit = omega (arith, no_frame, pending);
      records_fit = omega (arith, no_record, no_event, pending);
    }

module _ {S : Type 0} {chip : ChipMeaning S} (laws : IsLawfulChip chip) where
  byte_stays : (n k : ℕ) (s : S) (memory : List ℕ) (at : ℕ) → n ≤ 64 → chip.is_valid s ≡ true
      → (n == 0 || not (may_be_written (chip.reach s memory) at)) ≡ true
      → byte_at (samples chip.one_sample n k s memory).memory at ≡ byte_at memory at
  byte_stays zero k s memory at few valid free = rw samples_none refl
  byte_stays (suc n) k s memory at few valid free =
      let some : (suc n == 0) ≡ false = search rules in
      laws.writes_inside (suc n) k s memory at few valid (not-true _ (rw some at free))

  register_stays : (n k : ℕ) (s : S) (memory : List ℕ) (address : ℕ) → n ≤ 64 → chip.is_valid s ≡ true
      → (n == 0 || not (chip.is_result address)) ≡ true
      → chip.register_read (samples chip.one_sample n k s memory).state address ≡ chip.register_read s address
  register_stays zero k s memory address few valid free = rw samples_none refl
  register_stays (suc n) k s memory address few valid free =
      let some : (suc n == 0) ≡ false = search rules in
      let small : nat_le (suc n) 64 ≡ true = grind (arith, nat_tests) in
      laws.registers_stay (suc n) k s memory address (rw (small, valid) refl) (not-true _ (rw some at free))

  untouched : (s : S) (memory : List ℕ) (at value : ℕ) → chip.is_valid s ≡ true → may_be_read (chip.reach s memory) at ≡ false
      → chip.reach s (with_byte memory at value) ≡ chip.reach s memory
  untouched s memory at value valid free =
      let apart : (chip.reach s memory).entangled ≡ false = (or_parts _ _ free).0 in
      laws.reach_stays s memory at value (rw (valid, apart) refl) (or_parts _ _ free).1

  put_apart : (n k : ℕ) (s : S) (memory : List ℕ) (at value : ℕ) → n ≤ 64 → chip.is_valid s ≡ true
      → (n == 0 || not (may_be_read (chip.reach s memory) at)) ≡ true
      → samples chip.one_sample n k s (with_byte memory at value) ≡ record (samples chip.one_sample n k s memory) { memory = with_byte (samples chip.one_sample n k s memory).memory at value }
  put_apart zero k s memory at value few valid free = simp samples_none refl
  put_apart (suc n) k s memory at value few valid free =
      let some : (suc n == 0) ≡ false = search rules in
      let apart : may_be_read (chip.reach s memory) at ≡ false = not-true _ (rw some at free) in
      laws.reads_inside (suc n) k s memory at value few valid (or_parts _ _ apart).0 (or_parts _ _ apart).1

  module _ {h : Held S} (is : IsHeld chip h) where
    -- a byte and a register that the pending samples don't change
    pub late_get : (at : ℕ) → (h.pending == 0 || not (may_be_written (chip.reach h.state h.memory) at)) ≡ true
        → byte_at h.memory at ≡ byte_at (deferred_of chip h).memory at
    late_get at free = sym (byte_stays h.pending h.number h.state h.memory at is.pending is.is_valid free)

    pub late_register : (address : ℕ) → (h.pending == 0 || not (chip.is_result address)) ≡ true
        → chip.register_read h.state address ≡ chip.register_read (deferred_of chip h).chip address
    late_register address free = sym (register_stays h.pending h.number h.state h.memory address is.pending is.is_valid free)

    -- a byte that they don't read
    pub late_put : (at value : ℕ) → (h.pending == 0 || not (may_be_read (chip.reach h.state h.memory) at)) ≡ true
        → deferred_of chip (record h { memory = with_byte h.memory at value }) ≡
        record (deferred_of chip h) { memory = with_byte (deferred_of chip h).memory at value; reach = chip.reach h.state (with_byte h.memory at value) }
    late_put at value free = rw (put_apart h.pending h.number h.state h.memory at value is.pending is.is_valid free) refl

    pub late_put_reach : (memory : List ℕ) → h.pending ≡ 0
        → chip.reach h.state memory ≡ chip.reach (deferred_of chip (record h { memory = memory })).chip (deferred_of chip (record h { memory = memory })).memory
    late_put_reach memory none = rw (none, samples_none) refl

    pub held_put : (memory : List ℕ) → IsHeld chip (record h { memory = memory })
    held_put memory =
        record {
          is_valid = is.is_valid;
          pending = is.pending;
          number_fits = is.number_fits;
          after_first = is.after_first;
          before_next = is.before_next;
          none_waits = is.none_waits;
          made_before = is.made_before;
          frames_fit = is.frames_fit;
          records_fit = is.records_fit;
        }

    -- What was asked of the reach stays so over a byte that is put where they don't read, and so does what shows nothing.
    pub known_put : (pages : Window → Pages) (at value : ℕ) (known : ReachCache) → IsKnown pages (chip.reach h.state) h.memory known
        → (may_be_read (chip.reach h.state h.memory) at ≡ true → (memory : List ℕ) → IsKnown pages (chip.reach h.state) memory known)
        → IsKnown pages (chip.reach h.state) (with_byte h.memory at value) known
    known_put pages at value known is_known any = elim (cases_Bool (may_be_read (chip.reach h.state h.memory) at)) [
      | inl read ↦ any read (with_byte h.memory at value)
      | inr unread ↦ record {
        kept = is_known.kept;
        window = is_known.window;
        reads = subst (λ (reach : ReachPages). AreReadsKnown reach known) (sym (untouched h.state h.memory at value is.is_valid unread)) is_known.reads;
      }
    ]

    -- one sample more that is pending
    pub late_queue : deferred_of chip (record h { pending = h.pending + 1 }) ≡
        deferred_with_sample chip (deferred_of chip h)
    late_queue =
        let before : SamplesResult S = pending_samples chip h in
        let made : SampleResult S = chip.one_sample (h.number + h.pending) before.state before.memory in
        let valid = is_valid-samples chip laws h.pending h.number h.state h.memory is.is_valid in
        let numbers : Each (λ v. sample_number v ≡ h.number + h.pending) (filter (in_mask h.mask) made.records) =
        Each-filter (in_mask h.mask) (λ v. sample_number v ≡ h.number + h.pending) made.records
        (Each-map (IsVoiceWithin (h.number + h.pending) (h.number + h.pending + 1)) (λ v. sample_number v ≡ h.number + h.pending) (number_of_voice (h.number + h.pending)) made.records
        (voices_within (h.number + h.pending) 0 made.records (laws.gives_voice_records (h.number + h.pending) before.state before.memory valid))) in
        let upto : Each (λ e. sample_number e ≤ h.number + h.pending) h.ring =
        Each-map (λ e. is_before_sample (h.number + h.pending) e ≡ true) (λ e. sample_number e ≤ h.number + h.pending) (number_before (h.number + h.pending)) h.ring is.before_next in
        let merged : merge (filter (in_mask h.mask) (before.records ++ made.records)) h.ring ≡ merge (filter (in_mask h.mask) before.records) h.ring ++ filter (in_mask h.mask) made.records =
        rw filter-append (merge_voices (h.number + h.pending) (filter (in_mask h.mask) before.records) (filter (in_mask h.mask) made.records) h.ring upto numbers) in
        let used : length h.frames + (h.pending + 1) ≡ length h.frames + h.pending + 1 = omega arith in
        let records : length h.records + length h.ring + 8 * (h.pending + 1) ≡ length h.records + length h.ring + 8 * h.pending + 8 = omega arith in
        let number : h.number + (h.pending + 1) ≡ h.number + h.pending + 1 = omega arith in
        rw (samples_more, merged, used, records, number, append_assoc, append_assoc) refl

    -- a register written while none is pending
    pub late_reg_write : (address byte : ℕ) → h.pending ≡ 0
        → deferred_of chip (record h { state = chip.register_write h.state address byte }) ≡
        record (deferred_of chip h) { chip = chip.register_write (deferred_of chip h).chip address byte; reach = chip.reach (chip.register_write (deferred_of chip h).chip address byte) (deferred_of chip h).memory }
    late_reg_write address byte none = rw none (simp samples_none refl)

    pub held_reg_write : (address byte : ℕ) → address < 0x100 → byte < 0x100 → IsHeld chip (record h { state = chip.register_write h.state address byte })
    held_reg_write address byte small small' =
        record {
          is_valid = laws.write_keeps_valid h.state address byte small small' is.is_valid;
          pending = is.pending;
          number_fits = is.number_fits;
          after_first = is.after_first;
          before_next = is.before_next;
          none_waits = is.none_waits;
          made_before = is.made_before;
          frames_fit = is.frames_fit;
          records_fit = is.records_fit;
        }

    -- the voices that are pending, of the mask
    pending_voices : Each (IsVoiceWithin h.number (h.number + h.pending)) (filter (in_mask h.mask) (pending_samples chip h).records)
    pending_voices =
        Each-filter (in_mask h.mask) (IsVoiceWithin h.number (h.number + h.pending)) (pending_samples chip h).records (voices_within-samples chip laws h.pending h.number h.state h.memory is.is_valid)

    -- an event more, and a record more while none is pending
    pub late_event : (event : Record) → h.pending ≢ 0 → sample_number event ≡ h.number + h.pending
        → deferred_of chip (record h { ring = h.ring ++ event ∷ [] }) ≡
        record (deferred_of chip h) {
          records = (deferred_of chip h).records ++ event ∷ [];
          events = if h.pending == 0 then (deferred_of chip h).events else (deferred_of chip h).events + 1;
          records_used = (deferred_of chip h).records_used + 1;
        }
    late_event event some now =
        let pends : (h.pending == 0) ≡ false = search rules in
        let voices = filter (in_mask h.mask) (pending_samples chip h).records in
        let below : Each (λ v. sample_number v < sample_number event) voices =
        rw now (Each-map (IsVoiceWithin h.number (h.number + h.pending)) (λ v. sample_number v < h.number + h.pending) (voice_number h.number (h.number + h.pending)) voices pending_voices) in
        let used : length h.records + (length h.ring + 1) + 8 * h.pending ≡ length h.records + length h.ring + 8 * h.pending + 1 = omega arith in
        rw (pends, merge_event voices h.ring event below, length-append h.ring (event ∷ []), used, append_assoc) refl

    pub late_emit : (item : Record) → h.pending ≡ 0
        → deferred_of chip (record h { records = h.records ++ item ∷ [] }) ≡
        record (deferred_of chip h) {
          records = (deferred_of chip h).records ++ item ∷ [];
          events = if h.pending == 0 then (deferred_of chip h).events else (deferred_of chip h).events + 1;
          records_used = (deferred_of chip h).records_used + 1;
        }
    late_emit item none =
        let empty : h.ring ≡ [] = is.none_waits none in
        let used : length h.records + 1 + 0 + 8 * 0 ≡ length h.records + 0 + 8 * 0 + 1 = omega arith in
        rw (none, empty) (simp (samples_none, merge_nothing, append-nil, length-append, used) refl)

    -- with none pending the reach is that of what there is
    pub late_reach : h.pending ≡ 0 → (deferred_of chip h).reach ≡ chip.reach (deferred_of chip h).chip (deferred_of chip h).memory
    late_reach none = rw (none, samples_none) refl

    frames_count : length (h.frames ++ (pending_samples chip h).frames) ≡ length h.frames + h.pending
    frames_count = rw (length-append, frame_count_of_samples) refl

    pub voices_fit : length (filter (in_mask h.mask) (pending_samples chip h).records) ≤ 8 * h.pending
    voices_fit = voices_of_mask chip laws h.pending h.mask h.number h.state h.memory is.is_valid

    pub records_within : length (deferred_of chip h).records ≤ (deferred_of chip h).records_used
    records_within =
        omega (arith, length-append h.records (merge (filter (in_mask h.mask) (pending_samples chip h).records) h.ring), length-merge (filter (in_mask h.mask) (pending_samples chip h).records) h.ring, voices_fit)

    -- all pending samples made
    pub held_settled : (batches total : ℕ) → IsHeld chip (held_after_settle chip batches total h)
    held_settled batches total =
        let voices = filter (in_mask h.mask) (pending_samples chip h).records in
        let first = Each-map (λ r. is_before_sample h.number r ≡ true) (λ r. is_before_sample (h.number + h.pending) r ≡ true) (later_before h.number (h.number + h.pending) (omega arith)) h.records is.made_before in
        let second = Each-map (IsVoiceWithin h.number (h.number + h.pending)) (λ r. is_before_sample (h.number + h.pending) r ≡ true) (voice_before h.number (h.number + h.pending)) voices pending_voices in
        let third = Each-append (λ r. is_before_sample (h.number + h.pending) r ≡ true) h.records (merge voices h.ring) first (Each-merge (λ r. is_before_sample (h.number + h.pending) r ≡ true) voices h.ring second is.before_next) in
        let same : h.number + h.pending + 0 ≡ h.number + h.pending = omega arith in
        record {
          is_valid = is_valid-samples chip laws h.pending h.number h.state h.memory is.is_valid;
          pending = omega arith;
          number_fits = rw same is.number_fits;
          after_first = tt;
          before_next = tt;
          none_waits = λ _. refl;
          made_before = third;
          frames_fit = omega (arith, frames_count, is.frames_fit);
          records_fit = omega (arith, records_within, is.records_fit);
        }

    pub late_settled : (batches total : ℕ)
        → deferred_of chip (held_after_settle chip batches total h) ≡
        record (deferred_of chip h) {
          pending = 0;
          events = 0;
          reach = chip.reach (deferred_of chip h).chip (deferred_of chip h).memory;
          batches = batches;
          total = total;
          records_used = length (deferred_of chip h).records;
        }
    late_settled batches total =
        let due : h.number + h.pending + 0 ≡ h.number + h.pending = omega arith in
        let frames : length (h.frames ++ (pending_samples chip h).frames) + 0 ≡ length h.frames + h.pending = omega (arith, frames_count) in
        let records : length (deferred_of chip h).records + 0 + 8 * 0 ≡ length (deferred_of chip h).records = omega arith in
        rw (samples_none, due, frames) (simp (merge_nothing, append-nil, records) refl)

    -- nothing that is pending stands before the first pending sample
    pending_after : Each (λ r. is_before_sample h.number r ≡ false) (merge (filter (in_mask h.mask) (pending_samples chip h).records) h.ring)
    pending_after =
        let voices = filter (in_mask h.mask) (pending_samples chip h).records in
        Each-merge (λ r. is_before_sample h.number r ≡ false) voices h.ring
        (Each-map (IsVoiceWithin h.number (h.number + h.pending)) (λ r. is_before_sample h.number r ≡ false) (voice_after h.number (h.number + h.pending)) voices pending_voices)
        (Each-map (λ e. h.number < sample_number e) (λ r. is_before_sample h.number r ≡ false) (event_after h.number) h.ring is.after_first)

    drained_records : filter (is_before_sample h.number) (deferred_of chip h).records ≡ h.records
    drained_records =
        let after = merge (filter (in_mask h.mask) (pending_samples chip h).records) h.ring in
        rw (filter-append (is_before_sample h.number) h.records after, filter_all (is_before_sample h.number) h.records is.made_before, filter_none (is_before_sample h.number) after pending_after) (append-nil h.records)

    kept_records : filter (λ r. not (is_before_sample h.number r)) (deferred_of chip h).records ≡ merge (filter (in_mask h.mask) (pending_samples chip h).records) h.ring
    kept_records =
        let after = merge (filter (in_mask h.mask) (pending_samples chip h).records) h.ring in
        let is_late : Record → Bool = λ r. not (is_before_sample h.number r) in
        let none = filter_none is_late h.records (Each-map (λ r. is_before_sample h.number r ≡ true) (λ r. is_late r ≡ false) (opposite h.number true) h.records is.made_before) in
        let all = filter_all is_late after (Each-map (λ r. is_before_sample h.number r ≡ false) (λ r. is_late r ≡ true) (opposite h.number false) after pending_after) in
        rw (filter-append is_late h.records after, none, all) refl

    drained_frames : ready_frames h.pending (deferred_of chip h).frames ≡ h.frames
    drained_frames =
        let count : length (h.frames ++ (pending_samples chip h).frames) - h.pending ≡ length h.frames = omega (arith, frames_count) in
        rw count (take-append_seam h.frames (pending_samples chip h).frames)

    kept_frames : pending_frames h.pending (deferred_of chip h).frames ≡ (pending_samples chip h).frames
    kept_frames =
        let count : length (h.frames ++ (pending_samples chip h).frames) - h.pending ≡ length h.frames = omega (arith, frames_count) in
        rw count (drop-append_seam h.frames (pending_samples chip h).frames)

    -- what a drain hands over and leaves
    pub late_ready_frames : h.frames ≡ ready_frames h.pending (deferred_of chip h).frames
    late_ready_frames = sym drained_frames

    pub late_ready_records : h.records ≡ ready_records (h.number + h.pending - h.pending) (deferred_of chip h).records
    late_ready_records =
        let first : h.number + h.pending - h.pending ≡ h.number = omega arith in
        rw first (sym drained_records)

    pub none_ready : h.frames ≡ [] → h.records ≡ [] → NoneIsReady h.pending (h.number + h.pending - h.pending) (deferred_of chip h).frames (deferred_of chip h).records
    none_ready frames records = record { no_frame = sym late_ready_frames ∙ frames; no_record = sym late_ready_records ∙ records }

    pub ready_frames_none : NoneIsReady h.pending (h.number + h.pending - h.pending) (deferred_of chip h).frames (deferred_of chip h).records → h.frames ≡ []
    ready_frames_none none = late_ready_frames ∙ none.no_frame

    pub ready_records_none : NoneIsReady h.pending (h.number + h.pending - h.pending) (deferred_of chip h).frames (deferred_of chip h).records → h.records ≡ []
    ready_records_none none = late_ready_records ∙ none.no_record

    pub late_drained : deferred_of chip (record h { frames = []; records = [] }) ≡
        record (deferred_of chip h) {
          frames = pending_frames h.pending (deferred_of chip h).frames;
          records = pending_records (h.number + h.pending - h.pending) (deferred_of chip h).records;
          frames_used = h.pending;
          records_used = length h.ring + 8 * h.pending;
        }
    late_drained =
        let first : h.number + h.pending - h.pending ≡ h.number = omega arith in
        let one : 0 + h.pending ≡ h.pending = omega arith in
        let two : 0 + length h.ring ≡ length h.ring = omega arith in
        rw (first, kept_records, kept_frames, one, two) refl

    pub late_none_waits : h.pending ≡ 0 → merge (filter (in_mask h.mask) (pending_samples chip h).records) h.ring ≡ []
    late_none_waits none = rw (none, samples_none, is.none_waits none) merge_nothing

    -- what is saved, and what a load leaves: the lists are empty, and so is the ring
    pub late_chip : h.pending ≡ 0 → (deferred_of chip h).chip ≡ h.state
    late_chip none = rw (none, samples_none) refl

    pub late_due : h.pending ≡ 0 → (deferred_of chip h).due ≡ h.number
    late_due none = rw none (omega arith)

    pub late_memory : h.pending ≡ 0 → (deferred_of chip h).memory ≡ h.memory
    late_memory none = rw (none, samples_none) refl

    held_frames : h.pending ≡ 0 → (deferred_of chip h).frames ≡ [] → h.frames ≡ []
    held_frames none empty = rw (none, samples_none, append-nil) at empty

    held_records : h.pending ≡ 0 → (deferred_of chip h).records ≡ [] → h.records ≡ []
    held_records none empty = rw (none, samples_none, is.none_waits none, merge_nothing, append-nil) at empty

    pub held_loaded : (state : S) (number : ℕ) (memory : List ℕ) → h.pending ≡ 0 → (deferred_of chip h).frames ≡ [] → (deferred_of chip h).records ≡ []
        → chip.is_valid state ≡ true → number ≤ max_samples_of_chip
        → IsHeld chip (record h { state = state; number = number; memory = memory })
    held_loaded state number memory none frames records valid few =
        record {
          is_valid = valid;
          pending = is.pending;
          number_fits = rw none (omega arith);
          after_first = rw (is.none_waits none) tt;
          before_next = rw (is.none_waits none) tt;
          none_waits = is.none_waits;
          made_before = rw (held_records none records) tt;
          frames_fit = is.frames_fit;
          records_fit = is.records_fit;
        }

    pub late_loaded : (load : S → S) (number : ℕ) (memory : List ℕ) → h.pending ≡ 0 → (deferred_of chip h).frames ≡ [] → (deferred_of chip h).records ≡ []
        → deferred_of chip (record h { state = load h.state; number = number; memory = memory }) ≡
        record (deferred_of chip h) {
          chip = load (deferred_of chip h).chip;
          memory = memory;
          due = number;
          events = 0;
          reach = chip.reach (load (deferred_of chip h).chip) memory;
          frames_used = 0;
          records_used = 0;
        }
    late_loaded load number memory none frames records =
        let due : number + 0 ≡ number = omega arith in
        rw (none, is.none_waits none, held_frames none frames, held_records none records) (simp (samples_none, merge_nothing, due) refl)
