-- A server that begins anew over another chip at its opening, and what it has of the opening.
use Rattle.std.proofs.Common.{◌≡◌, ◌∙◌, ℕ, ◌+◌, ◌<◌, ◌≤◌, true, false, not, nat_eq, List, [], ◌∷◌, ◌++◌, length, map, take, get_or, refl, sym, ap, arith, Some}
use Rattle.std.proofs.Math.Seq.{take-append_seam}
use Rattle.std.proofs.lemmas.List.Sums.{sum_by-cons}
use Rattle.std.specs.List.{slice_get}
use Rattle.chip_form.specs.ChipMeaning.{ChipMeaning}
use Rattle.chip_form.specs.ChipSaving.{ChipSaving}
use Rattle.chip_form.specs.SavingLaws.{IsLawfulSaving}
use Rattle.lock_step.specs.Machine.{Machine}
use Rattle.render_core.specs.declared.saved.PlayState.{PlayState}
use Rattle.render_core.specs.MachineRun.{Whole}
use Rattle.render_core.specs.RenderState.{RenderState, is_at_length}
use Rattle.render_core.specs.Saved.{saved_whole, CanBePlayed, loaded_render, with_saved_chip}
use Rattle.render_core.specs.Whole.{with_chip}
use Rattle.page_pool.specs.declared.slot.Slot.{Slot}
use Rattle.page_pool.proofs.Links.{one_if}
use Rattle.cut_form.specs.Checkpoints.{Checkpoint, pages_of, by_places, own_slots, slots_used, shared_with_newest, with_checkpoint}
use Rattle.cut_form.specs.CutBook.{CutBook, opened_book}
use Rattle.cut_form.specs.GrowingFrames.{AreOfRun}
use Rattle.cut_server.specs.declared.table.LiveCheckpoint.{LiveCheckpoint}
use Rattle.cut_server.specs.Machines.{Machines, AreLawful}
use Rattle.cut_server.specs.Table.{TableState, Saved, saved_checkpoints, saved_of, live_checkpoints, pages_in, checkpoints_after, IsSavedFirst, AreKeptIn}
use Rattle.cut_server.specs.Server.{lock_step_machines, standing_of}
use Rattle.cut_server.specs.ServerState.{Standing, first_machine, frames_after, pages_after, book_of}
use Rattle.cut_server.specs.IsServed.{AreOnTheRun, BeginAtOpening, IsServed}
use Rattle.cut_server.specs.Renders.{IsServing}
use Rattle.cut_server.proofs.Adding.{needed_first}
use Rattle.cut_server.proofs.OnTheRun.{start_at_0, start_opened, served_opened, on_the_run_of}
use Rattle.cut_server.proofs.Renders.{machines_lawful, opening_of, loaded_whole_is, loaded_samples, loaded_handed_over}

-- the frames of a run from a machine that has made none
pub run_from : {W V : Type 0} (machines : Machines W V) (start : W) → AreLawful machines → machines.sample (machines.state start) ≡ 0 → AreOfRun (frames_after machines start)
run_from machines start laws none =
    let counted : (n : ℕ) → length (machines.run_frames n start) ≡ n = λ n. omega (arith, none, laws.counts n start (omega (arith, none))) in
    record {
      count = counted;
      grows = λ k n later.
          ap (take k) (laws.emits k n start later)
          ∙ ap (λ (j : ℕ). take j (machines.run_frames k start ++ machines.run_frames n (machines.after_run k start))) (sym (counted k))
          ∙ take-append_seam (machines.run_frames k start) (machines.run_frames n (machines.after_run k start));
    }

-- what was saved first
pub first_read : {S : Type 0} (pool : List Slot) (checkpoints : List (LiveCheckpoint S)) (checkpoint : LiveCheckpoint S) → 0 < length (map (λ c. c.sample) checkpoints) → checkpoint ≡ get_or checkpoints 0 checkpoint
    → IsSavedFirst (saved_checkpoints pool checkpoints) checkpoint.state
first_read pool [] checkpoint some is = absurd (omega (arith, some))
first_read pool (x ∷ xs) checkpoint some is = ap (λ c. c.state) is

pub begun_some : {S : Type 0} (pool : List Slot) (checkpoints : List (LiveCheckpoint S)) → BeginAtOpening (saved_checkpoints pool checkpoints) → 0 < length (map (λ c. c.sample) checkpoints)
begun_some pool [] begin = absurd begin
begun_some pool (x ∷ xs) begin = omega arith

-- the pages of the first have slots of their own
own_none : (pages : List ℕ) → own_slots (by_places nat_eq pages []) ≡ length pages
own_none [] = refl
own_none (x ∷ xs) = sum_by-cons (λ b. one_if (not b)) false (by_places nat_eq xs []) ∙ omega (arith, own_none xs)

pub pages_enough : {S : Type 0} (pool : List Slot) (checkpoints : List (LiveCheckpoint S)) → AreKeptIn pool checkpoints → 0 < length (map (λ c. c.sample) checkpoints) → 256 ≤ length pool
pages_enough pool [] kept some = absurd (omega (arith, some))
pages_enough pool (x ∷ xs) kept some =
    let rest = checkpoints_after pool x.pages xs in
    let first : Checkpoint = record { sample = x.sample; pages = pages_in pool x.pages; shared = by_places nat_eq x.pages [] } in
    let used : slots_used (first ∷ rest) ≡ own_slots first.shared + slots_used rest = sum_by-cons (λ (c : Checkpoint). own_slots c.shared) first rest in
    omega (arith, kept.used, used, own_none x.pages, kept.whole.0)

-- a table with none
pub live_none : (live : List Checkpoint) → length live ≡ 0 → live ≡ []
live_none [] none = refl
live_none (x ∷ xs) none = absurd (omega (arith, none))

pub needed_all : (live : List Checkpoint) (memory : List ℕ) → length live ≡ 0 → own_slots (shared_with_newest live (pages_of memory)) ≡ 256
needed_all [] memory none = needed_first {S = ℕ} [] [] memory refl
needed_all (x ∷ xs) memory none = absurd (omega (arith, none))

pub used_none : (live : List Checkpoint) → length live ≡ 0 → slots_used live ≡ 0
used_none [] none = refl
used_none (x ∷ xs) none = absurd (omega (arith, none))

pub saved_none : {S : Type 0} (pool : List Slot) (checkpoints : List (LiveCheckpoint S)) → length (checkpoints_after pool [] checkpoints) ≡ 0 → saved_checkpoints pool checkpoints ≡ []
saved_none pool [] none = refl
saved_none pool (x ∷ xs) none = absurd (omega (arith, none))

pub saved_alone : {S : Type 0} (pool : List Slot) (checkpoints : List (LiveCheckpoint S)) (saved : List (Saved S)) (s : Saved S) → length (checkpoints_after pool [] checkpoints) ≡ 0 → saved ≡ saved_checkpoints pool checkpoints ++ s ∷ []
    → saved ≡ s ∷ []
saved_alone {S = S} pool checkpoints saved s none is = is ∙ ap (λ (l : List (Saved S)). l ++ s ∷ []) (saved_none pool checkpoints none)

-- the first checkpoint, over any whole machines
module _ {W V : Type 0} {machines : Machines W V} (lawful : AreLawful machines) where
  after_none : (w : W) → machines.sample (machines.state w) ≡ 0 → machines.after_run 0 w ≡ w
  after_none w none = ap (λ n. machines.after_run n w) (sym none) ∙ lawful.stays w

  first_of : (w start : W) (l : List (Saved V)) (state : V) → AreOnTheRun machines w start l → BeginAtOpening l → machines.sample (machines.state start) ≡ 0 → IsSavedFirst l state → state ≡ machines.state start
  first_of w start [] state on begin none is = absurd begin
  first_of w start (x ∷ xs) state on begin none is =
      is ∙ on.0.state ∙ ap (λ n. machines.state (machines.after_run n start)) begin ∙ ap machines.state (after_none start none)

  -- the opening has made no sample, and this is saved of it
  pub none_made : {standing : Standing W} {table : TableState V} {at : ℕ} → IsServed machines standing table at → machines.sample (machines.state (first_machine machines standing.whole (saved_of table))) ≡ 0
  none_made {standing} {table} served = start_at_0 lawful standing.whole (first_machine machines standing.whole (saved_of table)) (saved_of table) served.saved served.begin

  pub first_is : {standing : Standing W} {table : TableState V} {at : ℕ} → IsServed machines standing table at → (state : V) → IsSavedFirst (saved_of table) state
      → state ≡ machines.state (first_machine machines standing.whole (saved_of table))
  first_is {standing} {table} served state is =
      first_of standing.whole (first_machine machines standing.whole (saved_of table)) (saved_of table) state served.saved served.begin (none_made served) is

first_at : {W V : Type 0} (machines : Machines W V) (w : W) (l : List (Saved V)) (s : Saved V) → slice_get l 0 ≡ Some s → first_machine machines w l ≡ machines.loaded w s.state s.memory
unfolding first_machine
first_at machines w [] s is = cc
first_at {V = V} machines w (x ∷ xs) s is = let same : x ≡ s = cc in ap (λ (s : Saved V). machines.loaded w s.state s.memory) same

begun_at : {V : Type 0} (l : List (Saved V)) (s : Saved V) → slice_get l 0 ≡ Some s → BeginAtOpening l → s.sample ≡ 0
begun_at [] s is begin = cc
begun_at {V = V} (x ∷ xs) s is begin = let same : x ≡ s = cc in ap (λ (s : Saved V). s.sample) (sym same) ∙ begin

-- what is saved of the chip at the opening
pub chip_of_opening : {S V : Type 0} {chip : ChipMeaning S} {saving : ChipSaving S V} → IsLawfulSaving chip saving → {render : RenderState S} {made : ℕ} {table : TableState (PlayState V)} {at : ℕ} → IsServing chip saving render made table at
    → (state : PlayState V) → IsSavedFirst (saved_of table) state → state.bus.chip ≡ saving.saved (opening_of chip saving render table).1.chip 0
unfolding lock_step_machines
chip_of_opening {chip = chip} {saving} saves {render} {table = table} serving state is =
    let laws = machines_lawful chip saving saves in
    let o = opening_of chip saving render table in
    ap (λ s. s.bus.chip) (first_is laws serving.served state is) ∙ ap (saving.saved o.1.chip) (none_made laws serving.served)

-- A server that begins anew.
module _ {S V : Type 0} {chip : ChipMeaning S} {saving : ChipSaving S V} (saves : IsLawfulSaving chip saving) {render : RenderState S} {made : ℕ} {table : TableState (PlayState V)} {at : ℕ}
    (serving : IsServing chip saving render made table at) (s : Saved (PlayState V)) (first : slice_get (saved_of table) 0 ≡ Some s) (v : V) (number : saving.number v ≡ 0) where
  clock_0 : (lock_step_machines chip saving).sample s.state ≡ 0
  clock_0 = (on_the_run_of serving.served 0 s first).sample ∙ begun_at (saved_of table) s first serving.served.begin

  clock_again : (lock_step_machines chip saving).sample (with_saved_chip s.state v) ≡ 0
  unfolding lock_step_machines
  clock_again = clock_0

  pub played_anew : CanBePlayed saving (with_saved_chip s.state v)
  unfolding lock_step_machines
  played_anew = record { bus = record { number = clock_again ∙ sym number; few = omega (arith, clock_again) }; few = omega (arith, number) }

  -- the opening with the other chip
  abbrev anew : Whole (Machine S)
  anew = (lock_step_machines chip saving).loaded (render.cpu, render.bus.machine) (with_saved_chip s.state v) s.memory

  anew_is : anew ≡ (let old = opening_of chip saving render table in with_chip old (saving.loaded old.1.chip v))
  unfolding lock_step_machines
  anew_is =
      let w : Whole (Machine S) = (render.cpu, render.bus.machine) in
      let o = (lock_step_machines chip saving).loaded w s.state s.memory in
      let same : opening_of chip saving render table ≡ o = first_at (lock_step_machines chip saving) w (saved_of table) s first in
      ap (with_chip o) (sym (saves.loads_over render.bus.machine.chip s.state.bus.chip v)) ∙ ap (λ (u : Whole (Machine S)). with_chip u (saving.loaded u.1.chip v)) (sym same)

  module _ (new : RenderState S) (is : new ≡ loaded_render chip saving render (with_saved_chip s.state v) s.memory) (state : PlayState V) (memory : List ℕ)
      (state_is : state ≡ saved_whole saving (new.cpu, new.bus.machine)) (memory_is : memory ≡ new.bus.machine.memory)
      (next : TableState (PlayState V)) (only : saved_of next ≡ record { sample = 0; state = state; memory = memory } ∷ []) where
    whole_is : (new.cpu, new.bus.machine) ≡ anew
    whole_is = ap (λ r. (r.cpu, r.bus.machine)) is ∙ loaded_whole_is chip saving render (with_saved_chip s.state v) s.memory serving.handed_over

    state_of : state ≡ (lock_step_machines chip saving).state (new.cpu, new.bus.machine)
    unfolding lock_step_machines
    state_of = state_is

    memory_here : memory ≡ (lock_step_machines chip saving).memory (new.cpu, new.bus.machine)
    unfolding lock_step_machines
    memory_here = memory_is

    begun : opening_of chip saving new next ≡ (new.cpu, new.bus.machine)
    begun = start_opened (machines_lawful chip saving saves) (standing_of new) next state memory state_of memory_here only

    pub opening_anew : opening_of chip saving new next ≡ (let old = opening_of chip saving render table in with_chip old (saving.loaded old.1.chip v))
    opening_anew = begun ∙ whole_is ∙ anew_is

    pub samples_0 : new.samples ≡ 0
    samples_0 = ap (λ r. r.samples) is ∙ loaded_samples chip saving render (with_saved_chip s.state v) s.memory played_anew ∙ clock_again

    here_0 : (lock_step_machines chip saving).sample ((lock_step_machines chip saving).state (new.cpu, new.bus.machine)) ≡ 0
    here_0 =
        ap (λ w. (lock_step_machines chip saving).sample ((lock_step_machines chip saving).state w)) whole_is
        ∙ (machines_lawful chip saving saves).sample_loaded (render.cpu, render.bus.machine) (with_saved_chip s.state v) s.memory
        ∙ clock_again

    pub serving_anew : is_at_length new ≡ true → {still : ℕ} → still ≡ new.bus.chip_total → IsServing chip saving new still next 0
    serving_anew done counted = record {
      served = served_opened (machines_lawful chip saving saves) (standing_of new) next state memory state_of memory_here only done samples_0 here_0;
      handed_over = rw is (loaded_handed_over chip saving render (with_saved_chip s.state v) s.memory played_anew);
      counted = counted;
    }

    pages_0 : pages_of memory ≡ pages_after (lock_step_machines chip saving) (opening_of chip saving new next) 0
    unfolding lock_step_machines
    pages_0 =
        ap pages_of memory_is
        ∙ ap (λ w. pages_of w.1.memory) (sym (after_none (machines_lawful chip saving saves) (new.cpu, new.bus.machine) here_0))
        ∙ ap (λ w. pages_after (lock_step_machines chip saving) w 0) (sym begun)

    pub book_anew : live_checkpoints next ≡ with_checkpoint [] 0 (pages_of memory) → {known was : ℕ} → known ≡ was
        → book_of (record { standing = standing_of new; made = known; table = next }) ≡ record (opened_book (pages_after (lock_step_machines chip saving) (opening_of chip saving new next))) { made = was }
    book_anew live {known} same =
        let make : ℕ → List Checkpoint → ℕ → CutBook = λ p l m. record { position = p; live = l; made = m } in
        let first = with_checkpoint [] 0 (pages_after (lock_step_machines chip saving) (opening_of chip saving new next) 0) in
        ap (λ p. make p (live_checkpoints next) known) samples_0 ∙ ap (λ l. make 0 l known) (live ∙ ap (with_checkpoint [] 0) pages_0) ∙ ap (make 0 first) same
