-- The render of a server: its whole machine, where it is loaded and where it runs.
use Rattle.std.proofs.Common.{◌≡◌, ℕ, ◌-◌, ◌^◌, ◌<◌, ◌≤◌, List, [], refl, sym, ap, ◌∙◌, arith}
use Rattle.num_fix.specs.Limits.{max_frames}
use Rattle.chip_form.specs.Samples.{count_after}
use Rattle.chip_form.specs.ChipMeaning.{ChipMeaning}
use Rattle.chip_form.specs.ChipSaving.{ChipSaving}
use Rattle.chip_form.specs.SavingLaws.{IsLawfulSaving}
use Rattle.lock_step.specs.Machine.{Machine}
use Rattle.lock_step.specs.LockStep.{lock_step}
use Rattle.lock_step.specs.LockStepEmits.{lock_step_emits, drained_machine}
use Rattle.lag_bus.specs.Saved.{loaded_machine}
use Rattle.render_core.specs.declared.saved.PlayState.{PlayState}
use Rattle.render_core.specs.MachineRun.{Whole, after_run}
use Rattle.render_core.specs.Items.{run_frames}
use Rattle.render_core.specs.RenderState.{RenderState, frames_to_come, whole_at_length}
use Rattle.render_core.specs.RunCounts.{with_opened_book}
use Rattle.render_core.specs.Saved.{saved_whole, CanBePlayed, loaded_render}
use Rattle.render_core.specs.Whole.{due_in, with_lists_of, IsPlayedLawfully}
use Rattle.render_core.proofs.WholeRuns.{is_played_lawfully}
use Rattle.cut_form.specs.Checkpoints.{pages_of, slots_needed, with_checkpoint}
use Rattle.cut_form.specs.CutBook.{with_live, with_one_here}
use Rattle.cut_server.specs.Machines.{AreLawful}
use Rattle.cut_server.specs.Table.{TableState, Saved, saved_of, live_checkpoints}
use Rattle.cut_server.specs.Server.{lock_step_machines, standing_of, chip_after}
use Rattle.cut_server.specs.ServerState.{book_of, first_machine, pages_after}
use Rattle.cut_server.specs.IsServed.{IsOnTheRun}
use Rattle.cut_server.specs.Renders.{HasHandedOver, IsServing, IsUnderway, RunsOut}

-- the machines of a chip are lawful
pub machines_lawful : {S V : Type 0} (chip : ChipMeaning S) (saving : ChipSaving S V) → IsLawfulSaving chip saving → AreLawful (lock_step_machines chip saving)
unfolding lock_step_machines
machines_lawful chip saving saves =
    let laws : IsPlayedLawfully chip saving = is_played_lawfully chip saving saves in
    record {
      loads_back = laws.loads_back;
      loads_over = laws.loads_over;
      loads_after = laws.loads_after;
      sample_loaded = λ w s memory. refl;
      stays = laws.stays;
      makes = laws.makes;
      goes_on = laws.goes_on;
      counts = laws.counts;
      emits = laws.emits;
    }

-- what was saved of a machine can be loaded
can_be_played : {S V : Type 0} {chip : ChipMeaning S} {saving : ChipSaving S V} → IsLawfulSaving chip saving → (w : Whole (Machine S)) → due_in w ≤ max_frames → CanBePlayed saving (saved_whole saving w)
can_be_played saves w few = record {
  bus = record { number = sym (saves.number_saved w.1.chip (due_in w)); few = omega (arith, few) };
  few = omega (arith, few, saves.number_saved w.1.chip (due_in w));
}

pub played_at : {S V : Type 0} {chip : ChipMeaning S} {saving : ChipSaving S V} → IsLawfulSaving chip saving → (w start : Whole (Machine S)) (saved : Saved (PlayState V)) → IsOnTheRun (lock_step_machines chip saving) w start saved
    → CanBePlayed saving saved.state
unfolding lock_step_machines
played_at {chip = chip} {saving} saves w start saved on =
    let machines = lock_step_machines chip saving in
    let there = machines.after_run saved.sample start in
    rw on.state (can_be_played saves there (omega (arith, on.few, on.sample, ap machines.sample on.state)))

-- a machine with the lists of one whose lists are empty
rest_lists : {S : Type 0} (m : Machine S) (w : Whole (Machine S)) → drained_machine m ≡ m → with_lists_of m w ≡ (w.0, drained_machine w.1)
rest_lists m w rest =
    let frames : m.frames ≡ [] = ap (λ x. x.frames) (sym rest) in
    let records : m.records ≡ [] = ap (λ x. x.records) (sym rest) in
    let calls : m.calls ≡ 0 = ap (λ x. x.calls) (sym rest) in
    rw (frames, records, calls) refl

-- the machine at a new length, and the frames until there
aimed_whole : {S V : Type 0} (chip : ChipMeaning S) (saving : ChipSaving S V) (render : RenderState S) (n : ℕ) → drained_machine render.bus.machine ≡ render.bus.machine
    → whole_at_length chip (record render { samples = n }) ≡ (lock_step_machines chip saving).after_run n (render.cpu, render.bus.machine)
unfolding lock_step_machines
aimed_whole chip saving render n rest = sym (rest_lists render.bus.machine (after_run (lock_step chip) n (render.cpu, render.bus.machine)) rest)

pub aimed_frames : {S V : Type 0} (chip : ChipMeaning S) (saving : ChipSaving S V) (render : RenderState S) (n : ℕ) → HasHandedOver render
    → frames_to_come chip (record render { samples = n }) ≡ (lock_step_machines chip saving).run_frames n (render.cpu, render.bus.machine)
unfolding lock_step_machines
aimed_frames chip saving render n rest = ap (λ m. run_frames (lock_step chip) lock_step_emits n (render.cpu, m)) (sym rest.drained)

-- A render that was sent on to a length, and is there.
pub record Arrives {S V : Type 0} (chip : ChipMeaning S) (saving : ChipSaving S V) (old new : RenderState S) (n : ℕ) : Type 0 where
  pub samples : new.samples ≡ n
  pub whole : (new.cpu, new.bus.machine) ≡ (lock_step_machines chip saving).after_run n (old.cpu, old.bus.machine)
  pub total : new.bus.chip_total ≡ count_after old.bus.chip_total (n - old.samples)
  pub handed_over : HasHandedOver new

pub arrives : {S V : Type 0} (chip : ChipMeaning S) (saving : ChipSaving S V) (old aimed new : RenderState S) (n : ℕ) → HasHandedOver old → aimed ≡ record old { samples = n } → RunsOut chip aimed new → Arrives chip saving old new n
arrives chip saving old aimed new n rest is out =
    let length : aimed.samples ≡ n = ap (λ r. r.samples) is in
    let machine : new.bus.machine ≡ (whole_at_length chip aimed).1 = ap (λ w. w.1) out.whole in
    record {
      samples = out.samples ∙ length;
      whole = out.whole ∙ ap (whole_at_length chip) is ∙ aimed_whole chip saving old n rest.drained;
      total = out.total ∙ ap (λ r. count_after r.bus.chip_total (r.samples - r.bus.chip_sample)) is ∙ ap (λ k. count_after old.bus.chip_total (n - k)) rest.chip;
      handed_over = record { drained = ap drained_machine machine ∙ sym machine; chip = out.sample ∙ sym out.samples };
    }

-- A render that was loaded.
pub loaded_whole_is : {S V : Type 0} (chip : ChipMeaning S) (saving : ChipSaving S V) (render : RenderState S) (saved : PlayState V) (memory : List ℕ) → HasHandedOver render
    → ((loaded_render chip saving render saved memory).cpu, (loaded_render chip saving render saved memory).bus.machine) ≡ (lock_step_machines chip saving).loaded (render.cpu, render.bus.machine) saved memory
unfolding lock_step_machines
loaded_whole_is chip saving render saved memory rest = sym (rest_lists render.bus.machine (saved.cpu, loaded_machine saving render.bus.machine saved.bus memory) rest.drained)

pub loaded_samples : {S V : Type 0} (chip : ChipMeaning S) (saving : ChipSaving S V) (render : RenderState S) (saved : PlayState V) (memory : List ℕ) → CanBePlayed saving saved
    → (loaded_render chip saving render saved memory).samples ≡ (lock_step_machines chip saving).sample saved
unfolding lock_step_machines
loaded_samples chip saving render saved memory can = sym can.bus.number

pub loaded_handed_over : {S V : Type 0} (chip : ChipMeaning S) (saving : ChipSaving S V) (render : RenderState S) (saved : PlayState V) (memory : List ℕ) → CanBePlayed saving saved → HasHandedOver (loaded_render chip saving render saved memory)
loaded_handed_over chip saving render saved memory can = record { drained = refl; chip = omega (arith, can.bus.number) }

-- A render that was opened.
pub opened_handed_over : {S : Type 0} (chip : ChipMeaning S) (render : RenderState S) (w : Whole (Machine S)) (total : ℕ) → (render.cpu, render.bus) ≡ with_opened_book chip w total → drained_machine w.1 ≡ w.1 → w.1.clock ≡ 0 → render.samples ≡ 0 → HasHandedOver render
opened_handed_over chip render w total is drained clock samples =
    let machine : render.bus.machine ≡ w.1 = ap (λ p. p.1.machine) is in
    record {
      drained = ap drained_machine machine ∙ drained ∙ sym machine;
      chip = ap (λ p. p.1.chip_sample) is ∙ omega (arith, clock, samples);
    }

-- the machine at the opening of a server over a render
abbrev pub opening_of : {S V : Type 0} → ChipMeaning S → ChipSaving S V → RenderState S → TableState (PlayState V) → Whole (Machine S)
opening_of chip saving render table = first_machine (lock_step_machines chip saving) (render.cpu, render.bus.machine) (saved_of table)

-- the pages of the memory where a server stands
pub pages_here : {S V : Type 0} {chip : ChipMeaning S} {saving : ChipSaving S V} {render : RenderState S} {made : ℕ} {table : TableState (PlayState V)} {at : ℕ} → IsServing chip saving render made table at → (memory : List ℕ)
    → memory ≡ render.bus.machine.memory → pages_of memory ≡ pages_after (lock_step_machines chip saving) (opening_of chip saving render table) render.samples
unfolding lock_step_machines
pages_here {chip = chip} {saving} {render} {table = table} serving memory is =
    ap pages_of is ∙ ap (λ w. pages_of w.1.memory) serving.served.on_the_run ∙ ap (pages_after (lock_step_machines chip saving) (opening_of chip saving render table)) (sym serving.served.position)

-- and the chip there
pub chip_there : {S V : Type 0} {chip : ChipMeaning S} {saving : ChipSaving S V} {render : RenderState S} {made : ℕ} {table : TableState (PlayState V)} {at : ℕ} → IsServing chip saving render made table at
    → render.bus.machine.chip ≡ chip_after chip (opening_of chip saving render table) render.samples
unfolding lock_step_machines
chip_there {chip = chip} {saving} {render} {table = table} serving =
    ap (λ w. w.1.chip) serving.served.on_the_run ∙ ap (chip_after chip (opening_of chip saving render table)) (sym serving.served.position)

-- so many slots a checkpoint there needs, and this is the book with it
pub needed_is : {S V : Type 0} {chip : ChipMeaning S} {saving : ChipSaving S V} {render : RenderState S} {made : ℕ} {table : TableState (PlayState V)} {at : ℕ} → IsServing chip saving render made table at → (memory : List ℕ)
    → memory ≡ render.bus.machine.memory → (need : ℕ) → need ≡ slots_needed (live_checkpoints table) (pages_of memory)
    → need ≡ slots_needed (live_checkpoints table) (pages_after (lock_step_machines chip saving) (opening_of chip saving render table) render.samples)
needed_is {table = table} serving memory is need needed = needed ∙ ap (slots_needed (live_checkpoints table)) (pages_here serving memory is)

pub taken_is : {S V : Type 0} {chip : ChipMeaning S} {saving : ChipSaving S V} {render : RenderState S} {made : ℕ} {table : TableState (PlayState V)} {at : ℕ} → IsServing chip saving render made table at → (memory : List ℕ)
    → memory ≡ render.bus.machine.memory → (new : TableState (PlayState V)) → live_checkpoints new ≡ with_checkpoint (live_checkpoints table) at (pages_of memory) → {known : ℕ}
    → book_of (record { standing = standing_of render; made = known; table = new })
    ≡ with_one_here (pages_after (lock_step_machines chip saving) (opening_of chip saving render table)) (book_of (record { standing = standing_of render; made = known; table = table }))
taken_is {chip = chip} {saving} {render} {table = table} {at} serving memory is new live {known} =
    let before = live_checkpoints table in
    ap (with_live (book_of (record { standing = standing_of render; made = known; table = table })))
    (live ∙ ap (λ k. with_checkpoint before k (pages_of memory)) (sym serving.served.position) ∙ ap (with_checkpoint before render.samples) (pages_here serving memory is))

-- While a render runs to its length.
pub way_begun : {S : Type 0} (chip : ChipMeaning S) (render : RenderState S) → render.bus.chip_total < 2 ^ 64 → IsUnderway chip render render
way_begun chip render few = record { samples = refl; whole = refl; rises = omega arith; total = omega (arith, few) }
