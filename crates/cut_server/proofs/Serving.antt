-- A server over a render, wherever it goes.
use Rattle.std.proofs.Common.{◌≡◌, ℕ, ◌+◌, ◌-◌, ◌/◌, ◌<◌, ◌≤◌, true, List, [], ◌∷◌, ◌++◌, length, ap, ◌∙◌, arith, Some}
use Rattle.std.specs.List.{slice_get, remove_range}
use Rattle.num_fix.specs.Limits.{max_frames}
use Rattle.chip_form.specs.Samples.{count_after}
use Rattle.chip_form.specs.ChipMeaning.{ChipMeaning}
use Rattle.chip_form.specs.ChipSaving.{ChipSaving}
use Rattle.chip_form.specs.SavingLaws.{IsLawfulSaving}
use Rattle.lock_step.specs.Machine.{Machine}
use Rattle.lock_step.specs.LockStep.{lock_step}
use Rattle.lock_step.specs.LockStepEmits.{lock_step_emits, drained_machine}
use Rattle.render_core.specs.Items.{run_frames}
use Rattle.render_core.specs.declared.saved.PlayState.{PlayState}
use Rattle.render_core.specs.MachineRun.{Whole}
use Rattle.render_core.specs.RenderState.{RenderState, frames_to_come, is_at_length}
use Rattle.render_core.specs.RunCounts.{with_opened_book}
use Rattle.render_core.specs.Saved.{saved_whole, CanBePlayed, loaded_render}
use Rattle.cut_form.specs.Slices.{slice_of}
use Rattle.cut_form.specs.Checkpoints.{Checkpoint, pages_of, with_checkpoint}
use Rattle.cut_form.specs.CutBook.{CutBook, opened_book}
use Rattle.cut_server.specs.Table.{TableState, Saved, saved_of, live_checkpoints}
use Rattle.cut_server.specs.ServerState.{book_of, pages_after, frames_after}
use Rattle.cut_server.specs.Server.{lock_step_machines, standing_of, KeepsTune}
use Rattle.cut_server.specs.IsServed.{GoesOn, GoesBack}
use Rattle.cut_server.specs.Renders.{IsServing}
use Rattle.cut_server.proofs.OnTheRun.{on_the_run_of, served_on, served_back, served_more, served_less, served_opened, start_opened, frames_here, goes, goes_back, tune_on}
use Rattle.cut_server.proofs.Renders.{machines_lawful, played_at, Arrives, aimed_frames, loaded_whole_is, loaded_samples, loaded_handed_over, opened_handed_over, opening_of, pages_here}

-- A new server stands at the opening.
pub record IsOpened {S : Type 0} (chip : ChipMeaning S) (render : RenderState S) (w : Whole (Machine S)) (total : ℕ) : Type 0 where
  pub whole : (render.cpu, render.bus) ≡ with_opened_book chip w total
  pub drained : drained_machine w.1 ≡ w.1
  pub clock : w.1.clock ≡ 0
  pub samples : render.samples ≡ 0
  pub done : is_at_length render ≡ true

whole_of : {S : Type 0} {chip : ChipMeaning S} {render : RenderState S} {w : Whole (Machine S)} {total : ℕ} → IsOpened chip render w total → (render.cpu, render.bus.machine) ≡ w
whole_of opened = ap (λ p. (p.0, p.1.machine)) opened.whole

-- and its chip has made what it had made
pub total_of : {S : Type 0} {chip : ChipMeaning S} {render : RenderState S} {w : Whole (Machine S)} {total : ℕ} → IsOpened chip render w total → render.bus.chip_total ≡ total
total_of opened = ap (λ p. p.1.chip_total) opened.whole

-- its frames are those of the run from there
pub frames_opened : {S V : Type 0} (chip : ChipMeaning S) (saving : ChipSaving S V) (render : RenderState S) (table : TableState (PlayState V)) (w : Whole (Machine S)) → opening_of chip saving render table ≡ w → drained_machine w.1 ≡ w.1
    → (n : ℕ) → frames_after (lock_step_machines chip saving) (opening_of chip saving render table) n ≡ run_frames (lock_step chip) lock_step_emits n w
unfolding lock_step_machines
frames_opened chip saving render table w start drained n =
    ap (λ v. run_frames (lock_step chip) lock_step_emits n (v.0, drained_machine v.1)) start ∙ ap (λ m. run_frames (lock_step chip) lock_step_emits n (w.0, m)) drained

module _ {S V : Type 0} {chip : ChipMeaning S} {saving : ChipSaving S V} where
  -- it goes back to a checkpoint
  pub saved_can_be_played : IsLawfulSaving chip saving → {render : RenderState S} {made : ℕ} {table : TableState (PlayState V)} {at : ℕ} → IsServing chip saving render made table at → (i : ℕ) (s : Saved (PlayState V))
      → slice_get (saved_of table) i ≡ Some s → CanBePlayed saving s.state
  saved_can_be_played saves serving i s read = played_at saves _ _ s (on_the_run_of serving.served i s read)

  pub serving_back : IsLawfulSaving chip saving → {render : RenderState S} {made : ℕ} {table : TableState (PlayState V)} {at : ℕ} → IsServing chip saving render made table at → (i : ℕ) (s : Saved (PlayState V)) → slice_get (saved_of table) i ≡ Some s
      → (new : RenderState S) → new ≡ loaded_render chip saving render s.state s.memory → is_at_length new ≡ true → {still : ℕ} → still ≡ new.bus.chip_total → IsServing chip saving new still table s.sample
  serving_back saves {render} serving i s read new is done counted =
      let can = saved_can_be_played saves serving i s read in
      record {
        served = served_back (machines_lawful chip saving saves) serving.served i s read (standing_of new) done (ap (λ r. r.samples) is ∙ loaded_samples chip saving render s.state s.memory can)
            (ap (λ r. (r.cpu, r.bus.machine)) is ∙ loaded_whole_is chip saving render s.state s.memory serving.handed_over);
        handed_over = rw is (loaded_handed_over chip saving render s.state s.memory can);
        counted = counted;
      }

  pub goes_back_to : IsLawfulSaving chip saving → {render : RenderState S} {made : ℕ} {table : TableState (PlayState V)} {at : ℕ} → IsServing chip saving render made table at → (i : ℕ) (s : Saved (PlayState V)) → slice_get (saved_of table) i ≡ Some s
      → (new : RenderState S) → new ≡ loaded_render chip saving render s.state s.memory → {known still : ℕ} → still ≡ known
      → GoesBack (lock_step_machines chip saving) (record { standing = standing_of render; made = known; table = table }) (record { standing = standing_of new; made = still; table = table }) i
  goes_back_to saves {render} serving i s read new is same =
      let can = saved_can_be_played saves serving i s read in
      goes_back (machines_lawful chip saving saves) serving.served i s read (standing_of new) (ap (λ r. r.samples) is ∙ loaded_samples chip saving render s.state s.memory can)
      (ap (λ r. (r.cpu, r.bus.machine)) is ∙ loaded_whole_is chip saving render s.state s.memory serving.handed_over) same

  -- it goes on to a sample
  pub serving_on : IsLawfulSaving chip saving → {render : RenderState S} {made : ℕ} {table : TableState (PlayState V)} {at : ℕ} → IsServing chip saving render made table at → (n : ℕ) → at ≤ n → n ≤ max_frames
      → (new : RenderState S) → Arrives chip saving render new n → is_at_length new ≡ true → {more : ℕ} → more ≡ new.bus.chip_total → IsServing chip saving new more table n
  serving_on saves serving n later few new there done counted = record {
    served = served_on (machines_lawful chip saving saves) serving.served n later few (standing_of new) done there.samples there.whole;
    handed_over = there.handed_over;
    counted = counted;
  }

  pub goes_on_to : IsLawfulSaving chip saving → {render : RenderState S} {made : ℕ} {table : TableState (PlayState V)} {at : ℕ} → IsServing chip saving render made table at → (n : ℕ) (new : RenderState S) → Arrives chip saving render new n
      → {known more : ℕ} → more ≡ count_after known (n - render.samples)
      → GoesOn (lock_step_machines chip saving) (record { standing = standing_of render; made = known; table = table }) (record { standing = standing_of new; made = more; table = table }) render.samples n
  goes_on_to saves serving n new there counted = goes (machines_lawful chip saving saves) serving.served n (standing_of new) there.samples there.whole counted

  pub tune_kept_on : IsLawfulSaving chip saving → {render : RenderState S} {made : ℕ} {table : TableState (PlayState V)} {at : ℕ} → IsServing chip saving render made table at → (n : ℕ) (new : RenderState S) → Arrives chip saving render new n
      → {known more : ℕ} → KeepsTune chip saving (record { standing = standing_of render; made = known; table = table }) (record { standing = standing_of new; made = more; table = table })
  tune_kept_on saves serving n new there = tune_on (machines_lawful chip saving saves) serving.served n (standing_of new) there.whole

  frames_few : IsLawfulSaving chip saving → {render : RenderState S} {made : ℕ} {table : TableState (PlayState V)} {at : ℕ} → IsServing chip saving render made table at → (most : ℕ)
      → length (frames_to_come chip (record render { samples = at + most })) ≡ most
  frames_few saves {render} {at = at} serving most =
      let laws = machines_lawful chip saving saves in
      let counted = laws.counts (at + most) (render.cpu, render.bus.machine) (omega (arith, serving.served.here)) in
      omega (arith, ap length (aimed_frames chip saving render (at + most) serving.handed_over), counted, serving.served.here)

  pub aimed_few : IsLawfulSaving chip saving → {render : RenderState S} {made : ℕ} {table : TableState (PlayState V)} {at : ℕ} → IsServing chip saving render made table at → (most : ℕ) (aimed : RenderState S) → aimed ≡ record render { samples = at + most }
      → length (frames_to_come chip aimed) ≡ most
  aimed_few saves serving most aimed is = ap (λ r. length (frames_to_come chip r)) is ∙ frames_few saves serving most

  pub frames_played : IsLawfulSaving chip saving → {render : RenderState S} {made : ℕ} {table : TableState (PlayState V)} {at : ℕ} → IsServing chip saving render made table at → (most : ℕ)
      → frames_to_come chip (record render { samples = at + most }) ≡ slice_of (frames_after (lock_step_machines chip saving) (opening_of chip saving render table)) at most
  frames_played saves {render} {table = table} {at} serving most = aimed_frames chip saving render (at + most) serving.handed_over ∙ frames_here (machines_lawful chip saving saves) serving.served most

  -- it has one checkpoint more, or some fewer
  pub serving_more : IsLawfulSaving chip saving → {render : RenderState S} {made : ℕ} {table : TableState (PlayState V)} {at : ℕ} → IsServing chip saving render made table at → (new : TableState (PlayState V)) (state : PlayState V) (memory : List ℕ)
      → state ≡ saved_whole saving (render.cpu, render.bus.machine) → memory ≡ render.bus.machine.memory → saved_of new ≡ saved_of table ++ record { sample = at; state = state; memory = memory } ∷ [] → IsServing chip saving render made new at
  unfolding lock_step_machines
  serving_more saves serving new state memory state_is memory_is more = record {
    served = served_more (machines_lawful chip saving saves) serving.served new state memory state_is memory_is more;
    handed_over = serving.handed_over;
    counted = serving.counted;
  }

  pub serving_less : {render : RenderState S} {made : ℕ} {table : TableState (PlayState V)} {at : ℕ} → IsServing chip saving render made table at → (new : TableState (PlayState V)) (a b : ℕ) → 0 < a → saved_of new ≡ remove_range (saved_of table) a b
      → IsServing chip saving render made new at
  serving_less serving new a b some less = record { served = served_less serving.served new a b some less; handed_over = serving.handed_over; counted = serving.counted }

  pub serving_opened : IsLawfulSaving chip saving → {render : RenderState S} {w : Whole (Machine S)} {total : ℕ} → IsOpened chip render w total → (table : TableState (PlayState V)) (state : PlayState V) (memory : List ℕ)
      → state ≡ saved_whole saving (render.cpu, render.bus.machine) → memory ≡ render.bus.machine.memory → saved_of table ≡ record { sample = 0; state = state; memory = memory } ∷ []
      → {made : ℕ} → made ≡ render.bus.chip_total → IsServing chip saving render made table 0
  unfolding lock_step_machines
  serving_opened saves {render} {w} {total} opened table state memory state_is memory_is is counted = record {
    served = served_opened (machines_lawful chip saving saves) (standing_of render) table state memory state_is memory_is is opened.done opened.samples (ap (λ p. p.1.clock / 32) (whole_of opened) ∙ ap (λ k. k / 32) opened.clock);
    handed_over = opened_handed_over chip render w total opened.whole opened.drained opened.clock opened.samples;
    counted = counted;
  }

  pub start_is_opened : IsLawfulSaving chip saving → {render : RenderState S} {w : Whole (Machine S)} {total : ℕ} → IsOpened chip render w total → (table : TableState (PlayState V)) (state : PlayState V) (memory : List ℕ)
      → state ≡ saved_whole saving (render.cpu, render.bus.machine) → memory ≡ render.bus.machine.memory → saved_of table ≡ record { sample = 0; state = state; memory = memory } ∷ [] → opening_of chip saving render table ≡ w
  unfolding lock_step_machines
  start_is_opened saves {render} opened table state memory state_is memory_is is = start_opened (machines_lawful chip saving saves) (standing_of render) table state memory state_is memory_is is ∙ whole_of opened

  -- and its pages are those of the memory there
  live_opened : {render : RenderState S} {made : ℕ} {table : TableState (PlayState V)} → IsServing chip saving render made table 0 → (memory : List ℕ) → memory ≡ render.bus.machine.memory
      → with_checkpoint [] 0 (pages_of memory) ≡ with_checkpoint [] 0 (pages_after (lock_step_machines chip saving) (opening_of chip saving render table) 0)
  live_opened {render} {table = table} serving memory is =
      ap (λ pages. with_checkpoint [] 0 pages) (pages_here serving memory is ∙ ap (pages_after (lock_step_machines chip saving) (opening_of chip saving render table)) serving.served.position)

  pub book_opened : IsLawfulSaving chip saving → {render : RenderState S} {made : ℕ} {table : TableState (PlayState V)} {w : Whole (Machine S)} {total : ℕ} → IsOpened chip render w total → IsServing chip saving render made table 0
      → (memory : List ℕ) → memory ≡ render.bus.machine.memory → live_checkpoints table ≡ with_checkpoint [] 0 (pages_of memory) → {known : ℕ} → known ≡ 0
      → book_of (record { standing = standing_of render; made = known; table = table }) ≡ opened_book (pages_after (lock_step_machines chip saving) (opening_of chip saving render table))
  book_opened saves {render} {table = table} opened serving memory is live {known} none =
      let make : ℕ → List Checkpoint → ℕ → CutBook = λ p l m. record { position = p; live = l; made = m } in
      let first = with_checkpoint [] 0 (pages_after (lock_step_machines chip saving) (opening_of chip saving render table) 0) in
      ap (λ p. make p (live_checkpoints table) known) opened.samples ∙ ap (λ l. make 0 l known) (live ∙ live_opened serving memory is) ∙ ap (λ m. make 0 first m) none
