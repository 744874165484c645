-- What a render wrote, by the calls that it made.
use Rattle.std.proofs.Common.{◌≡◌, ℕ, ℤ, ◌+◌, Bool, true, false, List, [], ◌∷◌, length, Option, Some, None, Result, Ok, Err, refl, sym, ap, subst, if◌then◌else◌}
use Rattle.std.specs.Prelude.{is_ok}
use Rattle.snd_host.specs.Calls.{Call}
use Rattle.snd_host.specs.History.{ended_of}
use Rattle.snd_host.specs.Host.{HostState}
use Rattle.command_runner.specs.Answer.{Answer}
use Rattle.command_runner.specs.NamedInputs.{TakesInOrder, held_of, second}
use Rattle.command_runner.specs.OutputCalls.{at_once}
use Rattle.command_runner.specs.RunCalls.{DeliversAnswer, EndsBy}
use Rattle.command_runner.specs.declared.refusals.Refusal.{Refusal}
use Rattle.exit_status.specs.declared.cause.Cause.{Cause}
use Rattle.exit_status.specs.declared.status.Status.TheVariants as statuses
use Rattle.exit_status.specs.Statuses.{end_without_numbers}
use Rattle.input_files.specs.Inputs.{table_input, file_in, table_in}
use Rattle.input_files.specs.Reading.{answer_from}
use Rattle.command_render.specs.Options.{Options}
use Rattle.command_render.specs.Render.{length_with, muted_voices, traced_voices, rendered_counts, rendered_trace, rendered_wave, rendering_answer, file_answer, render_over, render_inputs}
use Rattle.command_line.specs.Command.{render}
use Rattle.run_laws.specs.Answers.{answer_by}
use Rattle.render_files.specs.RenderReport.{sound_report}
use Rattle.run_laws.specs.Rendered.{WritesFrames}
use Rattle.run_laws.specs.Run.{IsRun}
use Rattle.exit_status.proofs.Ends.{plain_is}
use Rattle.run_laws.proofs.Delivered.{wholes}

module _ (file table wave : List ℕ) (options : Options) (m : ℕ) (made taken : List Call) where
  abbrev Delivered : Answer Cause → Type 0
  Delivered a = DeliversAnswer at_once (m + 2) a made

  -- an accepted table
  by_table : (file_bytes table_bytes : List ℕ) (spc : List ℕ) → file_in (Some file_bytes) ≡ Ok spc → (r : Result (List ℤ) (Refusal Cause)) → table_in (Some table_bytes) ≡ r → Delivered (answer_from r (rendering_answer wave options spc)) →
      WritesFrames wave options (m + 2) (file_bytes ∷ table_bytes ∷ []) made
  by_table file_bytes table_bytes spc is (Ok weights) known d =
      let length = length_with options.samples spc in
      let frames = rendered_wave spc weights (muted_voices options) (traced_voices options) length in
      let lines = rendered_trace spc weights (muted_voices options) (traced_voices options) length in
      let report = sound_report length.frames (rendered_counts spc weights (muted_voices options) (traced_voices options) length) in
      let all = wholes m wave options.trace frames lines report made d in
      record {
        file_bytes = file_bytes;
        table_bytes = table_bytes;
        gave = refl;
        file = spc;
        table = weights;
        is_file = is;
        is_table = known;
        later = all.later;
        first = all.first;
        wave_is = all.wave_is;
        trace_is = all.trace_is;
        report_is = all.report_is;
      }
  by_table file_bytes table_bytes spc is (Err why) known d = absurd d

  -- the table comes after a file that was accepted
  after_file : (file_bytes : List ℕ) (given : List (List ℕ)) (calls : List Call) (spc : List ℕ) → file_in (Some file_bytes) ≡ Ok spc → TakesInOrder (table_input table ∷ []) given calls →
      Delivered (render_over wave options (held_of (file_bytes ∷ given))) → WritesFrames wave options (m + 2) (file_bytes ∷ given) made
  after_file file_bytes [] calls spc is takes d = absurd takes
  after_file file_bytes (table_bytes ∷ given) calls spc is takes d =
      let none : given ≡ [] = last ((table_input table).accepts (Some table_bytes)) given takes.back takes.does_second in
      subst (λ (l : List (List ℕ)). WritesFrames wave options (m + 2) (file_bytes ∷ table_bytes ∷ l) made) (sym none)
      (by_table file_bytes table_bytes spc is (table_in (Some table_bytes)) refl
      (subst (λ r. Delivered (answer_from r (file_answer wave options (Some table_bytes)))) is d))
    where
      last : (b : Bool) (given : List (List ℕ)) (calls : List Call) → TakesInOrder (if b then [] else []) given calls → given ≡ []
      last true given calls takes = takes.0
      last false given calls takes = takes.0

  by_file : (file_bytes : List ℕ) (given : List (List ℕ)) (calls : List Call) (r : Result (List ℕ) (Refusal Cause)) → file_in (Some file_bytes) ≡ r → TakesInOrder (if is_ok r then table_input table ∷ [] else []) given calls →
      Delivered (render_over wave options (held_of (file_bytes ∷ given))) → WritesFrames wave options (m + 2) (file_bytes ∷ given) made
  by_file file_bytes given calls (Ok spc) is takes d = after_file file_bytes given calls spc is takes d
  by_file file_bytes given calls (Err why) is takes d =
      absurd (subst (λ r. Delivered (answer_from r (file_answer wave options (second (held_of (file_bytes ∷ given)))))) is d)

  by_given : (given : List (List ℕ)) → TakesInOrder (render_inputs file table) given taken → Delivered (render_over wave options (held_of given)) → WritesFrames wave options (m + 2) given made
  by_given [] takes d = absurd takes
  by_given (file_bytes ∷ given) takes d = by_file file_bytes given takes.back (file_in (Some file_bytes)) refl takes.does_second d

pub writes_frames : (file table wave : List ℕ) (options : Options) (old new : HostState) (run : IsRun (render file table wave options) old new statuses.Ok) → WritesFrames wave options (length (ended_of old.calls) + 2) run.given run.made
writes_frames file table wave options old new run =
    let none : run.refusal ≡ None = plain_is run.refusal None (ap end_without_numbers (sym run.status_is)) in
    let ends = subst (λ (r : Option (Refusal Cause)). EndsBy at_once (answer_by (render file table wave options)) (render_inputs file table) r (length (ended_of old.calls) + 2) run.given run.taken run.made) none run.ends in
    by_given file table wave options (length (ended_of old.calls)) run.made run.taken run.given ends.0 ends.1
