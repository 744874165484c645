-- A tune, and the same with other voices muted.
use Rattle.std.proofs.Common.{◌≡◌, ◌∙◌, ℕ, ℤ, List, [], refl, sym, ap}
use Rattle.dsp_state.specs.Outside.{opened_state}
use Rattle.dsp_state.specs.declared.state.ChipState.{ChipState}
use Rattle.dsp_core.specs.Saved.{SavedDsp, saved_state}
use Rattle.dsp_core.specs.DspChip.{dsp_chip, dsp_saving}
use Rattle.lock_step.specs.Machine.{Machine}
use Rattle.render_core.specs.MachineRun.{Whole}
use Rattle.render_core.specs.Whole.{with_chip}
use Rattle.cut_form.specs.Checkpoints.{with_checkpoint}
use Rattle.cut_form.specs.CutBook.{opened_book}
use Rattle.cut_server.specs.Server.{ChipServer, opening}
use Rattle.cut_server.specs.ServerState.{book_of, slots_of}
use Rattle.tune_opening.specs.Tune.{opened_tune, tune_pages}
use Rattle.tune_opening.proofs.Served.{frames_served, pages_served, chip_served}
use Rattle.player.specs.OwnMarks.{spacing_of}
use Rattle.player.specs.Player.{IsOver, IsRestarted}
use Rattle.spc_player.specs.declared.options.PlayerOptions.{PlayerOptions}
use Rattle.spc_player.specs.Inputs.{Inputs, IsOfTune, IsAtOpening, IsMuted, with_voices_muted}
use Rattle.spc_player.specs.Player.{SpcPlayer, opening_of}

pub of_tune : (inputs : Inputs) (muted : ℕ) (player : SpcPlayer) → player.file ≡ inputs.file → opening_of player ≡ opened_tune inputs.file inputs.weights muted 0 → IsOfTune inputs muted player
of_tune inputs muted player file start = record {
  file = file;
  start = start;
  frames = frames_served inputs.file inputs.weights muted (opening_of player) start;
  memory = pages_served inputs.file inputs.weights muted (opening_of player) start;
  chip = chip_served inputs.file inputs.weights muted (opening_of player) start;
}

pub tune_stays : (inputs : Inputs) (muted : ℕ) (old new : SpcPlayer) → opening_of new ≡ opening_of old → new.file ≡ old.file
    → IsOfTune inputs muted old → IsOfTune inputs muted new
tune_stays inputs muted old new start file of = of_tune inputs muted new (file ∙ of.file) (start ∙ of.start)

-- a player over the server of a tune at its opening
pub at_opening : (inputs : Inputs) (options : PlayerOptions) (server : ChipServer ChipState SavedDsp) (player : SpcPlayer) → IsOver server inputs.file (spacing_of options.mark_seconds) player
    → opening dsp_chip dsp_saving server ≡ opened_tune inputs.file inputs.weights options.muted 0 → book_of server ≡ opened_book (tune_pages inputs.file inputs.weights options.muted) → slots_of server ≡ options.pages
    → IsAtOpening inputs options player
at_opening inputs options server player over start book slots =
    let is : opening_of player ≡ opened_tune inputs.file inputs.weights options.muted 0 = ap (opening dsp_chip dsp_saving) over.server_is ∙ start in
    let tune = of_tune inputs options.muted player over.file_is is in
    let same : book_of player.server ≡ opened_book (tune_pages inputs.file inputs.weights options.muted) = ap book_of over.server_is ∙ book in
    record {
      tune = tune;
      position = ap (λ b. b.position) same;
      marks = ap (λ b. b.live) same ∙ ap (λ (pages : ℕ → List (List ℕ)). with_checkpoint [] 0 (pages 0)) (sym tune.memory);
      capacity = ap slots_of over.server_is ∙ slots;
      spacing = over.spacing_is;
      made = ap (λ b. b.made) same;
      end = over.end_is;
    }

-- what is saved of the chip of a machine before sample 0, with these voices muted
abbrev pub muted_chip : Whole (Machine ChipState) → (muted : ℕ) → SavedDsp
muted_chip w muted = record (saved_state w.1.chip 0) { muted = muted }

-- a tune's opening with other voices muted is its opening with these
opening_muted : (file : List ℕ) (table : List ℤ) (before muted : ℕ) → with_voices_muted (opened_tune file table before 0) muted ≡ opened_tune file table muted 0
unfolding opened_state
opening_muted file table before muted = refl

pub is_muted : (muted : ℕ) (saved : SavedDsp) (old new : SpcPlayer) → saved ≡ muted_chip (opening_of old) muted → IsRestarted dsp_chip dsp_saving saved old new → IsMuted muted old new
is_muted muted saved old new is anew =
    let start : opening_of new ≡ with_voices_muted (opening_of old) muted =
    anew.start ∙ ap (λ s. with_chip (opening_of old) (dsp_saving.loaded (opening_of old).1.chip s)) is in
    record {
      start = start;
      file = anew.file;
      tune = λ inputs before of.
          of_tune inputs muted new (anew.file ∙ of.file)
          (start ∙ ap (λ (w : Whole (Machine ChipState)). with_voices_muted w muted) of.start ∙ opening_muted inputs.file inputs.weights before muted);
      position = anew.position;
      marks = anew.marks;
      made = anew.made;
      capacity = anew.capacity;
      spacing = anew.spacing;
      end = anew.end;
    }
