-- What two calls keep, one after the other.
use Rattle.std.proofs.Common.{◌∙◌, refl}
use Rattle.chip_form.specs.ChipMeaning.{ChipMeaning}
use Rattle.chip_form.specs.ChipSaving.{ChipSaving}
use Rattle.player.specs.Player.{PlayerState, KeepsPlayer}

module _ {S V : Type 0} (chip : ChipMeaning S) (saving : ChipSaving S V) where
  pub keeps_none : (player : PlayerState S V) → KeepsPlayer chip saving player player
  keeps_none player = record { start = refl; frames = refl; memory = refl; chips = refl; file = refl; capacity = refl; spacing = refl; end = refl }

  pub keeps_both : (first next last : PlayerState S V) → KeepsPlayer chip saving first next → KeepsPlayer chip saving next last → KeepsPlayer chip saving first last
  keeps_both first next last one two = record {
    start = two.start ∙ one.start;
    frames = two.frames ∙ one.frames;
    memory = two.memory ∙ one.memory;
    chips = two.chips ∙ one.chips;
    file = two.file ∙ one.file;
    capacity = two.capacity ∙ one.capacity;
    spacing = two.spacing ∙ one.spacing;
    end = two.end ∙ one.end;
  }
