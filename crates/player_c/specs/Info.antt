-- What the bytes of a file say, as C has it (own).
use Rattle.std.specs.Prelude.{◌≡◌, ℕ, Bool, if◌then◌else◌, List, Some}
use Rattle.std.specs.List.{slice_get}
use Rattle.spc_form.specs.declared.inspection.SpcInfo.{SpcInfo}
use Rattle.spc_form.specs.declared.inspection.TextPlace.{TextPlace}
use Rattle.spc_form.specs.Layout.{part_of}
use Rattle.player_c.specs.declared.info.SpcwaveInfo.{SpcwaveInfo}
use Rattle.player_c.specs.declared.info.TheConstants.{INFO_SIZE}
use Rattle.player_c.specs.Tags.{tag_text}

-- 1 for yes, 0 for no
abbrev pub yes_or_no : Bool → ℕ
yes_or_no answer = if answer then 1 else 0

abbrev pub known_of : SpcInfo → SpcwaveInfo
known_of info = record {
  size = INFO_SIZE;
  frames = info.length.frames;
  fade = info.length.fade;
  tagged = yes_or_no info.is_tagged;
  timed = yes_or_no info.is_length_known;
  tags = info.texts;
}

-- at these places, by the numbers of the tags, stand the texts of the tags of the file that bytes are
abbrev pub TextsStand : (bytes file : List ℕ) → (places : List TextPlace) → Type 0
TextsStand bytes file places =
    (number : ℕ) (place : TextPlace) → slice_get places number ≡ Some place → part_of bytes place.offset place.length ≡ tag_text file number
