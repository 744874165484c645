-- What the bytes of a file say, before they are read (own).
use Rattle.std.specs.Prelude.{◌≡◌, ℕ, List, length, map, Result, Ok, Err}
use Rattle.spc_form.specs.declared.inspection.SpcInfo.{SpcInfo}
use Rattle.spc_form.specs.declared.inspection.TextPlace.{TextPlace}
use Rattle.spc_form.specs.declared.reading.SpcRefusal.{SpcRefusal}
use Rattle.spc_form.specs.declared.tags.Tag.{Tag}
use Rattle.spc_form.specs.Accepted.{spc_file}
use Rattle.spc_form.specs.Layout.{part_of}
use Rattle.spc_form.specs.Tags.{field_start, text_of, has_tags, length_of, is_length_known, all_tags}

-- where the text of a tag stands in a file
abbrev pub text_place : (file : List ℕ) → Tag → TextPlace
text_place file tag = record { offset = field_start tag; length = length (text_of file tag) }

-- what a file says
abbrev pub info_of : (file : List ℕ) → SpcInfo
info_of file = record {
  length = length_of file;
  is_tagged = has_tags file;
  is_length_known = is_length_known file;
  texts = map (text_place file) all_tags;
}

-- what bytes say that are a file, or why they are none
abbrev pub info_from : Result (List ℕ) SpcRefusal → Result SpcInfo SpcRefusal
info_from (Ok file) = Ok (info_of file)
info_from (Err refusal) = Err refusal

abbrev pub info_in : (bytes : List ℕ) → Result SpcInfo SpcRefusal
info_in bytes = info_from (spc_file bytes)

-- the texts of the file that bytes are stand in these bytes, at those places
abbrev pub StandThere : (bytes file : List ℕ) → Type 0
StandThere bytes file = (tag : Tag) → let place = text_place file tag in part_of bytes place.offset place.length ≡ text_of file tag
