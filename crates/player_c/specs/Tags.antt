-- The tags of a file by the numbers that C knows them by.
use Rattle.std.specs.Prelude.{ℕ, List, [], Option, Some, None}
use Rattle.std.specs.List.{slice_get}
use Rattle.spc_form.specs.declared.tags.Tag.{Tag}
use Rattle.spc_form.specs.Tags.{text_of, all_tags}

-- the text of a tag: none where no tag has the number
abbrev pub text_in : (file : List ℕ) → Option Tag → List ℕ
text_in file None = []
text_in file (Some tag) = text_of file tag

abbrev pub tag_text : (file : List ℕ) → (number : ℕ) → List ℕ
tag_text file number = text_in file (slice_get all_tags number)
