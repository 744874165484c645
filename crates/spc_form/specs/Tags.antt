-- The ID666 tags in their text form (fields: SPC file format text v0.30; the rule of the length is own).
use Rattle.std.specs.Prelude.{ℕ, ◌+◌, ◌*◌, ◌==◌, List, [], ◌∷◌, take, drop, Bool, false, not, ◌&&◌, nat_lt, if◌then◌else◌, Option, Some, None, unwrap_or}
use Rattle.std.specs.List.{before_first, list_all, prefix_len}
use Rattle.std.specs.Char.{is_ascii_digit}
use Rattle.text_form.specs.Decimals.{decimal_value}
use Rattle.num_fix.specs.declared.TheConstants.{SAMPLE_RATE}
use Rattle.spc_form.specs.Layout.{part_of, tag_mark_of}
use Rattle.spc_form.specs.declared.tags.TheConstants.{SAMPLES_PER_MILLISECOND}
use Rattle.spc_form.specs.declared.tags.Tag.{Tag}
use Rattle.spc_form.specs.declared.tags.Tag.TheVariants.{Title, Game, Dumper, Comments, Date, Seconds, Fade, Artist}
use Rattle.spc_form.specs.declared.tags.Length.{Length}

-- where the field of a tag begins
abbrev pub field_start : Tag → ℕ
field_start Title = 0x2E
field_start Game = 0x4E
field_start Dumper = 0x6E
field_start Comments = 0x7E
field_start Date = 0x9E
field_start Seconds = 0xA9
field_start Fade = 0xAC
field_start Artist = 0xB1

-- how many bytes it has
abbrev pub field_size : Tag → ℕ
field_size Title = 32
field_size Game = 32
field_size Dumper = 16
field_size Comments = 32
field_size Date = 11
field_size Seconds = 3
field_size Fade = 5
field_size Artist = 32

-- the text of a tag: its field before the first zero byte
unfoldable pub text_of : (file : List ℕ) → Tag → List ℕ
text_of file tag = before_first (λ byte. byte == 0) (part_of file (field_start tag) (field_size tag))

-- the number in a text: one digit or more, with nothing but spaces after them
unfoldable pub number_in : (text : List ℕ) → Option ℕ
number_in text =
    let count = prefix_len is_ascii_digit text in
    if nat_lt 0 count && list_all (λ byte. byte == 0x20) (drop count text) then Some (decimal_value (take count text)) else None

-- the byte 23h says that there are tags
abbrev pub has_tags : (file : List ℕ) → Bool
has_tags file = tag_mark_of file == 0x1A

-- the length of some seconds and a fade of some milliseconds, in frames, of which there are 32,000 a second
abbrev pub length_of_times : (seconds milliseconds : ℕ) → Length
length_of_times seconds milliseconds = record {
  frames = SAMPLE_RATE * seconds + SAMPLES_PER_MILLISECOND * milliseconds;
  fade = SAMPLES_PER_MILLISECOND * milliseconds;
}

-- three minutes, where the tags give no length
abbrev pub default_length : Length
default_length = record { frames = 5760000; fade = 0 }

-- the most frames that both fields can give: 999 seconds, and a fade of 99,999 milliseconds
abbrev pub max_length_of_tags : ℕ
max_length_of_tags = 35167968

-- the length by the numbers of both fields
abbrev pub length_of_numbers : (seconds fade : Option ℕ) → Length
length_of_numbers None fade = default_length
length_of_numbers (Some seconds) fade = if seconds == 0 then default_length else length_of_times seconds (unwrap_or fade 0)

-- the seconds that the tags give: none where the file has no tags, or no number there
unfoldable pub seconds_known : (file : List ℕ) → Option ℕ
seconds_known file = if has_tags file then number_in (text_of file Seconds) else None

-- the length that a file asks for
unfoldable pub length_of : (file : List ℕ) → Length
length_of file = length_of_numbers (seconds_known file) (number_in (text_of file Fade))

-- whether it is the tags that give it: by a number of seconds above 0
abbrev pub is_some_time : Option ℕ → Bool
is_some_time None = false
is_some_time (Some seconds) = not (seconds == 0)

abbrev pub is_length_known : (file : List ℕ) → Bool
is_length_known file = is_some_time (seconds_known file)

-- all tags, in the order in which they are numbered for callers
abbrev pub all_tags : List Tag
all_tags = Title ∷ Game ∷ Artist ∷ Dumper ∷ Comments ∷ Date ∷ Seconds ∷ Fade ∷ []
