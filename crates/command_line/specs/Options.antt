-- The options of `render`, and numbers, addresses and pages, as words say them.
use Rattle.std.specs.Prelude.{ℕ, ◌+◌, ◌*◌, ◌==◌, ◌&&◌, not, Bool, false, List, [], ◌∷◌, slice_index, Option, Some, None, Result, Ok, Err, codes, nat_le, if◌then◌else◌}
use Rattle.std.specs.Option.{option_map}
use Rattle.std.specs.Str.{bytes_eq}
use Rattle.hex.specs.Hex.{decode_sized}
use Rattle.hex.specs.declared.error.FromHexError.{FromHexError}
use Rattle.text_form.specs.Decimals.{decimal_value, is_number}
use Rattle.num_fix.specs.Limits.{max_frames}
use Rattle.page_pool.specs.Pool.{max_pages}
use Rattle.cut_form.specs.Checkpoints.{min_pages}
use Rattle.cut_form.specs.CutBook.{slots_for_cuts}
use Rattle.command_render.specs.Options.{Options}

abbrev pub no_options : Options
no_options = record { samples = None; trace = None; voices = None; muted = None }

-- A word that may name a file isn't empty and doesn't begin with a dash.
abbrev pub is_name : List ℕ → Bool
is_name [] = false
is_name (first ∷ word) = not (first == 45)

-- the greatest number of a demo file
abbrev pub max_number : ℕ
max_number = 4294967295

-- the number of samples that a word says in 1 to 9 digits: an hour of frames at most
abbrev pub count_in : List ℕ → Option ℕ
count_in word = if is_number 9 word && nat_le (decimal_value word) max_frames then Some (decimal_value word) else None

-- the number of a demo file that a word says in 1 to 10 digits: below 2 ^ 32
abbrev pub demo_number_in : List ℕ → Option ℕ
demo_number_in word = if is_number 10 word && nat_le (decimal_value word) max_number then Some (decimal_value word) else None

-- the name that a word says
abbrev pub name_in : List ℕ → Option (List ℕ)
name_in word = if is_name word then Some word else None

-- the byte that was decoded
abbrev pub first_byte : Result (List ℕ) FromHexError → Option ℕ
first_byte (Ok bytes) = Some (slice_index bytes 0)
first_byte (Err error) = None

-- the voices that a word says: two hexadecimal digits of either case
abbrev pub voices_in : List ℕ → Option ℕ
voices_in word = first_byte (decode_sized word 1)

-- the word that was decoded, its high byte first
abbrev pub first_word : Result (List ℕ) FromHexError → Option ℕ
first_word (Ok bytes) = Some (0x100 * slice_index bytes 0 + slice_index bytes 1)
first_word (Err error) = None

-- the address that a word says: four hexadecimal digits of either case
abbrev pub origin_in : List ℕ → Option ℕ
origin_in word = first_word (decode_sized word 2)

-- a range from a first to a last entry, which doesn't stand before the first
abbrev pub range_of : Result (List ℕ) FromHexError → Option (ℕ × ℕ)
range_of (Ok ends) = if nat_le (slice_index ends 0) (slice_index ends 1) then Some (slice_index ends 0, slice_index ends 1) else None
range_of (Err error) = None

-- the range that a word says: four hexadecimal digits of either case, two for the first entry and two for the last
abbrev pub range_in : List ℕ → Option (ℕ × ℕ)
range_in word = range_of (decode_sized word 2)

-- how many pages the checkpoints of a session have where no word says so
abbrev pub usual_pages : ℕ
usual_pages = slots_for_cuts

-- the number of pages that a word says in 1 to 5 digits
abbrev pub pages_in : List ℕ → Option ℕ
pages_in word =
    if is_number 5 word && (nat_le min_pages (decimal_value word) && nat_le (decimal_value word) max_pages) then Some (decimal_value word) else None

-- what an option is set to, unless it was set before
abbrev pub once : {T : Type 0} → (before value : Option T) → Option T
once None value = value
once (Some before) value = None

-- the options with one more: it has this name and this value
abbrev pub options_with : Options → (name value : List ℕ) → Option Options
options_with options name value =
    if bytes_eq name (codes "--samples") then option_map (λ samples. record options { samples = Some samples }) (once options.samples (count_in value))
    else if bytes_eq name (codes "--trace") then option_map (λ trace. record options { trace = Some trace }) (once options.trace (name_in value))
    else if bytes_eq name (codes "--voices") then option_map (λ voices. record options { voices = Some voices }) (once options.voices (voices_in value))
    else if bytes_eq name (codes "--mute") then option_map (λ muted. record options { muted = Some muted }) (once options.muted (voices_in value))
    else None

-- What words say after others: names and values in turn, each of which is one option more.
abbrev pub options_from : {T : Type 0} → (add : T → (name value : List ℕ) → Option T) → Option T → List (List ℕ) → Option T
options_from add None words = None
options_from add (Some options) [] = Some options
options_from add (Some options) (name ∷ []) = None
options_from add (Some options) (name ∷ value ∷ words) = options_from add (add options name value) words

-- the options of `render`
abbrev pub options_in : List (List ℕ) → Option Options
options_in words = options_from options_with (Some no_options) words
