-- The options of `encode`, as words say them.
use Rattle.std.specs.Prelude.{ℕ, ◌%◌, ◌==◌, ◌&&◌, true, false, List, [], ◌∷◌, Option, Some, None, codes, nat_le, if◌then◌else◌}
use Rattle.std.specs.Option.{option_map}
use Rattle.std.specs.Str.{bytes_eq}
use Rattle.text_form.specs.Decimals.{decimal_value, is_number}
use Rattle.brr_encode.specs.Encoding.{max_samples}
use Rattle.brr_search.specs.Options.{max_candidates}
use Rattle.brr_search.specs.declared.options.EncodeOptions.{EncodeOptions}
use Rattle.command_line.specs.Options.{once}

abbrev pub no_encode_options : EncodeOptions
no_encode_options = record { looped = false; candidates = None; loop_at = None }

-- the number of candidates that a word says in 1 or 2 digits: 1 to 64
abbrev pub candidates_in : List ℕ → Option ℕ
candidates_in word =
    if is_number 2 word && (nat_le 1 (decimal_value word) && nat_le (decimal_value word) max_candidates) then Some (decimal_value word) else None

-- the sample that a word says in 1 to 6 digits: a multiple of 16, and no more than the most samples
abbrev pub loop_at_in : List ℕ → Option ℕ
loop_at_in word =
    if is_number 6 word && (nat_le (decimal_value word) max_samples && (decimal_value word % 16 == 0)) then Some (decimal_value word) else None

-- the options with `--loop`, unless it was said before
abbrev pub with_loop : EncodeOptions → Option EncodeOptions
with_loop options = if options.looped then None else Some (record options { looped = true })

-- the options with one more that has a value: it has this name and this value
abbrev pub encode_options_with : EncodeOptions → (name value : List ℕ) → Option EncodeOptions
encode_options_with options name value =
    if bytes_eq name (codes "--search") then option_map (λ candidates. record options { candidates = Some candidates }) (once options.candidates (candidates_in value))
    else if bytes_eq name (codes "--loop-at") then option_map (λ sample. record options { loop_at = Some sample }) (once options.loop_at (loop_at_in value))
    else None

-- the options that words say after others: `--loop` stands alone, the others have a value
abbrev pub encode_options_from : Option EncodeOptions → List (List ℕ) → Option EncodeOptions
encode_options_from None words = None
encode_options_from (Some options) [] = Some options
encode_options_from (Some options) (name ∷ []) = if bytes_eq name (codes "--loop") then with_loop options else None
encode_options_from (Some options) (name ∷ value ∷ words) =
    if bytes_eq name (codes "--loop") then encode_options_from (with_loop options) (value ∷ words)
    else encode_options_from (encode_options_with options name value) words

abbrev pub encode_options_in : List (List ℕ) → Option EncodeOptions
encode_options_in words = encode_options_from (Some no_encode_options) words
