-- The options of `serve` and of `cuts`, as words say them.
use Rattle.std.specs.Prelude.{◌≤◌, ℕ, List, [], ◌∷◌, Option, Some, None, IfSome, codes, unwrap_or, if◌then◌else◌}
use Rattle.std.specs.Option.{option_map}
use Rattle.std.specs.Str.{bytes_eq}
use Rattle.page_pool.specs.Pool.{max_pages}
use Rattle.cut_form.specs.Checkpoints.{min_pages}
use Rattle.command_serve.specs.declared.options.SessionOptions.{SessionOptions}
use Rattle.command_line.specs.Options.{once, voices_in, pages_in, usual_pages, options_from}
use Rattle.command_line.specs.declared.session_words.GivenOptions.{GivenOptions}

-- no option was given
abbrev pub none_given : GivenOptions
none_given = record { pages = None; muted = None }

-- a number of pages that was given is one that a pool may have
abbrev pub ArePagesInRange : GivenOptions → Type 0
ArePagesInRange given = IfSome given.pages (λ pages. (min_pages ≤ pages) × (pages ≤ max_pages))

-- the options of `serve` with one more: it has this name and this value
abbrev pub given_with : GivenOptions → (name value : List ℕ) → Option GivenOptions
given_with given name value =
    if bytes_eq name (codes "--pages") then option_map (λ pages. record given { pages = Some pages }) (once given.pages (pages_in value))
    else if bytes_eq name (codes "--mute") then option_map (λ muted. record given { muted = Some muted }) (once given.muted (voices_in value))
    else None

-- what was given of them, and what is usual for the others: no voice is muted
abbrev pub session_options : GivenOptions → SessionOptions
session_options given = record { pages = unwrap_or given.pages usual_pages; muted = unwrap_or given.muted 0 }

abbrev pub session_options_in : List (List ℕ) → Option SessionOptions
session_options_in words = option_map session_options (options_from given_with (Some none_given) words)

-- the muted voices of `cuts`: none, or those that a word says
abbrev pub muted_in : List (List ℕ) → Option ℕ
muted_in [] = Some 0
muted_in (name ∷ voices ∷ []) = if bytes_eq name (codes "--mute") then voices_in voices else None
muted_in words = None
