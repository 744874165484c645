-- The commands of the program, as its words say them.
use Rattle.std.specs.Prelude.{ℕ, ◌&&◌, ◌||◌, Bool, true, false, List, [], ◌∷◌, Option, Some, None, codes, if◌then◌else◌}
use Rattle.std.specs.Str.{bytes_eq}
use Rattle.brr_search.specs.declared.options.EncodeOptions.{EncodeOptions}
use Rattle.command_render.specs.Options.{Options}
use Rattle.command_serve.specs.declared.options.SessionOptions.{SessionOptions}
use Rattle.command_line.specs.EncodeWords.{encode_options_in}
use Rattle.command_line.specs.Options.{is_name, options_in, demo_number_in, origin_in, range_in}
use Rattle.command_line.specs.SessionWords.{session_options_in, muted_in}

-- a command with its names
pub data Command : Type 0 where
  usage : Command
  -- prints the commands
  help : Command
  -- prints the program's name and number
  version : Command
  -- decodes the blocks of the first name to the second
  brr : (input output : List ℕ) → Command
  -- prints the fields of an SPC file
  info : (input : List ℕ) → Command
  -- encodes the sound file of the first name to blocks under the second: with a loop or without, and along so many candidates
  encode : (input output : List ℕ) → (options : EncodeOptions) → Command
  -- renders the SPC file of the first name over the table of the second to a sound file of the third, and maybe to a trace
  render : (file table wave : List ℕ) → (options : Options) → Command
  -- makes the demo file of a number under the name
  demo : (number : ℕ) → (output : List ℕ) → Command
  -- prints sums over the frames of the demo file of a number
  check : (number : ℕ) → Command
  -- assembles the source of the first name from an origin on to code under the second
  asm : (input : List ℕ) → (origin : ℕ) → (output : List ℕ) → Command
  -- lists the code of the first name from an origin on under the second
  dis : (input : List ℕ) → (origin : ℕ) → (output : List ℕ) → Command
  -- writes wanted samples of an SPC file under names that begin with the prefix: those of the voices, and those of a range
  rip : (file prefix : List ℕ) → (range : Option (ℕ × ℕ)) → Command
  -- joins the cuts of the list of the third name, of the tune of the SPC file of the first and the table of the second with these
  -- voices muted, to a sound file of the fourth name
  cuts : (file table list wave : List ℕ) → (muted : ℕ) → Command
  -- runs the script of the third name over the SPC file of the first and the table of the second, by these options, and writes what
  -- is played to a sound file of the fourth name
  serve : (file table script wave : List ℕ) → (options : SessionOptions) → Command

-- a command that stands alone: no word comes after it
abbrev pub alone : Command → List (List ℕ) → Command
alone command [] = command
alone command (word ∷ words) = usage

-- the words after `brr`
abbrev pub brr_command : List (List ℕ) → Command
brr_command (input ∷ output ∷ []) = if is_name input && is_name output then brr input output else usage
brr_command words = usage

-- the words after `info`
abbrev pub info_command : List (List ℕ) → Command
info_command (input ∷ []) = if is_name input then info input else usage
info_command words = usage

-- `encode` with these names and options
abbrev pub encode_with : (input output : List ℕ) → Option EncodeOptions → Command
encode_with input output None = usage
encode_with input output (Some options) = encode input output options

-- the words after `encode`
abbrev pub encode_command : List (List ℕ) → Command
encode_command (input ∷ output ∷ words) = if is_name input && is_name output then encode_with input output (encode_options_in words) else usage
encode_command words = usage

-- the sound file and the trace have the same name
abbrev pub have_same_name : (wave : List ℕ) → (trace : Option (List ℕ)) → Bool
have_same_name wave None = false
have_same_name wave (Some trace) = bytes_eq wave trace

-- `render` with these names and options
abbrev pub render_with : (file table wave : List ℕ) → Option Options → Command
render_with file table wave None = usage
render_with file table wave (Some options) = if have_same_name wave options.trace then usage else render file table wave options

-- the words after `render`
abbrev pub render_command : List (List ℕ) → Command
render_command (file ∷ table ∷ wave ∷ words) =
    if is_name file && (is_name table && is_name wave) then render_with file table wave (options_in words) else usage
render_command words = usage

-- `demo` with this name
abbrev pub demo_with : (number : Option ℕ) → (output : List ℕ) → Command
demo_with None output = usage
demo_with (Some number) output = demo number output

-- the words after `demo`
abbrev pub demo_command : List (List ℕ) → Command
demo_command (number ∷ output ∷ []) = if is_name output then demo_with (demo_number_in number) output else usage
demo_command words = usage

abbrev pub check_with : (number : Option ℕ) → Command
check_with None = usage
check_with (Some number) = check number

-- the words after `check`
abbrev pub check_command : List (List ℕ) → Command
check_command (number ∷ []) = check_with (demo_number_in number)
check_command words = usage

-- `asm` and `dis` with these names
abbrev pub asm_with : (input : List ℕ) → (origin : Option ℕ) → (output : List ℕ) → Command
asm_with input None output = usage
asm_with input (Some origin) output = asm input origin output

abbrev pub dis_with : (input : List ℕ) → (origin : Option ℕ) → (output : List ℕ) → Command
dis_with input None output = usage
dis_with input (Some origin) output = dis input origin output

-- the words after `asm` and after `dis`
abbrev pub asm_command : List (List ℕ) → Command
asm_command (input ∷ origin ∷ output ∷ []) = if is_name input && is_name output then asm_with input (origin_in origin) output else usage
asm_command words = usage

abbrev pub dis_command : List (List ℕ) → Command
dis_command (input ∷ origin ∷ output ∷ []) = if is_name input && is_name output then dis_with input (origin_in origin) output else usage
dis_command words = usage

-- `rip` with a range, which its word has to say
abbrev pub rip_with : (file prefix : List ℕ) → (range : Option (ℕ × ℕ)) → Command
rip_with file prefix None = usage
rip_with file prefix (Some range) = rip file prefix (Some range)

-- `rip` with these names and the words after them: none, or a range
abbrev pub rip_over : (file prefix : List ℕ) → (words : List (List ℕ)) → Command
rip_over file prefix [] = rip file prefix None
rip_over file prefix (option ∷ range ∷ []) = if bytes_eq option (codes "--range") then rip_with file prefix (range_in range) else usage
rip_over file prefix words = usage

-- the words after `rip`
abbrev pub rip_command : List (List ℕ) → Command
rip_command (file ∷ prefix ∷ words) = if is_name file && is_name prefix then rip_over file prefix words else usage
rip_command words = usage

-- `cuts` with these names and muted voices
abbrev pub cuts_with : (file table list wave : List ℕ) → (muted : Option ℕ) → Command
cuts_with file table list wave None = usage
cuts_with file table list wave (Some muted) = cuts file table list wave muted

-- the words after `cuts`
abbrev pub cuts_command : List (List ℕ) → Command
cuts_command (file ∷ table ∷ list ∷ wave ∷ words) =
    if is_name file && (is_name table && (is_name list && is_name wave)) then cuts_with file table list wave (muted_in words) else usage
cuts_command words = usage

-- `serve` with these names and options
abbrev pub serve_with : (file table script wave : List ℕ) → Option SessionOptions → Command
serve_with file table script wave None = usage
serve_with file table script wave (Some options) = serve file table script wave options

-- the words after `serve`
abbrev pub serve_command : List (List ℕ) → Command
serve_command (file ∷ table ∷ script ∷ wave ∷ words) =
    if is_name file && (is_name table && (is_name script && is_name wave)) then serve_with file table script wave (session_options_in words) else usage
serve_command words = usage

-- the command that the words say
abbrev pub command_of : List (List ℕ) → Command
command_of [] = usage
command_of (name ∷ words) =
    if bytes_eq name (codes "help") || bytes_eq name (codes "--help") then alone help words
    else if bytes_eq name (codes "version") || bytes_eq name (codes "--version") then alone version words
    else if bytes_eq name (codes "brr") then brr_command words
    else if bytes_eq name (codes "info") then info_command words
    else if bytes_eq name (codes "encode") then encode_command words
    else if bytes_eq name (codes "render") then render_command words
    else if bytes_eq name (codes "demo") then demo_command words
    else if bytes_eq name (codes "check") then check_command words
    else if bytes_eq name (codes "asm") then asm_command words
    else if bytes_eq name (codes "dis") then dis_command words
    else if bytes_eq name (codes "rip") then rip_command words
    else if bytes_eq name (codes "cuts") then cuts_command words
    else if bytes_eq name (codes "serve") then serve_command words
    else usage
