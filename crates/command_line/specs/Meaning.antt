-- What the words that were read mean.
use Rattle.brr_search.specs.Options as encoding
use Rattle.command_line.specs.Command as command
use Rattle.command_render.specs.Options.{options_of, SamplesWithinHour}
use Rattle.command_serve.specs.Serve.{AreOptionsInRange}
use Rattle.command_line.specs.declared.words.Command.{Command}
use Rattle.command_line.specs.declared.words.Command.TheVariants.{Usage, Help, Version, Brr, Info, Encode, Render, Demo, Check, Asm, Dis, Rip, Cuts, Serve}

-- The numbers are in range: an hour of frames at most, as many candidates as may be kept open, and pages that a pool may have.
abbrev pub AreInRange : Command → Type 0
AreInRange Usage = Unit {0}
AreInRange Help = Unit {0}
AreInRange Version = Unit {0}
AreInRange (Brr input output) = Unit {0}
AreInRange (Info input) = Unit {0}
AreInRange (Encode input output options) = encoding.AreInRange options
AreInRange (Render file table wave options) = SamplesWithinHour options.samples
AreInRange (Demo number output) = Unit {0}
AreInRange (Check number) = Unit {0}
AreInRange (Asm input origin output) = Unit {0}
AreInRange (Dis input origin output) = Unit {0}
AreInRange (Rip file prefix range) = Unit {0}
AreInRange (Cuts file table list wave muted) = Unit {0}
AreInRange (Serve file table script wave options) = AreOptionsInRange options

abbrev pub meaning_of : Command → command.Command
meaning_of Usage = command.usage
meaning_of Help = command.help
meaning_of Version = command.version
meaning_of (Brr input output) = command.brr input.now output.now
meaning_of (Info input) = command.info input.now
meaning_of (Encode input output options) = command.encode input.now output.now options
meaning_of (Render file table wave options) = command.render file.now table.now wave.now (options_of options)
meaning_of (Demo number output) = command.demo number output.now
meaning_of (Check number) = command.check number
meaning_of (Asm input origin output) = command.asm input.now origin output.now
meaning_of (Dis input origin output) = command.dis input.now origin output.now
meaning_of (Rip file prefix range) = command.rip file.now prefix.now range
meaning_of (Cuts file table list wave muted) = command.cuts file.now table.now list.now wave.now muted
meaning_of (Serve file table script wave options) = command.serve file.now table.now script.now wave.now options
