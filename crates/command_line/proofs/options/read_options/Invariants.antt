use Rattle.std.proofs.Common.{◌≡◌, Some, length, map, string_bytes}
use Rattle.command_line.specs.Options.{options_with, options_from, options_in}
use Rattle.command_render.specs.Options.{options_of, SamplesWithinHour}
use Rattle.command_line.proofs.options.read_options.Given as goal

-- the options so far, and those that are left
abbrev pub invariant-options : goal.invariant-options
invariant-options l = record {
  options : options_from options_with (Some (options_of l.options)) (map string_bytes l.rest) ≡ options_in (map string_bytes l.words);
  within_hour : SamplesWithinHour l.options.samples;
}

abbrev pub decreases-options : goal.decreases-options
decreases-options l = length l.rest
