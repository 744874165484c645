use Rattle.std.proofs.Common.{◌≡◌, Some, length, map, string_bytes}
use Rattle.command_line.specs.Options.{options_from}
use Rattle.command_line.specs.SessionWords.{none_given, given_with, ArePagesInRange}
use Rattle.command_line.proofs.session_words.read_given.Given as goal

-- the options so far, and those that are left
abbrev pub invariant-options : goal.invariant-options
invariant-options l = record {
  options : options_from given_with (Some l.given) (map string_bytes l.rest) ≡ options_from given_with (Some none_given) (map string_bytes l.words);
  in_range : ArePagesInRange l.given;
}

abbrev pub decreases-options : goal.decreases-options
decreases-options l = length l.rest
