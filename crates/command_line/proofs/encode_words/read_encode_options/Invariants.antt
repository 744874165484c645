use Rattle.std.proofs.Common.{◌≡◌, Some, length, map, string_bytes}
use Rattle.brr_search.specs.Options.{AreInRange}
use Rattle.command_line.specs.EncodeWords.{encode_options_from, encode_options_in}
use Rattle.command_line.proofs.encode_words.read_encode_options.Given as goal

-- the options so far, and those that are left
abbrev pub invariant-options : goal.invariant-options
invariant-options l = record {
  options : encode_options_from (Some l.options) (map string_bytes l.rest) ≡ encode_options_in (map string_bytes l.words);
  in_range : AreInRange l.options;
}

abbrev pub decreases-options : goal.decreases-options
decreases-options l = length l.rest
