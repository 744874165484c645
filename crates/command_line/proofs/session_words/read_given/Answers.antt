use Rattle.std.proofs.Common.{◌≡◌, ◌∙◌, sym, ap, ◌-◌, Option, Some, None, length, take, drop, map, string_bytes, Global}
use Rattle.command_line.specs.Options.{options_from}
use Rattle.command_line.specs.SessionWords.{given_with}
use Rattle.command_line.specs.declared.session_words.GivenOptions.{GivenOptions}
use Rattle.command_line.proofs.OptionWords.{next_options}
use Rattle.command_line.proofs.session_words.read_given.Goals as goal

pub returns-in-None-clause-options : goal.returns-in-None-clause-options
returns-in-None-clause-options c =
    let o = c.options.given in
    let rest = c.options.rest.now in
    let name = c.as_str.ensures.value in
    let value = c.as_str-in-len2-up.ensures.value in
    let next = next_options given_with (string_bytes {Z = Global}) o rest c.name-item.result c.value-item.result c.in-len2-up.len_at_least c.name-item.is c.value-item.is in
    let stop : given_with o (string_bytes c.name-item.result) (string_bytes c.value-item.result) ≡ None = sym (c.in-None.ensures.options ∙ (λ i. given_with o (name i) (value i))) in
    sym (next ∙ ap (λ (found : Option GivenOptions). options_from given_with found (map (string_bytes {Z = Global}) (take (length rest - 2) (drop 2 rest)))) stop) ∙ c.options.invariant.options

pub options-preserved : goal.options-preserved
options-preserved c =
    let o = c.options.given in
    let rest = c.options.rest.now in
    let name = c.as_str.ensures.value in
    let value = c.as_str-in-len2-up.ensures.value in
    let next = next_options given_with (string_bytes {Z = Global}) o rest c.name-item.result c.value-item.result c.in-len2-up.len_at_least c.name-item.is c.value-item.is in
    let more : Some c.in-Some.more ≡ given_with o (string_bytes c.name-item.result) (string_bytes c.value-item.result) = c.in-Some.ensures.options ∙ (λ i. given_with o (name i) (value i)) in
    record {
      options = ap (λ (found : Option GivenOptions). options_from given_with found (map (string_bytes {Z = Global}) (take (length rest - 2) (drop 2 rest)))) more ∙ sym next ∙ c.options.invariant.options;
      in_range = c.in-Some.ensures.in_range;
    }
