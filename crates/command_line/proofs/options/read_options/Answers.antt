use Rattle.std.proofs.Common.{◌≡◌, ◌∙◌, sym, ap, ◌-◌, Option, Some, None, length, take, drop, map, string_bytes, Global}
use Rattle.command_render.specs.Options.{Options}
use Rattle.command_line.specs.Options.{options_with, options_from}
use Rattle.command_render.specs.Options.{options_of}
use Rattle.command_line.proofs.OptionWords.{next_options}
use Rattle.command_line.proofs.options.read_options.Goals as goal

pub returns-in-None-clause-options : goal.returns-in-None-clause-options
returns-in-None-clause-options c =
    let o = options_of c.options.options in
    let rest = c.options.rest.now in
    let name = c.as_str.ensures.value in
    let value = c.as_str-in-len2-up.ensures.value in
    let next = next_options options_with (string_bytes {Z = Global}) o rest c.name-item.result c.value-item.result c.in-len2-up.len_at_least c.name-item.is c.value-item.is in
    let stop : options_with o (string_bytes c.name-item.result) (string_bytes c.value-item.result) ≡ None = sym (c.in-None.ensures.options ∙ (λ i. options_with o (name i) (value i))) in
    sym (next ∙ ap (λ (found : Option Options). options_from options_with found (map (string_bytes {Z = Global}) (take (length rest - 2) (drop 2 rest)))) stop) ∙ c.options.invariant.options

pub options-preserved : goal.options-preserved
options-preserved c =
    let o = options_of c.options.options in
    let rest = c.options.rest.now in
    let name = c.as_str.ensures.value in
    let value = c.as_str-in-len2-up.ensures.value in
    let next = next_options options_with (string_bytes {Z = Global}) o rest c.name-item.result c.value-item.result c.in-len2-up.len_at_least c.name-item.is c.value-item.is in
    let more : Some (options_of c.in-Some.more) ≡ options_with o (string_bytes c.name-item.result) (string_bytes c.value-item.result) = c.in-Some.ensures.options ∙ (λ i. options_with o (name i) (value i)) in
    record {
      options = ap (λ (found : Option Options). options_from options_with found (map (string_bytes {Z = Global}) (take (length rest - 2) (drop 2 rest)))) more ∙ sym next ∙ c.options.invariant.options;
      within_hour = c.in-Some.ensures.within_hour;
    }
