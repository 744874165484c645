use Rattle.std.proofs.Common.{◌≡◌, ◌∙◌, sym, ap, ◌-◌, List, ℕ, Option, Some, true, false, length, take, drop, map, string_bytes, Global}
use Rattle.std.specs.Prelude.{codes}
use Rattle.std.specs.Str.{bytes_eq}
use Rattle.brr_search.specs.declared.options.EncodeOptions.{EncodeOptions}
use Rattle.command_line.specs.EncodeWords.{encode_options_with, encode_options_from}
use Rattle.command_line.proofs.EncodeWords.{next_loop, next_pair, from_both}
use Rattle.command_line.proofs.encode_words.take_option.Goals as goal

pub returns-in-len1-up-clause-none : goal.returns-in-len1-up-clause-none
returns-in-len1-up-clause-none c none =
    let tail = take (length c.args.words.now - 1) (drop 1 c.args.words.now) in
    let loop : bytes_eq (string_bytes c.name-item.result) (codes "--loop") ≡ true = ap (λ (w : List ℕ). bytes_eq w (codes "--loop")) (sym c.as_str.ensures.value) ∙ sym c.eq.ensures ∙ c.if-eq.true in
    let next = next_loop (string_bytes {Z = Global}) c.args.options c.args.words.now c.name-item.result c.in-len1-up.len_at_least c.name-item.is loop in
    next ∙ ap (λ (o : Option EncodeOptions). encode_options_from o (map (string_bytes {Z = Global}) tail)) (sym c.with_loop.ensures.options ∙ c.taken.ensures.none none)

pub returns-in-len1-up-clause-options : goal.returns-in-len1-up-clause-options
returns-in-len1-up-clause-options c =
    let tail = take (length c.args.words.now - 1) (drop 1 c.args.words.now) in
    let loop : bytes_eq (string_bytes c.name-item.result) (codes "--loop") ≡ true = ap (λ (w : List ℕ). bytes_eq w (codes "--loop")) (sym c.as_str.ensures.value) ∙ sym c.eq.ensures ∙ c.if-eq.true in
    let next = next_loop (string_bytes {Z = Global}) c.args.options c.args.words.now c.name-item.result c.in-len1-up.len_at_least c.name-item.is loop in
    from_both c.taken.result _ _ _ c.taken.ensures.options c.taken.ensures.rest
    (λ t options rest. next ∙ ap (λ (o : Option EncodeOptions). encode_options_from o (map (string_bytes {Z = Global}) tail)) (sym c.with_loop.ensures.options ∙ options)
    ∙ ap (λ l. encode_options_from (Some t.options) (map (string_bytes {Z = Global}) l)) (sym rest))

pub returns-in-len2-up-clause-none : goal.returns-in-len2-up-clause-none
returns-in-len2-up-clause-none c none =
    let tail = take (length c.args.words.now - 2) (drop 2 c.args.words.now) in
    let other : bytes_eq (string_bytes c.name-item.result) (codes "--loop") ≡ false = ap (λ (w : List ℕ). bytes_eq w (codes "--loop")) (sym c.as_str.ensures.value) ∙ sym c.eq.ensures ∙ c.if-eq.false in
    let next = next_pair (string_bytes {Z = Global}) c.args.options c.args.words.now c.name-item.result c.name-item-2.result c.value-item.result c.in-len2-up.len_at_least c.name-item.is other c.name-item-2.is c.value-item.is in
    let options_are = sym (c.options_with.ensures.options ∙ (λ i. encode_options_with c.args.options (c.as_str-in-len2-up.ensures.value i) (c.as_str-in-len2-up-2.ensures.value i))) in
    next ∙ ap (λ (o : Option EncodeOptions). encode_options_from o (map (string_bytes {Z = Global}) tail)) (options_are ∙ c.taken-in-len2-up.ensures.none none)

pub returns-in-len2-up-clause-options : goal.returns-in-len2-up-clause-options
returns-in-len2-up-clause-options c =
    let tail = take (length c.args.words.now - 2) (drop 2 c.args.words.now) in
    let other : bytes_eq (string_bytes c.name-item.result) (codes "--loop") ≡ false = ap (λ (w : List ℕ). bytes_eq w (codes "--loop")) (sym c.as_str.ensures.value) ∙ sym c.eq.ensures ∙ c.if-eq.false in
    let next = next_pair (string_bytes {Z = Global}) c.args.options c.args.words.now c.name-item.result c.name-item-2.result c.value-item.result c.in-len2-up.len_at_least c.name-item.is other c.name-item-2.is c.value-item.is in
    let options_are = sym (c.options_with.ensures.options ∙ (λ i. encode_options_with c.args.options (c.as_str-in-len2-up.ensures.value i) (c.as_str-in-len2-up-2.ensures.value i))) in
    from_both c.taken-in-len2-up.result _ _ _ c.taken-in-len2-up.ensures.options c.taken-in-len2-up.ensures.rest
    (λ t options rest. next ∙ ap (λ (o : Option EncodeOptions). encode_options_from o (map (string_bytes {Z = Global}) tail)) (options_are ∙ options)
    ∙ ap (λ l. encode_options_from (Some t.options) (map (string_bytes {Z = Global}) l)) (sym rest))
