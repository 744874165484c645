use Rattle.std.proofs.Common.{arith, ◌∙◌, sym, ap, List, ℕ, ◌++◌, get_or, take}
use Rattle.std.proofs.lemmas.Grind.{common_steps}
use Rattle.std.specs.List.{flat_map}
use Rattle.std.proofs.lemmas.List.{flat_map_more, take_more}
use Rattle.report_text.specs.Texts.{shown_byte}
use Rattle.report_text.proofs.growing.put_text.Goals as goal

pub loop-byte-preserved : goal.loop-byte-preserved
loop-byte-preserved c =
    let text = c.args.text.now in
    let i = c.loop-byte.byte-index in
    let byte = get_or text i 0 in
    c.in_ok-put_shown.ensures
    ∙ ap (λ (l : List ℕ). l ++ shown_byte byte) c.loop-byte.invariant
    ∙ flat_map_more shown_byte c.args.report.now.items (take i text) byte
    ∙ ap (λ (l : List ℕ). c.args.report.now.items ++ flat_map shown_byte l) (sym (take_more text i 0 c.loop-byte-test.true))

pub returns : goal.returns
returns c = grind (arith, common_steps)
