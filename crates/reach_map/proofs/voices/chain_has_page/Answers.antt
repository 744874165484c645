use Rattle.std.proofs.Common.{◌∙◌, sym}
use Rattle.reach_map.proofs.PageOfBytes.{apart_from_chain}
use Rattle.reach_map.proofs.voices.chain_has_page.Goals as goal

pub returns-then-not-bytes_have_page : goal.returns-then-not-bytes_have_page
returns-then-not-bytes_have_page c =
    sym (apart_from_chain c.args.memory.now c.args.start.loop_word 18 c.args.start.block c.args.page (sym c.bytes_have_page.ensures ∙ c.if-bytes_have_page.false) (sym c.bytes_have_page-2.ensures ∙ c.if-not-bytes_have_page.true))
