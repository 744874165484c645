use Rattle.std.proofs.Common.{◌≡◌, ◌∙◌, ap, Option, ℕ}
use Rattle.sample_rip.specs.Rip.{last_block, block_count, end_after}
use Rattle.sample_rip.proofs.finding.found_from.Goals as goal

pub returns-clause-found : goal.returns-clause-found
returns-clause-found c =
    let count : c.block_count.result ≡ block_count (last_block c.args.memory.now c.args.start) = c.block_count.ensures.count ∙ ap block_count c.last_block-last.ensures.block in
    let ending : c.end_after.result ≡ end_after c.args.memory.now c.args.start c.args.address (last_block c.args.memory.now c.args.start) =
    c.end_after.ensures ∙ ap (λ (last : Option ℕ). end_after c.args.memory.now c.args.start c.args.address last) c.last_block-last.ensures.block in
    λ i. record { start = c.args.start; blocks = count i; «end» = ending i }
