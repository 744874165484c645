use Rattle.std.proofs.Common.{◌≡◌, ◌-◌, false, arith, rules}
use Rattle.aram_core.specs.Memory.{byte_at}
use Rattle.brr_decode.specs.Header.{has_end}
use Rattle.reach_map.proofs.ChainInTwoParts.{blocks_go_on}
use Rattle.reach_map.proofs.voices.blocks_to_end.Goals as goal

pub loop-left-preserved : goal.loop-left-preserved
loop-left-preserved c =
    let goes_on : has_end (byte_at c.args.memory.now c.loop-left.block) ≡ false = search rules in
    let on = blocks_go_on c.args.memory.now c.loop-left.block c.loop-left.left (c.loop-left.left - 1) (omega arith) goes_on in
    rw c.block_after-block.ensures (record { so_far = omega (arith, on); within = omega arith })
