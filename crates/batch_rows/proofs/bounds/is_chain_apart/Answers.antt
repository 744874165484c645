use Rattle.std.proofs.Common.{rules, ◌≡◌, true}
use Rattle.reach_map.specs.Reach.{pages_of_bytes}
use Rattle.batch_rows.specs.BoundingPages.{window_from}
use Rattle.batch_rows.proofs.BoundingPages.{both_apart}
use Rattle.batch_rows.proofs.bounds.is_chain_apart.Goals as goal

pub returns : goal.returns
returns c is_so =
    let first : c.are_bytes_apart.result ≡ true = search rules in
    both_apart (pages_of_bytes c.args.block 162) (pages_of_bytes c.args.loop_word 162) (window_from c.args.esa c.args.len) (c.are_bytes_apart.ensures first) (c.are_bytes_apart-2.ensures is_so)
