use Rattle.std.proofs.Common.{sym}
use Rattle.reach_map.specs.Reach.{entry_pages}
use Rattle.reach_map.proofs.Added.{with_pages-none, with_pages-turn}
use Rattle.reach_map.proofs.voices.add_entries.Goals as goal

pub loop-entry-init : goal.loop-entry-init
loop-entry-init c = sym (with_pages-none c.args.pages.now)

pub loop-entry-preserved : goal.loop-entry-preserved
loop-entry-preserved c =
    rw (c.add_bytes.ensures, c.loop-entry.invariant) (with_pages-turn entry_pages c.args.pages.now c.args.entries.now c.loop-entry.entry-index 0 c.loop-entry-test.true)
