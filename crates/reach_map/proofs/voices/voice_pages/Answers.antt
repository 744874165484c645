use Rattle.std.proofs.Common.{◌∙◌, flat_map}
use Rattle.reach_map.specs.Reach.{chain_pages, entry_pages, voice_pages}
use Rattle.reach_map.proofs.Added.{with_pages-empty, with_pages-append}
use Rattle.std.specs.FinSet as set
use Rattle.reach_map.proofs.voices.voice_pages.Goals as goal

pub returns : goal.returns
returns c =
    rw (c.add_chains.ensures, c.add_entries.ensures, c.empty-pages.ensures)
    (with_pages-append set.empty (flat_map entry_pages c.args.entries.now) (flat_map (chain_pages c.args.memory.now) c.args.starts.now)
    ∙ with_pages-empty (voice_pages c.args.memory.now c.args.starts.now c.args.entries.now))
