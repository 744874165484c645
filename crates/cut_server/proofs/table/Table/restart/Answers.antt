use Rattle.std.proofs.Common.{◌∙◌, ap, arith}
use Rattle.cut_form.specs.Checkpoints.{pages_of, own_slots, with_checkpoint}
use Rattle.cut_server.specs.Table.{live_checkpoints}
use Rattle.cut_server.proofs.Restarting.{live_none, needed_all, used_none, saved_alone}
use Rattle.cut_server.proofs.table.Table.restart.Goals as goal

pub add-requires-clause-few : goal.add-requires-clause-few
add-requires-clause-few g c = omega (arith, c.len-live.ensures.samples, c.len-live.ensures.live, c.clear.ensures.none)

pub add-requires-clause-pages : goal.add-requires-clause-pages
add-requires-clause-pages g c =
    omega (
      arith,
      ap own_slots c.shared_pages-shared.ensures,
      needed_all (live_checkpoints c.clear.new.self) c.args.memory.now c.clear.ensures.none,
      c.free-free.ensures.pool,
      c.free-free.ensures.free,
      used_none (live_checkpoints c.clear.new.self) c.clear.ensures.none,
      c.clear.ensures.size,
      c.requires,
    )

pub returns-clause-saved : goal.returns-clause-saved
returns-clause-saved g c = saved_alone c.clear.new.self.pool c.clear.new.self.checkpoints _ _ c.clear.ensures.none c.add.ensures.saved

pub returns-clause-live : goal.returns-clause-live
returns-clause-live g c = c.add.ensures.live ∙ ap (λ l. with_checkpoint l 0 (pages_of c.args.memory.now)) (live_none (live_checkpoints c.clear.new.self) c.clear.ensures.none)
