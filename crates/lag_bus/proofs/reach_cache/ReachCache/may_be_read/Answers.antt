use Rattle.std.proofs.Common.{sym}
use Rattle.lag_bus.proofs.reach_cache.ReachCache.may_be_read.Goals as goal

pub returns-then-is_marked_unread : goal.returns-then-is_marked_unread
returns-then-is_marked_unread g c = record { answer = sym (c.is_marked_unread.ensures _ _ _ c.requires c.if-is_marked_unread.true); known = c.requires }
