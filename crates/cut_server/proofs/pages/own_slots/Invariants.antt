use Rattle.std.proofs.Common.{◌≡◌, take, not}
use Rattle.std.specs.List.{count_by}
use Rattle.cut_server.proofs.pages.own_slots.Given as goal

abbrev pub invariant-loop-page : goal.invariant-loop-page
invariant-loop-page l = l.own ≡ count_by not (take l.page l.shared)
