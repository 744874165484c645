use Rattle.std.proofs.Common.{rules, refl, ◌∙◌, ap, List, ℕ}
use Rattle.std.specs.Prelude.{◌==◌}
use Rattle.std.specs.List.{list_any}
use Rattle.snd_host.specs.Memory.{rooms_of}
use Rattle.snd_host.proofs.MemCalls.{mem_makes}
use Rattle.snd_host.proofs.Steady.{no_failure_if_none_later}
use Rattle.snd_host.specs.Calls.{opened, not_opened}
use Rattle.snd_host.proofs.memory.MemHostHost.open_in.Goals as goal

pub returns-then-fails-clause-made : goal.returns-then-fails-clause-made
returns-then-fails-clause-made c =
    mem_makes c.args.self.now (not_opened c.args.name.now) _ c.count_call-fails.new.calls (rooms_of c.args.self.now) (search rules) refl refl c.count_call-fails.ensures.later refl tt
    (λ none_later. absurd (no_failure_if_none_later c.args.self.now.failing.items c.args.self.now.calls c.count_call-fails.result none_later (c.count_call-fails.ensures.fails ∙ ap (λ (l : List ℕ). list_any (λ number. number == c.args.self.now.calls) l) c.as_slice.ensures.value) c.if-fails.true))

pub returns-in_default-clause-made : goal.returns-in_default-clause-made
returns-in_default-clause-made c =
    mem_makes c.args.self.now (not_opened c.args.name.now) _ c.count_call-fails.new.calls (rooms_of c.args.self.now) (search rules) refl refl c.count_call-fails.ensures.later refl tt
    (λ none_later files known. search rules)

pub returns-clause-made : goal.returns-clause-made
returns-clause-made c =
    mem_makes c.args.self.now (opened c.args.name.now _) _ c.count_call-fails.new.calls (rooms_of c.args.self.now) (search rules) refl refl c.count_call-fails.ensures.later refl (search rules)
    (λ none_later. tt)
