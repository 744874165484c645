use Rattle.std.proofs.Common.{rules, ◌≡◌, ◌+◌, ℕ, true, false, refl, sym, ap, ◌∙◌}
use Rattle.rate_clock.specs.Counter.{counter_at, fires}
use Rattle.envelope.specs.Envelope.{next_mode, sustain_level, nearest_level}
use Rattle.envelope.proofs.Still.{IsAtTarget, envelope_step-unfired, envelope_step-same_level, mode_after, hidden_after, level_after}
use Rattle.envelope.proofs.Envelope.samples_until_change_on.Goals as goal

-- rate 0 never fires
never : (rate counter : ℕ) → rate ≡ 0 → fires rate counter ≡ false
unfolding fires
never rate counter none = rw none refl

pub returns-then-ne-clause-then_changes : goal.returns-then-ne-clause-then_changes
returns-then-ne-clause-then_changes c k now few same =
    let kept = sym (mode_after c.args.self.now c.args.adsr1 c.args.adsr2 c.args.gain (counter_at (k + 0)) c.args.target.now c.requires.target) ∙ ap (λ e. e.mode) same in
    search rules

pub returns-then-target-self-clause-then_changes : goal.returns-then-target-self-clause-then_changes
returns-then-target-self-clause-then_changes c k now few same =
    let kept = sym (hidden_after c.args.self.now c.args.adsr1 c.args.adsr2 c.args.gain (counter_at (k + 0)) c.args.target.now c.requires.target) ∙ ap (λ e. e.hidden) same in
    search rules

pub returns-then-target-eq0-clause-unchanged : goal.returns-then-target-eq0-clause-unchanged
returns-then-target-eq0-clause-unchanged c k now j below =
    let value : c.args.target.now.value ≡ c.args.self.now.hidden = search rules in
    let mode : next_mode c.args.self.now.mode c.args.target.now.value (sustain_level c.args.adsr1 c.args.adsr2 c.args.gain) ≡ c.args.self.now.mode = search rules in
    let at : IsAtTarget c.args.self.now c.args.adsr1 c.args.adsr2 c.args.gain c.args.target.now = record { aim = c.requires.target; value = value; mode = mode } in
    let none : c.args.target.now.rate ≡ 0 = search rules in
    envelope_step-unfired c.args.self.now c.args.adsr1 c.args.adsr2 c.args.gain (counter_at (k + j)) c.args.target.now at (never c.args.target.now.rate (counter_at (k + j)) none)

pub returns-then-nearest_level-self-clause-unchanged : goal.returns-then-nearest_level-self-clause-unchanged
returns-then-nearest_level-self-clause-unchanged c k now j below =
    let value : c.args.target.now.value ≡ c.args.self.now.hidden = search rules in
    let mode : next_mode c.args.self.now.mode c.args.target.now.value (sustain_level c.args.adsr1 c.args.adsr2 c.args.gain) ≡ c.args.self.now.mode = search rules in
    let at : IsAtTarget c.args.self.now c.args.adsr1 c.args.adsr2 c.args.gain c.args.target.now = record { aim = c.requires.target; value = value; mode = mode } in
    let same : nearest_level c.args.target.now.value ≡ c.args.self.now.level = search rules in
    envelope_step-same_level c.args.self.now c.args.adsr1 c.args.adsr2 c.args.gain (counter_at (k + j)) c.args.target.now at same

pub returns-clause-unchanged : goal.returns-clause-unchanged
returns-clause-unchanged c k now j below =
    let value : c.args.target.now.value ≡ c.args.self.now.hidden = search rules in
    let mode : next_mode c.args.self.now.mode c.args.target.now.value (sustain_level c.args.adsr1 c.args.adsr2 c.args.gain) ≡ c.args.self.now.mode = search rules in
    let at : IsAtTarget c.args.self.now c.args.adsr1 c.args.adsr2 c.args.gain c.args.target.now = record { aim = c.requires.target; value = value; mode = mode } in
    envelope_step-unfired c.args.self.now c.args.adsr1 c.args.adsr2 c.args.gain (counter_at (k + j)) c.args.target.now at (c.until_fires.ensures.quiet k now j below)

pub returns-clause-then_changes : goal.returns-clause-then_changes
returns-clause-then_changes c k now few same =
    let fired : fires c.args.target.now.rate (counter_at (k + c.until_fires.result)) ≡ true = c.until_fires.ensures.then_fires k now in
    let kept = sym (level_after c.args.self.now c.args.adsr1 c.args.adsr2 c.args.gain (counter_at (k + c.until_fires.result)) c.args.target.now c.requires.target fired) ∙ ap (λ e. e.level) same in
    search rules
