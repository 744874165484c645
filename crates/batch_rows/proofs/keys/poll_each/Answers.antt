use Rattle.std.proofs.Common.{rules, ◌≡◌, ◌≢◌, ◌+◌, ◌<◌, ℕ, suc, length, ap, sym, ◌∙◌, add-one, inl, inr, arith}
use Rattle.std.proofs.lemmas.Bool.{cases_lt}
use Rattle.std.proofs.lemmas.List.{length-set, get_or-set_other, get_or-replicate}
use Rattle.echo_unit.proofs.Entries.{with_entry}
use Rattle.dsp_state.specs.Sample.{after_poll}
use Rattle.dsp_state.specs.declared.state.ChipState.{ChipState}
use Rattle.batch_rows.specs.KeysAndNoise.{with_keys_of}
use Rattle.batch_rows.specs.Rows.{keys_after}
use Rattle.batch_rows.proofs.KeysApart.{no_poll, one_more_poll, unkeyed_later, all_keys}
use Rattle.batch_rows.proofs.keys.poll_each.Goals as goal

pub returns-clause-state : goal.returns-clause-state
returns-clause-state c =
    let made : c.loop-j.j ≡ c.keyed_samples-keyed.result = omega arith in
    c.loop-j.invariant.state
    ∙ (rw made (all_keys c.args.number c.args.state.now c.keyed_samples-keyed.result c.args.n c.keyed_samples-keyed.ensures.few (c.keyed_samples-keyed.ensures.rest c.args.number)))

pub returns-clause-kon_latched : goal.returns-clause-kon_latched
returns-clause-kon_latched c j below = elim (cases_lt j c.loop-j.j) [
  | inl early ↦ c.loop-j.invariant.kon_latched j early
  | inr late ↦ (let none = c.keyed_samples-keyed.ensures.rest c.args.number (omega (arith, late, below)) in
      c.loop-j.invariant.others j late (omega (arith, below, c.requires.few)) ∙ sym (unkeyed_later c.args.number c.args.state.now c.keyed_samples-keyed.result (suc j) (omega (arith, late)) none).kon_latched)
]

pub loop-j-init : goal.loop-j-init
loop-j-init c = record {
  state = no_poll c.args.number c.args.state.now;
  kon_latched = λ i below. absurd (omega (arith, below));
  others = λ i above within. get_or-replicate {A = ℕ} 64 i 0 0 within;
  long = search rules;
}

pub loop-j-preserved : goal.loop-j-preserved
loop-j-preserved c =
    let j : ℕ = c.loop-j.j in
    let place : c.from-in-loop-j.result ≡ j = c.from-in-loop-j.ensures in
    let from : c.from.result ≡ j = c.from.ensures in
    let within : j < length c.loop-j.kon = rw c.loop-j.invariant.long (omega (arith, c.loop-j-test.true, c.requires.few)) in
    let next : c.poll.new.state ≡ with_keys_of c.args.state.now (keys_after c.args.number c.args.state.now (suc j)) =
    rw from at c.poll.ensures.state ∙ ap (λ (s : ChipState). after_poll s (c.args.number + j)) c.loop-j.invariant.state ∙ one_more_poll c.args.number c.args.state.now j in
    record {
      state = rw add-one next;
      kon_latched =
          rw place (with_entry (λ i. (keys_after c.args.number c.args.state.now (suc i)).hidden.kon_latched) c.loop-j.kon j c.poll.new.state.hidden.kon_latched 0 within c.loop-j.invariant.kon_latched
          (ap (λ (s : ChipState). s.hidden.kon_latched) next));
      others = λ i above small.
          let other : i ≢ j = λ e. absurd (omega (arith, e, above)) in
          rw place (get_or-set_other c.loop-j.kon j i c.poll.new.state.hidden.kon_latched 0 other ∙ c.loop-j.invariant.others i (omega (arith, above)) small);
      long = search (rules, length-set, c.loop-j.invariant.long);
    }
