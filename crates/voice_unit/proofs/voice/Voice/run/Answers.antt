use Rattle.std.proofs.Common.{rules, ◌≡◌, ◌+◌, ◌<◌, length, to_z, of_z, suc, ◌∙◌, add-one, arith}
use Rattle.std.specs.Int.{w16}
use Rattle.std.proofs.lemmas.List.{length-set}
use Rattle.num_fix.specs.SignedWords.{number_at}
use Rattle.rate_clock.specs.Counter.{counter_at}
use Rattle.voice_unit.specs.Batch.{lane_input, lane_of}
use Rattle.voice_unit.specs.RunOfVoice.{outs_of}
use Rattle.voice_unit.proofs.OneMoreStep.{none_run, one_more_run}
use Rattle.voice_unit.proofs.voice.Voice.run.Goals as goal

pub loop-j-init : goal.loop-j-init
loop-j-init c = record {
  clock = λ k is. let none : k + 0 ≡ k = omega arith in rw none is;
  run = λ k is. none_run (lane_of c.args.reads.now (outs_of c.args.previous.now) c.args.self.now k) c.args.out.now;
  long = search rules;
}

pub loop-j-preserved : goal.loop-j-preserved
loop-j-preserved c =
    let j = c.loop-j.j in
    let place : c.from.result ≡ j = c.from.ensures in
    let whole : to_z w16 (of_z w16 c.out.result) ≡ c.out.result = search rules in
    let previous : c.out.result ≡ number_at (outs_of c.args.previous.now) j = c.out.ensures in
    let long : j < length c.loop-j.out.items = rw c.loop-j.invariant.long (omega (arith, c.loop-j-test.true, c.requires.few)) in
    let input : c.input-input.result ≡ lane_input c.args.reads.now.seen c.args.reads.now.rows.now (number_at (outs_of c.args.previous.now) j) j =
    rw (whole, previous) at c.input-input.ensures.value in
    record {
      clock = λ k is.
          let further : k + (j + 1) ≡ suc (k + j) = omega arith in
          rw further (rw add-one at (c.step.ensures.counts (suc (k + j)) (c.loop-j.invariant.clock k is)));
      run = λ k is.
          let counter : c.loop-j.clock ≡ counter_at (k + j) = c.loop-j.invariant.clock k is in
          rw place (one_more_run (lane_of c.args.reads.now (outs_of c.args.previous.now) c.args.self.now k) j
          c.args.out.now c.loop-j.out c.loop-j.self c.step-answer.new.self c.step-answer.result (c.loop-j.invariant.run k is) long
          (rw (input, counter) at c.step-answer.ensures.voice) (rw (input, counter) at c.step-answer.ensures.answer));
      long = length-set c.loop-j.out.items c.from.result c.step-answer.result ∙ c.loop-j.invariant.long;
    }

pub returns : goal.returns
returns c k is = let done : c.loop-j.j ≡ c.args.n = omega (arith, c.loop-j.auto.j-end, c.loop-j-test.false) in rw done at (c.loop-j.invariant.run k is)
