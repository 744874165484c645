use Rattle.std.proofs.Common.{◌≡◌, ◌<◌, ℕ, length, take, refl, sym, ◌∙◌, arith}
use Rattle.std.proofs.lemmas.List.{length-set, take_more_set}
use Rattle.echo_unit.specs.Echo.{echo_heard, output_frame}
use Rattle.echo_unit.specs.EchoOverBatch.{EchoOver, main_of, echo_over_sums}
use Rattle.echo_unit.proofs.RunByRows.{echo_over-more, same_echo_over}
use Rattle.echo_unit.proofs.echo.Echo.play_each.Goals as goal

pub loop-j-preserved : goal.loop-j-preserved
loop-j-preserved c =
    let j : ℕ = c.loop-j.j in
    let batch : EchoOver = echo_over_sums c.args.regs.now c.args.sums.now c.args.self.now c.args.memory.now j in
    let place : c.from-place.result ≡ j = c.from-place.ensures in
    let within : j < length c.loop-j.frames = omega (arith, c.loop-j.invariant.long) in
    let frame : c.step.result ≡ output_frame c.args.regs.now (main_of c.args.sums.now j) (echo_heard batch.echo c.args.regs.now batch.memory) =
    rw (c.frame_at-main.ensures, place, c.loop-j.invariant.echo, c.loop-j.invariant.memory) at c.step.ensures.frame in
    record {
      echo = rw (echo_over-more, c.step.ensures.state, c.loop-j.invariant.echo, c.loop-j.invariant.memory) refl;
      memory = rw (echo_over-more, c.step.ensures.memory, c.frame_at-sent.ensures, place, c.loop-j.invariant.echo, c.loop-j.invariant.memory) refl;
      frames = rw (place, echo_over-more) (take_more_set c.loop-j.frames j c.step.result within ∙ (rw (c.loop-j.invariant.frames, frame) refl));
      long = length-set c.loop-j.frames c.from-place.result c.step.result ∙ c.loop-j.invariant.long;
    }

pub returns : goal.returns
returns c =
    let end : c.loop-j.j ≡ c.args.n = omega arith in
    record {
      batch = same_echo_over (echo_over_sums c.args.regs.now c.args.sums.now c.args.self.now c.args.memory.now c.args.n)
          c.loop-j.self c.loop-j.memory (take c.args.n c.loop-j.frames)
          (sym (rw end at c.loop-j.invariant.echo)) (sym (rw end at c.loop-j.invariant.memory)) (sym (rw end at c.loop-j.invariant.frames));
    }
