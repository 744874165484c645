use Rattle.std.proofs.Common.{◌≡◌, ◌+◌, ◌*◌, ◌<◌, ◌∙◌, ℕ, arith, below_more}
use Rattle.voice_batch.specs.OutsOverRow.{short_mixed_at}
use Rattle.voice_unit.specs.Voice.{interpolation}
use Rattle.voice_batch.proofs.short_sounding.take_short_taps.Goals as goal

-- what holds of the entries below a number and of four from there on
four_more : (n m : ℕ) (P : ℕ → Type 0) → m ≡ n + 4 → ((i : ℕ) → i < n → P i) → P n → P (n + 1) → P (n + 2) → P (n + 2 + 1) → (i : ℕ) → i < m → P i
four_more n m P is below p0 p1 p2 p3 =
    let two : n + 2 ≡ n + 1 + 1 = omega arith in
    let four : m ≡ n + 1 + 1 + 1 + 1 = omega arith in
    rw four (below_more P (n + 1 + 1 + 1) (below_more P (n + 1 + 1) (below_more P (n + 1) (below_more P n below p0) p1) (rw two at p2)) (rw two at p3))

pub loop-c-preserved : goal.loop-c-preserved
loop-c-preserved c =
    let n : ℕ = 4 * c.loop-c.c in
    let pitch : ℕ = c.args.pitch in
    let step : c.from-step.result ≡ pitch = c.from-step.ensures in
    let phase : c.loop-c.phase ≡ 16 * (c.args.position + n * pitch) = c.loop-c.invariant.phase in
    let first = c.put_two.ensures in
    let then = c.put_two-in-loop-c.ensures in
    record {
      taps = λ table are. four_more n (4 * (c.loop-c.c + 1)) (λ i. short_mixed_at c.put_two-in-loop-c.new.taps i ≡ interpolation table c.args.row.now (c.args.position + i * pitch))
          (omega arith)
          (λ i below. then.before i (omega arith) ∙ first.before i below ∙ c.loop-c.invariant.taps table are i below)
          (then.before n (omega arith) ∙ first.first table (c.args.position + n * pitch) are phase)
          (then.before (n + 1) (omega arith) ∙ first.second table (c.args.position + (n + 1) * pitch) are (rw step (omega (arith, phase))))
          (then.first table (c.args.position + (n + 2) * pitch) are (rw step (omega (arith, phase))))
          (then.second table (c.args.position + (n + 2 + 1) * pitch) are (rw step (omega (arith, phase))));
      phase = rw step (omega (arith, phase));
      bound = rw step (omega (arith, c.loop-c.invariant.bound));
    }
