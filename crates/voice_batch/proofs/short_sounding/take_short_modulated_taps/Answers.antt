use Rattle.std.proofs.Common.{◌≡◌, ◌+◌, ◌*◌, ◌<◌, ◌∙◌, ℕ, slice_index, refl, arith, below_more}
use Rattle.voice_batch.specs.OutsOverRow.{short_mixed_at}
use Rattle.voice_unit.specs.Voice.{interpolation}
use Rattle.voice_batch.proofs.short_sounding.take_short_modulated_taps.Goals as goal

-- what holds of the entries below a number and of two from there on
two_more : (n m : ℕ) (P : ℕ → Type 0) → m ≡ n + 2 → ((i : ℕ) → i < n → P i) → P n → P (n + 1) → (i : ℕ) → i < m → P i
two_more n m P is below p0 p1 = let two : m ≡ n + 1 + 1 = omega arith in rw two (below_more P (n + 1) (below_more P n below p0) p1)

pub loop-c-preserved : goal.loop-c-preserved
loop-c-preserved c =
    let n : ℕ = 2 * c.loop-c.c in
    record {
      taps = λ table are. two_more n (2 * (c.loop-c.c + 1)) (λ i. short_mixed_at c.put_two.new.taps i ≡ interpolation table c.args.row.now (slice_index c.args.phases.now i))
          (omega arith)
          (λ i below. c.put_two.ensures.before i below ∙ c.loop-c.invariant.taps table are i below)
          (c.put_two.ensures.first table (slice_index c.args.phases.now n) are refl)
          (c.put_two.ensures.second table (slice_index c.args.phases.now (n + 1)) are refl);
    }
