use Rattle.std.proofs.Common.{◌≡◌, ◌<◌, ℕ, Bool, true, false, if◌then◌else◌, refl, ◌∙◌, sym, get_or, slice_index, arith}
use Rattle.voice_unit.specs.declared.interface.VoiceOut.{VoiceOut}
use Rattle.dsp_state.specs.Results.{next_endx, bits_from}
use Rattle.batch_rows.proofs.EchoOver.{endx_after-more}
use Rattle.batch_rows.proofs.endx.gained_endx.Goals as goal

-- where none is latched, none is keyed
none_keyed : (polled : Bool) (kon : ℕ) → kon ≡ 0 → (if polled then kon else 0) ≡ 0
none_keyed true kon none = none
none_keyed false kon none = refl

pub loop-j-preserved : goal.loop-j-preserved
unfolding next_endx
loop-j-preserved c = record {
  endx = λ answers bits.
      let few : c.loop-j.j < c.args.n = c.loop-j-test.true in
      let place = c.from.ensures in
      let none : slice_index c.args.rows.now.kon c.loop-j.j ≡ 0 = c.requires.unkeyed c.loop-j.j (omega (arith, few, c.requires.few)) in
      let unkeyed : (if get_or c.args.rows.now.poll c.loop-j.j false then slice_index c.args.rows.now.kon c.loop-j.j else 0) ≡ 0 =
      none_keyed (get_or c.args.rows.now.poll c.loop-j.j false) (slice_index c.args.rows.now.kon c.loop-j.j) none in
      let keyed : bits_from (λ (answer : VoiceOut). answer.keyed) 0 (answers c.loop-j.j) ≡ 0 = sym (bits.keyed c.loop-j.j few) ∙ unkeyed in
      rw (endx_after-more, ← c.loop-j.invariant.endx answers bits, ← bits.ended c.loop-j.j few, keyed, c.next_endx-now.ensures, place) refl;
}
