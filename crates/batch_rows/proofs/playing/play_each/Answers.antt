use Rattle.std.proofs.Common.{rules, ◌≡◌, ◌<◌, ℕ, pos, length, slice_index, sym, ◌∙◌, arith}
use Rattle.std.proofs.lemmas.List.{length-set, get_or-replicate}
use Rattle.batch_rows.specs.PlayedLane.{LaneMade}
use Rattle.batch_rows.specs.Rows.{inputs}
use Rattle.dsp_state.specs.declared.registers.TheConstants.{PMON}
use Rattle.batch_rows.proofs.Unmodulated.{played_over, same_pmon}
use Rattle.batch_rows.proofs.VoiceMore.{voices_more}
use Rattle.batch_rows.proofs.Remains.{none_played, all_played, last_more, ends_more, sum_more}
use Rattle.batch_rows.proofs.playing.play_each.Goals as goal

pub loop-v-init : goal.loop-v-init
loop-v-init c = record {
  remains = λ k s are.
      none_played (inputs k s c.args.reads.now.memory.now) c.args.n c.args.volumes.now c.args.voices.now c.clear_rows.new.rows.outs c.args.made.now.last c.clear_rows.new.rows.ends c.clear_sums.new.sums
      (λ j few. rw c.clear_rows.ensures.outs (sym (get_or-replicate 64 j (pos 0) (pos 0) (omega (arith, few, c.requires.few)))))
      (λ j few. rw c.clear_rows.ensures.ends (get_or-replicate {A = ℕ} 64 j 0 0 (omega (arith, few, c.requires.few))))
      (λ j few. rw c.clear_sums.ensures (get_or-replicate 64 j (pos 0) (pos 0) (omega (arith, few, c.requires.few))))
      (λ j few. rw c.clear_sums.ensures (get_or-replicate 64 j (pos 0) (pos 0) (omega (arith, few, c.requires.few))))
      (λ j few. rw c.clear_sums.ensures (get_or-replicate 64 j (pos 0) (pos 0) (omega (arith, few, c.requires.few))))
      (λ j few. rw c.clear_sums.ensures (get_or-replicate 64 j (pos 0) (pos 0) (omega (arith, few, c.requires.few))))
      c.requires.some;
  taken = λ some modulated. sym c.clear_rows.ensures.outs;
  lower = λ j below. rw (c.clear_rows.ensures.ends, get_or-replicate {A = ℕ} 64 j 0 0 below) (omega arith);
  eight = search rules;
  eight_answers = search rules;
}

pub loop-v-preserved : goal.loop-v-preserved
loop-v-preserved c =
    let v : ℕ = c.loop-v.v in
    let place : c.from-place.result ≡ v = c.from-place.ensures in
    let within : v < length c.loop-v.voices = rw c.loop-v.invariant.eight c.loop-v-test.true in
    let within_answers : v < length c.loop-v.made.last = rw c.loop-v.invariant.eight_answers c.loop-v-test.true in
    let within_volumes : v < length c.args.volumes.now = rw c.told-volumes c.loop-v-test.true in
    record {
      remains = λ k s are.
          let before = c.loop-v.invariant.remains k s are in
          let shared = inputs k s c.args.reads.now.memory.now in
          let answer = c.play_voice-answer in
          let made : LaneMade = record { voice = answer.new.voice; row = answer.new.made.outs; ends = answer.new.made.ends; last = answer.result } in
          let pmon : ℕ = slice_index c.args.reads.now.registers.now PMON in
          let over = played_over shared pmon v c.args.n c.loop-v.previous c.loop-v.made.rows.outs _ c.loop-v.made.rows.ends made
          (λ j. same_pmon k s c.args.reads.now.memory.now _ are.registers j) (c.loop-v.invariant.taken c.loop-v-test.true) in
          let played = over (rw place at (c.play_voice-answer.ensures.played k s are)) in
          rw place record {
            voices_are = voices_more shared c.args.n v c.loop-v.made.rows.outs c.loop-v.voices within _ c.play_voice-answer.new.voice c.play_voice-answer.new.made.outs played.row_is
                c.args.voices.now played.voice_is before.voices_are;
            last_is = last_more shared c.args.n c.args.volumes.now c.args.voices.now v c.loop-v.made.rows.outs c.loop-v.voices within _ c.loop-v.made.rows.ends made played c.loop-v.made.last within_answers c.requires.some before.last_is;
            ends_are = λ j few. ends_more shared c.args.n c.args.volumes.now c.args.voices.now v c.loop-v.made.rows.outs c.loop-v.voices within _ c.loop-v.made.rows.ends made played j few (before.ends_are j few);
            main_left = sum_more shared c.args.n c.args.volumes.now c.args.voices.now v c.loop-v.made.rows.outs c.loop-v.voices within _ c.loop-v.made.rows.ends made played (λ one. one.left) _ c.loop-v.made.sums.main_left c.add_shares.new.sums.main_left within_volumes
                (λ j few. rw place at (c.add_shares.ensures.main_left j (omega (arith, few, c.requires.few)))) before.main_left;
            main_right = sum_more shared c.args.n c.args.volumes.now c.args.voices.now v c.loop-v.made.rows.outs c.loop-v.voices within _ c.loop-v.made.rows.ends made played (λ one. one.right) _ c.loop-v.made.sums.main_right c.add_shares.new.sums.main_right within_volumes
                (λ j few. rw place at (c.add_shares.ensures.main_right j (omega (arith, few, c.requires.few)))) before.main_right;
            sent_left = sum_more shared c.args.n c.args.volumes.now c.args.voices.now v c.loop-v.made.rows.outs c.loop-v.voices within _ c.loop-v.made.rows.ends made played (λ one. one.sent_left) _ c.loop-v.made.sums.sent_left c.add_shares.new.sums.sent_left within_volumes
                (λ j few. rw place at (c.add_shares.ensures.sent_left j (omega (arith, few, c.requires.few)))) before.sent_left;
            sent_right = sum_more shared c.args.n c.args.volumes.now c.args.voices.now v c.loop-v.made.rows.outs c.loop-v.voices within _ c.loop-v.made.rows.ends made played (λ one. one.sent_right) _ c.loop-v.made.sums.sent_right c.add_shares.new.sums.sent_right within_volumes
                (λ j few. rw place at (c.add_shares.ensures.sent_right j (omega (arith, few, c.requires.few)))) before.sent_right;
          };
      taken = λ few modulated. c.take_previous.ensures few modulated;
      lower = c.play_voice-answer.ensures.lower;
      eight = length-set c.loop-v.voices c.from-place.result c.play_voice-answer.new.voice ∙ c.loop-v.invariant.eight;
      eight_answers = length-set c.loop-v.made.last c.from-place.result c.play_voice-answer.result ∙ c.loop-v.invariant.eight_answers;
    }

pub returns-clause-played : goal.returns-clause-played
returns-clause-played c k s are =
    let all : c.loop-v.v ≡ 8 = search rules in
    all_played (inputs k s c.args.reads.now.memory.now) c.args.n c.args.volumes.now c.args.voices.now c.loop-v.made.rows.outs c.loop-v.voices c.loop-v.made.last c.loop-v.made.rows.ends c.loop-v.made.sums
    c.loop-v.invariant.eight c.loop-v.invariant.eight_answers (rw all at (c.loop-v.invariant.remains k s are))
