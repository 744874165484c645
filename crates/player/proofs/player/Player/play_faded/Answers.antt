use Rattle.std.proofs.Common.{◌≡◌, ◌∙◌, ◌-◌, ◌≤◌, ◌++◌, ap, take, drop, map, arith}
use Rattle.std.proofs.lemmas.List.{length-take}
use Rattle.num_fix.specs.Limits.{max_frames}
use Rattle.render_core.specs.Fade.{faded_from}
use Rattle.player.specs.Output.{stereo, as_frame}
use Rattle.player.specs.Player.{frames_of, position_of}
use Rattle.player.proofs.Fading.{faded_played}
use Rattle.player.proofs.player.Player.play_faded.Goals as goal

pub fade_frames-requires-clause-inside : goal.fade_frames-requires-clause-inside
fade_frames-requires-clause-inside g c =
    omega (arith, length-take c.min-count.result (c.play.new.out ++ drop c.min-count.result c.args.out.now), c.min-count.ensures, c.saturating_sub.ensures)

pub returns-clause-frames : goal.returns-clause-frames
returns-clause-frames g c =
    let player = c.args.self.now in let out = c.args.out.now in let count = c.min-count.result in
    let at = position_of player in let whole = player.end in
    let there : c.position-at.result ≡ at = c.position-at.ensures.position in
    let is_whole : c.end-whole.result ≡ whole = c.end-whole.ensures.end in
    let most : whole.frames ≤ max_frames = omega (arith, ap (λ l. l.frames) is_whole, c.end-whole.ensures.hour) in
    let within : count ≤ whole.frames - at = omega (arith, c.min-count.ensures, c.saturating_sub.ensures, ap (λ l. l.frames) is_whole, there) in
    faded_played (frames_of g.C.Chip.meaning g.C.Chip.saving player) at count c.play.result (max_frames - at) whole.frames whole.fade c.play.new.out out c.fade_frames.new.out c.position-at.ensures.run
    within (omega (arith, c.min-count.ensures)) c.play.ensures.count (omega (arith, within, most)) c.play.ensures.frames
    (c.fade_frames.ensures ∙ (λ i. map stereo (faded_from (there i) (is_whole i).frames (is_whole i).fade (map as_frame (take count (c.play.new.out ++ drop count out))))))
