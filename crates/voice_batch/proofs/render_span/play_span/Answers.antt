use Rattle.std.proofs.Common.{◌≡◌, ◌+◌, ◌-◌, ◌*◌, ◌^◌, ◌<◌, ◌≤◌, nat_lt, ℕ, Bool, true, false, List, ℤ, drop, slice_index, refl, ap, sym, ◌∙◌, arith}
use Rattle.std.proofs.lemmas.Bool.Decides.{nat_tests}
use Rattle.num_fix.specs.Arithmetic.{has_bit}
use Rattle.aram_core.specs.Memory.{byte_at}
use Rattle.voice_batch.specs.FreeEnvelope.{HasFreeEnvelope}
use Rattle.voice_batch.specs.Row.{ended_in, place_of}
use Rattle.voice_batch.specs.SpanPhases.{phase_at}
use Rattle.voice_unit.specs.Voice.{is_silencing, VoiceState}
use Rattle.voice_batch.proofs.EndBits.{bit-bound}
use Rattle.voice_batch.proofs.RenderedSpan.{phases_in_span}
use Rattle.voice_batch.proofs.Played.{doubled}
use Rattle.voice_batch.proofs.PartsOfRow.{last_twelve}
use Rattle.voice_batch.proofs.OverRow.{rendered_over, last_level}
use Rattle.voice_batch.proofs.render_span.play_span.Goals as goal

pub returns-clause-played : goal.returns-clause-played
returns-clause-played c plays before can =
    let over = can.over in
    let renders = can.plainly in
    let played = can.played in
    let regs = over.regs in
    let memory = over.memory in
    let table = over.table in
    let v : VoiceState = c.args.voice.now in
    let row : List ℤ = c.read_span-span.new.row in
    let m : ℕ = c.read_span-span.result.samples in
    let few : m ≤ c.args.n = c.read_span-span.ensures.span.few in
    let free_envelope : HasFreeEnvelope c.args.reads.now.seen.reset (has_bit c.args.reads.now.seen.koff c.args.reads.now.seen.voice) plays.memory v = rw memory c.requires.free_envelope in
    let groups = c.read_span-span.ensures.span.groups in
    let next = rw (c.span_plan-span_plan.ensures.loop_word, c.span_plan-span_plan.ensures.first, ← memory, ← regs) at c.read_span-span.ensures.span.next in
    let kept = rw (c.span_plan-span_plan.ensures.loop_word, c.span_plan-span_plan.ensures.first, c.begin_row.ensures.row, ← memory, ← regs) at c.read_span-span.ensures.row in
    let awake : is_silencing c.span_plan-span_plan.result.reset (byte_at c.args.reads.now.memory.now c.span_plan-span_plan.result.first.block) ≡ true → c.span_plan-span_plan.result.silent ≡ true =
    λ audible. c.span_plan-span_plan.ensures.all_silent (c.requires.free_envelope.silencing (rw (c.span_plan-span_plan.ensures.reset, c.span_plan-span_plan.ensures.first) at audible)) in
    let quiet = rw (c.span_plan-span_plan.ensures.reset, c.span_plan-span_plan.ensures.loop_word, c.span_plan-span_plan.ensures.first, ← memory, ← regs) at (c.read_span-span.ensures.quiet awake) in
    let marks = rw (c.span_plan-span_plan.ensures.voice, c.span_plan-span_plan.ensures.loop_word, c.span_plan-span_plan.ensures.first, ← memory, ← regs) at c.read_span-span.ensures.ends.marks in
    let outs = rw (c.span_plan-span_plan.ensures.noisy, c.span_plan-span_plan.ensures.envelope, ← table, ← regs) at (c.sound-sounded.ensures.outs plays.k over.clock) in
    let envelope = rw (c.span_plan-span_plan.ensures.envelope, ← regs) at (c.sound-sounded.ensures.envelope plays.k over.clock) in
    let took = c.take_envelope.ensures in
    let is_position = ap (λ (w : VoiceState). w.position + 0x4000 * c.read_span-span.result.groups) (took ∙ ap (λ (w : VoiceState). record w { envelope = c.sound-sounded.result.envelope }) c.go_to.ensures)
    ∙ c.position_after-position.ensures.value in
    let position = rw groups at is_position in
    let twelve = ap (λ (w : VoiceState). w.samples) took ∙ ap (λ (w : VoiceState). w.samples) c.go_to.ensures ∙ last_twelve row (4 * c.read_span-span.result.groups)
    ∙ ap (drop (4 * c.read_span-span.result.groups)) kept in
    rendered_over c.args.reads.now.seen plays c.args.at m before c.args.made.now.ends c.args.made.now.outs v played free_envelope c.begin_row.ensures.twelve
    (rw c.span_plan-span_plan.ensures.position at c.span_plan-span_plan.ensures.span_plan.span_phases.position)
    (slice_index c.args.reads.now.rows.now.noise) over.noise (λ j below. renders (c.args.at + j) (omega arith) (omega (arith, below, few))) c.read_span-span.ensures.span.some
    (phase_at c.span_plan-span_plan.result.span_phases)
    (phases_in_span c.args.reads.now c.args.work.now.pitches plays c.span_plan-span_plan.result.span_phases c.args.at c.args.n c.read_span-span.result.samples c.args.voice.now.position c.put_phases_of.new.phases
    over renders c.requires.few few c.requires.pitch c.span_plan-span_plan.ensures.position c.span_plan-span_plan.ensures.pitch c.span_plan-span_plan.ensures.modulated c.span_plan-span_plan.ensures.phases c.put_phases_of.ensures.phases)
    (λ j below some audible. c.span_plan-span_plan.ensures.silent (quiet j below audible))
    c.take_envelope.new.self c.read_span-span.new.ends c.sound-sounded.new.outs row
    (rw groups at kept) (rw groups at twelve) position
    (rw groups at (ap place_of took ∙ ap place_of c.go_to.ensures ∙ next)) (ap (λ (w : VoiceState). w.delay) took ∙ ap (λ (w : VoiceState). w.delay) c.go_to.ensures)
    (ap (λ (w : VoiceState). w.envelope) took ∙ envelope)
    c.sound-sounded.ensures.before outs c.read_span-span.ensures.ends.before_it marks c.read_span-span.ensures.ends.later

pub returns-clause-level : goal.returns-clause-level
returns-clause-level c plays before can =
    let over = can.over in
    let renders = can.plainly in
    let played = can.played in
    let regs = over.regs in
    let memory = over.memory in
    let few : c.read_span-span.result.samples ≤ c.args.n = c.read_span-span.ensures.span.few in
    let free_envelope : HasFreeEnvelope c.args.reads.now.seen.reset (has_bit c.args.reads.now.seen.koff c.args.reads.now.seen.voice) plays.memory c.args.voice.now = rw memory c.requires.free_envelope in
    let awake : is_silencing c.span_plan-span_plan.result.reset (byte_at c.args.reads.now.memory.now c.span_plan-span_plan.result.first.block) ≡ true → c.span_plan-span_plan.result.silent ≡ true =
    λ audible. c.span_plan-span_plan.ensures.all_silent (c.requires.free_envelope.silencing (rw (c.span_plan-span_plan.ensures.reset, c.span_plan-span_plan.ensures.first) at audible)) in
    let quiet = rw (c.span_plan-span_plan.ensures.reset, c.span_plan-span_plan.ensures.loop_word, c.span_plan-span_plan.ensures.first, ← memory, ← regs) at (c.read_span-span.ensures.quiet awake) in
    let same = last_level c.args.reads.now.seen plays c.args.at c.read_span-span.result.samples before c.args.made.now.ends c.args.made.now.outs c.args.voice.now played free_envelope c.begin_row.ensures.twelve
    (rw c.span_plan-span_plan.ensures.position at c.span_plan-span_plan.ensures.span_plan.span_phases.position)
    (slice_index c.args.reads.now.rows.now.noise) over.noise (λ j below. renders (c.args.at + j) (omega arith) (omega (arith, below, few))) c.read_span-span.ensures.span.some
    (phase_at c.span_plan-span_plan.result.span_phases)
    (phases_in_span c.args.reads.now c.args.work.now.pitches plays c.span_plan-span_plan.result.span_phases c.args.at c.args.n c.read_span-span.result.samples c.args.voice.now.position c.put_phases_of.new.phases
    over renders c.requires.few few c.requires.pitch c.span_plan-span_plan.ensures.position c.span_plan-span_plan.ensures.pitch c.span_plan-span_plan.ensures.modulated c.span_plan-span_plan.ensures.phases c.put_phases_of.ensures.phases)
    (λ j below some audible. c.span_plan-span_plan.ensures.silent (quiet j below audible)) in
    rw (c.span_plan-span_plan.ensures.envelope, ← regs) at (c.sound-sounded.ensures.level plays.k over.clock) ∙ sym same

pub returns-clause-lower : goal.returns-clause-lower
returns-clause-lower c i from below = by (nat_lt i (c.args.at + c.read_span-span.result.samples)) refl
  where
    by : (b : Bool) → nat_lt i (c.args.at + c.read_span-span.result.samples) ≡ b → slice_index c.read_span-span.new.ends i < 2 ^ (c.args.reads.now.seen.voice + 1)
    by true e =
        let early : i < c.args.at + c.read_span-span.result.samples = grind (arith, nat_tests, e) in
        let part : c.args.at + (i - c.args.at) ≡ i = omega (arith, from) in
        let old : slice_index c.args.made.now.ends (c.args.at + (i - c.args.at)) < 2 ^ c.args.reads.now.seen.voice = rw part (c.requires.lower i from below) in
        let made = rw c.span_plan-span_plan.ensures.voice at (c.read_span-span.ensures.ends.marks (i - c.args.at) (omega (arith, early, from))) in
        let more = bit-bound (ended_in c.args.reads.now.memory.now c.span_plan-span_plan.result.loop_word c.span_plan-span_plan.result.first (phase_at c.span_plan-span_plan.result.span_phases) (i - c.args.at))
        c.args.reads.now.seen.voice _ old in
        rw (← part) (rw made more)
    by false e =
        let late : c.args.at + c.read_span-span.result.samples ≤ i = grind (arith, nat_tests, e) in
        rw (c.read_span-span.ensures.ends.later i late, doubled c.args.reads.now.seen.voice) (omega (arith, c.requires.lower i from below))
