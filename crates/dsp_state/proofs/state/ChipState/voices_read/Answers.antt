use Rattle.std.proofs.Common.{◌≡◌, ℕ, ◌+◌, ◌<◌, [], ◌∷◌, List, true, false, ◌||◌, length, get_or, drop, sym, ap, ◌∙◌, add-one, drop-cons, arith, rules}
use Rattle.std.proofs.Math.ListN.{drop_of_length-le}
use Rattle.voice_unit.specs.Voice.{VoiceState}
use Rattle.dsp_state.specs.Reach.{voice_reads, voices_read}
use Rattle.dsp_state.specs.declared.state.ChipState.{ChipState}
use Rattle.dsp_state.proofs.ReadPages.{voices_read-more, voices_read-none}
use Rattle.dsp_state.proofs.state.ChipState.voices_read.Goals as goal

-- one voice after another
next : (s : ChipState) (memory : List ℕ) (voices : List VoiceState) (v page : ℕ) (d : VoiceState) → v < length voices
    → voices_read s memory v (drop v voices) page ≡ (voice_reads s memory v (get_or voices v d) page || voices_read s memory (v + 1) (drop (v + 1) voices) page)
next s memory voices v page d below =
    let rest : drop v voices ≡ get_or voices v d ∷ drop (v + 1) voices = rw add-one (drop-cons voices v d below) in
    ap (λ (some : List VoiceState). voices_read s memory v some page) rest ∙ voices_read-more s memory v (get_or voices v d) (drop (v + 1) voices) page

pub loop-v-preserved : goal.loop-v-preserved
loop-v-preserved c =
    let s : ChipState = c.args.self.now in
    let d : VoiceState = c.index-self-from.result in
    let none : voice_reads s c.args.memory.now c.loop-v.v (get_or s.hidden.voices c.loop-v.v d) c.args.page ≡ false = rw c.from.ensures at (sym c.voice_reads.ensures ∙ c.if-voice_reads.false) in
    c.loop-v.invariant ∙ next s c.args.memory.now s.hidden.voices c.loop-v.v c.args.page d (search rules)
    ∙ ap (λ b. b || voices_read s c.args.memory.now (c.loop-v.v + 1) (drop (c.loop-v.v + 1) s.hidden.voices) c.args.page) none

pub returns-then-voice_reads : goal.returns-then-voice_reads
returns-then-voice_reads c =
    let s : ChipState = c.args.self.now in
    let d : VoiceState = c.index-self-from.result in
    let one : voice_reads s c.args.memory.now c.loop-v.v (get_or s.hidden.voices c.loop-v.v d) c.args.page ≡ true = rw c.from.ensures at (sym c.voice_reads.ensures ∙ c.if-voice_reads.true) in
    sym (c.loop-v.invariant ∙ next s c.args.memory.now s.hidden.voices c.loop-v.v c.args.page d (search rules)
    ∙ ap (λ b. b || voices_read s c.args.memory.now (c.loop-v.v + 1) (drop (c.loop-v.v + 1) s.hidden.voices) c.args.page) one)

pub returns : goal.returns
returns c =
    let s : ChipState = c.args.self.now in
    let eight : length s.hidden.voices ≡ 8 = search rules in
    let none : drop c.loop-v.v s.hidden.voices ≡ [] = drop_of_length-le s.hidden.voices (omega (arith, eight)) in
    sym (c.loop-v.invariant ∙ ap (λ (rest : List VoiceState). voices_read s c.args.memory.now c.loop-v.v rest c.args.page) none ∙ voices_read-none s c.args.memory.now c.loop-v.v c.args.page)
