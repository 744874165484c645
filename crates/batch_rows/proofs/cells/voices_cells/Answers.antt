use Rattle.std.proofs.Common.{rules, ◌≡◌, ◌⊎◌, inl, inr, ℕ, ◌+◌, [], ◌∷◌, drop, get_or, length, refl, arith}
use Rattle.std.proofs.lemmas.List.{drop_more}
use Rattle.std.proofs.Math.ListN.{drop_of_length-le}
use Rattle.voice_unit.specs.Voice.{VoiceState}
use Rattle.dsp_state.specs.declared.state.ChipState.{ChipState}
use Rattle.reach_laws.specs.CellsMiss.{CellsMissVoice}
use Rattle.batch_rows.specs.CellLine.{line_from}
use Rattle.batch_rows.proofs.CellLine.{fewer_of_voice}
use Rattle.batch_rows.proofs.cells.voices_cells.Goals as goal

pub loop-v-init : goal.loop-v-init
loop-v-init c = record { few = omega arith; rest = λ n fits rest. rest; eight = inl refl }

pub loop-v-preserved : goal.loop-v-preserved
loop-v-preserved c =
    let s : ChipState = c.args.state.now in
    let v : ℕ = c.loop-v.v in
    let d : VoiceState = c.index-state-from.result in
    let eight : length s.hidden.voices ≡ 8 = search rules in
    let now : ℕ = c.voice_cells-left.result in
    let this : CellsMissVoice (line_from c.args.first) s c.args.memory.now now v (get_or s.hidden.voices v d) = rw c.from.ensures at c.voice_cells-left.ensures.miss in
    let split : drop v s.hidden.voices ≡ get_or s.hidden.voices v d ∷ drop (v + 1) s.hidden.voices = drop_more s.hidden.voices v d (omega (arith, eight)) in
    record {
      few = omega arith;
      rest = λ n fits rest. c.loop-v.invariant.rest n (omega (arith, fits, c.voice_cells-left.ensures.few)) (rw split (fewer_of_voice (line_from c.args.first) s c.args.memory.now n now v (get_or s.hidden.voices v d) fits this, rest));
      eight = inr eight;
    }

eight_of : (v n : ℕ) → v ≡ 8 → (v ≡ 0) ⊎ (n ≡ 8) → n ≡ 8
eight_of v n last (inl first) = omega arith
eight_of v n last (inr eight) = eight

pub returns-clause-miss : goal.returns-clause-miss
returns-clause-miss c =
    let s : ChipState = c.args.state.now in
    let last : c.loop-v.v ≡ 8 = omega arith in
    let eight : length s.hidden.voices ≡ 8 = eight_of c.loop-v.v (length s.hidden.voices) last c.loop-v.invariant.eight in
    let none : drop c.loop-v.v s.hidden.voices ≡ [] = drop_of_length-le s.hidden.voices (omega (arith, eight, last)) in
    c.loop-v.invariant.rest c.loop-v.left (omega arith) (rw none tt)
