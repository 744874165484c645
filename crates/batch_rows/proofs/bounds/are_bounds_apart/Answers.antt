use Rattle.std.proofs.Common.{rules, ◌≡◌, ◌≤◌, ◌⊎◌, inl, inr, ℕ, ◌+◌, [], ◌∷◌, true, drop, get_or, length, slice_index_or, refl, ap, arith}
use Rattle.std.proofs.lemmas.List.{drop_more}
use Rattle.std.proofs.Math.ListN.{drop_of_length-le}
use Rattle.voice_unit.specs.Voice.{VoiceState}
use Rattle.aram_core.specs.declared.window.Window.{Window}
use Rattle.dsp_state.specs.Reach.{chip_window}
use Rattle.dsp_state.specs.declared.state.ChipState.{ChipState}
use Rattle.batch_rows.specs.BoundingPages.{window_from, bounding_pages_of_chip, IsVoiceApart}
use Rattle.batch_rows.proofs.BoundingPages.{voices_apart, none_apart, shorter, apart_by_bounds}
use Rattle.batch_rows.proofs.bounds.are_bounds_apart.Goals as goal

pub loop-v-init : goal.loop-v-init
loop-v-init c = record { rest = λ rest. rest; eight = inl refl }

pub loop-v-preserved : goal.loop-v-preserved
loop-v-preserved c =
    let s : ChipState = c.args.state.now in
    let v : ℕ = c.loop-v.v in
    let d : VoiceState = c.index-state-from.result in
    let eight : length s.hidden.voices ≡ 8 = search rules in
    let off : c.is_voice_apart.result ≡ true = search rules in
    let this : IsVoiceApart s c.args.memory.now v (get_or s.hidden.voices v d) (slice_index_or s.registers 109 0) c.whole_pages-len.result = rw c.from.ensures at (c.is_voice_apart.ensures off) in
    let split : drop v s.hidden.voices ≡ get_or s.hidden.voices v d ∷ drop (v + 1) s.hidden.voices = drop_more s.hidden.voices v d (omega (arith, eight)) in
    record {
      rest = λ rest. c.loop-v.invariant.rest (rw split (voices_apart s c.args.memory.now v (get_or s.hidden.voices v d) (drop (v + 1) s.hidden.voices) (slice_index_or s.registers 109 0) c.whole_pages-len.result this rest));
      eight = inr eight;
    }

eight_of : (v n : ℕ) → v ≡ 8 → (v ≡ 0) ⊎ (n ≡ 8) → n ≡ 8
eight_of v n last (inl first) = omega arith
eight_of v n last (inr eight) = eight

pub returns : goal.returns
returns c is_so =
    let s : ChipState = c.args.state.now in
    let last : c.loop-v.v ≡ 8 = omega arith in
    let eight : length s.hidden.voices ≡ 8 = eight_of c.loop-v.v (length s.hidden.voices) last c.loop-v.invariant.eight in
    let none : drop c.loop-v.v s.hidden.voices ≡ [] = drop_of_length-le s.hidden.voices (omega (arith, eight, last)) in
    let all = c.loop-v.invariant.rest (rw none (none_apart (window_from (slice_index_or s.registers 109 0) c.whole_pages-len.result))) in
    let len : c.window-window.result.len ≡ (chip_window s).len = ap (λ (w : Window). w.len) c.window-window.ensures.window in
    let fits : (chip_window s).len ≤ c.whole_pages-len.result = rw len at c.whole_pages-len.ensures.least in
    apart_by_bounds s c.args.memory.now (shorter (bounding_pages_of_chip s c.args.memory.now) (slice_index_or s.registers 109 0) (chip_window s).len c.whole_pages-len.result fits all)
