-- The results of a batch are those of its last sample, but for ENDX; and the key-ons that a batch latches are latched at its first poll.
use Rattle.std.proofs.Common.{◌≡◌, ◌≢◌, ℕ, zero, suc, ◌+◌, ◌-◌, ◌*◌, ◌%◌, ◌<◌, ◌≤◌, ◌==◌, List, [], ◌∷◌, Bool, true, false, length, get_or, slice_index, slice_set, refl, ap, sym, ◌∙◌, arith}
use Rattle.std.specs.List.{range_with_len}
use Rattle.std.proofs.lemmas.List.{get_or-set_same, set-set, set_comm, length-set}
use Rattle.std.proofs.lemmas.List.FromFn.{get_or-range_with_len}
use Rattle.std.proofs.lemmas.Bool.Decides.{nat_tests}
use Rattle.std.proofs.lemmas.Nat.{and_le_l}
use Rattle.rate_clock.proofs.Tables.{list_all-entry}
use Rattle.voice_unit.specs.declared.interface.VoiceOut.{VoiceOut}
use Rattle.dsp_state.specs.Results.{without_bits, with_levels_from, next_endx, registers_after}
use Rattle.dsp_state.specs.Sample.{after_poll, after_noise, before_voices}
use Rattle.dsp_state.specs.declared.registers.TheConstants.{ENVX, OUTX, ENDX}
use Rattle.dsp_state.specs.declared.state.ChipState.{ChipState}
use Rattle.batch_rows.specs.Rows.{keys_after, results_after}
use Rattle.batch_rows.specs.Once.{endx_after, put_once}

-- a register that is no ENVX or OUTX from voice v on
record IsApart (v i : ℕ) : Type 0 where
  envx : (u : ℕ) → v ≤ u → 16 * u + ENVX ≢ i
  outx : (u : ℕ) → v ≤ u → 16 * u + OUTX ≢ i

IsApart-next : {v i : ℕ} → IsApart v i → IsApart (v + 1) i
IsApart-next a = record { envx = λ u above. a.envx u (omega (arith, above)); outx = λ u above. a.outx u (omega (arith, above)) }

-- such a register may be set before or after them
levels_set : (v : ℕ) (answers : List VoiceOut) (registers : List ℕ) (i x : ℕ) → IsApart v i
    → with_levels_from v answers (slice_set registers i x) ≡ slice_set (with_levels_from v answers registers) i x
levels_set v [] registers i x apart = refl
levels_set v (answer ∷ answers) registers i x apart =
    let envx : i ≢ 16 * v + ENVX = λ e. apart.envx v (omega arith) (sym e) in
    let outx : i ≢ 16 * v + OUTX = λ e. apart.outx v (omega arith) (sym e) in
    ap (λ (rs : List ℕ). with_levels_from (v + 1) answers (slice_set rs (16 * v + OUTX) answer.outx)) (set_comm registers i (16 * v + ENVX) x answer.envx envx)
    ∙ ap (λ (rs : List ℕ). with_levels_from (v + 1) answers rs) (set_comm (slice_set registers (16 * v + ENVX) answer.envx) i (16 * v + OUTX) x answer.outx outx)
    ∙ levels_set (v + 1) answers (slice_set (slice_set registers (16 * v + ENVX) answer.envx) (16 * v + OUTX) answer.outx) i x (IsApart-next apart)

own_apart : (v offset : ℕ) → offset < 16 → IsApart (v + 1) (16 * v + offset)
own_apart v offset low = record { envx = λ u above e. absurd (omega (arith, above, e, low)); outx = λ u above e. absurd (omega (arith, above, e, low)) }

-- the levels of a sample take the place of those of another
levels_again : (v : ℕ) (answers before : List VoiceOut) (registers : List ℕ) → length answers ≡ length before
    → with_levels_from v answers (with_levels_from v before registers) ≡ with_levels_from v answers registers
levels_again v [] [] registers same = refl
levels_again v [] (b ∷ before) registers same = absurd (omega (arith, same))
levels_again v (a ∷ answers) [] registers same = absurd (omega (arith, same))
levels_again v (a ∷ answers) (b ∷ before) registers same =
    let e : ℕ = 16 * v + ENVX in
    let o : ℕ = 16 * v + OUTX in
    let apart : o ≢ e = λ h. absurd (omega (arith, h)) in
    let first : List ℕ = slice_set (slice_set registers e b.envx) o b.outx in
    let through : slice_set (slice_set (with_levels_from (v + 1) before first) e a.envx) o a.outx ≡ with_levels_from (v + 1) before (slice_set (slice_set first e a.envx) o a.outx) =
    sym (levels_set (v + 1) before (slice_set first e a.envx) o a.outx (own_apart v 9 (omega arith))
    ∙ ap (λ (rs : List ℕ). slice_set rs o a.outx) (levels_set (v + 1) before first e a.envx (own_apart v 8 (omega arith)))) in
    let over : slice_set (slice_set first e a.envx) o a.outx ≡ slice_set (slice_set registers e a.envx) o a.outx =
    ap (λ (rs : List ℕ). slice_set rs o a.outx) (set_comm (slice_set registers e b.envx) o e b.outx a.envx apart)
    ∙ ap (λ (rs : List ℕ). slice_set (slice_set rs o b.outx) o a.outx) (set-set registers e b.envx a.envx)
    ∙ set-set (slice_set registers e a.envx) o b.outx a.outx in
    ap (λ (rs : List ℕ). with_levels_from (v + 1) answers rs) (through ∙ ap (λ (rs : List ℕ). with_levels_from (v + 1) before rs) over)
    ∙ levels_again (v + 1) answers before (slice_set (slice_set registers e a.envx) o a.outx) (omega (arith, same))

endx_apart : IsApart 0 ENDX
endx_apart = record { envx = λ u above e. absurd (omega (arith, e)); outx = λ u above e. absurd (omega (arith, e)) }

length-levels : (v : ℕ) (answers : List VoiceOut) (registers : List ℕ) → length (with_levels_from v answers registers) ≡ length registers
length-levels v [] registers = refl
length-levels v (answer ∷ answers) registers =
    length-levels (v + 1) answers (slice_set (slice_set registers (16 * v + ENVX) answer.envx) (16 * v + OUTX) answer.outx)
    ∙ length-set (slice_set registers (16 * v + ENVX) answer.envx) (16 * v + OUTX) answer.outx ∙ length-set registers (16 * v + ENVX) answer.envx

-- results after results
again : (answers before : List VoiceOut) (endx : ℕ) (registers : List ℕ) → length answers ≡ length before → ENDX < length registers
    → registers_after answers (put_once before endx registers) ≡ put_once answers (next_endx endx answers) registers
unfolding registers_after
again answers before endx registers same long =
    let levels : List ℕ = with_levels_from 0 before registers in
    let there : slice_index (slice_set levels ENDX endx) ENDX ≡ endx = get_or-set_same levels ENDX endx 0 (omega (arith, length-levels 0 before registers, long)) in
    let apart : with_levels_from 0 answers (slice_set levels ENDX endx) ≡ slice_set (with_levels_from 0 answers registers) ENDX endx =
    levels_set 0 answers levels ENDX endx endx_apart ∙ ap (λ (rs : List ℕ). slice_set rs ENDX endx) (levels_again 0 answers before registers same) in
    ap (λ (byte : ℕ). slice_set (with_levels_from 0 answers (slice_set levels ENDX endx)) ENDX (next_endx byte answers)) there
    ∙ ap (λ (rs : List ℕ). slice_set rs ENDX (next_endx endx answers)) apart
    ∙ set-set (with_levels_from 0 answers registers) ENDX endx (next_endx endx answers)

-- the results of a batch are put once
pub results_once : (rows : ℕ → List VoiceOut) (registers : List ℕ) (n : ℕ) → ((j : ℕ) → length (rows j) ≡ 8) → ENDX < length registers
    → results_after rows registers (suc n) ≡ put_once (rows n) (endx_after rows (slice_index registers ENDX) (suc n)) registers
unfolding registers_after
results_once rows registers zero eight long = refl
results_once rows registers (suc n) eight long =
    ap (λ (rs : List ℕ). registers_after (rows (suc n)) rs) (results_once rows registers n eight long)
    ∙ again (rows (suc n)) (rows n) (endx_after rows (slice_index registers ENDX) (suc n)) registers (eight (suc n) ∙ sym (eight n)) long

-- a byte without its own bits is 0
none_left : (byte : ℕ) → byte < 0x100 → without_bits byte byte ≡ 0
none_left byte within =
    let test : (without_bits (get_or (range_with_len 0 256) byte 0) (get_or (range_with_len 0 256) byte 0) == 0) ≡ true =
    list_all-entry (λ x. without_bits x x == 0) (range_with_len 0 256) byte (omega arith) refl in
    let same : get_or (range_with_len 0 256) byte 0 ≡ byte = get_or-range_with_len 0 256 byte 0 within ∙ omega arith in
    let there : (without_bits byte byte == 0) ≡ true = rw same at test in
    grind (arith, nat_tests)

-- at a poll both pending and latched key-ons become those that were pending and not latched; else both stay
module _ (s : ChipState) (k : ℕ) where
  pub at_poll : (k % 2 == 0) ≡ true → ((before_voices s k).hidden.kon_pending ≡ without_bits s.hidden.kon_pending s.hidden.kon_latched) × ((before_voices s k).hidden.kon_latched ≡ without_bits s.hidden.kon_pending s.hidden.kon_latched)
  unfolding after_poll after_noise
  at_poll even = (rw even refl, rw even refl)

  pub between_polls : (k % 2 == 0) ≡ false → ((before_voices s k).hidden.kon_pending ≡ s.hidden.kon_pending) × ((before_voices s k).hidden.kon_latched ≡ s.hidden.kon_latched)
  unfolding after_poll after_noise
  between_polls odd = (rw odd refl, rw odd refl)

-- a byte of keys stays one
small_keys : (k : ℕ) (s : ChipState) (n : ℕ) → s.hidden.kon_pending < 0x100 → (keys_after k s n).hidden.kon_pending < 0x100
unfolding keys_after
small_keys k s zero small = small
small_keys k s (suc n) small = by ((k + n) % 2 == 0) refl (small_keys k s n small)
  where
    now : ChipState
    now = keys_after k s n

    by : (b : Bool) → ((k + n) % 2 == 0) ≡ b → now.hidden.kon_pending < 0x100 → (before_voices now (k + n)).hidden.kon_pending < 0x100
    by true even before = let same = (at_poll now (k + n) even).0 in omega (arith, same, before, and_le_l now.hidden.kon_pending (0xff - now.hidden.kon_latched))
    by false odd before = let same = (between_polls now (k + n) odd).0 in omega (arith, same, before)

-- from the first poll of a batch on the pending key-ons are the latched ones
pub settled : (k : ℕ) (s : ChipState) (i more : ℕ) → ((k + i) % 2 == 0) ≡ true → (keys_after k s (suc (more + i))).hidden.kon_pending ≡ (keys_after k s (suc (more + i))).hidden.kon_latched
unfolding keys_after
settled k s i zero even =
    let both = at_poll (keys_after k s i) (k + i) even in
    let same : 0 + i ≡ i = omega arith in
    rw same (both.0 ∙ sym both.1)
settled k s i (suc more) even = rw next (by ((k + suc (more + i)) % 2 == 0) refl (settled k s i more even))
  where
    next : suc more + i ≡ suc (more + i)
    next = omega arith

    now : ChipState
    now = keys_after k s (suc (more + i))

    at : ℕ
    at = k + suc (more + i)

    by : (b : Bool) → (at % 2 == 0) ≡ b → now.hidden.kon_pending ≡ now.hidden.kon_latched → (before_voices now at).hidden.kon_pending ≡ (before_voices now at).hidden.kon_latched
    by true even_too before = let both = at_poll now at even_too in both.0 ∙ sym both.1
    by false odd before = let both = between_polls now at odd in both.0 ∙ before ∙ sym both.1

-- so a later poll of the batch takes none
pub latched_once : (k : ℕ) (s : ChipState) (i more : ℕ) → s.hidden.kon_pending < 0x100 → ((k + i) % 2 == 0) ≡ true → ((k + suc (more + i)) % 2 == 0) ≡ true
    → (keys_after k s (suc (suc (more + i)))).hidden.kon_latched ≡ 0
unfolding keys_after
latched_once k s i more small first second =
    let now : ChipState = keys_after k s (suc (more + i)) in
    let same : now.hidden.kon_pending ≡ now.hidden.kon_latched = settled k s i more first in
    (at_poll now (k + suc (more + i)) second).1 ∙ ap (λ (byte : ℕ). without_bits now.hidden.kon_pending byte) (sym same)
    ∙ none_left now.hidden.kon_pending (small_keys k s (suc (more + i)) small)
