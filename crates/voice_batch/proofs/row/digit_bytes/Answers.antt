use Rattle.std.proofs.Common.{rules, ◌≡◌, ◌≤◌, ◌+◌, ◌*◌, ◌/◌, ◌%◌, ℕ, List, get_or, slice_index, take, drop, ap, ◌∙◌, arith}
use Rattle.std.proofs.lemmas.List.{get_or-take, get_or-drop}
use Rattle.voice_batch.proofs.row.digit_bytes.Goals as goal

pub returns : goal.returns
returns c k below =
    let memory : List ℕ = c.args.memory.now in
    let at : ℕ = (c.args.block + 1) % 0x10000 in
    let place : c.from-place.result ≡ at % 0x100 = search rules in
    let low : at % 0x100 ≤ 248 = omega (arith, place, c.if-place-gt248.false) in
    let bytes : c.page.result.now ≡ take 256 (drop (256 * (at / 0x100)) memory) = c.page.ensures.bytes in
    let there : 256 * (at / 0x100) + (at % 0x100 + k) ≡ (c.args.block + k + 1) % 0x10000 = omega (arith, low, below, c.ranges.block.fits) in
    c.eight_bytes.ensures k below
    ∙ ap (λ (xs : List ℕ). slice_index xs (c.from-place.result + k)) bytes
    ∙ ap (λ (i : ℕ). slice_index (take 256 (drop (256 * (at / 0x100)) memory)) (i + k)) place
    ∙ get_or-take 256 (drop (256 * (at / 0x100)) memory) (at % 0x100 + k) 0 (omega (arith, low, below))
    ∙ get_or-drop (256 * (at / 0x100)) memory (at % 0x100 + k) 0
    ∙ ap (λ (i : ℕ). get_or memory i 0) there
