-- The lines of the blocks, one after another.
use Rattle.std.proofs.Common.{◌≡◌, ap, sym, ◌∙◌, ℕ, ◌+◌, ◌<◌, List, [], ◌∷◌, ◌++◌, length, take, get_or, arith}
use Rattle.std.proofs.lemmas.List.{append-nil, append_assoc, take_more, length-take-le}
use Rattle.brr_encode.specs.declared.report.BlockReport.{BlockReport}
use Rattle.command_encode.specs.Encode.{block_line, block_lines}

-- one block more is one line more
pub block_lines_more : (place : ℕ) (front : List BlockReport) (last : BlockReport) → block_lines place (front ++ last ∷ []) ≡ block_lines place front ++ block_line (place + length front) last
block_lines_more place [] last =
    let here : place ≡ place + 0 = omega arith in
    append-nil (block_line place last) ∙ ap (λ (n : ℕ). block_line n last) here
block_lines_more place (report ∷ front) last =
    let here : (place + 1) + length front ≡ place + length (report ∷ front) = omega arith in
    ap (λ (l : List ℕ). block_line place report ++ l) (block_lines_more (place + 1) front last ∙ ap (λ (n : ℕ). block_lines (place + 1) front ++ block_line n last) here)
    ∙ sym (append_assoc (block_line place report) (block_lines (place + 1) front) (block_line (place + length (report ∷ front)) last))

pub block_lines_to : (blocks : List BlockReport) (n : ℕ) (default : BlockReport) → n < length blocks →
    block_lines 0 (take (n + 1) blocks) ≡ block_lines 0 (take n blocks) ++ block_line n (get_or blocks n default)
block_lines_to blocks n default inside =
    ap (λ (l : List BlockReport). block_lines 0 l) (take_more blocks n default inside)
    ∙ block_lines_more 0 (take n blocks) (get_or blocks n default)
    ∙ ap (λ (m : ℕ). block_lines 0 (take n blocks) ++ block_line m (get_or blocks n default)) here
  where
    here : 0 + length (take n blocks) ≡ n
    here = omega (arith, length-take-le n blocks (omega (arith, inside)))
