-- A text is written into an array.
use Rattle.std.proofs.Common.{◌≡◌, ◌∙◌, ap, sym, refl, ℕ, suc, ◌+◌, ◌-◌, ◌<◌, ◌≤◌, min, List, [], ◌∷◌, ◌++◌, length, take, drop, set, arith}
use Rattle.std.proofs.lemmas.List.{set-append_right, length-take-le}
use Rattle.std.proofs.lemmas.List.{drop-set-add, drop-set}
use Rattle.player.specs.Output.{with_text}

-- the first byte of what is left becomes 0
pub set_first : (count : ℕ) (first : ℕ) (rest : List ℕ) → count ≤ length rest → set (drop count (first ∷ rest)) 0 0 ≡ 0 ∷ drop count rest
set_first count first rest within =
    let zero_on : count + 0 ≡ count = omega arith in
    let next : count + 1 ≡ suc count = omega arith in
    sym (drop-set-add count (first ∷ rest) 0 0)
    ∙ ap (λ n. drop count (set (first ∷ rest) n 0)) zero_on
    ∙ drop-set (first ∷ rest) count 0 (omega (arith, within))
    ∙ ap (λ n. 0 ∷ drop n (first ∷ rest)) next

pub text_put : (text out : List ℕ) (count : ℕ) → 0 < length out → count ≡ min (length text) (length out - 1)
    → set (take count text ++ drop count out) count 0 ≡ with_text text out
text_put text [] count room is = absurd (omega (arith, room))
text_put text (first ∷ rest) count room is =
    let few : count ≤ length text = omega (arith, is) in
    let within : count ≤ length rest = omega (arith, is) in
    let same : count ≡ min (length text) (length rest) = omega (arith, is) in
    let nothing : count - count ≡ 0 = omega arith in
    set-append_right (take count text) (drop count (first ∷ rest)) count count 0 (length-take-le count text few) (omega arith)
    ∙ ap (λ n. take count text ++ set (drop count (first ∷ rest)) n 0) nothing
    ∙ ap (λ l. take count text ++ l) (set_first count first rest within)
    ∙ ap (λ n. take n text ++ 0 ∷ drop n rest) same

pub text_nowhere : (text out : List ℕ) → length out ≡ 0 → out ≡ with_text text out
text_nowhere text [] none = refl
text_nowhere text (first ∷ rest) none = absurd (omega (arith, none))
