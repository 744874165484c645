-- The characters of a front that pass a test, before one that doesn't.
use Rattle.std.proofs.Common.{◌≡◌, ℕ, ◌+◌, Bool, true, false, not, cond, List, [], ◌∷◌, ◌++◌, length, take, drop, refl, ap, sym, ◌∙◌, arith}
use Rattle.std.specs.Prelude.{Option, Some, option_and_then}
use Rattle.std.specs.List.{list_all, prefix_len}
use Rattle.std.proofs.lemmas.Grind.{common_steps}
use Rattle.std.proofs.lemmas.Bool.{and_parts}
use Rattle.spc700_asm.specs.Operands.{Written, written_of, is_mark, is_value_character, operand_with, operand_after_marks, operand_of}
use Rattle.spc700_asm.proofs.Decoding.{drop_front}

-- the first character, if there is one, fails
abbrev pub stops : (p : ℕ → Bool) → List ℕ → Bool
stops p [] = true
stops p (x ∷ xs) = not (p x)

not_passed : (b : Bool) (n : ℕ) → not b ≡ true → cond b n 0 ≡ 0
not_passed false n e = refl
not_passed true n e = absurd (differ e)
  where
    differ : false ≡ true → ⊥
    differ e = cc

pub front_len : (p : ℕ → Bool) (a b : List ℕ) → list_all p a ≡ true → stops p b ≡ true → prefix_len p (a ++ b) ≡ length a
front_len p [] [] all stop = refl
front_len p [] (x ∷ b) all stop = not_passed (p x) (1 + prefix_len p b) stop
front_len p (x ∷ a) b all stop =
    let both = and_parts (p x) (list_all p a) all in
    rw both.0 (omega (arith, front_len p a b both.1 stop))

pub take_front : (n : ℕ) (a b : List ℕ) → n ≡ length a → take n (a ++ b) ≡ a
take_front n a b is = grind (arith, common_steps)

pub front_taken : (p : ℕ → Bool) (a b : List ℕ) → list_all p a ≡ true → stops p b ≡ true → take (prefix_len p (a ++ b)) (a ++ b) ≡ a
front_taken p a b all stop = take_front (prefix_len p (a ++ b)) a b (front_len p a b all stop)

pub front_dropped : (p : ℕ → Bool) (a b : List ℕ) → list_all p a ≡ true → stops p b ≡ true → drop (prefix_len p (a ++ b)) (a ++ b) ≡ b
front_dropped p a b all stop = drop_front (prefix_len p (a ++ b)) a b (sym (front_len p a b all stop))

-- an operand of marks, a value and what is after it
pub operand_read : (before word after : List ℕ) (value : Written) → list_all is_mark before ≡ true → stops is_mark (word ++ after) ≡ true → list_all is_value_character word ≡ true → stops is_value_character after ≡ true → written_of word ≡ Some value → operand_of (before ++ (word ++ after)) ≡ operand_with before value after
unfolding operand_of operand_after_marks
operand_read before word after value marks no_mark values no_value is =
    let text = word ++ after in
    ap (λ (front : List ℕ). operand_after_marks front (drop (prefix_len is_mark (before ++ text)) (before ++ text))) (front_taken is_mark before text marks no_mark)
    ∙ ap (operand_after_marks before) (front_dropped is_mark before text marks no_mark)
    ∙ ap (λ (w : List ℕ). option_and_then (λ v. operand_with before v (drop (prefix_len is_value_character text) text)) (written_of w)) (front_taken is_value_character word after values no_value)
    ∙ ap (λ (o : Option Written). option_and_then (λ v. operand_with before v (drop (prefix_len is_value_character text) text)) o) is
    ∙ ap (operand_with before value) (front_dropped is_value_character word after values no_value)
