-- The options of `encode`, word by word.
use Rattle.std.proofs.Common.{◌≡◌, sym, ap, ◌∙◌, refl, ℕ, ◌-◌, ◌≤◌, true, false, List, [], ◌∷◌, length, take, drop, map, get_or, Option, Some, None, IfSome, arith}
use Rattle.std.specs.Prelude.{codes}
use Rattle.std.specs.Str.{bytes_eq}
use Rattle.std.proofs.lemmas.List.{take_rest}
use Rattle.brr_search.specs.declared.options.EncodeOptions.{EncodeOptions}
use Rattle.command_line.specs.EncodeWords.{with_loop, encode_options_with, encode_options_from}

-- no word is left
from_none : (options : Option EncodeOptions) → encode_options_from options [] ≡ options
from_none None = refl
from_none (Some options) = refl

-- `--loop` is one option more
pub next_loop : {X : Type 0} (f : X → List ℕ) (o : EncodeOptions) (words : List X) (name : X) → 1 ≤ length words → name ≡ get_or words 0 name
    → bytes_eq (f name) (codes "--loop") ≡ true
    → encode_options_from (Some o) (map f words) ≡ encode_options_from (with_loop o) (map f (take (length words - 1) (drop 1 words)))
next_loop f o [] name one first loop = absurd (omega arith)
next_loop f o (a ∷ []) name one first loop =
    let here : bytes_eq (f a) (codes "--loop") ≡ true = ap (λ x. bytes_eq (f x) (codes "--loop")) (sym first) ∙ loop in
    rw here (sym (from_none (with_loop o)))
next_loop f o (a ∷ b ∷ rest) name one first loop =
    let here : bytes_eq (f a) (codes "--loop") ≡ true = ap (λ x. bytes_eq (f x) (codes "--loop")) (sym first) ∙ loop in
    rw here (λ i. encode_options_from (with_loop o) (map f (sym (take_rest (a ∷ b ∷ rest) 1) i)))

-- a name and a value are one option more
pub next_pair : {X : Type 0} (f : X → List ℕ) (o : EncodeOptions) (words : List X) (tested name value : X) → 2 ≤ length words
    → tested ≡ get_or words 0 tested → bytes_eq (f tested) (codes "--loop") ≡ false → name ≡ get_or words 0 name → value ≡ get_or words 1 value
    → encode_options_from (Some o) (map f words) ≡ encode_options_from (encode_options_with o (f name) (f value)) (map f (take (length words - 2) (drop 2 words)))
next_pair f o [] tested name value two at other first second = absurd (omega arith)
next_pair f o (a ∷ []) tested name value two at other first second = absurd (omega arith)
next_pair f o (a ∷ b ∷ rest) tested name value two at other first second =
    let here : bytes_eq (f a) (codes "--loop") ≡ false = ap (λ x. bytes_eq (f x) (codes "--loop")) (sym at) ∙ other in
    rw here (λ i. encode_options_from (encode_options_with o (f (sym first i)) (f (sym second i))) (map f (sym (take_rest (a ∷ b ∷ rest) 2) i)))

-- a fact of what there is, from two others
pub from_both : {T : Type 0} (r : Option T) (P Q R : T → Type 0) → IfSome r P → IfSome r Q → ((t : T) → P t → Q t → R t) → IfSome r R
from_both None P Q R p q f = tt
from_both (Some t) P Q R p q f = f t p q
