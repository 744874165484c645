-- The text of a line is cut into its mnemonic and its operands.
use Rattle.std.proofs.Common.{◌≡◌, ℕ, ◌+◌, Bool, true, false, not, List, [], ◌∷◌, ◌++◌, length, take, drop, refl, ap, sym, ◌∙◌, subst, length-append, append_assoc, arith}
use Rattle.std.specs.Prelude.{◌||◌, codes, position, reverse, Some, None, option_and_then}
use Rattle.std.specs.List.{list_all, prefix_len, position_or_len, before_first, after_first}
use Rattle.std.specs.Str.{bytes_eq}
use Rattle.std.proofs.lemmas.List.{reverse-append, reverse-reverse}
use Rattle.std.proofs.lemmas.Bool.{and_from, and_parts, not-true}
use Rattle.spc700_asm.specs.Characters.{is_blank, is_semicolon, is_colon, is_comma, is_line_feed, without_first_blanks, trim, capitals}
use Rattle.spc700_asm.specs.Operands.{Operand, operand_of}
use Rattle.spc700_asm.specs.Statements.{code, with_operands, instruction_of, statement_of_word, statement_or_label, text_statement, statement_of}
use Rattle.spc700_asm.proofs.Fronts.{front_len, take_front}
use Rattle.spc700_asm.proofs.Positions.{place_within, no_place_within}
use Rattle.text_form.proofs.Places.{before_place, after_place, before_none, after_none}
use Rattle.spc700_asm.proofs.Decoding.{drop_front}

-- a test fails of each character
abbrev pub fails : (p : ℕ → Bool) → List ℕ → Bool
fails p xs = list_all (λ character. not (p character)) xs

all_len : (p : ℕ → Bool) (xs : List ℕ) → list_all p xs ≡ true → prefix_len p xs ≡ length xs
all_len p [] all = refl
all_len p (x ∷ xs) all =
    let both = and_parts (p x) (list_all p xs) all in
    rw both.0 (omega (arith, all_len p xs both.1))

pub no_place : (p : ℕ → Bool) (xs : List ℕ) → fails p xs ≡ true → position p xs ≡ None
no_place p xs all = no_place_within (position_or_len p xs) (length xs) (all_len (λ character. not (p character)) xs all)

not_not : (b : Bool) → b ≡ true → not (not b) ≡ true
not_not true e = refl
not_not false e = e

pub place_after : (p : ℕ → Bool) (a : List ℕ) (x : ℕ) (b : List ℕ) → fails p a ≡ true → p x ≡ true → position p (a ++ x ∷ b) ≡ Some (length a)
place_after p a x b all passes =
    place_within (position_or_len p (a ++ x ∷ b)) (length a) (length (a ++ x ∷ b)) (front_len (λ character. not (p character)) a (x ∷ b) all (not_not (p x) passes)) (omega (arith, length-append a (x ∷ b)))

-- there is a character
abbrev pub is_text : List ℕ → Bool
is_text [] = false
is_text (x ∷ xs) = true

-- the first character, if there is one, is no blank
abbrev begins : List ℕ → Bool
begins [] = true
begins (x ∷ xs) = not (is_blank x)

same_first : (xs : List ℕ) → begins xs ≡ true → without_first_blanks xs ≡ xs
same_first [] e = refl
same_first (x ∷ xs) e = rw (not-true (is_blank x) e) refl

pub trim_same : (xs : List ℕ) → begins xs ≡ true → begins (reverse xs) ≡ true → trim xs ≡ xs
unfolding trim
trim_same xs first last =
    ap (λ (t : List ℕ). reverse (without_first_blanks (reverse t))) (same_first xs first)
    ∙ ap reverse (same_first (reverse xs) last)
    ∙ reverse-reverse xs

begins_front : (a b : List ℕ) → is_text a ≡ true → fails is_blank a ≡ true → begins (a ++ b) ≡ true
begins_front [] b text all = absurd (differ text)
  where
    differ : false ≡ true → ⊥
    differ e = cc
begins_front (x ∷ a) b text all = (and_parts (not (is_blank x)) (fails is_blank a) all).0

pub all_append : (p : ℕ → Bool) (a b : List ℕ) → list_all p a ≡ true → list_all p b ≡ true → list_all p (a ++ b) ≡ true
all_append p [] b one two = two
all_append p (x ∷ a) b one two =
    let both = and_parts (p x) (list_all p a) one in rw both.0 (all_append p a b both.1 two)

reversed : (x : ℕ) (xs : List ℕ) → reverse (x ∷ xs) ≡ reverse xs ++ x ∷ []
reversed x xs = reverse-append (x ∷ []) xs

all_reverse : (p : ℕ → Bool) (xs : List ℕ) → list_all p xs ≡ true → list_all p (reverse xs) ≡ true
all_reverse p [] all = refl
all_reverse p (x ∷ xs) all =
    let both = and_parts (p x) (list_all p xs) all in
    let last : list_all p (x ∷ []) ≡ true = rw both.0 refl in
    subst (λ (t : List ℕ). list_all p t ≡ true) (sym (reversed x xs)) (all_append p (reverse xs) (x ∷ []) (all_reverse p xs both.1) last)

text_append : (a b : List ℕ) → is_text b ≡ true → is_text (a ++ b) ≡ true
text_append [] b text = text
text_append (x ∷ a) b text = refl

text_reverse : (xs : List ℕ) → is_text xs ≡ true → is_text (reverse xs) ≡ true
text_reverse [] text = text
text_reverse (x ∷ xs) text = subst (λ (t : List ℕ). is_text t ≡ true) (sym (reversed x xs)) (text_append (reverse xs) (x ∷ []) refl)

pub text_front : (a b : List ℕ) → is_text a ≡ true → is_text (a ++ b) ≡ true
text_front [] b text = absurd (differ text)
  where
    differ : false ≡ true → ⊥
    differ e = cc
text_front (x ∷ a) b text = refl

begins_word : (xs : List ℕ) → fails is_blank xs ≡ true → begins xs ≡ true
begins_word [] all = refl
begins_word (x ∷ xs) all = (and_parts (not (is_blank x)) (fails is_blank xs) all).0

-- a text with blanks in its middle alone
pub trim_between : (a : List ℕ) (x : ℕ) (b : List ℕ) → is_text a ≡ true → fails is_blank a ≡ true → is_text b ≡ true → fails is_blank b ≡ true → trim (a ++ x ∷ b) ≡ a ++ x ∷ b
trim_between a x b ta fa tb fb =
    let back : reverse (a ++ x ∷ b) ≡ reverse b ++ (x ∷ [] ++ reverse a) =
    reverse-append a (x ∷ b) ∙ ap (λ (t : List ℕ). t ++ reverse a) (reversed x b) ∙ append_assoc (reverse b) (x ∷ []) (reverse a)
    in trim_same (a ++ x ∷ b) (begins_front a (x ∷ b) ta fa)
    (subst (λ (t : List ℕ). begins t ≡ true) (sym back) (begins_front (reverse b) (x ∷ [] ++ reverse a) (text_reverse b tb) (all_reverse (λ character. not (is_blank character)) b fb)))

-- a text without blanks
pub trim_word : (xs : List ℕ) → fails is_blank xs ≡ true → trim xs ≡ xs
trim_word xs all = trim_same xs (begins_word xs all) (begins_word (reverse xs) (all_reverse (λ character. not (is_blank character)) xs all))

-- what no operand and no mnemonic has
abbrev pub is_apart : ℕ → Bool
is_apart character = is_blank character || (is_semicolon character || (is_colon character || (is_comma character || is_line_feed character)))

not_or : (a b : Bool) → not (a || b) ≡ true → (not a ≡ true) × (not b ≡ true)
not_or false b e = (refl, e)
not_or true b e = absurd (differ e)
  where
    differ : false ≡ true → ⊥
    differ e = cc

-- none of them, one by one
pub record IsPlain (xs : List ℕ) : Type 0 where
  pub blank : fails is_blank xs ≡ true
  pub semicolon : fails is_semicolon xs ≡ true
  pub colon : fails is_colon xs ≡ true
  pub comma : fails is_comma xs ≡ true
  pub line_feed : fails is_line_feed xs ≡ true

plain_character : (x : ℕ) → not (is_apart x) ≡ true → (not (is_blank x) ≡ true) × (not (is_semicolon x) ≡ true) × (not (is_colon x) ≡ true) × (not (is_comma x) ≡ true) × (not (is_line_feed x) ≡ true)
plain_character x e =
    let one = not_or (is_blank x) (is_semicolon x || (is_colon x || (is_comma x || is_line_feed x))) e in
    let two = not_or (is_semicolon x) (is_colon x || (is_comma x || is_line_feed x)) one.1 in
    let three = not_or (is_colon x) (is_comma x || is_line_feed x) two.1 in
    let four = not_or (is_comma x) (is_line_feed x) three.1 in
    (one.0, two.0, three.0, four.0, four.1)

pub plain : (xs : List ℕ) → fails is_apart xs ≡ true → IsPlain xs
plain [] all = record { blank = refl; semicolon = refl; colon = refl; comma = refl; line_feed = refl }
plain (x ∷ xs) all =
    let both = and_parts (not (is_apart x)) (fails is_apart xs) all in
    let here = plain_character x both.0 in
    let rest = plain xs both.1 in record {
      blank = and_from (not (is_blank x)) (fails is_blank xs) here.0 rest.blank;
      semicolon = and_from (not (is_semicolon x)) (fails is_semicolon xs) here.1 rest.semicolon;
      colon = and_from (not (is_colon x)) (fails is_colon xs) here.2 rest.colon;
      comma = and_from (not (is_comma x)) (fails is_comma xs) here.3 rest.comma;
      line_feed = and_from (not (is_line_feed x)) (fails is_line_feed xs) here.4 rest.line_feed;
    }

text_is : (text : List ℕ) → is_text text ≡ true → text_statement text ≡ statement_or_label text (position is_colon text)
text_is [] e = absurd (differ e)
  where
    differ : false ≡ true → ⊥
    differ e = cc
text_is (x ∷ xs) e = refl

operands_are : (name text : List ℕ) → is_text text ≡ true → instruction_of name text ≡ with_operands name text (position is_comma text)
operands_are name [] e = absurd (differ e)
  where
    differ : false ≡ true → ⊥
    differ e = cc
operands_are name (x ∷ xs) e = refl

-- a mnemonic
pub record IsMnemonic (name : List ℕ) : Type 0 where
  pub text : is_text name ≡ true
  pub characters : fails is_apart name ≡ true
  pub capital : capitals name ≡ name
  pub byte : bytes_eq name (codes ".byte") ≡ false
  pub word : bytes_eq name (codes ".word") ≡ false

-- a text without comment, colon and blanks at its ends
pub statement_is : (text : List ℕ) → fails is_semicolon text ≡ true → trim text ≡ text → is_text text ≡ true → fails is_colon text ≡ true → statement_of text ≡ statement_of_word (before_first is_blank text) (trim (after_first is_blank text))
unfolding statement_of
statement_is text comment trimmed there label =
    ap (λ (t : List ℕ). text_statement (trim t)) (before_none is_semicolon text (no_place is_semicolon text comment))
    ∙ ap text_statement trimmed
    ∙ text_is text there
    ∙ ap (statement_or_label text) (no_place is_colon text label)

after_is : (name text : List ℕ) → IsMnemonic name → statement_of_word name text ≡ instruction_of name text
unfolding statement_of_word
after_is name text is = rw (is.byte, is.word) (ap (λ (n : List ℕ). instruction_of n text) is.capital)

pub drop_after : (a : List ℕ) (x : ℕ) (b : List ℕ) → drop (length a + 1) (a ++ x ∷ b) ≡ b
drop_after a x b =
    let front : length (a ++ x ∷ []) ≡ length a + 1 = omega (arith, length-append a (x ∷ [])) in
    ap (drop (length a + 1)) (sym (append_assoc a (x ∷ []) b)) ∙ drop_front (length a + 1) (a ++ x ∷ []) b front

-- a mnemonic, a blank and operands
pub instruction_line : (name operands : List ℕ) → IsMnemonic name → is_text operands ≡ true → fails is_blank operands ≡ true → fails is_semicolon operands ≡ true → fails is_colon operands ≡ true → statement_of (name ++ 32 ∷ operands) ≡ with_operands name operands (position is_comma operands)
instruction_line name operands is there blank comment label =
    let characters = plain name is.characters in
    let text = name ++ 32 ∷ operands in
    let place = place_after is_blank name 32 operands characters.blank refl in
    let first : before_first is_blank text ≡ name = before_place is_blank text (length name) place ∙ take_front (length name) name (32 ∷ operands) refl in
    let after : after_first is_blank text ≡ operands = after_place is_blank text (length name) place ∙ drop_after name 32 operands in
    statement_is text
    (all_append (λ character. not (is_semicolon character)) name (32 ∷ operands) characters.semicolon comment)
    (trim_between name 32 operands is.text characters.blank there blank)
    (text_append name (32 ∷ operands) refl)
    (all_append (λ character. not (is_colon character)) name (32 ∷ operands) characters.colon label)
    ∙ ap (λ (w : List ℕ). statement_of_word w (trim (after_first is_blank text))) first
    ∙ ap (λ (t : List ℕ). statement_of_word name (trim t)) after
    ∙ ap (statement_of_word name) (trim_word operands blank)
    ∙ after_is name operands is
    ∙ operands_are name operands there

pub line_of_none : (name : List ℕ) → IsMnemonic name → statement_of name ≡ code name None None
unfolding trim
line_of_none name is =
    let characters = plain name is.characters in
    statement_is name characters.semicolon (trim_word name characters.blank) is.text characters.colon
    ∙ ap (λ (w : List ℕ). statement_of_word w (trim (after_first is_blank name))) (before_none is_blank name (no_place is_blank name characters.blank))
    ∙ ap (λ (t : List ℕ). statement_of_word name (trim t)) (after_none is_blank name (no_place is_blank name characters.blank))
    ∙ after_is name [] is

pub line_of_one : (name one : List ℕ) (e : Operand) → IsMnemonic name → is_text one ≡ true → fails is_apart one ≡ true → operand_of one ≡ Some e → statement_of (name ++ 32 ∷ one) ≡ code name (Some e) None
line_of_one name one e is there apart read =
    let characters = plain one apart in
    instruction_line name one is there characters.blank characters.semicolon characters.colon
    ∙ ap (with_operands name one) (no_place is_comma one characters.comma)
    ∙ ap (option_and_then (λ first. code name (Some first) None)) read

pub line_of_two : (name one two : List ℕ) (e f : Operand) → IsMnemonic name → is_text one ≡ true → fails is_apart one ≡ true → operand_of one ≡ Some e → fails is_apart two ≡ true → operand_of two ≡ Some f → statement_of (name ++ 32 ∷ (one ++ 44 ∷ two)) ≡ code name (Some e) (Some f)
line_of_two name one two e f is there apart read apart2 read2 =
    let characters = plain one apart in
    let characters2 = plain two apart2 in
    let both = one ++ 44 ∷ two in
    let second : operand_of (trim (drop (length one + 1) both)) ≡ Some f =
    ap (λ (t : List ℕ). operand_of (trim t)) (drop_after one 44 two) ∙ ap operand_of (trim_word two characters2.blank) ∙ read2 in
    let first : operand_of (trim (take (length one) both)) ≡ Some e =
    ap (λ (t : List ℕ). operand_of (trim t)) (take_front (length one) one (44 ∷ two) refl) ∙ ap operand_of (trim_word one characters.blank) ∙ read in
    instruction_line name both is (text_front one (44 ∷ two) there)
    (all_append (λ character. not (is_blank character)) one (44 ∷ two) characters.blank characters2.blank)
    (all_append (λ character. not (is_semicolon character)) one (44 ∷ two) characters.semicolon characters2.semicolon)
    (all_append (λ character. not (is_colon character)) one (44 ∷ two) characters.colon characters2.colon)
    ∙ ap (with_operands name both) (place_after is_comma one 44 two characters.comma refl)
    ∙ ap (option_and_then (λ a. option_and_then (λ b. code name (Some a) (Some b)) (operand_of (trim (drop (length one + 1) both))))) first
    ∙ ap (option_and_then (λ b. code name (Some e) (Some b))) second
