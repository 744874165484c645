-- The line of bytes that are no whole instruction is read as those bytes.
use Rattle.std.proofs.Common.{◌≡◌, ℕ, ◌+◌, ◌<◌, Bool, true, not, List, [], ◌∷◌, ◌++◌, length, map, drop, refl, ap, ◌∙◌, append-nil}
use Rattle.std.specs.Prelude.{codes, Option, Some, option_and_then}
use Rattle.std.specs.Option.{option_map}
use Rattle.std.specs.List.{flat_map, slice_split, after_first}
use Rattle.spc700_asm.specs.Listing.{byte_text}
use Rattle.spc700_asm.specs.Characters.{is_blank, is_semicolon, is_colon, is_comma, trim, number_of}
use Rattle.spc700_asm.specs.Statements.{Bytes, all_of, items_of, statement_of_word, statement_of}
use Rattle.text_form.proofs.Places.{split_at_place, split_none, before_place, after_place}
use Rattle.spc700_asm.proofs.NumberTexts.{number_of_byte}
use Rattle.spc700_asm.proofs.Fronts.{take_front}
use Rattle.spc700_asm.proofs.LineTexts.{is_text, fails, all_append, plain, no_place, place_after, trim_between, trim_word, drop_after, statement_is}
use Rattle.spc700_asm.proofs.TextCharacters.{byte_characters}
use Rattle.spc700_asm.proofs.Encoding.{AreBytes}

-- bytes as they are written, with commas between them
abbrev pub items : (byte : ℕ) → (bytes : List ℕ) → List ℕ
items byte bytes = byte_text byte ++ flat_map (λ byte. codes "," ++ byte_text byte) bytes

pub items_fail : (p : ℕ → Bool) → not (p 44) ≡ true → ((b : ℕ) → b < 0x100 → fails p (byte_text b) ≡ true) → (b : ℕ) (bytes : List ℕ) → AreBytes (b ∷ bytes) → fails p (items b bytes) ≡ true
items_fail p comma each b [] are = all_append (λ character. not (p character)) (byte_text b) [] (each b are.0) refl
items_fail p comma each b (c ∷ bytes) are =
    all_append (λ character. not (p character)) (byte_text b) (44 ∷ items c bytes) (each b are.0) (rw comma (items_fail p comma each c bytes are.1))

numbers_of : (b : ℕ) (bytes : List ℕ) → AreBytes (b ∷ bytes) → all_of number_of (items_of (items b bytes)) ≡ Some (b ∷ bytes)
numbers_of b [] are =
    let characters = plain (byte_text b) (byte_characters b are.0) in
    ap (λ (t : List ℕ). all_of number_of (items_of t)) (append-nil (byte_text b))
    ∙ ap (λ (parts : List (List ℕ)). all_of number_of (map trim parts)) (split_none is_comma (byte_text b) (no_place is_comma (byte_text b) characters.comma))
    ∙ ap (λ (t : List ℕ). all_of number_of (t ∷ [])) (trim_word (byte_text b) characters.blank)
    ∙ ap (λ (o : Option ℕ). option_and_then (λ first. option_map (λ others. first ∷ others) (Some [])) o) (number_of_byte b are.0)
numbers_of b (c ∷ bytes) are =
    let characters = plain (byte_text b) (byte_characters b are.0) in
    let text = byte_text b ++ 44 ∷ items c bytes in
    let place = place_after is_comma (byte_text b) 44 (items c bytes) characters.comma refl in
    ap (λ (parts : List (List ℕ)). all_of number_of (map trim parts)) (split_at_place is_comma text (length (byte_text b)) place)
    ∙ ap (λ (t : List ℕ). all_of number_of (trim t ∷ map trim (slice_split is_comma (drop (length (byte_text b) + 1) text)))) (take_front (length (byte_text b)) (byte_text b) (44 ∷ items c bytes) refl)
    ∙ ap (λ (t : List ℕ). all_of number_of (t ∷ map trim (slice_split is_comma (drop (length (byte_text b) + 1) text)))) (trim_word (byte_text b) characters.blank)
    ∙ ap (λ (t : List ℕ). all_of number_of (byte_text b ∷ map trim (slice_split is_comma t))) (drop_after (byte_text b) 44 (items c bytes))
    ∙ ap (λ (o : Option ℕ). option_and_then (λ first. option_map (λ others. first ∷ others) (all_of number_of (items_of (items c bytes)))) o) (number_of_byte b are.0)
    ∙ ap (option_map (λ others. b ∷ others)) (numbers_of c bytes are.1)

byte_line : (text : List ℕ) → is_text text ≡ true → fails is_blank text ≡ true → fails is_semicolon text ≡ true → fails is_colon text ≡ true → statement_of (codes ".byte" ++ 32 ∷ text) ≡ option_map Bytes (all_of number_of (items_of text))
unfolding statement_of_word
byte_line text there blank comment label =
    let name = codes ".byte" in
    let line = name ++ 32 ∷ text in
    let place = place_after is_blank name 32 text refl refl in
    statement_is line comment (trim_between name 32 text refl refl there blank) refl label
    ∙ ap (λ (w : List ℕ). statement_of_word w (trim (after_first is_blank line))) (before_place is_blank line 5 place)
    ∙ ap (λ (t : List ℕ). statement_of_word name (trim t)) (after_place is_blank line 5 place)
    ∙ ap (statement_of_word name) (trim_word text blank)

pub rest_read : (b : ℕ) (bytes : List ℕ) → AreBytes (b ∷ bytes) → statement_of (codes ".byte" ++ 32 ∷ items b bytes) ≡ Some (Bytes (b ∷ bytes))
rest_read b bytes are =
    byte_line (items b bytes) refl
    (items_fail is_blank refl (λ x small. (plain (byte_text x) (byte_characters x small)).blank) b bytes are)
    (items_fail is_semicolon refl (λ x small. (plain (byte_text x) (byte_characters x small)).semicolon) b bytes are)
    (items_fail is_colon refl (λ x small. (plain (byte_text x) (byte_characters x small)).colon) b bytes are)
    ∙ ap (option_map Bytes) (numbers_of b bytes are)
