-- The assembly of a listing is the bytes that were listed.
use Rattle.std.proofs.Common.{◌≡◌, ℕ, zero, suc, ◌+◌, ◌%◌, ◌≤◌, ◌<◌, Bool, true, false, nat_lt, cond, List, [], ◌∷◌, ◌++◌, length, map, take, drop, refl, ap, sym, ◌∙◌, subst, append_assoc, append-nil, length-drop, arith}
use Rattle.std.specs.Prelude.{codes, Option, Some, None, Result, Ok, Err}
use Rattle.std.specs.List.{list_any, flat_map, slice_split}
use Rattle.std.proofs.lemmas.List.{take-append-drop}
use Rattle.std.proofs.lemmas.Bool.{le-ltb}
use Rattle.spc700_table.specs.Opcodes.{row_of, length_of}
use Rattle.spc700_asm.specs.declared.instruction.Instruction.{Instruction}
use Rattle.spc700_asm.specs.declared.refusal.LineFault.TheVariants as fault
use Rattle.spc700_asm.specs.Instructions.{bytes_of_number, bytes_of, instruction_at}
use Rattle.spc700_asm.specs.Listing.{byte_text, text_of, rest_text, listing_of_first, listing_within, listing}
use Rattle.spc700_asm.specs.Characters.{is_line_feed, trim}
use Rattle.spc700_asm.specs.Statements.{Statement, Nothing, Bytes, Code, statement_of}
use Rattle.spc700_asm.specs.Faults.{LineRefusal, has_great_number}
use Rattle.spc700_asm.specs.Assembly.{instruction_bytes, line_bytes, lines_of, assembly}
use Rattle.spc700_asm.proofs.Unrolled.{all_there}
use Rattle.text_form.proofs.Places.{split_at_place}
use Rattle.spc700_asm.proofs.LineTexts.{fails, plain, place_after, drop_after}
use Rattle.spc700_asm.proofs.Fronts.{take_front}
use Rattle.spc700_asm.proofs.TextCharacters.{byte_characters}
use Rattle.spc700_asm.proofs.TextRead.{text_read, text_feed}
use Rattle.spc700_asm.proofs.Encoding.{AreBytes, bytes_dropped, found_at, found_again, expected_is_written, expected_is_not_great, shown_is_near}
use Rattle.spc700_asm.proofs.Expected.{expected}
use Rattle.spc700_asm.proofs.ByteLines.{items, items_fail, rest_read}
use Rattle.spc700_asm.proofs.GoodLines.{Good, good_assembly}

-- the lines of a text after a line
line_and_lines : (t more : List ℕ) → fails is_line_feed t ≡ true → lines_of (t ++ 10 ∷ more) ≡ statement_of t ∷ lines_of more
unfolding lines_of
line_and_lines t more feed =
    let text = t ++ 10 ∷ more in
    ap (map statement_of) (split_at_place is_line_feed text (length t) (place_after is_line_feed t 10 more feed refl))
    ∙ ap (λ (front : List ℕ). statement_of front ∷ map statement_of (slice_split is_line_feed (drop (length t + 1) text))) (take_front (length t) t (10 ∷ more) refl)
    ∙ ap (λ (after : List ℕ). statement_of t ∷ map statement_of (slice_split is_line_feed after)) (drop_after t 10 more)

fine_fault : (s : Statement) (great long : Bool) → great ≡ false → long ≡ false → cond great (Some fault.Number) (cond long (Some fault.Long) None) ≡ None
fine_fault s false false x y = refl
fine_fault s true long x y = absurd (differ x)
  where
    differ : true ≡ false → ⊥
    differ e = cc
fine_fault s false true x y = absurd (differ y)
  where
    differ : true ≡ false → ⊥
    differ e = cc

-- no lines
no_lines : (at : ℕ) → at ≤ 0x10000 → Good at (lines_of []) []
unfolding lines_of statement_of trim
no_lines at within =
    let short : nat_lt 0x10000 (at + 0) ≡ false = le-ltb 0x10000 (at + 0) (omega arith) in
    ([], [], refl, fine_fault Nothing false (nat_lt 0x10000 (at + 0)) refl short, refl, refl, refl)

-- the line of an instruction, before good lines
good_instruction : (at opcode : ℕ) (operands more : List ℕ) → opcode < 256 → AreBytes operands → length_of opcode ≤ length operands + 1 → at + (length operands + 1) ≤ 0x10000 → Good (at + length_of opcode) (lines_of more) (drop (length_of opcode) (opcode ∷ operands)) → Good at (lines_of (text_of (found_at at opcode operands) ++ codes "\n" ++ more)) (opcode ∷ operands)
good_instruction at opcode operands more below are there within good =
    let i = found_at at opcode operands in
    let next = at + length_of opcode in
    let both = found_again at opcode operands are there in
    let lines : lines_of (text_of i ++ codes "\n" ++ more) ≡ Some (Code opcode (expected (row_of opcode).first i.first) (expected (row_of opcode).second i.second)) ∷ lines_of more =
    ap lines_of (append_assoc (text_of i) (codes "\n") more)
    ∙ line_and_lines (text_of i) more (text_feed opcode i.first i.second next below both.0.first both.0.second)
    ∙ ap (λ (s : Option Statement). s ∷ lines_of more) (text_read opcode i.first i.second next below both.0.first both.0.second) in
    let bytes : line_bytes [] at (Some (Code opcode (expected (row_of opcode).first i.first) (expected (row_of opcode).second i.second))) ≡ Ok (take (length_of opcode) (opcode ∷ operands)) =
    ap (instruction_bytes at) (expected_is_written [] opcode next i.first i.second both.0)
    ∙ ap (λ (far : Bool). cond far (Err fault.Far) (Ok (bytes_of at i))) (shown_is_near at i both.0)
    ∙ ap Ok both.1 in
    let P : List (Option Statement) → Type 0 = λ l. Good at l (opcode ∷ operands) in
    subst P (sym lines) (
      take (length_of opcode) (opcode ∷ operands),
      drop (length_of opcode) (opcode ∷ operands),
      take-append-drop (length_of opcode) (opcode ∷ operands),
      fine_fault Nothing (has_great_number (Code opcode (expected (row_of opcode).first i.first) (expected (row_of opcode).second i.second))) (nat_lt 0x10000 next) (expected_is_not_great opcode next i.first i.second below both.0) (le-ltb 0x10000 next (omega arith)),
      refl,
      bytes,
      good,
    )

-- bytes are no great numbers, and their own bytes
not_great : (bytes : List ℕ) → AreBytes bytes → list_any (nat_lt 0xFF) bytes ≡ false
not_great [] are = refl
not_great (b ∷ bytes) are = rw (le-ltb 0xFF b (omega (arith, are.0))) (not_great bytes are.1)

own_bytes : (bytes : List ℕ) → AreBytes bytes → flat_map (bytes_of_number 1) bytes ≡ bytes
own_bytes [] are = refl
own_bytes (b ∷ bytes) are =
    let same : b % 0x100 ≡ b = omega (arith, are.0) in
    ap (λ (x : ℕ). x ∷ flat_map (bytes_of_number 1) bytes) same ∙ ap (λ (t : List ℕ). b ∷ t) (own_bytes bytes are.1)

-- the line of bytes that are no whole instruction
good_rest : (at : ℕ) (bytes : List ℕ) → AreBytes bytes → at + length bytes ≤ 0x10000 → Good at (lines_of (rest_text bytes)) bytes
good_rest at [] are within = no_lines at (omega arith)
good_rest at (b ∷ bytes) are within =
    let text = codes ".byte" ++ 32 ∷ items b bytes in
    let lines : lines_of (rest_text (b ∷ bytes)) ≡ Some (Bytes (b ∷ bytes)) ∷ lines_of [] =
    line_and_lines text [] (items_fail is_line_feed refl (λ x small. (plain (byte_text x) (byte_characters x small)).line_feed) b bytes are)
    ∙ ap (λ (s : Option Statement). s ∷ lines_of []) (rest_read b bytes are) in
    let P : List (Option Statement) → Type 0 = λ l. Good at l (b ∷ bytes) in
    subst P (sym lines) (
      b ∷ bytes,
      [],
      append-nil (b ∷ bytes),
      fine_fault Nothing (list_any (nat_lt 0xFF) (b ∷ bytes)) (nat_lt 0x10000 (at + length (b ∷ bytes))) (not_great (b ∷ bytes) are) (le-ltb 0x10000 (at + length (b ∷ bytes)) within),
      refl,
      ap Ok (own_bytes (b ∷ bytes) are),
      no_lines (at + length (b ∷ bytes)) within,
    )

-- bytes whose first instruction is there or not, with good lines after it
good_first : (most at opcode : ℕ) (operands : List ℕ) → AreBytes (opcode ∷ operands) → at + length (opcode ∷ operands) ≤ 0x10000 → (length_of opcode ≤ length operands + 1 → Good (at + length_of opcode) (lines_of (listing_within most (at + length_of opcode) (drop (length_of opcode) (opcode ∷ operands)))) (drop (length_of opcode) (opcode ∷ operands))) → (o : Option Instruction) → instruction_at at (opcode ∷ operands) ≡ o → Good at (lines_of (listing_of_first (listing_within most) at (opcode ∷ operands) o)) (opcode ∷ operands)
unfolding instruction_at
good_first most at opcode operands are within after None is = good_rest at (opcode ∷ operands) are within
good_first most at opcode operands are within after (Some i) is =
    let bytes = opcode ∷ operands in
    let both = all_there (length operands + 1) (length_of opcode) (found_at at opcode operands) i is in
    let P : Instruction → Type 0 = λ j. Good at (lines_of (text_of j ++ codes "\n" ++ listing_within most (at + length_of j.opcode) (drop (length_of j.opcode) bytes))) bytes in
    subst P both.0 (good_instruction at opcode operands (listing_within most (at + length_of opcode) (drop (length_of opcode) bytes)) are.0 are.1 both.1 (omega arith) (after both.1))

good_listing : (most at : ℕ) (bytes : List ℕ) → AreBytes bytes → at + length bytes ≤ 0x10000 → length bytes ≤ most → Good at (lines_of (listing_within most at bytes)) bytes
unfolding instruction_at
good_listing zero at bytes are within enough = good_rest at bytes are within
good_listing (suc most) at [] are within enough = no_lines at (omega arith)
good_listing (suc most) at (opcode ∷ operands) are within enough =
    let count = length_of opcode in
    let bytes = opcode ∷ operands in
    good_first most at opcode operands are within
    (λ there.
    let left : length (drop count bytes) + count ≡ length bytes = omega (arith, length-drop count bytes) in
    good_listing most (at + count) (drop count bytes) (bytes_dropped count bytes are) (omega (arith, left)) (omega (arith, left)))
    (instruction_at at bytes) refl

pub assembled_from_listing : (bytes : List ℕ) (origin : ℕ) → AreBytes bytes → origin + length bytes ≤ 0x10000 → assembly (listing origin bytes) origin ≡ Ok bytes
unfolding assembly listing
assembled_from_listing bytes origin are within = good_assembly origin (lines_of (listing origin bytes)) bytes (good_listing (length bytes) origin bytes are within (omega arith))

pub listings_differ : (a b : List ℕ) (origin : ℕ) → AreBytes a → AreBytes b → origin + length a ≤ 0x10000 → origin + length b ≤ 0x10000 → listing origin a ≡ listing origin b → a ≡ b
listings_differ a b origin one two within inside same =
    both (assembly (listing origin a) origin) (assembled_from_listing a origin one within) (ap (λ (text : List ℕ). assembly text origin) same ∙ assembled_from_listing b origin two inside)
  where
    both : (r : Result (List ℕ) LineRefusal) → r ≡ Ok a → r ≡ Ok b → a ≡ b
    both r x y = cc
