-- What every row of the instruction list keeps, by one test of the whole list.
use Rattle.std.proofs.Common.{◌≡◌, ℕ, ◌+◌, ◌<◌, ◌≤◌, length, Bool, true, false, ◌&&◌, ◌||◌, nat_lt, nat_le, refl, arith, subst, sym}
use Rattle.std.proofs.lemmas.Bool.{and_parts, leb-true}
use Rattle.std.specs.List.{range_with_len, list_all}
use Rattle.std.proofs.lemmas.Bool.Decides.{nat_tests}
use Rattle.spc700_table.specs.declared.Form.{Form}
use Rattle.spc700_table.specs.declared.Form.TheVariants as F
use Rattle.spc700_table.specs.declared.OpRow.{OpRow}
use Rattle.spc700_table.specs.Cycles.{cycle_map, printed_cycles}
use Rattle.spc700_table.specs.Opcodes.{row_of, columns}
use Rattle.spc700_table.proofs.Below.{list_all_below}
use Rattle.spc700_exec.specs.Accesses.{row_accesses}
use Rattle.spc700_exec.specs.Forms.{row_suits}
use Rattle.spc700_exec.proofs.Steady.{is_steady}
use Rattle.spc700_exec.specs.Pieces.{FormFits, IsRow, halts}

abbrev form_fits : Form → Bool
form_fits (F.Table n) = nat_lt n 16
form_fits (F.DirectBit bit) = nat_lt bit 8
form_fits _ = true

abbrev row_fits : OpRow → Bool
row_fits row =
    form_fits row.first && (form_fits row.second && (nat_le row.cycles row.taken && (nat_le row.taken 12 && (halts row.kind || nat_le 1 row.cycles))))

abbrev row_is_few : OpRow → Bool
row_is_few row = nat_le (length (row_accesses row) + 1) 6

abbrev row_is_below : OpRow → Bool
row_is_below row = halts row.kind || nat_le (length (row_accesses row) + 1) row.cycles

abbrev row_is_listed : OpRow → Bool
row_is_listed row = row_suits row && is_steady row

abbrev row_passes : OpRow → Bool
row_passes row = row_fits row && (row_is_few row && (row_is_below row && row_is_listed row))

-- the test of the whole list
all_pass : list_all (λ op. row_passes (row_of op)) (range_with_len 0 256) ≡ true
unfolding row_of columns printed_cycles cycle_map
all_pass = refl

-- the four tests of a row
record Passes (row : OpRow) : Type 0 where
  fits : row_fits row ≡ true
  few : row_is_few row ≡ true
  below : row_is_below row ≡ true
  listed : row_is_listed row ≡ true

four : (a b c d : Bool) → (a && (b && (c && d))) ≡ true → (a ≡ true) × (b ≡ true) × (c ≡ true) × (d ≡ true)
four a b c d h =
    let h2 = (and_parts a (b && (c && d)) h).1 in
    let h3 = (and_parts b (c && d) h2).1 in
    ((and_parts a _ h).0, (and_parts b _ h2).0, (and_parts c _ h3).0, (and_parts c _ h3).1)

passes : (op : ℕ) → op < 256 → Passes (row_of op)
passes op below =
    let row = row_of op in
    let tests = four (row_fits row) (row_is_few row) (row_is_below row) (row_is_listed row) (list_all_below (λ op. row_passes (row_of op)) 256 op all_pass below) in
    record { fits = tests.0; few = tests.1; below = tests.2; listed = tests.3 }

-- a test of two holds by its second where the first fails
second_test : (a b : Bool) → (a || b) ≡ true → a ≡ false → b ≡ true
second_test true b either fails = absurd (cc)
second_test false b either fails = either

pub row_accesses-few : (op : ℕ) → op < 256 → length (row_accesses (row_of op)) + 1 ≤ 6
row_accesses-few op below = leb-true _ _ (passes op below).few

pub row_accesses-below : (op : ℕ) → op < 256 → halts (row_of op).kind ≡ false → length (row_accesses (row_of op)) + 1 ≤ (row_of op).cycles
row_accesses-below op below runs = leb-true _ _ (second_test _ _ (passes op below).below runs)

pub rows_suit : (op : ℕ) → op < 256 → row_suits (row_of op) ≡ true
rows_suit op below = (and_parts _ _ (passes op below).listed).0

pub rows_are_steady : (op : ℕ) → op < 256 → is_steady (row_of op) ≡ true
rows_are_steady op below = (and_parts (row_suits (row_of op)) _ (passes op below).listed).1

form_from_test : (form : Form) → form_fits form ≡ true → FormFits form
form_from_test (F.Table n) h = grind (arith, nat_tests)
form_from_test (F.DirectBit bit) h = grind (arith, nat_tests)
form_from_test _ h = tt

five : (a b c d e : Bool) → (a && (b && (c && (d && e)))) ≡ true → (a ≡ true) × (b ≡ true) × (c ≡ true) × (d ≡ true) × (e ≡ true)
five a b c d e h =
    let rest = four b c d e (and_parts a _ h).1 in
    ((and_parts a _ h).0, rest.0, rest.1, rest.2, rest.3)

-- what the first test shows
tests_of_fit : (row : OpRow) → row_fits row ≡ true → (form_fits row.first ≡ true) × (form_fits row.second ≡ true) × (nat_le row.cycles row.taken ≡ true) × (nat_le row.taken 12 ≡ true) × ((halts row.kind || nat_le 1 row.cycles) ≡ true)
tests_of_fit row h = five (form_fits row.first) (form_fits row.second) (nat_le row.cycles row.taken) (nat_le row.taken 12) (halts row.kind || nat_le 1 row.cycles) h

pub row_cycles-few : (op : ℕ) → op < 256 → ((row_of op).cycles ≤ (row_of op).taken) × ((row_of op).taken ≤ 12)
row_cycles-few op below =
    let tests = tests_of_fit (row_of op) (passes op below).fits in
    (leb-true _ _ tests.2, leb-true _ _ tests.3)

row_from_test : (row : OpRow) → row_fits row ≡ true → halts row.kind ≡ false → IsRow row
row_from_test row h runs =
    let tests = tests_of_fit row h in
    record {
      first = form_from_test row.first tests.0;
      second = form_from_test row.second tests.1;
      some = leb-true _ _ (second_test _ _ tests.4 runs);
      more = leb-true _ _ tests.2;
      few = leb-true _ _ tests.3;
    }

-- each row of an instruction that doesn't halt
pub IsRow-row_of : (row : OpRow) (op : ℕ) → row ≡ row_of op → op < 256 → halts row.kind ≡ false → IsRow row
IsRow-row_of row op e below runs =
    let P : OpRow → Type 0 = λ r. halts r.kind ≡ false → IsRow r in
    subst P (sym e) (row_from_test (row_of op) (passes op below).fits) runs
