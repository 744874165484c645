-- Over calls that load nothing the chip of a bus that lags counts on.
use Rattle.std.proofs.Common.{◌≡◌, ◌<◌, ◌≤◌, ◌-◌, ◌/◌, ◌^◌, ℕ, List, [], ◌∷◌, refl, arith}
use Rattle.chip_form.specs.Samples.{count_after}
use Rattle.chip_form.specs.ChipMeaning.{ChipMeaning}
use Rattle.chip_form.specs.ChipSaving.{ChipSaving}
use Rattle.lock_step.specs.Emits.{CountsOn, IsCountedOn}
use Rattle.lock_step.proofs.ChipCounts.{counts_on_none, counts_on_then}
use Rattle.lock_step.specs.Machine.{Machine}
use Rattle.lag_bus.specs.Book.{Book}
use Rattle.lag_bus.specs.Lagging.{Lagging, lagging, with_book, HasNumbersOfBook}
use Rattle.lag_bus.specs.LagEmits.{lag_emits}
use Rattle.lag_bus.specs.LagLaws.{counting, counts-settle}
use Rattle.lag_bus.specs.Calls.{Call, Read, Write, Pass, Settle, Drain, Load, after_calls, lagging_calls, LoadNothing, TotalsSamplesMade}
use Rattle.spc700_exec.specs.declared.bus.TheConstants.{CYCLES_PER_SAMPLE}

with_book-numbers : {S : Type 0} (machine : Machine S) (book : Book) → HasNumbersOfBook (with_book machine book)
with_book-numbers machine book = record { batches = refl; sample = refl; total = refl }

module _ {S V : Type 0} (chip : ChipMeaning S) (saving : ChipSaving S V) where
  abbrev later : List (Call V) → Lagging S → Lagging S
  later calls bus = after_calls (lagging_calls chip saving) calls bus

  counted-calls : (calls : List (Call V)) (bus : Lagging S) → LoadNothing calls → IsCountedOn (lagging chip) (lag_emits chip) bus (later calls bus)
  counted-calls [] bus few = counts_on_none (bus.machine.clock / CYCLES_PER_SAMPLE) bus.book.pending bus.book.total
  counted-calls (Read at ∷ calls) bus few = counts_on_then ((counting chip).read_counts bus at) (counted-calls calls ((lagging chip).read bus at).1 few)
  counted-calls (Write at value ∷ calls) bus few = counts_on_then ((counting chip).write_counts bus at value) (counted-calls calls ((lagging chip).write bus at value) few)
  counted-calls (Pass cycles ∷ calls) bus few = counts_on_then ((counting chip).pass_counts bus cycles few.0) (counted-calls calls ((lagging chip).pass bus cycles) few.1)
  counted-calls (Settle ∷ calls) bus few = counts_on_then (counts-settle chip bus) (counted-calls calls ((lagging_calls chip saving).settle bus) few)
  counted-calls (Drain frames records ∷ calls) bus few = counted-calls calls ((lagging_calls chip saving).drain frames records bus) few
  counted-calls (Load saved memory ∷ calls) bus few = absurd few

  -- what every call leaves has the numbers of its book
  of_book : (bus : Lagging S) → HasNumbersOfBook bus → (calls : List (Call V)) → HasNumbersOfBook (later calls bus)
  of_book bus numbers [] = numbers
  of_book bus numbers (Read at ∷ calls) = of_book ((lagging chip).read bus at).1 (with_book-numbers _ _) calls
  of_book bus numbers (Write at value ∷ calls) = of_book ((lagging chip).write bus at value) (with_book-numbers _ _) calls
  of_book bus numbers (Pass cycles ∷ calls) = of_book ((lagging chip).pass bus cycles) (with_book-numbers _ _) calls
  of_book bus numbers (Settle ∷ calls) = of_book ((lagging_calls chip saving).settle bus) (with_book-numbers _ _) calls
  of_book bus numbers (Drain frames records ∷ calls) = of_book ((lagging_calls chip saving).drain frames records bus) (with_book-numbers _ _) calls
  of_book bus numbers (Load saved memory ∷ calls) = of_book ((lagging_calls chip saving).load saved memory bus) (with_book-numbers _ _) calls

-- a chip that counts on, by the numbers of its samples
pub samples_of_count : (due pending total new_due new_pending new_total : ℕ) → CountsOn due pending total new_due new_pending new_total
    → pending ≤ due → total < 2 ^ 64
    → (due - pending ≤ new_due - new_pending) × (new_total ≡ count_after total (new_due - new_pending - (due - pending)))
samples_of_count due pending total new_due new_pending new_total counts few fits =
    let rises = counts.rises in
    let all = counts.counted fits in
    (omega arith, omega arith)

-- the same numbers under other names
same_numbers : {sample total new_sample new_total first first_total last last_total : ℕ} → sample ≡ first → total ≡ first_total → new_sample ≡ last → new_total ≡ last_total
    → (first ≤ last) × (last_total ≡ count_after first_total (last - first)) → (sample ≤ new_sample) × (new_total ≡ count_after total (new_sample - sample))
same_numbers one two three four both = let less = both.0 in let counted = both.1 in (omega arith, omega arith)

pub total-calls : {S V : Type 0} (chip : ChipMeaning S) (saving : ChipSaving S V) → TotalsSamplesMade chip saving
total-calls chip saving calls bus few matches =
    let new = later chip saving calls bus in
    let numbers = matches.numbers in
    let book = of_book chip saving bus numbers calls in
    let fits : bus.book.total < 2 ^ 64 = rw (← numbers.total) matches.fits in
    let both = samples_of_count (bus.machine.clock / CYCLES_PER_SAMPLE) bus.book.pending bus.book.total (new.machine.clock / CYCLES_PER_SAMPLE) new.book.pending new.book.total
    (counted-calls chip saving calls bus few) matches.pending fits in
    same_numbers numbers.sample numbers.total book.sample book.total both
