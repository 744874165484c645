-- Marks of pages: none at first. And when two windows are one.
use Rattle.std.proofs.Common.{◌≡◌, ℕ, inl, inr, true, false, ◌&&◌, ◌==◌, None, replicate, slice_index_or, refl, arith}
use Rattle.std.proofs.lemmas.Bool.{cases_lt, and_parts, eqb-true}
use Rattle.std.proofs.lemmas.List.{get_or-replicate, get_or_past, length-replicate}
use Rattle.aram_core.specs.declared.window.Window.{Window}
use Rattle.chip_form.specs.declared.pages.ReachPages.{ReachPages}
use Rattle.lag_bus.specs.Held.{AreMarks, AreReadsKnown}
use Rattle.lag_bus.specs.declared.reach_cache.ReachCache.{ReachCache}

-- at first each mark is 0
unmarked : (page : ℕ) → ◌≡◌ {A = ℕ} (slice_index_or (replicate 256 0) page 0) 0
unmarked page = elim (cases_lt page 256) [
  | inl below ↦ get_or-replicate 256 page 0 0 below
  | inr beyond ↦ get_or_past (replicate 256 0) page 0 (let all = length-replicate {A = ℕ} 256 0 in omega arith)
]

-- and those are marks of any kind
pub are_marks : (IsOfKind : ℕ → Type 0) → AreMarks IsOfKind (replicate 256 0)
are_marks IsOfKind page some = let none = unmarked page in absurd (omega (arith, none, some))

-- where nothing of reads was kept, what there is is so of every reach
pub reads_of_any : (reach : ReachPages) (known : ReachCache) → known.has_reads ≡ false → ((known.has_reads ≡ false) → (known.entangled ≡ None) × AreMarks (λ page. ⊥) known.unread)
    → AreReadsKnown reach known
reads_of_any reach known off kept =
    let none = kept off in
    record { entangled = rw none.0 tt; unread = λ page some. absurd (none.1 page some).0 }

-- windows of the same start and length are one
pub same_window : (one two : Window) → (one.start == two.start && one.len == two.len) ≡ true → one ≡ two
same_window one two is =
    let parts = and_parts _ _ is in
    let start : one.start ≡ two.start = eqb-true _ _ parts.0 in
    let len : one.len ≡ two.len = eqb-true _ _ parts.1 in
    let same : ◌≡◌ {A = Window} (record { start = one.start; len = one.len }) (record { start = two.start; len = two.len }) = rw (start, len) refl in
    same
