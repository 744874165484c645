-- The headers of the candidates that stay are those that were tried.
use Rattle.std.proofs.Common.{ℕ, zero, suc, ◌<◌, ◌≤◌, Bool, true, false, List, [], ◌∷◌, take, drop, Option, Some, None, ℤ, if◌then◌else◌, arith}
use Rattle.std.specs.List.{All}
use Rattle.std.proofs.lemmas.List.Elements.{All-nil, All-cons, All-head, All-tail, All-append, All-take, All-drop}
use Rattle.brr_encode.specs.Encoding.{header_at}
use Rattle.brr_encode.specs.Greedy.{nearest_digit}
use Rattle.brr_search.specs.Candidates.{gone_on, place_from, put, keep, keep_found, digit_below, digit_above, keep_digit, keep_nearest}
use Rattle.brr_search.specs.Beam.{after_target, after_targets, opened, keep_all, best_candidates}
use Rattle.brr_search.specs.Links.{TakesFlags}
use Rattle.brr_search.specs.declared.candidate.Candidate.{Candidate}

all-put : (P : Candidate → Type 0) (most : ℕ) (place : Option ℕ) (candidate : Candidate) (candidates : List Candidate) → P candidate → All P candidates → All P (put most place candidate candidates)
all-put P most None candidate candidates h hs = hs
all-put P most (Some place) candidate candidates h hs =
    All-take P most _ (All-append P (take place candidates) (candidate ∷ drop place candidates) (All-take P place candidates hs) (All-cons P candidate (drop place candidates) h (All-drop P place candidates hs)))

all-keep : (P : Candidate → Type 0) (most : ℕ) (candidate : Candidate) (candidates : List Candidate) → P candidate → All P candidates → All P (keep most candidate candidates)
unfolding keep
all-keep P most candidate candidates h hs = all-put P most (place_from 0 candidate candidates) candidate candidates h hs

all-choice : (P : Candidate → Type 0) (most : ℕ) (b : Bool) (candidate : Candidate) (candidates : List Candidate) → P candidate → All P candidates → All P (keep_found most (if b then Some candidate else None) candidates)
all-choice P most true candidate candidates h hs = all-keep P most candidate candidates h hs
all-choice P most false candidate candidates h hs = hs

-- a digit more leaves the header as it is
all-digit : (Q : ℕ → Type 0) (most limit : ℕ) (target : ℤ) (candidate : Candidate) (digit : Option ℤ) (candidates : List Candidate)
    → Q candidate.header → All (λ w. Q w.header) candidates → All (λ w. Q w.header) (keep_digit most limit target candidate digit candidates)
unfolding gone_on
all-digit Q most limit target candidate None candidates h hs = hs
all-digit Q most limit target candidate (Some digit) candidates h hs = all-choice (λ w. Q w.header) most _ _ candidates h hs

all-nearest : (Q : ℕ → Type 0) (most limit : ℕ) (target : ℤ) (candidate : Candidate) (candidates : List Candidate)
    → Q candidate.header → All (λ w. Q w.header) candidates → All (λ w. Q w.header) (keep_nearest most limit target candidate candidates)
unfolding keep_nearest
all-nearest Q most limit target candidate candidates h hs =
    let digit = nearest_digit candidate.header target candidate.last candidate.before in
    all-digit Q most limit target candidate (digit_above digit) _ h
    (all-digit Q most limit target candidate (digit_below digit) _ h (all-digit Q most limit target candidate (Some digit) candidates h hs))

all-target : (Q : ℕ → Type 0) (most limit : ℕ) (target : ℤ) (candidates kept : List Candidate)
    → All (λ w. Q w.header) candidates → All (λ w. Q w.header) kept → All (λ w. Q w.header) (after_target most limit target candidates kept)
all-target Q most limit target [] kept h hs = hs
all-target Q most limit target (candidate ∷ candidates) kept h hs =
    let P : Candidate → Type 0 = λ w. Q w.header in
    all-target Q most limit target candidates _ (All-tail P candidate candidates h) (all-nearest Q most limit target candidate kept (All-head P candidate candidates h) hs)

all-targets : (Q : ℕ → Type 0) (most limit : ℕ) (targets : List ℤ) (candidates : List Candidate)
    → All (λ w. Q w.header) candidates → All (λ w. Q w.header) (after_targets most limit targets candidates)
all-targets Q most limit [] candidates h = h
all-targets Q most limit (target ∷ targets) candidates h =
    all-targets Q most limit targets _ (all-target Q most limit target candidates [] h (All-nil (λ w. Q w.header)))

all-opened : (Q : ℕ → Type 0) (header place : ℕ) (candidates : List Candidate) → Q header → All (λ w. Q w.header) (opened header place candidates)
all-opened Q header place [] h = All-nil (λ w. Q w.header)
all-opened Q header place (candidate ∷ candidates) h = All-cons (λ w. Q w.header) _ _ h (all-opened Q header (suc place) candidates h)

all-kept : (Q : ℕ → Type 0) (most : ℕ) (candidates kept : List Candidate) → All (λ w. Q w.header) candidates → All (λ w. Q w.header) kept → All (λ w. Q w.header) (keep_all most candidates kept)
all-kept Q most [] kept h hs = hs
all-kept Q most (candidate ∷ candidates) kept h hs =
    let P : Candidate → Type 0 = λ w. Q w.header in
    all-kept Q most candidates _ (All-tail P candidate candidates h) (all-keep P most candidate kept (All-head P candidate candidates h) hs)

-- what holds of the headers that are tried holds of those of the candidates that stay
pub all-best : (Q : ℕ → Type 0) (most : ℕ) (candidates : List Candidate) (targets : List ℤ) (count : ℕ)
    → ((place : ℕ) → place < count → Q (header_at place)) → All (λ w. Q w.header) (best_candidates most candidates targets count)
all-best Q most candidates targets zero each = All-nil (λ w. Q w.header)
all-best Q most candidates targets (suc count) each =
    all-kept Q most _ _
    (all-targets Q most _ targets _ (all-opened Q (header_at count) 0 candidates (each count (omega arith))))
    (all-best Q most candidates targets count (λ place h. each place (omega arith)))

pub best_candidates-take_flags : (most : ℕ) (candidates : List Candidate) (targets : List ℤ) (count : ℕ) → count ≤ 52 → All TakesFlags (best_candidates most candidates targets count)
best_candidates-take_flags most candidates targets count few = all-best (λ header. header ≤ 0xcc) most candidates targets count (λ place h. omega arith)
