-- The choice between the plain encoding and another one, and what is refused.
use Rattle.std.proofs.Common.{◌≡◌, ◌≢◌, ℕ, ◌-◌, ◌*◌, ◌/◌, ◌<◌, ◌≤◌, Bool, true, false, nat_lt, nat_le, List, ℤ, length, Ok, Err, refl, sym, ap, ◌∙◌, arith, if◌then◌else◌}
use Rattle.std.specs.Prelude.{◌==◌, ◌&&◌, IfErr}
use Rattle.std.proofs.lemmas.Bool.Decides.{nat_tests}
use Rattle.brr_encode.specs.Encoding.{padded_samples, max_samples, encoding_from, encoded_from}
use Rattle.brr_encode.specs.Report.{reports_of}
use Rattle.brr_encode.specs.declared.report.BlockReport.{BlockReport}
use Rattle.brr_encode.specs.declared.encoder.EncodeRefusal.{EncodeRefusal}
use Rattle.brr_encode.specs.declared.encoder.EncodeRefusal.TheVariants.{Empty, TooLong}
use Rattle.brr_search.specs.Found.{sum_of_squares, cost_of, searched, is_cheaper, cheaper, found_encoding, found_samples}

pub not_whole : (cost : ℕ) (targets : List ℤ) (blocks : List ℕ) → length blocks ≢ length targets / 16 * 9 → is_cheaper cost targets blocks ≡ false
not_whole cost targets blocks h =
    let no : (length blocks == 9 * (length targets / 16)) ≡ false = grind (arith, nat_tests, h) in
    rw no refl

pub by_cost : (cost : ℕ) (targets : List ℤ) (blocks : List ℕ) (b : Bool) → length blocks ≡ length targets / 16 * 9 → nat_lt (cost_of blocks targets) cost ≡ b → is_cheaper cost targets blocks ≡ b
by_cost cost targets blocks b whole h =
    let yes : (length blocks == 9 * (length targets / 16)) ≡ true = grind (arith, nat_tests, whole) in
    rw (yes, h) refl

-- the blocks that were found, by the reports that were made of them
pub chosen : (cost size sum : ℕ) (targets : List ℤ) (blocks seen others : List ℕ) (reports : List BlockReport) (b : Bool)
    → blocks ≡ others → size ≡ length blocks → size ≡ length targets / 16 * 9 → seen ≡ blocks → reports ≡ reports_of seen targets
    → sum ≡ sum_of_squares reports → nat_lt sum cost ≡ b → is_cheaper cost targets others ≡ b
chosen cost size sum targets blocks seen others reports b same sized whole seen_is reports_are sum_is test =
    let costs : sum ≡ cost_of others targets = sum_is ∙ ap sum_of_squares (reports_are ∙ ap (λ (l : List ℕ). reports_of l targets) (seen_is ∙ same)) in
    by_cost cost targets others b (ap (λ (l : List ℕ). length l) (sym same) ∙ sym sized ∙ whole) (ap (λ (n : ℕ). nat_lt n cost) (sym costs) ∙ test)

-- samples are refused by how many they are, whatever their blocks
accepted_by : (b c : Bool) (blocks others bytes : List ℕ)
    → (if b then Err Empty else if c then Err TooLong else Ok blocks) ≡ Ok bytes
    → (bytes ≡ blocks) × ((if b then Err Empty else if c then Err TooLong else Ok others) ≡ Ok others)
accepted_by true c blocks others bytes h = absurd (cc)
accepted_by false true blocks others bytes h = absurd (cc)
accepted_by false false blocks others bytes h = (cc, refl)

refused_by : (b c : Bool) (blocks others : List ℕ) (refusal : EncodeRefusal)
    → (if b then Err Empty else if c then Err TooLong else Ok blocks) ≡ Err refusal
    → (if b then Err Empty else if c then Err TooLong else Ok others) ≡ Err refusal
refused_by true c blocks others refusal h = h
refused_by false true blocks others refusal h = h
refused_by false false blocks others refusal h = absurd (cc)

if_refused_by : (P : EncodeRefusal → Type 0) (b c : Bool) (blocks others : List ℕ)
    → IfErr (if b then Err Empty else if c then Err TooLong else Ok blocks) P
    → IfErr (if b then Err Empty else if c then Err TooLong else Ok others) P
if_refused_by P true c blocks others h = h
if_refused_by P false true blocks others h = h
if_refused_by P false false blocks others h = tt

pub accepted : (candidates loop_block : ℕ) (samples : List ℤ) (looped : Bool) (bytes : List ℕ) → encoded_from loop_block samples looped ≡ Ok bytes
    → (bytes ≡ encoding_from loop_block samples looped) × (found_samples candidates loop_block samples looped ≡ Ok (found_encoding candidates loop_block samples looped))
unfolding encoded_from found_samples
accepted candidates loop_block samples looped bytes h = accepted_by (length samples == 0) (nat_lt max_samples (length samples)) _ _ bytes h

pub refused : (candidates loop_block : ℕ) (samples : List ℤ) (looped : Bool) (refusal : EncodeRefusal) → encoded_from loop_block samples looped ≡ Err refusal
    → found_samples candidates loop_block samples looped ≡ Err refusal
unfolding encoded_from found_samples
refused candidates loop_block samples looped refusal h = refused_by (length samples == 0) (nat_lt max_samples (length samples)) _ _ refusal h

pub if_refused : (P : EncodeRefusal → Type 0) (candidates loop_block : ℕ) (samples : List ℤ) (looped : Bool) → IfErr (encoded_from loop_block samples looped) P
    → IfErr (found_samples candidates loop_block samples looped) P
unfolding encoded_from found_samples
if_refused P candidates loop_block samples looped h = if_refused_by P (length samples == 0) (nat_lt max_samples (length samples)) _ _ h

pub found_plain : (candidates loop_block : ℕ) (samples : List ℤ) (looped : Bool) → candidates ≤ 1 → found_encoding candidates loop_block samples looped ≡ encoding_from loop_block samples looped
unfolding found_encoding
found_plain candidates loop_block samples looped h =
    let one : nat_le candidates 1 ≡ true = grind (arith, nat_tests, h) in rw one refl

-- what is found with several candidates, by whether the others cost less
found_by : (candidates loop_block cost : ℕ) (samples : List ℤ) (looped : Bool) (b : Bool) → 1 < candidates
    → let targets = padded_samples samples in
    cost ≡ cost_of (encoding_from loop_block samples looped) targets
    → is_cheaper cost targets (searched (candidates - 1) loop_block targets looped) ≡ b
    → found_encoding candidates loop_block samples looped ≡ (if b then searched (candidates - 1) loop_block targets looped else encoding_from loop_block samples looped)
unfolding found_encoding
found_by candidates loop_block cost samples looped b h cost_is is =
    let targets = padded_samples samples in
    let several : nat_le candidates 1 ≡ false = grind (arith, nat_tests, h) in
    let same : is_cheaper (cost_of (encoding_from loop_block samples looped) targets) targets (searched (candidates - 1) loop_block targets looped) ≡ b =
    ap (λ (n : ℕ). is_cheaper n targets (searched (candidates - 1) loop_block targets looped)) (sym cost_is) ∙ is in
    rw (several, same) refl

-- the same by what a call was given
pub found_at : (candidates most loop_block cost : ℕ) (samples targets : List ℤ) (looped b : Bool) → 1 < candidates → most ≡ candidates - 1 → targets ≡ padded_samples samples
    → cost ≡ cost_of (encoding_from loop_block samples looped) (padded_samples samples) → is_cheaper cost targets (searched most loop_block targets looped) ≡ b
    → found_encoding candidates loop_block samples looped ≡ (if b then searched most loop_block targets looped else encoding_from loop_block samples looped)
found_at candidates most loop_block cost samples targets looped b h most_is targets_are cost_is is =
    found_by candidates loop_block cost samples looped b h cost_is ((λ i. is_cheaper cost (sym targets_are i) (searched (sym most_is i) loop_block (sym targets_are i) looped)) ∙ is)
    ∙ (λ i. if b then searched (sym most_is i) loop_block (sym targets_are i) looped else encoding_from loop_block samples looped)

second_of : (a b : Bool) → (a && b) ≡ true → b ≡ true
second_of true b h = h
second_of false b h = absurd (cc)

-- of the plain blocks and others, none that cost more than the plain ones
cheaper_by : (b : Bool) (targets : List ℤ) (plain others : List ℕ) → is_cheaper (cost_of plain targets) targets others ≡ b
    → cost_of (if b then others else plain) targets ≤ cost_of plain targets
cheaper_by true targets plain others h =
    let less : nat_lt (cost_of others targets) (cost_of plain targets) ≡ true = second_of (length others == 9 * (length targets / 16)) _ h in
    grind (arith, nat_tests, less)
cheaper_by false targets plain others h = omega arith

pub never_dearer : (candidates loop_block : ℕ) (samples : List ℤ) (looped : Bool)
    → cost_of (found_encoding candidates loop_block samples looped) (padded_samples samples) ≤ cost_of (encoding_from loop_block samples looped) (padded_samples samples)
unfolding found_encoding
never_dearer candidates loop_block samples looped =
    let targets = padded_samples samples in
    let plain = encoding_from loop_block samples looped in
    never_dearer_by (nat_le candidates 1) targets plain (searched (candidates - 1) loop_block targets looped)
  where
    never_dearer_by : (b : Bool) (targets : List ℤ) (plain others : List ℕ) → cost_of (if b then plain else cheaper targets plain others) targets ≤ cost_of plain targets
    never_dearer_by true targets plain others = omega arith
    never_dearer_by false targets plain others = cheaper_by (is_cheaper (cost_of plain targets) targets others) targets plain others refl

-- the same of what is reported of it
pub reported : (candidates loop_block : ℕ) (samples : List ℤ) (looped : Bool) (bytes : List ℕ) (reports : List BlockReport)
    → found_encoding candidates loop_block samples looped ≡ bytes → reports ≡ reports_of bytes (padded_samples samples)
    → sum_of_squares reports ≤ cost_of (encoding_from loop_block samples looped) (padded_samples samples)
reported candidates loop_block samples looped bytes reports is are =
    let costs : sum_of_squares reports ≡ cost_of (found_encoding candidates loop_block samples looped) (padded_samples samples) =
    ap sum_of_squares (are ∙ ap (λ (b : List ℕ). reports_of b (padded_samples samples)) (sym is)) in
    let never = never_dearer candidates loop_block samples looped in
    omega (arith, costs, never)
