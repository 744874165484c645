-- Words of the contracts of the encoder's parts; the promise on an encoding doesn't speak of them.
use Rattle.std.specs.Prelude.{◌≡◌, ℕ, zero, suc, ◌+◌, ◌*◌, ◌<◌, ◌==◌, ◌/◌, length, max, Bool, ℤ, pos, List, [], ◌∷◌, take, drop, None, IfSome}
use Rattle.num_fix.specs.SignedWords.{number_at}
use Rattle.brr_decode.specs.Kept.{kept_sample}
use Rattle.brr_encode.specs.Greedy.{digit_at, digit_distance, distance, nearest_sample, squares}
use Rattle.brr_encode.specs.Encoding.{best_header, end_bits, block_samples, padded_samples, stands_alone}
use Rattle.brr_encode.specs.Report.{worst}
use Rattle.brr_encode.specs.Least.{least_place}
use Rattle.brr_encode.specs.declared.choice.Choice.{Choice}
use Rattle.brr_encode.specs.declared.search.Cheapest.{Cheapest}
use Rattle.brr_encode.specs.declared.block.Coder.{Coder}
use Rattle.brr_encode.specs.declared.report.BlockReport.{BlockReport}

-- A choice is the digit at this place of the sixteen.
pub record IsAt (header : ℕ) (target p1 p2 : ℤ) (place : ℕ) (choice : Choice) : Type 0 where
  pub digit : choice.digit ≡ digit_at place
  pub sample : choice.sample ≡ kept_sample header (digit_at place) p1 p2
  pub distance : choice.distance ≡ digit_distance header target p1 p2 place
  pub bound : choice.distance < 0x10000

-- Of n headers that were tried, the cheapest stands at this place, with its costs where there is one.
pub record IsCheapest (costs : ℕ → ℕ) (n : ℕ) (cheapest : Cheapest) : Type 0 where
  pub place : cheapest.place ≡ least_place costs n
  pub none : cheapest.squares ≡ None → n ≡ 0
  pub some : IfSome cheapest.squares (λ squares. (0 < n) × (squares ≡ costs cheapest.place))

-- the encoder after one target more
abbrev pub after_target : (header : ℕ) → Coder → (target : ℤ) → Coder
after_target header coder target =
    let sample = nearest_sample header target coder.last coder.before in
    record {
      last = sample;
      before = coder.last;
      worst = max coder.worst (distance sample target);
      squares = coder.squares + distance sample target * distance sample target;
    }

-- the encoder after targets
abbrev pub after_targets : (header : ℕ) → Coder → (targets : List ℤ) → Coder
after_targets header coder [] = coder
after_targets header coder (target ∷ targets) = after_targets header (after_target header coder target) targets

-- the encoder at the start of a block, after two kept samples
abbrev pub coder_after : (p1 p2 : ℤ) → Coder
coder_after p1 p2 = record { last = p1; before = p2; worst = 0; squares = 0 }

-- the report of a block of sixteen targets
abbrev pub block_report : (first last looped : Bool) → (p1 p2 : ℤ) → (targets : List ℤ) → BlockReport
block_report first last looped p1 p2 targets =
    let kept = block_samples first p1 p2 targets in
    record { header = best_header first p1 p2 targets + end_bits last looped; worst = worst kept targets; squares = squares kept targets }

-- the reports of so many blocks
abbrev pub block_reports : (count index loop_block : ℕ) → (looped : Bool) → (p1 p2 : ℤ) → (targets : List ℤ) → List BlockReport
block_reports zero index loop_block looped p1 p2 targets = []
block_reports (suc count) index loop_block looped p1 p2 targets =
    let kept = block_samples (stands_alone index loop_block) p1 p2 (take 16 targets) in
    block_report (stands_alone index loop_block) (count == 0) looped p1 p2 (take 16 targets)
    ∷ block_reports count (suc index) loop_block looped (number_at kept 15) (number_at kept 14) (drop 16 targets)

-- the reports of all blocks of an encoding
abbrev pub all_reports : (loop_block : ℕ) → (samples : List ℤ) → (looped : Bool) → List BlockReport
all_reports loop_block samples looped =
    block_reports (length (padded_samples samples) / 16) 0 loop_block looped (pos 0) (pos 0) (padded_samples samples)
